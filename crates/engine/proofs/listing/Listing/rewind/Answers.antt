use Rattle.approx.proofs.Laws.{lawful}
use Rattle.engine.proofs.Tracking.{rewind_ran}
use Rattle.engine.proofs.listing.Listing.rewind.Goals as goal

pub returns-clause-law : goal.returns-clause-law
returns-clause-law g c = rw c.begin_anew.ensures (rewind_ran g.A.Approximator c.args.self.now (lawful (g.met.A.Approximator.laws c.args.self.now.pile)))
