use Rattle.std.proofs.Common.{arith}
use Rattle.approx.specs.Meanings.{meaning}
use Rattle.approx.proofs.Laws.{lawful}
use Rattle.solver.specs.Lists.{Counted}
use Rattle.solver.specs.Pegs.{Wanted}
use Rattle.solver.proofs.Pegging.{wanted_counted}
use Rattle.engine.specs.Listings.{Listable}
use Rattle.engine.proofs.Tracking.{stable_inside, tally_ran}
use Rattle.engine.proofs.listing.Listing.tally.Goals as goal

pub returns : goal.returns
returns g c =
    let G = g.A.Approximator in
    let x = c.args.self.now in
    let pegs = c.pegged_bounds.ensures in
    let counted : Listable G x → Counted (Wanted (meaning G x.pile) x.pegs.on x.pegs.off) c.count.result =
    λ l. wanted_counted pegs (stable_inside G x (lawful (g.met.A.Approximator.laws x.pile)) l) (c.count.ensures.exact (omega (arith, pegs.no_more_open, l.few))) in
    record { gives = counted; law = λ h ran. tally_ran G x (lawful (g.met.A.Approximator.laws x.pile)) h ran c.count.result (counted ran.listable) }
