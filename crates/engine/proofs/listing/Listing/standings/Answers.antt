use Rattle.std.proofs.Common.{OnOk}
use Rattle.std.proofs.lemmas.Result.{on_ok_weaker, on_err_weaker}
use Rattle.approx.specs.Meanings.{meaning}
use Rattle.approx.proofs.Laws.{lawful}
use Rattle.solver.specs.Lists.{Gathered}
use Rattle.solver.specs.Pegs.{Wanted}
use Rattle.solver.specs.Search.{Inside}
use Rattle.solver.proofs.Alikeness.{Alike, gathered_alike, gathered_front_alike}
use Rattle.solver.proofs.Pegging.{wanted_alike}
use Rattle.engine.specs.Listings.{Listable}
use Rattle.engine.proofs.Tracking.{stable_inside, standings_ran}
use Rattle.engine.proofs.listing.Listing.standings.Goals as goal

pub returns : goal.returns
returns g c =
    let G = g.A.Approximator in
    let x = c.args.self.now in
    let laws = lawful (g.met.A.Approximator.laws x.pile) in
    let alike : Listable G x → Alike (Inside (meaning G x.pile) c.pegged_bounds.result) (Wanted (meaning G x.pile) x.pegs.on x.pegs.off) = λ l. wanted_alike c.pegged_bounds.ensures (stable_inside G x laws l) in
    let gives : Listable G x → OnOk c.gather.result (Gathered (Wanted (meaning G x.pile) x.pegs.on x.pegs.off) c.args.found.now.items c.gather.new.found.items) =
    λ l. on_ok_weaker c.gather.result (gathered_alike (alike l)) c.gather.ensures.whole in
    record {
      gives = gives;
      short = λ l. on_err_weaker c.gather.result (gathered_front_alike (alike l)) c.gather.ensures.short;
      law = λ h ran. on_ok_weaker c.gather.result (standings_ran G x laws h ran) (gives ran.listable);
    }
