use Rattle.std.proofs.Common.{Some, None, refl}
use Rattle.approx.specs.Meanings.{meaning}
use Rattle.approx.proofs.Laws.{lawful}
use Rattle.solver.specs.Pegs.{Wanted}
use Rattle.solver.specs.Search.{Sought}
use Rattle.solver.proofs.Pegging.{wanted_sought}
use Rattle.engine.specs.Listings.{Listable}
use Rattle.engine.proofs.Tracking.{stable_inside, next_ran}
use Rattle.engine.proofs.listing.Listing.next.Goals as goal

pub returns-in_err-z : goal.returns-in_err-z
returns-in_err-z g c =
    let G = g.A.Approximator in
    let x = c.args.self.now in
    let laws = lawful (g.met.A.Approximator.laws x.pile) in
    let sought : Listable G x → Sought (Wanted (meaning G x.pile) x.pegs.on x.pegs.off) x.last None = λ l. wanted_sought c.pegged_bounds.ensures (stable_inside G x laws l) x.last None c.in_err-z.ensures in
    rw c.from_residual.ensures (record { gives = sought; leaves = refl; law = λ h ran. next_ran G x laws h ran None (sought ran.listable) })

pub returns : goal.returns
returns g c =
    let G = g.A.Approximator in
    let x = c.args.self.now in
    let z = c.in_ok-z.z in
    let laws = lawful (g.met.A.Approximator.laws x.pile) in
    let sought : Listable G x → Sought (Wanted (meaning G x.pile) x.pegs.on x.pegs.off) x.last (Some z) = λ l. wanted_sought c.pegged_bounds.ensures (stable_inside G x laws l) x.last (Some z) c.in_ok-z.ensures in
    record { gives = sought; leaves = refl; law = λ h ran. next_ran G x laws h ran (Some z) (sought ran.listable) }
