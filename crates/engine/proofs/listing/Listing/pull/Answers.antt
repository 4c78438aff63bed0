use Rattle.std.proofs.Common.{◌≡◌, Some, None, refl}
use Rattle.approx.proofs.Laws.{lawful}
use Rattle.faults.specs.declared.BenchFault.TheVariants as fault
use Rattle.engine.specs.Standing.{standing}
use Rattle.engine.specs.Rules.{pull_fault}
use Rattle.engine.proofs.Tracking.{pull_refused, pull_granted}
use Rattle.engine.proofs.listing.Listing.pull.Goals as goal

pub returns-then-not-in_force : goal.returns-then-not-in_force
returns-then-not-in_force g c =
    let x = c.args.self.now in
    let t = c.args.token in
    let e : pull_fault (standing x.pegs) t.atom t.sense ≡ Some (fault.NotInForce t.atom) = rw (← c.in_force.ensures, c.if-not-in_force.true) in
    rw e (record { gives = refl; leaves = refl; law = λ h ran. pull_refused g.A.Approximator x (lawful (g.met.A.Approximator.laws x.pile)) h ran t.atom t.sense (fault.NotInForce t.atom) e })

pub returns : goal.returns
returns g c =
    let x = c.args.self.now in
    let t = c.args.token in
    let e : pull_fault (standing x.pegs) t.atom t.sense ≡ None = rw (← c.in_force.ensures, c.if-not-in_force.false) in
    let turned = rw c.without.ensures.is at c.without.ensures.holds in
    rw (e, c.begin_anew.ensures, c.without.ensures.is) (record { gives = refl; leaves = refl; law = λ h ran. pull_granted g.A.Approximator x (lawful (g.met.A.Approximator.laws x.pile)) h ran t.atom t.sense _ e turned })
