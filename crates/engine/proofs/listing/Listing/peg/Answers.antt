use Rattle.std.proofs.Common.{◌≡◌, ◌<◌, Some, None, refl, arith}
use Rattle.std.proofs.lemmas.Bool.Decides.{nat_tests}
use Rattle.approx.proofs.Laws.{lawful}
use Rattle.faults.specs.declared.BenchFault.TheVariants as fault
use Rattle.engine.specs.Standing.{standing}
use Rattle.engine.specs.Rules.{peg_fault}
use Rattle.engine.proofs.Tracking.{peg_refused, peg_granted}
use Rattle.engine.proofs.listing.Listing.peg.Goals as goal

pub returns-then-atom-width : goal.returns-then-atom-width
returns-then-atom-width g c =
    let G = g.A.Approximator in
    let x = c.args.self.now in
    let i = c.args.atom in
    let e : peg_fault (G.width x.pile) (standing x.pegs) i ≡ Some (fault.NoSuchAtom i) = grind (arith, nat_tests, c.width.ensures, c.if-atom-width.true) in
    rw e (record { gives = refl; leaves = refl; law = λ h ran. peg_refused G x (lawful (g.met.A.Approximator.laws x.pile)) h ran i c.args.sense (fault.NoSuchAtom i) e })

pub returns-then-holds : goal.returns-then-holds
returns-then-holds g c =
    let G = g.A.Approximator in
    let x = c.args.self.now in
    let i = c.args.atom in
    let e : peg_fault (G.width x.pile) (standing x.pegs) i ≡ Some (fault.Pegged i) = grind (arith, nat_tests, c.width.ensures, c.if-atom-width.false, c.holds.ensures, c.if-holds.true) in
    rw e (record { gives = refl; leaves = refl; law = λ h ran. peg_refused G x (lawful (g.met.A.Approximator.laws x.pile)) h ran i c.args.sense (fault.Pegged i) e })

pub returns : goal.returns
returns g c =
    let G = g.A.Approximator in
    let x = c.args.self.now in
    let i = c.args.atom in
    let s = c.args.sense in
    let e : peg_fault (G.width x.pile) (standing x.pegs) i ≡ None = grind (arith, nat_tests, c.width.ensures, c.if-atom-width.false, c.holds.ensures, c.if-holds.false) in
    let small : i < 64 = omega (arith, c.if-atom-width.false, c.width.ensures, (g.met.A.Approximator.laws x.pile).wide.1) in
    let turned = rw c.with.ensures.is at (c.with.ensures.holds small) in
    rw (e, c.begin_anew.ensures, c.with.ensures.is) (record { gives = refl; leaves = refl; law = λ h ran. peg_granted G x (lawful (g.met.A.Approximator.laws x.pile)) h ran i s _ e turned })
