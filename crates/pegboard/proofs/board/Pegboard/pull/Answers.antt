use Rattle.std.proofs.Common.{refl}
use Rattle.approx.proofs.Laws.{lawful}
use Rattle.faults.specs.declared.BenchFault.TheVariants as fault
use Rattle.engine.proofs.Tracking.{pull_refused}
use Rattle.pegboard.proofs.Keeping.{kept_pulled, token_stands}
use Rattle.pegboard.proofs.Listed.{not_in_force, found_own, pull_found}
use Rattle.pegboard.proofs.board.Pegboard.pull.Goals as goal

pub returns-in_default : goal.returns-in_default
returns-in_default g c =
    let G = g.A.Approximator in
    let b = c.args.self.now in
    let x = b.listing in
    let i = c.args.atom in
    let none = rw c.deref.ensures.value at c.in_default.ensures in
    let e = not_in_force x.pegs b.tokens.items i c.args.sense b.kept none in
    rw e (record { gives = refl; leaves = refl; law = λ h ran. pull_refused G x (lawful (g.met.A.Approximator.laws x.pile)) h ran i c.args.sense (fault.NotInForce i) e })

pub invariant_of-self : goal.invariant_of-self
invariant_of-self g c =
    let b = c.args.self.now in
    let found = rw c.deref.ensures.value at c.in-Some.ensures in
    let t = c.remove-token.result in
    let own = found_own b.tokens.items c.args.atom c.args.sense c.in-Some.place t found c.remove-token.ensures.value in
    rw (c.lift.ensures.leaves, c.remove-token.ensures.items) (record { kept = kept_pulled b.listing.pegs b.tokens.items b.kept t c.in-Some.place own.0 c.remove-token.ensures.value })

pub returns : goal.returns
returns g c =
    let b = c.args.self.now in
    let found = rw c.deref.ensures.value at c.in-Some.ensures in
    let t = c.remove-token.result in
    let own = found_own b.tokens.items c.args.atom c.args.sense c.in-Some.place t found c.remove-token.ensures.value in
    let stands = token_stands b.listing.pegs b.tokens.items b.kept t c.in-Some.place own.0 c.remove-token.ensures.value in
    let r = pull_found g.A.Approximator b.listing c.lift.new.listing c.args.atom c.args.sense t own.1 own.2 stands c.lift.ensures.leaves c.lift.ensures.law in
    record { gives = r.gives; leaves = r.leaves; law = r.law }
