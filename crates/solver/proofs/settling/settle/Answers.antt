use Rattle.std.proofs.Common.{◌^◌, ◌<◌, sym, refl, subst, arith, rules}
use Rattle.std.proofs.lemmas.Bool.{false≢true}
use Rattle.approx.specs.Meanings.{meaning}
use Rattle.approx.proofs.Laws.{lawful}
use Rattle.approx.proofs.Rounding.{SettleWay}
use Rattle.approx.proofs.Rounding as way
use Rattle.solver.proofs.settling.settle.Goals as goal

pub settle-init : goal.settle-init
settle-init g c = let m = meaning g.A.Approximator c.args.pile.now in subst (SettleWay m) (sym c.first_bounds-bounds.ensures) (way.settle_start m)

pub returns-then-not-is_proper : goal.returns-then-not-is_proper
returns-then-not-is_proper g c =
    (refl, way.settle_crossed c.settle.invariant c.next_bounds-next.ensures (λ e. search rules) (λ p. false≢true (c.if-not-is_proper.ensures.1 p)))

pub settle-smaller : goal.settle-smaller
settle-smaller g c =
    let fits : c.next_bounds-next.result.lower < 2 ^ 64 = omega arith in
    way.settle_less c.settle.invariant c.next_bounds-next.ensures (lawful (g.met.A.Approximator.laws c.args.pile.now)) (λ e. search rules) fits

pub settle-preserved : goal.settle-preserved
settle-preserved g c = way.settle_turn c.settle.invariant c.next_bounds-next.ensures (λ e. search rules)
