use Rattle.std.proofs.Common.{ℕ, sym, subst, add-one}
use Rattle.approx.specs.Meanings.{meaning}
use Rattle.approx.specs.Settling.{Rounds, begins, goes_on}
use Rattle.solver.proofs.settling.bounds_after.Goals as goal

pub loop-round-init : goal.loop-round-init
loop-round-init g c = let m = meaning g.A.Approximator c.args.pile.now in subst (Rounds m 0) (sym c.first_bounds-bounds.ensures) begins

pub loop-round-preserved : goal.loop-round-preserved
loop-round-preserved g c =
    let m = meaning g.A.Approximator c.args.pile.now in
    subst (λ (n : ℕ). Rounds m n c.next_bounds-bounds.result) (sym (add-one c.loop-round._round)) (goes_on c.loop-round.invariant c.next_bounds-bounds.ensures)
