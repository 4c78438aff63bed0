use Rattle.std.proofs.Common.{ℕ, ◌-◌, ◌^◌}
use Rattle.approx.proofs.Climbing.{Way}
use Rattle.solver.specs.Ascents.{Ascends}
use Rattle.solver.proofs.climb.climb.Given as goal

abbrev pub invariant-climb : goal.invariant-climb
invariant-climb g l = (f : ℕ → ℕ) → Ascends (goal.F-pre g l.step) (goal.F-post g l.step) f l.start l.top → Way f l.start l.top l.reach

abbrev pub decreases-climb : goal.decreases-climb
decreases-climb g l = 2 ^ 64 - l.reach
