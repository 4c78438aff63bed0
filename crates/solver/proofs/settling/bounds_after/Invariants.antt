use Rattle.approx.specs.Meanings.{meaning}
use Rattle.approx.specs.Settling.{Rounds}
use Rattle.solver.proofs.settling.bounds_after.Given as goal

abbrev pub invariant-loop-round : goal.invariant-loop-round
invariant-loop-round g l = Rounds (meaning g.A.Approximator l.pile) l._round l.bounds
