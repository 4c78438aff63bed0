use Rattle.std.proofs.Common.{◌+◌, ◌-◌, ◌^◌}
use Rattle.approx.specs.Meanings.{meaning}
use Rattle.approx.proofs.Rounding.{SettleWay}
use Rattle.solver.proofs.settling.settle.Given as goal

abbrev pub invariant-settle : goal.invariant-settle
invariant-settle g l = SettleWay (meaning g.A.Approximator l.pile) l.bounds

abbrev pub decreases-settle : goal.decreases-settle
decreases-settle g l = (2 ^ 64 - l.bounds.lower) + l.bounds.upper
