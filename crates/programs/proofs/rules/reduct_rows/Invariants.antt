use Rattle.std.proofs.Common.{◌≡◌, take}
use Rattle.programs.specs.Reducts.{reduct_rows}
use Rattle.programs.proofs.rules.reduct_rows.Given as goal

abbrev pub invariant-loop-clause : goal.invariant-loop-clause
invariant-loop-clause l = l.reduct ≡ reduct_rows l.z (take l.clause-index l.clause-items)
