use Rattle.std.proofs.Common.{◌≡◌, take}
use Rattle.programs.specs.Tables.{clauses_from}
use Rattle.programs.proofs.rules.clauses_from.Given as goal

abbrev pub invariant-loop-rule : goal.invariant-loop-rule
invariant-loop-rule l = l.clauses ≡ clauses_from (take l.rule-index l.rule-items)
