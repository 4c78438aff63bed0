use Rattle.std.proofs.Common.{sym, subst}
use Rattle.programs.specs.Normal.{NormalRules}
use Rattle.programs.proofs.program.RuleProgram.of.Goals as goal

pub returns-clause-normal : goal.returns-clause-normal
returns-clause-normal g c = λ n. subst NormalRules (sym c.new.ensures.table) (c.of.ensures.normal n)
