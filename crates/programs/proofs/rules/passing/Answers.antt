use Rattle.std.proofs.Common.{rules, arith}
use Rattle.std.proofs.lemmas.Fn.{says_at}
use Rattle.std.proofs.lemmas.List.{get_or_default}
use Rattle.programs.proofs.rules.passing.Goals as goal

pub returns-clause-has : goal.returns-clause-has
returns-clause-has g c = λ n h. let told = c.those.ensures.has n (omega (arith, h, c.requires.few)) in search (rules, says_at, get_or_default)
