use Rattle.std.proofs.Common.{◌≡◌, ◌≢◌, ℕ, true, false, List, Option, Some, Ok, IfSome, IfNone, Result, rules, arith}
use Rattle.std.proofs.lemmas.Grind.{common_steps}
use Rattle.std.specs.Option.{MatchOption}
use Rattle.std.specs.Result.{IsErrAnd, MatchResult}
use Rattle.keeper.proofs.Saying.{says_one}
use Rattle.keeper.specs.Commands.{Says, SaysNone, names_a_mark, command_text, IsReason, form_of, first_word}
use Rattle.keeper.specs.declared.command.Command.{Command}
use Rattle.keeper.specs.declared.command.Misread.{Misread}
use Rattle.keeper.proofs.command.Command.read.Goals as goal

-- what is known of the command of one word, of the one of several and of the reason gives what is read
right :
    (line : List ℕ) (a o : Option Command) (r : Result Command Misread) (P : Type 0) (Q : Misread → Type 0)
    → IfSome a (λ c. Says line c)
    → IfNone a ((c : Command) → names_a_mark c ≡ false → line ≢ command_text c)
    → MatchOption a (P) (λ x. o ≡ Some x)
    → MatchOption o (IsErrAnd r Q) (λ x. r ≡ Ok x)
    → (P → IfSome o (λ c. Says line c))
    → (P → IfNone o ((c : Command) → names_a_mark c ≡ true → ¬ Says line c))
    → ((m : Misread) → Q m → IsReason (form_of (first_word line)) (first_word line) m)
    → MatchResult r (λ c. Says line c) (λ why. SaysNone line why)
right line a o r P Q = grind (arith, common_steps)

pub returns-clause-one : goal.returns-clause-one
returns-clause-one c = says_one c.args.line.now

pub returns-clause-right : goal.returns-clause-right
returns-clause-right c = right c.args.line.now c.alone.result c.or_else.result c.ok_or_else.result _ _ c.alone.ensures.some c.alone.ensures.none c.or_else.ensures c.ok_or_else.ensures.cases (λ e. search rules) (λ e. search rules) (λ m e. search rules)
