use Rattle.std.proofs.Common.{◌≡◌, ℕ, ◌-◌, ◌≤◌, ◌==◌, false, List, rules, tests, refl, ◌∙◌, arith}
use Rattle.std.specs.List.{slice_get, slice_split}
use Rattle.std.proofs.lemmas.Bool.{ne_eqb}
use Rattle.std.proofs.lemmas.Iterator.Consumers.{nth_from_yields_List}
use Rattle.std.proofs.lemmas.Iterator.Splits.{YieldsList-from_slice_split}
use Rattle.keeper.specs.Refusals.{numbered_line}
use Rattle.keeper.proofs.refusal.line_of.Goals as goal

-- a number from 1 is that of a line between newlines
from_one : (text : List ℕ) (number before : ℕ) → 1 ≤ number → before ≡ number - 1 → slice_get (slice_split (λ byte. byte == 10) text) before ≡ numbered_line text number
from_one text number before l e =
    let n : (number == 0) ≡ false = ne_eqb number 0 (λ z. omega (arith, l, z)) in
    rw (n, e) refl

pub returns : goal.returns
returns c =
    nth_from_yields_List c.nth.result c.nth.new.self c.in_ok-before.before c.nth.ensures.ran (YieldsList-from_slice_split _ (λ byte. byte == 10) c.args.text.now c.split.ensures.rest c.split.ensures.done c.split.ensures.closure (λ x r q k. search (rules, tests)))
    ∙ from_one c.args.text.now c.args.number c.in_ok-before.before c.in_ok-before.ensures.0 c.in_ok-before.ensures.1
