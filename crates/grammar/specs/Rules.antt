-- A rule line: a head alone, or a head, `if` and items.
use Rattle.std.specs.Prelude.{ℕ, cond, List, [], length, Some, None, Ok, Err, Option, Result, ◌==◌}
use Rattle.tables.specs.declared.table.Item.{Item}
use Rattle.tables.specs.declared.table.Item.TheVariants as item
use Rattle.tables.specs.declared.table.Rule.{Rule}
use Rattle.tables.specs.Rows.{has_room, pushed, in_use}
use Rattle.tables.specs.Tables.{rule_of}
use Rattle.text.specs.Words.{Meaning, key_said}
use Rattle.grammar.specs.declared.rule.RuleState.{RuleState}
use Rattle.grammar.specs.declared.rule.RuleState.TheVariants as rule
use Rattle.grammar.specs.declared.wrong.Wrong.{Wrong}
use Rattle.grammar.specs.declared.wrong.Wrong.TheVariants as wrong
use Rattle.grammar.specs.Said.{atom_said, below_said, is_if, is_not, is_load}
use Rattle.grammar.specs.Wrongs.{or_wrong}

-- The rule with one item more.
abbrev pub with_item : Rule → Item → Rule
with_item r x = record { head = r.head; items = pushed 16 r.items x }

-- An item: `not` and a name, `load` and a number, or a name.
abbrev pub item_begun : List (List ℕ) → Rule → Meaning → Result RuleState Wrong
item_begun names r m =
    cond (is_not (key_said m)) (Ok (rule.Negated r))
    (cond (is_load (key_said m)) (Ok (rule.Loaded r))
    (or_wrong (atom_said names m) wrong.NotAName (λ atom. rule.Items (with_item r (item.Atom atom)))))

-- First the head, then `if`, then up to 16 items; so many loads are announced.
abbrev pub rule_next : List (List ℕ) → ℕ → RuleState → Meaning → Result RuleState Wrong
rule_next names loads rule.Start m = or_wrong (atom_said names m) wrong.NotAName rule.Headed
rule_next names loads (rule.Headed head) m = cond (is_if (key_said m)) (Ok (rule.Items (rule_of head []))) (Err wrong.Misplaced)
rule_next names loads (rule.Items r) m = cond (has_room 16 r.items) (item_begun names r m) (Err wrong.Misplaced)
rule_next names loads (rule.Negated r) m = or_wrong (atom_said names m) wrong.NotAName (λ atom. rule.Items (with_item r (item.NotAtom atom)))
rule_next names loads (rule.Loaded r) m = or_wrong (below_said loads m) wrong.BadNumber (λ number. rule.Items (with_item r (item.Aggregate number)))

-- The line may end after a head alone, and after each item; not after `if`.
abbrev pub rule_done : RuleState → Option Rule
rule_done rule.Start = None
rule_done (rule.Headed head) = Some (rule_of head [])
rule_done (rule.Items r) = cond (length (in_use 16 r.items) == 0) None (Some r)
rule_done (rule.Negated r) = None
rule_done (rule.Loaded r) = None
