-- A load line: a kind, a comparison, a limit and entries.
use Rattle.std.specs.Prelude.{ℕ, Bool, true, false, cond, List, [], ℤ, pos, negsuc, Some, None, Ok, Err, Option, Result}
use Rattle.tables.specs.declared.table.Aggregate.{Aggregate}
use Rattle.tables.specs.declared.table.Kind.{Kind}
use Rattle.tables.specs.declared.table.Kind.TheVariants as kind
use Rattle.tables.specs.Rows.{has_room, pushed}
use Rattle.tables.specs.Tables.{aggregate_of}
use Rattle.text.specs.Words.{Meaning, key_said, number_said}
use Rattle.grammar.specs.declared.load.LoadState.{LoadState}
use Rattle.grammar.specs.declared.load.LoadState.TheVariants as load
use Rattle.grammar.specs.declared.wrong.Wrong.{Wrong}
use Rattle.grammar.specs.declared.wrong.Wrong.TheVariants as wrong
use Rattle.grammar.specs.Said.{kind_said, comparison_said, atom_said, is_not}
use Rattle.grammar.specs.Wrongs.{or_wrong}

-- The aggregate with one entry more.
abbrev pub with_entry : Aggregate → ℤ → ℕ → Bool → Aggregate
with_entry a weight atom negated = record {
  kind = a.kind;
  comparison = a.comparison;
  limit = a.limit;
  entries = pushed 16 a.entries (record { weight = weight; atom = atom; negated = negated });
}

-- The condition of an entry: `not`, or the name of an atom.
abbrev pub condition : List (List ℕ) → Aggregate → ℤ → Meaning → Result LoadState Wrong
condition names a weight m = cond (is_not (key_said m)) (Ok (load.Negated a weight)) (or_wrong (atom_said names m) wrong.NotAName (λ atom. load.Entries (with_entry a weight atom false)))

-- An entry of a sum begins with its weight; one of a count weighs 1 and begins with its condition.
abbrev pub entry_begun : List (List ℕ) → Aggregate → Kind → Meaning → Result LoadState Wrong
entry_begun names a kind.Sum m = or_wrong (number_said (negsuc 9999) (pos 10000) m) wrong.BadNumber (λ weight. load.Weighted a weight)
entry_begun names a kind.Count m = condition names a (pos 1) m

-- First the kind, then the comparison, then the limit, then up to 16 entries.
abbrev pub load_next : List (List ℕ) → LoadState → Meaning → Result LoadState Wrong
load_next names load.Start m = or_wrong (kind_said m) wrong.Misplaced load.Kinded
load_next names (load.Kinded kind) m = or_wrong (comparison_said m) wrong.Misplaced (load.Compared kind)
load_next names (load.Compared kind comparison) m = or_wrong (number_said (negsuc 999999) (pos 1000000) m) wrong.BadNumber (λ limit. load.Entries (aggregate_of kind comparison limit []))
load_next names (load.Entries a) m = cond (has_room 16 a.entries) (entry_begun names a a.kind m) (Err wrong.Misplaced)
load_next names (load.Weighted a weight) m = condition names a weight m
load_next names (load.Negated a weight) m = or_wrong (atom_said names m) wrong.NotAName (λ atom. load.Entries (with_entry a weight atom true))

-- The line may end after the limit and after each entry.
abbrev pub load_done : LoadState → Option Aggregate
load_done load.Start = None
load_done (load.Kinded kind) = None
load_done (load.Compared kind comparison) = None
load_done (load.Entries a) = Some a
load_done (load.Weighted a weight) = None
load_done (load.Negated a weight) = None
