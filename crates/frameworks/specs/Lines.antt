-- Relay lines: which atoms stand against a set.
use Rattle.std.specs.Prelude.{ℕ, Bool, ◌&&◌, Option, None, Some, IsSome, is_some, unwrap_or, replicate, ◌==◌, bit_and, slice_index_or, slice_set}
use Rattle.atoms.specs.Sets.{Apart, collected}
use Rattle.frameworks.specs.declared.table.RelayTable.{RelayTable}

-- no atom has a line
abbrev pub no_lines : RelayTable
no_lines = record { lines = replicate 64 None }

-- the table in which atom i has a line with these attackers
abbrev pub with_line : RelayTable → ℕ → ℕ → RelayTable
with_line t i attackers = record { lines = slice_set t.lines i (Some attackers) }

-- the line of atom i, which is the set of its attackers, if it has one
abbrev pub line_of : RelayTable → ℕ → Option ℕ
line_of t i = slice_index_or t.lines i None

-- atom i has a line
abbrev pub HasLine : RelayTable → ℕ → Type 0
HasLine t i = IsSome (line_of t i)

-- the atoms that attack atom i: those that its line lists
abbrev pub attackers_of : RelayTable → ℕ → ℕ
attackers_of t i = unwrap_or (line_of t i) 0

-- atom i stands against a set: it has a line, and none of its attackers is in the set
pub record Stands (t : RelayTable) (against i : ℕ) : Type 0 where
  pub line : HasLine t i
  pub free : Apart (attackers_of t i) against

-- the same as a test
abbrev pub stands : RelayTable → ℕ → ℕ → Bool
stands t against i = is_some (line_of t i) && bit_and (attackers_of t i) against == 0

-- the atoms below a width that stand against a set
abbrev pub unattacked : RelayTable → ℕ → ℕ → ℕ
unattacked t w against = collected (stands t against) w
