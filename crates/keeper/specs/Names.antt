-- The names of a sheet's marks.
use Rattle.std.specs.Prelude.{◌≡◌, ℕ, ◌<◌, Option, List, length, min, slice_index_or}
use Rattle.std.specs.List.{position}
use Rattle.std.specs.Str.{bytes_eq}
use Rattle.std.specs.Borrow.{Bor}
use Rattle.tables.specs.declared.table.Table.{Table}
use Rattle.text.specs.Names.{part_of}
use Rattle.sheet.specs.Reads.{place_of}

-- each of the names is the one of its atom, as the sheet's text has it
abbrev pub Named : Table → List ℕ → List (Bor (List ℕ)) → Type 0
Named t text names = (k : ℕ) (d : Bor (List ℕ)) → k < length names → (slice_index_or names k d).now ≡ part_of text (place_of t k)

-- there is a name for each atom of the sheet, of which there are at most 64
pub record SheetNames (t : Table) (text : List ℕ) (names : List (Bor (List ℕ))) : Type 0 where
  pub each : Named t text names
  pub all : length names ≡ min t.width 64

-- the atom that a word names: its place among the names
abbrev pub named : List (Bor (List ℕ)) → List ℕ → Option ℕ
named names word = position (λ name. bytes_eq name.now word) names
