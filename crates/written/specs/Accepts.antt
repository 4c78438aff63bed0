-- The verdict accepts just the texts that write a lawful sheet, and then gives that sheet's table.
use Rattle.std.specs.Prelude.{◌≡◌, ℕ, ◌≤◌, List, length, Ok}
use Rattle.tables.specs.declared.table.Table.{Table}
use Rattle.grammar.specs.Verdicts.{verdict}
use Rattle.written.specs.Sheets.{Sheet, LawfulSheet}
use Rattle.written.specs.Writing.{written, table_for}

-- A text of at most 16384 bytes writes a lawful sheet, and the table is that sheet's.
pub record Writes (text : List ℕ) (table : Table) : Type 0 where
  pub sheet : Sheet
  pub lawful : LawfulSheet sheet
  pub is : written sheet ≡ text
  pub short : length text ≤ 16384
  pub filled : table_for sheet ≡ table

-- A text is accepted with a table if and only if it writes a lawful sheet that has this table.
abbrev pub Accepts : Type 0
Accepts = (text : List ℕ) (t : Table) → ((verdict text ≡ Ok t) → Writes text t) × (Writes text t → verdict text ≡ Ok t)

-- A text writes at most one lawful sheet.
abbrev pub OneSheet : Type 0
OneSheet = (text : List ℕ) (t u : Table) (one : Writes text t) (other : Writes text u) → one.sheet ≡ other.sheet
