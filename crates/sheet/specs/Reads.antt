-- What reading a sheet answers, and what the table then holds.
use Rattle.std.specs.Prelude.{◌≡◌, ℕ, List, Ok, Err, Result, slice_index_or}
use Rattle.faults.specs.declared.SheetFault.{SheetFault}
use Rattle.tables.specs.declared.table.Place.{Place}
use Rattle.tables.specs.declared.table.Table.{Table}
use Rattle.tables.specs.Rows.{in_use}
use Rattle.tables.specs.Tables.{zero_place}
use Rattle.refusals.specs.Refuses.{Faulty}
use Rattle.written.specs.Accepts.{Writes}

-- Yes, or the fault.
abbrev pub answer : Result Table SheetFault → Result (Unit {0}) SheetFault
answer (Ok table) = Ok tt
answer (Err fault) = Err fault

-- The sheet's table, or the table as it was.
abbrev pub table_after : Table → Result Table SheetFault → Table
table_after old (Ok table) = table
table_after old (Err fault) = old

-- A sheet is read rightly: yes exactly where the text writes a lawful sheet, whose table it then is, and there is one such sheet; a fault exactly where that is what is wrong first.
pub record RightlyRead (text : List ℕ) (after : Table) (r : Result (Unit {0}) SheetFault) : Type 0 where
  pub accepted : r ≡ Ok tt → Writes text after
  pub written : (table : Table) → Writes text table → (r ≡ Ok tt) × (after ≡ table)
  pub alone : (t u : Table) (one : Writes text t) (other : Writes text u) → one.sheet ≡ other.sheet
  pub refused : (fault : SheetFault) → r ≡ Err fault → Faulty text fault
  pub faulty : (fault : SheetFault) → Faulty text fault → r ≡ Err fault

-- The place of an atom's name, as the table has it.
abbrev pub place_of : Table → ℕ → Place
place_of table atom = slice_index_or (in_use 64 table.names) atom zero_place
