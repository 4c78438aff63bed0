-- What a sheet means, and what settling it comes to.
use Rattle.std.specs.Prelude.{◌≡◌, Ok, Err, Result}
use Rattle.approx.specs.Meanings.{Meaning, meaning}
use Rattle.approx.specs.Settling.{Settles, Crosses}
use Rattle.approx.specs.declared.approximator.Approximator.{Ghosts}
use Rattle.faults.specs.declared.BenchFault.{BenchFault}
use Rattle.faults.specs.declared.BenchFault.TheVariants.{Sheet, Crossed}
use Rattle.faults.specs.declared.SheetFault.{SheetFault}
use Rattle.tables.specs.declared.table.Table.{Table}
use Rattle.aggregates.specs.Readings.{bound_sure, bound_may}
use Rattle.programs.specs.Tables.{rule_table}
use Rattle.programs.specs.Programs.{table_meaning}
use Rattle.frameworks.specs.Frameworks.{width_of, sure_of, may_of}
use Rattle.frameworks.specs.Makers.{framework_of}
use Rattle.layers.specs.Joined.{joined}
use Rattle.engine.specs.declared.board.Settled.{Settled}

-- The rules of a sheet, their loads by the bound reading.
abbrev pub rules_meaning : Table → Meaning
rules_meaning t = table_meaning bound_sure bound_may (rule_table t)

-- The relay lines of a sheet, as a framework.
abbrev pub relays_meaning : Table → Meaning
relays_meaning t = record { width = width_of (framework_of t); sure = sure_of (framework_of t); may = may_of (framework_of t) }

-- A sheet means its rules joined with its relay lines.
abbrev pub sheet_meaning : Table → Meaning
sheet_meaning t = joined (rules_meaning t) (relays_meaning t)

-- The board is the sheet's, with its settled bounds.
pub record SettledSheet {X : Type 0} (G : Ghosts X) (t : Table) (board : Settled X) : Type 0 where
  pub means : meaning G board.pile ≡ sheet_meaning t
  pub settled : Settles (sheet_meaning t) board.bounds

-- The fault is that the sheet's bounds cross.
pub record CrossedSheet (t : Table) (fault : BenchFault) : Type 0 where
  pub is : fault ≡ Crossed
  pub crosses : Crosses (sheet_meaning t)

-- By the verdict on its text, a sheet comes to a board of its table, or to the fault of the verdict, or its bounds cross.
abbrev pub ComesTo : {X : Type 0} → Ghosts X → Result Table SheetFault → Result (Settled X) BenchFault → Type 0
ComesTo G (Ok t) (Ok board) = SettledSheet G t board
ComesTo G (Ok t) (Err fault) = CrossedSheet t fault
ComesTo G (Err wrong) (Ok board) = ⊥
ComesTo G (Err wrong) (Err fault) = fault ≡ Sheet wrong

-- The result is what settling a sheet comes to by the verdict on its text.
pub record SettlesTo {X : Type 0} (G : Ghosts X) (v : Result Table SheetFault) (result : Result (Settled X) BenchFault) : Type 0 where
  pub is : ComesTo G v result
