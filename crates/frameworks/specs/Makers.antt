-- The framework of a sheet: its relay lines, in which the order of attackers means nothing.
use Rattle.std.specs.Prelude.{ℕ, ◌^◌, List, bit_or}
use Rattle.std.specs.List.{fold}
use Rattle.atoms.specs.Sets.{clipped}
use Rattle.tables.specs.declared.table.RelayLine.{RelayLine}
use Rattle.tables.specs.declared.table.Table.{Table}
use Rattle.tables.specs.Rows.{in_use}
use Rattle.frameworks.specs.declared.framework.Framework.{Framework}
use Rattle.frameworks.specs.declared.table.RelayTable.{RelayTable}
use Rattle.frameworks.specs.Lines.{no_lines, with_line}

-- the set of some atoms
abbrev pub set_of : List ℕ → ℕ
set_of atoms = fold (λ s atom. bit_or s (clipped 64 (2 ^ atom))) 0 atoms

-- the table of these relay lines, each in place of any that its atom had
abbrev pub lines_of : List RelayLine → RelayTable
lines_of lines = fold (λ t line. with_line t line.atom (set_of (in_use 64 line.attackers))) no_lines lines

-- a sheet's framework has its width and its relay lines
abbrev pub framework_of : Table → Framework
framework_of table = record { width = table.width; table = lines_of (in_use 64 table.relays) }
