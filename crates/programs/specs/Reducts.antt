-- The reduct of rules by an interpretation z.
use Rattle.std.specs.Prelude.{ℕ, Bool, List, map, filter, ◌==◌, bit_and}
use Rattle.tables.specs.Rows.{laid}
use Rattle.tables.specs.declared.rows.Rows.{Rows}
use Rattle.programs.specs.Tables.{zero_clause, clauses_of}
use Rattle.programs.specs.declared.clause.Clause.{Clause}
use Rattle.programs.specs.declared.rules.RuleTable.{RuleTable}

-- a rule without its barred atoms
abbrev pub unbarred : Clause → Clause
unbarred c = record { head = c.head; needed = c.needed; barred = 0; aggregates = c.aggregates }

-- a rule spares z where it bars no atom of z
abbrev pub spares : ℕ → Clause → Bool
spares z c = bit_and c.barred z == 0

-- the reduct by z: the rules that bar an atom of z are dropped, and the barred atoms of the others
abbrev pub reduct : ℕ → List Clause → List Clause
reduct z cs = map unbarred (filter (spares z) cs)

-- the reduct of some clauses, as rows
abbrev pub reduct_rows : ℕ → List Clause → Rows Clause 128
reduct_rows z cs = laid 128 zero_clause (reduct z cs)

-- the table with the reduct of its rules
abbrev pub reduced : ℕ → RuleTable → RuleTable
reduced z t = record { width = t.width; clauses = reduct_rows z (clauses_of t); aggregates = t.aggregates }
