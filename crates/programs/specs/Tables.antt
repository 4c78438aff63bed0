-- The rules of a sheet as sets, with its aggregates.
use Rattle.std.specs.Prelude.{ℕ, List, [], map, take}
use Rattle.atoms.specs.Sets.{width_read}
use Rattle.tables.specs.Rows.{laid, in_use}
use Rattle.tables.specs.declared.rows.Rows.{Rows}
use Rattle.tables.specs.declared.table.Aggregate.{Aggregate}
use Rattle.tables.specs.declared.table.Rule.{Rule}
use Rattle.tables.specs.declared.table.Table.{Table}
use Rattle.programs.specs.Clauses.{gathered, clause_of}
use Rattle.programs.specs.declared.clause.Clause.{Clause}
use Rattle.programs.specs.declared.rules.RuleTable.{RuleTable}

-- a row of clauses that is not in use
abbrev pub zero_clause : Clause
zero_clause = gathered 0 []

-- the clauses of some rules, in their order
abbrev pub clauses_from : List Rule → Rows Clause 128
clauses_from rules = laid 128 zero_clause (map clause_of rules)

-- the rules of a sheet that are in use
abbrev pub rules_of : Table → List Rule
rules_of t = in_use 128 t.rules

-- the rule table of a sheet's record
abbrev pub rule_table : Table → RuleTable
rule_table t = record { width = t.width; clauses = clauses_from (rules_of t); aggregates = t.aggregates }

-- the clauses of a rule table that are in use
abbrev pub clauses_of : RuleTable → List Clause
clauses_of t = in_use 128 t.clauses

-- the aggregates of a rule table that are in use, at most 32
abbrev pub aggregates_of : RuleTable → List Aggregate
aggregates_of t = take 32 (in_use 32 t.aggregates)

-- the width of a rule table
abbrev pub width_of : RuleTable → ℕ
width_of t = width_read t.width
