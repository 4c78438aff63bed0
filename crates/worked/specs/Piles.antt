-- What the parts of a sheet mean, as piles to settle.
use Rattle.approx.specs.Meanings.{Meaning}
use Rattle.tables.specs.declared.table.Table.{Table}
use Rattle.aggregates.specs.Readings.{bound_sure, bound_may, plain_sure, plain_may}
use Rattle.programs.specs.Tables.{rule_table}
use Rattle.programs.specs.Programs.{table_meaning}
use Rattle.frameworks.specs.declared.framework.Framework.{Framework}
use Rattle.frameworks.specs.Frameworks.{width_of, sure_of, may_of}
use Rattle.frameworks.specs.Makers.{framework_of}

-- the rules of a sheet, their loads by the bound reading
abbrev pub rules_bound : Table → Meaning
rules_bound t = table_meaning bound_sure bound_may (rule_table t)

-- the rules of a sheet, their loads by the plain reading
abbrev pub rules_plain : Table → Meaning
rules_plain t = table_meaning plain_sure plain_may (rule_table t)

-- a framework
abbrev pub framework : Framework → Meaning
framework f = record { width = width_of f; sure = sure_of f; may = may_of f }

-- the relay lines of a sheet
abbrev pub relays : Table → Meaning
relays t = framework (framework_of t)
