-- Which sheets the classical semantics speak of: those that the reader accepts and whose rules use no load.
use Rattle.std.specs.Prelude.{ℕ, List}
use Rattle.tables.specs.declared.table.Item.TheVariants.{Aggregate}
use Rattle.tables.specs.declared.table.Rule.{Rule}
use Rattle.tables.specs.declared.table.Table.{Table}
use Rattle.programs.specs.Clauses.{Among, items_of}
use Rattle.programs.specs.Normal.{NormalRules}
use Rattle.programs.specs.Tables.{rules_of, rule_table}
use Rattle.written.specs.Accepts.{Writes}

-- no rule of the record uses a load
abbrev pub Loadless : Table → Type 0
Loadless t = (r : Rule) → Among r (rules_of t) → (n : ℕ) → Among (Aggregate n) (items_of r) → ⊥

-- the rules of every text that the reader accepts are normal, where none of them uses a load: so the theorems hold of it with no further premise
abbrev pub SheetsNormal : Type 0
SheetsNormal = (text : List ℕ) (t : Table) → Writes text t → Loadless t → NormalRules (rule_table t)
