-- Rules without aggregates, over the atoms below the width: those that the classical semantics speak of.
use Rattle.std.specs.Prelude.{◌≡◌, ℕ, ◌^◌, ◌<◌}
use Rattle.atoms.specs.Sets.{width_read}
use Rattle.tables.specs.declared.table.Item.{Item}
use Rattle.tables.specs.declared.table.Item.TheVariants.{Atom, NotAtom, Aggregate}
use Rattle.tables.specs.declared.table.Rule.{Rule}
use Rattle.tables.specs.declared.table.Table.{Table}
use Rattle.programs.specs.Clauses.{Among, items_of}
use Rattle.programs.specs.Tables.{width_of, rules_of, clauses_of}
use Rattle.programs.specs.declared.clause.Clause.{Clause}
use Rattle.programs.specs.declared.rules.RuleTable.{RuleTable}

-- a clause is normal: its atoms are below the width w, and it has no aggregate
pub record Normal (w : ℕ) (c : Clause) : Type 0 where
  pub head : c.head < w
  pub needed : c.needed < 2 ^ w
  pub barred : c.barred < 2 ^ w
  pub aggregates : c.aggregates ≡ 0

-- every clause of the table is normal
abbrev pub NormalRules : RuleTable → Type 0
NormalRules t = (c : Clause) → Among c (clauses_of t) → Normal (width_of t) c

-- an item names an atom below w, plain or negated
abbrev pub NormalItem : ℕ → Item → Type 0
NormalItem w (Atom a) = a < w
NormalItem w (NotAtom a) = a < w
NormalItem w (Aggregate n) = ⊥

-- a rule as written names atoms below w only
pub record NormalRule (w : ℕ) (r : Rule) : Type 0 where
  pub head : r.head < w
  pub items : (x : Item) → Among x (items_of r) → NormalItem w x

-- every rule of the record names atoms below the width only
abbrev pub NormalSheet : Table → Type 0
NormalSheet t = (r : Rule) → Among r (rules_of t) → NormalRule (width_read t.width) r
