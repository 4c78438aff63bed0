-- What rules derive.
use Rattle.std.specs.Prelude.{◌≡◌, ℕ, ◌^◌, ◌<◌, Bool, true, cond, ◌&&◌, List, length, ◌==◌, bit_and, slice_index_or}
use Rattle.atoms.specs.Sets.{Has, Within, Apart, clipped, collected}
use Rattle.tables.specs.Tables.{zero_aggregate}
use Rattle.tables.specs.declared.table.Aggregate.{Aggregate}
use Rattle.programs.specs.Clauses.{Among, union}
use Rattle.programs.specs.Tables.{width_of, clauses_of, aggregates_of}
use Rattle.programs.specs.declared.clause.Clause.{Clause}
use Rattle.programs.specs.declared.clause.Grounds.{Grounds}
use Rattle.programs.specs.declared.rules.RuleTable.{RuleTable}

-- a rule fires where its needed atoms are all held, none of its barred atoms is possible, and its aggregates are all among those that hold
abbrev pub fires : Grounds → Clause → Bool
fires g c = (bit_and c.needed g.held == c.needed) && (bit_and c.barred g.possible == 0 && bit_and c.aggregates g.holding == c.aggregates)

-- a rule gives its head where it fires
abbrev pub gives : Grounds → Clause → ℕ
gives g c = cond (fires g c) (clipped 64 (2 ^ c.head)) 0

-- the heads below the width of the rules that fire
abbrev pub derived : RuleTable → Grounds → ℕ
derived t g = clipped (width_of t) (union (gives g) (clauses_of t))

-- whether the aggregate with number n passes a judgement
abbrev pub passes : (Aggregate → Bool) → List Aggregate → ℕ → Bool
passes judge xs n = judge (slice_index_or xs n zero_aggregate)

-- the numbers of the aggregates that pass
abbrev pub passing : (Aggregate → Bool) → List Aggregate → ℕ
passing judge xs = collected (passes judge xs) (length xs)

-- whatever is said of an aggregate is what the judgement says
abbrev pub Answers : (Aggregate → Bool → Type 0) → (Aggregate → Bool) → Type 0
Answers says judge = (a : Aggregate) (b : Bool) → says a b → b ≡ judge a

-- every aggregate whose number is in the set is there, and passes
abbrev pub AllPass : (Aggregate → Bool) → List Aggregate → ℕ → Type 0
AllPass judge xs numbers = (n : ℕ) → Has numbers n → (n < length xs) × (passes judge xs n ≡ true)

-- atom i follows: it is below the width and the head of a rule whose needed atoms are all held, none of whose barred atoms is possible, and whose aggregates all pass
pub record Follows (t : RuleTable) (judge : Aggregate → Bool) (held possible i : ℕ) : Type 0 where
  pub rule : Clause
  pub among : Among rule (clauses_of t)
  pub head : rule.head ≡ i
  pub below : i < width_of t
  pub needed : Within rule.needed held
  pub barred : Apart rule.barred possible
  pub aggregates : AllPass judge (aggregates_of t) rule.aggregates

-- a set has just the atoms that follow
pub record JustWhatFollows (t : RuleTable) (judge : Aggregate → Bool) (held possible s : ℕ) : Type 0 where
  pub has : (i : ℕ) → Has s i → Follows t judge held possible i
  pub all : (i : ℕ) → Follows t judge held possible i → Has s i
