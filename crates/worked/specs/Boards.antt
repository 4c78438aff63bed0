-- The boards worked by hand, as one table.
-- Atoms are numbered in the order named. A set is written in binary, atom 0 last: of a and b, 0b01 is a alone and 0b10 is b
-- alone. Of two sets the one without the lowest atom where they differ is listed first, so b alone comes before a alone.
use Rattle.std.specs.Prelude.{◌≡◌, ℕ, true, false, List, [], ◌∷◌, Ok, ℤ, pos, negsuc}
use Rattle.atoms.specs.declared.bounds.Bounds.{Bounds}
use Rattle.tables.specs.Tables.{table_of, rule_of, relay_of, aggregate_of}
use Rattle.tables.specs.declared.table.Place.{Place}
use Rattle.tables.specs.declared.table.Table.{Table}
use Rattle.tables.specs.declared.table.Rule.{Rule}
use Rattle.tables.specs.declared.table.RelayLine.{RelayLine}
use Rattle.tables.specs.declared.table.Entry.{Entry}
use Rattle.tables.specs.declared.table.Aggregate.{Aggregate}
use Rattle.tables.specs.declared.table.Comparison.TheVariants.{AtLeast}
use Rattle.tables.specs.declared.table.Kind.TheVariants.{Sum}
use Rattle.tables.specs.declared.table.Item.TheVariants as item
use Rattle.aggregates.specs.Sums.{entries_of, low_sum, high_sum}
use Rattle.aggregates.specs.Readings.{bound_sure, bound_may}
use Rattle.layers.specs.Joined.{joined}
use Rattle.engine.specs.declared.pegs.Sense.TheVariants.{On, Off}
use Rattle.engine.specs.declared.runs.Event.TheVariants.{Peg}
use Rattle.worked.specs.declared.Example.{Example}
use Rattle.worked.specs.declared.Example.TheVariants.{EitherOr, DeniesItself, HoldsItself, Chain, Ring, Bare, LoadBound, LoadPlain, RuleAndRelay, EitherOrPegged, HoldsItselfPegged}
use Rattle.worked.specs.Piles.{rules_bound, rules_plain, relays}
use Rattle.worked.specs.Rows.{Row, Right}

-- ---- words for a sheet
-- the atoms, in the order named
abbrev a : ℕ
a = 0

abbrev b : ℕ
b = 1

abbrev c : ℕ
c = 2

abbrev p : ℕ
p = 0

abbrev q : ℕ
q = 1

-- an entry: the atom, with its weight
abbrev pub weighs : ℤ → ℕ → Entry
weighs weight atom = record { weight = weight; atom = atom; negated = false }

-- `sum >= 0 1 p`
abbrev pub one_entry : Aggregate
one_entry = aggregate_of Sum AtLeast (pos 0) (weighs (pos 1) p ∷ [])

-- `sum >= 0 1 p -1 q`
abbrev pub two_entries : Aggregate
two_entries = aggregate_of Sum AtLeast (pos 0) (weighs (pos 1) p ∷ weighs (negsuc 0) q ∷ [])

-- the bounds between two sets
abbrev pub between : ℕ → ℕ → Bounds
between lower upper = record { lower = lower; upper = upper }

-- ---- the table, whatever the atoms are called
module _ (names : List Place) where
  -- a sheet of so many atoms with these rules and relay lines
  abbrev pub sheet : ℕ → List Rule → List RelayLine → Table
  sheet width rules lines = table_of width names [] rules lines

  -- `a if not b`, `b if not a`
  abbrev pub either_or : Table
  either_or = sheet 2 (rule_of a (item.NotAtom b ∷ []) ∷ rule_of b (item.NotAtom a ∷ []) ∷ []) []

  -- `p if not p`
  abbrev pub denies_itself : Table
  denies_itself = sheet 1 (rule_of p (item.NotAtom p ∷ []) ∷ []) []

  -- `p if p`
  abbrev pub holds_itself : Table
  holds_itself = sheet 1 (rule_of p (item.Atom p ∷ []) ∷ []) []

  -- `a ! b`, `b ! c`, `c !`
  abbrev pub chain : Table
  chain = sheet 3 [] (relay_of a (b ∷ []) ∷ relay_of b (c ∷ []) ∷ relay_of c [] ∷ [])

  -- `a ! b`, `b ! c`, `c ! a`
  abbrev pub ring : Table
  ring = sheet 3 [] (relay_of a (b ∷ []) ∷ relay_of b (c ∷ []) ∷ relay_of c (a ∷ []) ∷ [])

  -- one atom, and nothing said of it
  abbrev pub bare : Table
  bare = sheet 1 [] []

  -- `p if load 0`, with that load
  abbrev pub loaded : Table
  loaded = table_of 1 names (one_entry ∷ []) (rule_of p (item.Aggregate 0 ∷ []) ∷ []) []

  -- `a if not b`, and the relay line `b ! a`
  abbrev pub rule_and_relay : Table
  rule_and_relay = sheet 2 (rule_of a (item.NotAtom b ∷ []) ∷ []) (relay_of b (a ∷ []) ∷ [])

  -- a row for each board
  abbrev pub row : Example → Row
  row EitherOr = record { board = rules_bound either_or; pegs = []; settled = between 0b00 0b11; stable = 0b10 ∷ 0b01 ∷ []; tally = 2 }
  row DeniesItself = record { board = rules_bound denies_itself; pegs = []; settled = between 0b0 0b1; stable = []; tally = 0 }
  row HoldsItself = record { board = rules_bound holds_itself; pegs = []; settled = between 0b0 0b0; stable = 0b0 ∷ []; tally = 1 }
  row Chain = record { board = relays chain; pegs = []; settled = between 0b101 0b101; stable = 0b101 ∷ []; tally = 1 }
  row Ring = record { board = relays ring; pegs = []; settled = between 0b000 0b111; stable = []; tally = 0 }
  row Bare = record { board = rules_bound bare; pegs = []; settled = between 0b0 0b0; stable = 0b0 ∷ []; tally = 1 }
  row LoadBound = record { board = rules_bound loaded; pegs = []; settled = between 0b1 0b1; stable = 0b1 ∷ []; tally = 1 }
  row LoadPlain = record { board = rules_plain loaded; pegs = []; settled = between 0b0 0b1; stable = []; tally = 0 }
  row RuleAndRelay = record { board = joined (rules_bound rule_and_relay) (relays rule_and_relay); pegs = []; settled = between 0b00 0b11; stable = 0b10 ∷ 0b01 ∷ []; tally = 2 }
  row EitherOrPegged = record { board = rules_bound either_or; pegs = Peg a Off (Ok tt) ∷ []; settled = between 0b00 0b11; stable = 0b10 ∷ []; tally = 1 }
  row HoldsItselfPegged = record { board = rules_bound holds_itself; pegs = Peg p On (Ok tt) ∷ []; settled = between 0b0 0b0; stable = []; tally = 0 }

-- ---- the theorem
-- with both atoms open its sum is from -1 to 1, so that the load may hold, and not surely
pub record LoadOpen : Type 0 where
  pub low : low_sum (entries_of two_entries) 0b00 0b11 ≡ negsuc 0
  pub high : high_sum (entries_of two_entries) 0b00 0b11 ≡ pos 1
  pub may : bound_may two_entries 0b00 0b11 ≡ true
  pub sure : bound_sure two_entries 0b00 0b11 ≡ false

-- every row of the table is right, whatever the atoms are called, and so is what is said of the load
pub record BoardsWorked : Type 0 where
  pub rows : (names : List Place) (example : Example) → Right (row names example)
  pub load : LoadOpen
