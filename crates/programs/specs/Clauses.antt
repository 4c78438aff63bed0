-- Rules as sets: what the items of a rule ask for, whatever their order and however often they stand there.
use Rattle.std.specs.Prelude.{◌≡◌, ℕ, ◌^◌, ◌<◌, ◌⊎◌, List, [], ◌∷◌, fold, bit_or}
use Rattle.atoms.specs.Sets.{Has, clipped}
use Rattle.tables.specs.Rows.{in_use}
use Rattle.tables.specs.declared.table.Item.{Item}
use Rattle.tables.specs.declared.table.Item.TheVariants.{Atom, NotAtom, Aggregate}
use Rattle.tables.specs.declared.table.Rule.{Rule}
use Rattle.programs.specs.declared.clause.Clause.{Clause}

-- x stands in the list
abbrev pub Among : {T : Type 0} → T → List T → Type 0
Among x [] = ⊥
Among x (y ∷ ys) = (x ≡ y) ⊎ Among x ys

-- each of the two says the other
abbrev pub Same : Type 0 → Type 0 → Type 0
Same P Q = (P → Q) × (Q → P)

-- the sets that the members of a list give, taken together
abbrev pub union : {T : Type 0} → (T → ℕ) → List T → ℕ
union f xs = fold (λ s x. bit_or s (f x)) 0 xs

-- a plain item gives its atom, one of 64
abbrev pub plain : Item → ℕ
plain (Atom a) = clipped 64 (2 ^ a)
plain (NotAtom a) = 0
plain (Aggregate n) = 0

-- a negated item gives its atom
abbrev pub negated : Item → ℕ
negated (Atom a) = 0
negated (NotAtom a) = clipped 64 (2 ^ a)
negated (Aggregate n) = 0

-- an aggregate's item gives its number, one of 32
abbrev pub numbered : Item → ℕ
numbered (Atom a) = 0
numbered (NotAtom a) = 0
numbered (Aggregate n) = clipped 32 (2 ^ n)

-- the clause of a head and items
abbrev pub gathered : ℕ → List Item → Clause
gathered head items = record { head = head; needed = union plain items; barred = union negated items; aggregates = union numbered items }

-- a clause under one more condition
abbrev pub with_item : Clause → Item → Clause
with_item c (Atom a) = record { head = c.head; needed = bit_or c.needed (clipped 64 (2 ^ a)); barred = c.barred; aggregates = c.aggregates }
with_item c (NotAtom a) = record { head = c.head; needed = c.needed; barred = bit_or c.barred (clipped 64 (2 ^ a)); aggregates = c.aggregates }
with_item c (Aggregate n) = record { head = c.head; needed = c.needed; barred = c.barred; aggregates = bit_or c.aggregates (clipped 32 (2 ^ n)) }

-- the items of a rule that are in use
abbrev pub items_of : Rule → List Item
items_of r = in_use 16 r.items

-- the clause of a rule
abbrev pub clause_of : Rule → Clause
clause_of r = gathered r.head (items_of r)

-- a clause says what the rule says: it needs just the atoms of the plain items and bars just those of the negated ones, and its aggregates are those of the others
pub record Says (r : Rule) (c : Clause) : Type 0 where
  pub head : c.head ≡ r.head
  pub needed : (i : ℕ) → Same (Has c.needed i) ((i < 64) × Among (Atom i) (items_of r))
  pub barred : (i : ℕ) → Same (Has c.barred i) ((i < 64) × Among (NotAtom i) (items_of r))
  pub aggregates : (n : ℕ) → Same (Has c.aggregates n) ((n < 32) × Among (Aggregate n) (items_of r))

-- the clauses say, one by one, what the rules say
abbrev pub AllSay : List Rule → List Clause → Type 0
AllSay [] [] = Unit {0}
AllSay [] (c ∷ cs) = ⊥
AllSay (r ∷ rs) [] = ⊥
AllSay (r ∷ rs) (c ∷ cs) = Says r c × AllSay rs cs
