-- A sheet as what it says, apart from any text; and when it is lawful.
use Rattle.std.specs.Prelude.{◌≡◌, ℕ, ◌<◌, ◌≤◌, ◌⊎◌, List, [], ◌∷◌, map, length, ℤ, pos, negsuc, ◌≤ℤ◌, codes, ◌≢◌, slice_index}
use Rattle.std.specs.Int.{IsInRange}
use Rattle.std.specs.List.{AllByRecursion}
use Rattle.tables.specs.declared.table.Comparison.{Comparison}
use Rattle.tables.specs.declared.table.Kind.{Kind}
use Rattle.tables.specs.declared.table.Kind.TheVariants.{Sum, Count}
use Rattle.tables.specs.declared.table.Entry.{Entry}
use Rattle.tables.specs.declared.table.Item.{Item}
use Rattle.tables.specs.declared.table.Item.TheVariants.{Atom, NotAtom, Aggregate}

-- A load: its kind, what its sum is held against, the limit, and the entries in order.
pub record LoadLine : Type 0 where
  pub kind : Kind
  pub comparison : Comparison
  pub limit : ℤ
  pub entries : List Entry

-- A rule: the atom that follows, and the conditions in order.
pub record RuleLine : Type 0 where
  pub head : ℕ
  pub items : List Item

-- A relay line: an atom, and the atoms that attack it in order.
pub record RelayRow : Type 0 where
  pub atom : ℕ
  pub attackers : List ℕ

-- A sheet: the names of the atoms, then the loads, the rules and the relay lines, each in order.
pub record Sheet : Type 0 where
  pub names : List (List ℕ)
  pub loads : List LoadLine
  pub rules : List RuleLine
  pub relays : List RelayRow

-- No two of these are the same.
abbrev pub NoneTwice : {A : Type 0} → List A → Type 0
NoneTwice [] = Unit {0}
NoneTwice (x ∷ xs) = AllByRecursion (λ y. x ≢ y) xs × NoneTwice xs

-- A name is written with a to z, 0 to 9 and the underscore.
abbrev pub NameByte : ℕ → Type 0
NameByte byte = IsInRange 97 122 byte ⊎ (IsInRange 48 57 byte ⊎ (byte ≡ 95))

-- The words that no atom can have for a name, since they have a meaning of their own.
abbrev pub reserved : List (List ℕ)
reserved = codes "if" ∷ codes "not" ∷ codes "load" ∷ codes "sum" ∷ codes "count" ∷ []

-- A name has 1 to 16 such bytes, a letter first, and is no reserved word.
pub record LawfulName (name : List ℕ) : Type 0 where
  pub some : 1 ≤ length name
  pub short : length name ≤ 16
  pub begins : IsInRange 97 122 (slice_index name 0)
  pub bytes : AllByRecursion NameByte name
  pub free : AllByRecursion (λ word. word ≢ name) reserved

-- A weight is from -10000 to 10000, and in a count it is 1.
abbrev pub LawfulWeight : Kind → ℤ → Type 0
LawfulWeight Sum weight = (negsuc 9999 ≤ℤ weight) × (weight ≤ℤ pos 10000)
LawfulWeight Count weight = weight ≡ pos 1

-- An entry of a load of some kind weighs what it may, and is about one of so many atoms.
pub record LawfulEntry (atoms : ℕ) (kind : Kind) (entry : Entry) : Type 0 where
  pub weighs : LawfulWeight kind entry.weight
  pub known : entry.atom < atoms

-- A load has a limit from -1000000 to 1000000 and at most 16 entries.
pub record LawfulLoad (atoms : ℕ) (load : LoadLine) : Type 0 where
  pub least : negsuc 999999 ≤ℤ load.limit
  pub most : load.limit ≤ℤ pos 1000000
  pub few : length load.entries ≤ 16
  pub each : AllByRecursion (LawfulEntry atoms load.kind) load.entries

-- An item names one of so many atoms or one of so many loads, which are numbered from 0.
abbrev pub LawfulItem : ℕ → ℕ → Item → Type 0
LawfulItem atoms loads (Atom atom) = atom < atoms
LawfulItem atoms loads (NotAtom atom) = atom < atoms
LawfulItem atoms loads (Aggregate load) = load < loads

-- A rule is about one of so many atoms and has at most 16 items.
pub record LawfulRule (atoms loads : ℕ) (rule : RuleLine) : Type 0 where
  pub known : rule.head < atoms
  pub few : length rule.items ≤ 16
  pub each : AllByRecursion (LawfulItem atoms loads) rule.items

-- A relay line is about one of so many atoms, and at most 64 of them attack it.
pub record LawfulRelay (atoms : ℕ) (relay : RelayRow) : Type 0 where
  pub known : relay.atom < atoms
  pub few : length relay.attackers ≤ 64
  pub each : AllByRecursion (λ atom. atom < atoms) relay.attackers

-- A lawful sheet has 1 to 64 atoms with names that differ, at most 32 loads, 128 rules and 64 relay lines, each lawful, and at most one relay line for an atom.
pub record LawfulSheet (sheet : Sheet) : Type 0 where
  pub some_names : 1 ≤ length sheet.names
  pub few_names : length sheet.names ≤ 64
  pub names : AllByRecursion LawfulName sheet.names
  pub names_differ : NoneTwice sheet.names
  pub few_loads : length sheet.loads ≤ 32
  pub loads : AllByRecursion (LawfulLoad (length sheet.names)) sheet.loads
  pub few_rules : length sheet.rules ≤ 128
  pub rules : AllByRecursion (LawfulRule (length sheet.names) (length sheet.loads)) sheet.rules
  pub few_relays : length sheet.relays ≤ 64
  pub relays : AllByRecursion (LawfulRelay (length sheet.names)) sheet.relays
  pub relays_differ : NoneTwice (map (λ relay. relay.atom) sheet.relays)
