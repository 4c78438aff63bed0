-- The names of a sheet's atoms, by their places in the text.
use Rattle.std.specs.Prelude.{ℕ, ◌+◌, cond, List, [], ◌∷◌, map, length, take, drop, Some, None, Option, nat_le}
use Rattle.std.specs.Borrow.{Bor}
use Rattle.std.specs.Str.{bytes_eq}
use Rattle.tables.specs.declared.table.Place.{Place}

-- The part of a text at a place, the empty part if the place is not in it.
abbrev pub part_of : List ℕ → Place → List ℕ
part_of text place = cond (nat_le (place.from + place.len) (length text)) (take place.len (drop place.from text)) []

-- The names that stand at places of a text.
abbrev pub names_of : List ℕ → List Place → List (List ℕ)
names_of text places = map (part_of text) places

-- The number of the first name that is the word, where the names are numbered from a number on.
abbrev pub atom_among : ℕ → List (List ℕ) → List ℕ → Option ℕ
atom_among number [] word = None
atom_among number (name ∷ names) word = cond (bytes_eq name word) (Some number) (atom_among (number + 1) names word)

-- The atom that a word names, among the first 64 places: a sheet has no more atoms.
abbrev pub atom_named : List ℕ → List Place → List ℕ → Option ℕ
atom_named text places word = atom_among 0 (names_of text (take 64 places)) word

-- The parts that references stand for.
abbrev pub parts : List (Bor (List ℕ)) → List (List ℕ)
parts names = map (λ name. name.now) names
