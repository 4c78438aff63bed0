-- What a grammar looks for in a word.
use Rattle.std.specs.Prelude.{ℕ, Bool, true, false, cond, ◌&&◌, List, ℤ, pos, negsuc, Some, None, Option, nat_le, nat_lt}
use Rattle.tables.specs.declared.table.Kind.{Kind}
use Rattle.tables.specs.declared.table.Kind.TheVariants as kind
use Rattle.tables.specs.declared.table.Comparison.{Comparison}
use Rattle.tables.specs.declared.table.Comparison.TheVariants as comparison
use Rattle.text.specs.declared.word.Key.{Key}
use Rattle.text.specs.declared.word.Key.TheVariants as key
use Rattle.text.specs.Names.{atom_among}
use Rattle.text.specs.Words.{Meaning, a_name, a_number, a_key, nothing, key_said}

-- The kind of aggregate that a key begins.
abbrev pub kind_of : Option Key → Option Kind
kind_of None = None
kind_of (Some key.If) = None
kind_of (Some key.Not) = None
kind_of (Some key.Load) = None
kind_of (Some key.Sum) = Some kind.Sum
kind_of (Some key.Count) = Some kind.Count
kind_of (Some key.Bang) = None
kind_of (Some key.AtMost) = None
kind_of (Some key.AtLeast) = None
kind_of (Some key.Equal) = None
kind_of (Some key.Unequal) = None

-- The comparison that a key is.
abbrev pub comparison_of : Option Key → Option Comparison
comparison_of None = None
comparison_of (Some key.If) = None
comparison_of (Some key.Not) = None
comparison_of (Some key.Load) = None
comparison_of (Some key.Sum) = None
comparison_of (Some key.Count) = None
comparison_of (Some key.Bang) = None
comparison_of (Some key.AtMost) = Some comparison.AtMost
comparison_of (Some key.AtLeast) = Some comparison.AtLeast
comparison_of (Some key.Equal) = Some comparison.Equal
comparison_of (Some key.Unequal) = Some comparison.Unequal

-- Whether the key is `if`.
abbrev pub is_if : Option Key → Bool
is_if None = false
is_if (Some key.If) = true
is_if (Some key.Not) = false
is_if (Some key.Load) = false
is_if (Some key.Sum) = false
is_if (Some key.Count) = false
is_if (Some key.Bang) = false
is_if (Some key.AtMost) = false
is_if (Some key.AtLeast) = false
is_if (Some key.Equal) = false
is_if (Some key.Unequal) = false

-- Whether the key is `not`.
abbrev pub is_not : Option Key → Bool
is_not None = false
is_not (Some key.If) = false
is_not (Some key.Not) = true
is_not (Some key.Load) = false
is_not (Some key.Sum) = false
is_not (Some key.Count) = false
is_not (Some key.Bang) = false
is_not (Some key.AtMost) = false
is_not (Some key.AtLeast) = false
is_not (Some key.Equal) = false
is_not (Some key.Unequal) = false

-- Whether the key is `load`.
abbrev pub is_load : Option Key → Bool
is_load None = false
is_load (Some key.If) = false
is_load (Some key.Not) = false
is_load (Some key.Load) = true
is_load (Some key.Sum) = false
is_load (Some key.Count) = false
is_load (Some key.Bang) = false
is_load (Some key.AtMost) = false
is_load (Some key.AtLeast) = false
is_load (Some key.Equal) = false
is_load (Some key.Unequal) = false

-- Whether the key is `!`.
abbrev pub is_bang : Option Key → Bool
is_bang None = false
is_bang (Some key.If) = false
is_bang (Some key.Not) = false
is_bang (Some key.Load) = false
is_bang (Some key.Sum) = false
is_bang (Some key.Count) = false
is_bang (Some key.Bang) = true
is_bang (Some key.AtMost) = false
is_bang (Some key.AtLeast) = false
is_bang (Some key.Equal) = false
is_bang (Some key.Unequal) = false

-- The kind of aggregate that a word begins.
abbrev pub kind_said : Meaning → Option Kind
kind_said m = kind_of (key_said m)

-- The comparison that a word is.
abbrev pub comparison_said : Meaning → Option Comparison
comparison_said m = comparison_of (key_said m)

-- The atom that a word names.
abbrev pub atom_said : List (List ℕ) → Meaning → Option ℕ
atom_said names (a_name bytes) = atom_among 0 names bytes
atom_said names (a_number number) = None
atom_said names (a_key key) = None
atom_said names nothing = None

-- The number from low to high, where that is not negative.
abbrev pub natural_in : ℕ → ℕ → ℤ → Option ℕ
natural_in low high (pos n) = cond (nat_le low n && nat_le n high) (Some n) None
natural_in low high (negsuc n) = None

-- The number from low to high that a word writes without a minus.
abbrev pub natural_said : ℕ → ℕ → Meaning → Option ℕ
natural_said low high (a_name bytes) = None
natural_said low high (a_number number) = natural_in low high number
natural_said low high (a_key key) = None
natural_said low high nothing = None

-- The number below a count, where that is not negative.
abbrev pub below_in : ℕ → ℤ → Option ℕ
below_in count (pos n) = cond (nat_lt n count) (Some n) None
below_in count (negsuc n) = None

-- The number below a count that a word writes without a minus.
abbrev pub below_said : ℕ → Meaning → Option ℕ
below_said count (a_name bytes) = None
below_said count (a_number number) = below_in count number
below_said count (a_key key) = None
below_said count nothing = None
