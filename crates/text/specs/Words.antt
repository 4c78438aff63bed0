-- What a word says.
use Rattle.std.specs.Prelude.{ℕ, Bool, true, false, cond, ◌&&◌, ◌||◌, List, [], ◌∷◌, length, ℤ, Some, None, codes, Option, ◌==◌, int_le, nat_le, nat_lt, slice_index}
use Rattle.std.specs.List.{list_all}
use Rattle.std.specs.Str.{bytes_eq}
use Rattle.text.specs.declared.word.Key.{Key}
use Rattle.text.specs.declared.word.Key.TheVariants as key
use Rattle.faults.specs.declared.Spot.{Spot}
use Rattle.text.specs.declared.word.Word.{Word}
use Rattle.text.specs.declared.word.Word.TheVariants as word
use Rattle.text.specs.Numbers.{number_of}

-- The words and signs that have a meaning of their own.
abbrev pub keys : List (List ℕ × Key)
keys =
    (codes "if", key.If) ∷ (codes "not", key.Not) ∷ (codes "load", key.Load) ∷ (codes "sum", key.Sum) ∷ (codes "count", key.Count)
    ∷ (codes "!", key.Bang) ∷ (codes "<=", key.AtMost) ∷ (codes ">=", key.AtLeast) ∷ (codes "=", key.Equal) ∷ (codes "!=", key.Unequal) ∷ []

-- The meaning that a list of keys gives a word.
abbrev pub key_among : List (List ℕ × Key) → List ℕ → Option Key
key_among [] word = None
key_among (k ∷ ks) word = cond (bytes_eq word k.0) (Some k.1) (key_among ks word)

-- The key that a word is.
abbrev pub key_of : List ℕ → Option Key
key_of word = key_among keys word

-- The letters are a to z.
abbrev pub is_letter : ℕ → Bool
is_letter byte = nat_le 97 byte && nat_le byte 122

-- A name is written with letters, digits and the underscore.
abbrev pub name_byte : ℕ → Bool
name_byte byte = is_letter byte || ((nat_le 48 byte && nat_le byte 57) || byte == 95)

-- Every byte is one that a name is written with.
abbrev pub name_bytes : List ℕ → Bool
name_bytes bytes = list_all name_byte bytes

-- A name has 1 to 16 such bytes, a letter first.
abbrev pub lawful_name : List ℕ → Bool
lawful_name word = nat_lt 0 (length word) && (nat_le (length word) 16 && (is_letter (slice_index word 0) && name_bytes word))

-- What a word can say, wherever it stands.
pub data Meaning : Type 0 where
  a_name : List ℕ → Meaning
  a_number : ℤ → Meaning
  a_key : Key → Meaning
  nothing : Meaning

-- A word is a key if it can be, else a number if it can be, else a name if it can be.
abbrev pub first_meaning : List ℕ → Option Key → Option ℤ → Bool → Meaning
first_meaning word (Some key) number lawful = a_key key
first_meaning word None (Some number) lawful = a_number number
first_meaning word None None true = a_name word
first_meaning word None None false = nothing

-- What a word says.
abbrev pub meaning : List ℕ → Meaning
meaning word = first_meaning word (key_of word) (number_of word) (lawful_name word)

-- What a word that was read says, and where it stands.
abbrev pub said : Word → Meaning × Spot
said (word.Name bytes spot) = (a_name bytes.now, spot)
said (word.Number number spot) = (a_number number, spot)
said (word.Key key spot) = (a_key key, spot)
said (word.Other spot) = (nothing, spot)

-- The key in a meaning.
abbrev pub key_said : Meaning → Option Key
key_said (a_name bytes) = None
key_said (a_number number) = None
key_said (a_key key) = Some key
key_said nothing = None

-- The name in a meaning.
abbrev pub name_said : Meaning → Option (List ℕ)
name_said (a_name bytes) = Some bytes
name_said (a_number number) = None
name_said (a_key key) = None
name_said nothing = None

-- The number in a meaning, if it is from low to high.
abbrev pub number_said : ℤ → ℤ → Meaning → Option ℤ
number_said low high (a_name bytes) = None
number_said low high (a_number number) = cond (int_le low number && int_le number high) (Some number) None
number_said low high (a_key key) = None
number_said low high nothing = None
