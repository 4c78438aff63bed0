-- The numbers of a sheet, as its words write them.
use Rattle.std.specs.Prelude.{ℕ, ◌+◌, ◌-◌, ◌*◌, Bool, true, false, cond, not, ◌&&◌, List, [], ◌∷◌, ℤ, pos, neg_ℤ, Some, None, Option, ◌==◌, nat_le}

-- The digits are the bytes from 0 to 9.
abbrev pub is_digit : ℕ → Bool
is_digit byte = nat_le 48 byte && nat_le byte 57

-- The number that digits write, put behind a number.
abbrev pub digits : ℕ → List ℕ → Option ℕ
digits n [] = Some n
digits n (byte ∷ bytes) = cond (is_digit byte) (digits (n * 10 + (byte - 48)) bytes) None

-- There is a byte, and no zero stands before another.
abbrev pub well_begun : List ℕ → Bool
well_begun [] = false
well_begun (byte ∷ []) = true
well_begun (byte ∷ next ∷ bytes) = not (byte == 48)

-- No number is larger than a million.
abbrev pub small : Option ℕ → Option ℕ
small None = None
small (Some n) = cond (nat_le n 1000000) (Some n) None

-- The number from 0 to a million that a word of digits writes.
abbrev pub magnitude_of : List ℕ → Option ℕ
magnitude_of word = cond (well_begun word) (small (digits 0 word)) None

-- A number without a minus.
abbrev pub plain : Option ℕ → Option ℤ
plain None = None
plain (Some n) = Some (pos n)

-- A number with a minus, which 0 never has.
abbrev pub negative : Option ℕ → Option ℤ
negative None = None
negative (Some n) = cond (n == 0) None (Some (neg_ℤ (pos n)))

-- The number that a word writes: digits, or a minus and digits.
abbrev pub number_of : List ℕ → Option ℤ
number_of [] = None
number_of (byte ∷ bytes) = cond (byte == 45) (negative (magnitude_of bytes)) (plain (magnitude_of (byte ∷ bytes)))
