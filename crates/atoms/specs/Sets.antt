-- Sets of atoms as numbers: atom i is in s where the binary digit i of s is one.
use Rattle.std.specs.Prelude.{◌≡◌, ℕ, zero, suc, ◌+◌, ◌-◌, ◌/◌, ◌%◌, ◌^◌, ◌<◌, min, max, Bool, cond, ◌==◌, bit_and, bit_or}

-- the digit of s at i: one where atom i is in s, zero where it is not
abbrev pub digit : ℕ → ℕ → ℕ
digit s i = s / 2 ^ i % 2

-- atom i is in s
abbrev pub Has : ℕ → ℕ → Type 0
Has s i = digit s i ≡ 1

-- the same as a test
abbrev pub has : ℕ → ℕ → Bool
has s i = digit s i == 1

-- every atom of a is in b
pub record Within (a b : ℕ) : Type 0 where
  pub at : (i : ℕ) → Has a i → Has b i

-- no atom is in both
abbrev pub Apart : ℕ → ℕ → Type 0
Apart a b = (i : ℕ) → Has a i → Has b i → ⊥

-- a number as a width: from 1 to 64
abbrev pub width_read : ℕ → ℕ
width_read w = max 1 (min 64 w)

-- the set of every atom below a width
abbrev pub all_below : ℕ → ℕ
all_below w = 2 ^ w - 1

-- the atoms of s below a width
abbrev pub clipped : ℕ → ℕ → ℕ
clipped w s = s % 2 ^ w

-- the atoms of a set of 64 atoms that another such set lacks
abbrev pub lacking : ℕ → ℕ → ℕ
lacking a b = bit_and a (2 ^ 64 - 1 - b)

-- the set of the atoms below a width that pass a test
unfoldable pub collected : (ℕ → Bool) → ℕ → ℕ
collected p zero = 0
collected p (suc n) = bit_or (collected p n) (cond (p n) (2 ^ n) 0)

-- how many atoms below a width pass a test
unfoldable pub how_many : (ℕ → Bool) → ℕ → ℕ
how_many p zero = 0
how_many p (suc n) = how_many p n + cond (p n) 1 0

-- i is the lowest atom of s
pub record Lowest (s i : ℕ) : Type 0 where
  pub here : Has s i
  pub below : (j : ℕ) → j < i → digit s j ≡ 0
