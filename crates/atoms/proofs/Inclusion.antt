-- Within is an order; unions are the least above, intersections the greatest below.
use Rattle.std.proofs.Common.{◌≡◌, ℕ, suc, ◌-◌, ◌/◌, ◌%◌, ◌^◌, ◌<◌, ◌≤◌, sym, ◌∙◌, subst, inl, inr, mod-lt, mod-eq_of_lt, arith, pow_pos}
use lib.Bits.{bit_and, bit_or, and_le_r, and_mask}
use Rattle.std.proofs.lemmas.Bool.{cases_lt}
use Rattle.atoms.specs.Sets.{Has, Within, clipped}
use Rattle.atoms.proofs.Digits.{ext, same_digit, lacks_not, digit_of_zero, digit_zero, digit_suc, has_or_lacks, has_and, has_and_l, has_and_r, has_or_l, has_or_r, has_or_cases, mod_digit, low_digit, pow_only, mod_mod_wide}

-- ---- Within is an order
pub within_refl : (a : ℕ) → Within a a
within_refl a = record { at = λ i h. h }

pub within_trans : {a b c : ℕ} → Within a b → Within b c → Within a c
within_trans p q = record { at = λ i h. q.at i (p.at i h) }

pub within_antisym : {a b : ℕ} → Within a b → Within b a → a ≡ b
within_antisym {a} {b} p q = ext a b (λ i. same_digit a b i (p.at i) (q.at i))

pub zero_within : (a : ℕ) → Within 0 a
zero_within a = record { at = λ i h. absurd (lacks_not 0 i (digit_of_zero i) h) }

pub within_eq : {a b : ℕ} → a ≡ b → Within a b
within_eq {a} p = rw (← p) (within_refl a)

-- ---- unions and intersections
pub and_within_l : (a b : ℕ) → Within (bit_and a b) a
and_within_l a b = record { at = λ i h. has_and_l a b i h }

pub and_within_r : (a b : ℕ) → Within (bit_and a b) b
and_within_r a b = record { at = λ i h. has_and_r a b i h }

pub within_and : {s a b : ℕ} → Within s a → Within s b → Within s (bit_and a b)
within_and {s} {a} {b} p q = record { at = λ i h. has_and a b i (p.at i h) (q.at i h) }

pub or_within_l : (a b : ℕ) → Within a (bit_or a b)
or_within_l a b = record { at = λ i h. has_or_l a b i h }

pub or_within_r : (a b : ℕ) → Within b (bit_or a b)
or_within_r a b = record { at = λ i h. has_or_r a b i h }

pub or_within : {a b s : ℕ} → Within a s → Within b s → Within (bit_or a b) s
or_within {a} {b} p q = record { at = λ i h. elim (has_or_cases a b i h) [ inl x ↦ p.at i x | inr y ↦ q.at i y ] }

pub joined_within : {a b c d : ℕ} → Within a c → Within b d → Within (bit_or a b) (bit_or c d)
joined_within {a} {b} {c} {d} p q = or_within (within_trans p (or_within_l c d)) (within_trans q (or_within_r c d))

-- Within as the code tests it
pub within_test : {a b : ℕ} → bit_and a b ≡ a → Within a b
within_test {a} {b} e = rw e at (and_within_r a b)

pub test_within : {a b : ℕ} → Within a b → bit_and a b ≡ a
test_within {a} {b} p = within_antisym (and_within_l a b) (within_and (within_refl a) p)

pub within_le : {a b : ℕ} → Within a b → a ≤ b
within_le {a} {b} p = omega (arith, test_within p, and_le_r a b)

-- a step of a chain that rises and moves makes the number larger
pub within_lt : {a b : ℕ} → Within a b → (a ≡ b → ⊥) → a < b
within_lt p f = omega (arith, within_le p)

-- an atom that a set has, alone
pub atom_within : {s : ℕ} (i : ℕ) → Has s i → Within (2 ^ i) s
atom_within {s} i h = record { at = λ j q. subst (Has s) (pow_only i j q) h }

-- every atom below w
pub below_within : {s : ℕ} (w : ℕ) → s < 2 ^ w → Within s (2 ^ w - 1)
below_within {s} w h = within_test (and_mask s w ∙ mod-eq_of_lt h)

pub within_below : {s : ℕ} (w : ℕ) → Within s (2 ^ w - 1) → s < 2 ^ w
within_below {s} w p = omega (arith, within_le p, pow_pos w)

-- ---- halves
pub within_half : {a b : ℕ} → Within a b → Within (a / 2) (b / 2)
within_half {a} {b} p = record { at = λ i h. sym (digit_suc b i) ∙ p.at (suc i) (digit_suc a i ∙ h) }

pub within_low : {a b : ℕ} → Within a b → a % 2 ≤ b % 2
within_low {a} {b} p = elim (has_or_lacks a 0) [
  | inl h ↦ omega (arith, sym (digit_zero a) ∙ h, sym (digit_zero b) ∙ p.at 0 h)
  | inr e ↦ omega (arith, sym (digit_zero a) ∙ e)
]

-- ---- below a width
pub within_mod : {a b : ℕ} (w : ℕ) → Within a b → Within (a % 2 ^ w) (b % 2 ^ w)
within_mod {a} {b} w p = record {
  at = λ i h. elim (cases_lt i w) [
    | inl k ↦ mod_digit b w i k ∙ p.at i (sym (mod_digit a w i k) ∙ h)
    | inr k ↦ absurd (lacks_not (a % 2 ^ w) i (low_digit (a % 2 ^ w) i w (mod-lt a (pow_pos w)) k) h)
  ];
}

-- the atoms of a set below a width are in the set
pub clipped_within : (w s : ℕ) → Within (clipped w s) s
clipped_within w s = record {
  at = λ i h. elim (cases_lt i w) [
    | inl k ↦ sym (mod_digit s w i k) ∙ h
    | inr k ↦ absurd (lacks_not (clipped w s) i (low_digit (clipped w s) i w (mod-lt s (pow_pos w)) k) h)
  ];
}

-- what is within below a width is so below a smaller one
pub within_narrow : (a b v w : ℕ) → v ≤ w → Within (a % 2 ^ w) (b % 2 ^ w) → Within (a % 2 ^ v) (b % 2 ^ v)
within_narrow a b v w h p = rw (← mod_mod_wide a v w h, ← mod_mod_wide b v w h) (within_mod v p)
