-- The digits of sets, of unions, intersections and complements, and that sets with the same atoms are equal.
use Rattle.std.proofs.Common.{◌≡◌, ℕ, zero, suc, ◌+◌, ◌-◌, ◌/◌, ◌%◌, ◌^◌, ◌<◌, ◌≤◌, ◌⊎◌, min, sym, refl, ap, ◌∙◌, ap₂, inl, inr, lt_of_lt_of_le, mod-lt, mod-eq_of_lt, zero-lt-suc, pow-suc, one-add, arith, pow_pos, pow_mono, pow-add, shr-shr}
use native.Mathlib.Nat.{mul-mod_right, div-eq_of_lt}
use lib.Arith.{bin_ind}
use lib.Bits.{bit_and, bit_or, bit_xor, and_shr, or_shr, xor_shr, and_mod, or_mod, xor_mod}
use lib.Pow.{pow-lt, mod-mod-pow, field}
use Rattle.std.proofs.lemmas.Bool.{cases_eq, cases_lt}
use Rattle.atoms.specs.Sets.{digit, Has}

pub digit_lt : (s i : ℕ) → digit s i < 2
digit_lt s i = mod-lt (s / 2 ^ i) (zero-lt-suc 1)

pub has_or_lacks : (s i : ℕ) → (Has s i) ⊎ (digit s i ≡ 0)
has_or_lacks s i = pick (digit s i) refl (digit_lt s i)
  where
    pick : (d : ℕ) → digit s i ≡ d → d < 2 → (digit s i ≡ 1) ⊎ (digit s i ≡ 0)
    pick zero e h = inr e
    pick (suc zero) e h = inl e
    pick (suc (suc d)) e h = absurd (omega arith)

pub lacks_not : (s i : ℕ) → digit s i ≡ 0 → Has s i → ⊥
lacks_not s i p q = omega arith

pub lacks_from : (s i : ℕ) → (Has s i → ⊥) → digit s i ≡ 0
lacks_from s i f = elim (has_or_lacks s i) [ inl h ↦ absurd (f h) | inr e ↦ e ]

-- the digit at i + 1 is the digit at i of the half
pub digit_suc : (s i : ℕ) → digit s (suc i) ≡ digit (s / 2) i
digit_suc s i = ap (λ (x : ℕ). s / 2 ^ x % 2) (sym (one-add i)) ∙ ap (λ (x : ℕ). x % 2) (sym (shr-shr s 1 i))

-- ---- the digits of the operations
pub and_digit : (a b i : ℕ) → digit (bit_and a b) i ≡ bit_and (digit a i) (digit b i)
and_digit a b i = ap (λ (x : ℕ). x % 2) (and_shr a b i) ∙ and_mod (a / 2 ^ i) (b / 2 ^ i) 1

pub or_digit : (a b i : ℕ) → digit (bit_or a b) i ≡ bit_or (digit a i) (digit b i)
or_digit a b i = ap (λ (x : ℕ). x % 2) (or_shr a b i) ∙ or_mod (a / 2 ^ i) (b / 2 ^ i) 1

pub xor_digit : (a b i : ℕ) → digit (bit_xor a b) i ≡ bit_xor (digit a i) (digit b i)
xor_digit a b i = ap (λ (x : ℕ). x % 2) (xor_shr a b i) ∙ xor_mod (a / 2 ^ i) (b / 2 ^ i) 1

-- has of the intersection
pub has_and : (a b i : ℕ) → Has a i → Has b i → Has (bit_and a b) i
has_and a b i p q = and_digit a b i ∙ ap₂ bit_and p q

pub has_and_l : (a b i : ℕ) → Has (bit_and a b) i → Has a i
has_and_l a b i h = elim (has_or_lacks a i) [
  | inl p ↦ p
  | inr e ↦ absurd (lacks_not (bit_and a b) i (and_digit a b i ∙ ap (λ (x : ℕ). bit_and x (digit b i)) e) h)
]

and_zero : (d e : ℕ) → d < 2 → e ≡ 0 → bit_and d e ≡ 0
and_zero zero e h p = refl
and_zero (suc zero) e h p = ap (bit_and 1) p
and_zero (suc (suc d)) e h p = absurd (omega arith)

pub has_and_r : (a b i : ℕ) → Has (bit_and a b) i → Has b i
has_and_r a b i h = elim (has_or_lacks b i) [
  | inl p ↦ p
  | inr e ↦ absurd (lacks_not (bit_and a b) i (and_digit a b i ∙ and_zero (digit a i) (digit b i) (digit_lt a i) e) h)
]

-- has of the union
or_one_r : (d : ℕ) → d < 2 → bit_or d 1 ≡ 1
or_one_r zero h = refl
or_one_r (suc zero) h = refl
or_one_r (suc (suc d)) h = absurd (omega arith)

or_one_l : (d : ℕ) → d < 2 → bit_or 1 d ≡ 1
or_one_l zero h = refl
or_one_l (suc zero) h = refl
or_one_l (suc (suc d)) h = absurd (omega arith)

pub has_or_l : (a b i : ℕ) → Has a i → Has (bit_or a b) i
has_or_l a b i h = or_digit a b i ∙ ap (λ (x : ℕ). bit_or x (digit b i)) h ∙ or_one_l (digit b i) (digit_lt b i)

pub has_or_r : (a b i : ℕ) → Has b i → Has (bit_or a b) i
has_or_r a b i h = or_digit a b i ∙ ap (bit_or (digit a i)) h ∙ or_one_r (digit a i) (digit_lt a i)

pub has_or_cases : (a b i : ℕ) → Has (bit_or a b) i → (Has a i) ⊎ (Has b i)
has_or_cases a b i h = elim (has_or_lacks a i) [
  | inl p ↦ inl p
  | inr e ↦ inr (sym (or_digit a b i ∙ ap (λ (x : ℕ). bit_or x (digit b i)) e) ∙ h)
]

-- ---- extensionality
pub digit_zero : (s : ℕ) → digit s 0 ≡ s % 2
digit_zero s = ap (λ (x : ℕ). x % 2) (native.Mathlib.Nat.div-one s)

pub empty_zero : (b : ℕ) → ((i : ℕ) → digit b i ≡ 0) → b ≡ 0
empty_zero = bin_ind (λ (n : ℕ). ((i : ℕ) → digit n i ≡ 0) → n ≡ 0) (λ _. refl)
    (λ n ih f.
    let h : n / 2 ≡ 0 = ih (λ i. sym (digit_suc n i) ∙ f (suc i)) in
    let p : n % 2 ≡ 0 = sym (digit_zero n) ∙ f 0 in
    omega arith)

pub digit_of_zero : (i : ℕ) → digit 0 i ≡ 0
digit_of_zero i = ap (λ (x : ℕ). x % 2) (div-eq_of_lt (pow_pos i))

pub ext : (a b : ℕ) → ((i : ℕ) → digit a i ≡ digit b i) → a ≡ b
ext = bin_ind (λ (n : ℕ). (b : ℕ) → ((i : ℕ) → digit n i ≡ digit b i) → n ≡ b)
    (λ b f. sym (empty_zero b (λ i. sym (f i) ∙ digit_of_zero i)))
    (λ n ih b f.
    let h : n / 2 ≡ b / 2 = ih (b / 2) (λ i. sym (digit_suc n i) ∙ f (suc i) ∙ digit_suc b i) in
    let p : n % 2 ≡ b % 2 = sym (digit_zero n) ∙ f 0 ∙ digit_zero b in
    omega arith)

pub same_digit : (a b i : ℕ) → (Has a i → Has b i) → (Has b i → Has a i) → digit a i ≡ digit b i
same_digit a b i f g = elim (has_or_lacks a i) [
  | inl p ↦ p ∙ sym (f p)
  | inr e ↦ e ∙ sym (lacks_from b i (λ q. lacks_not a i e (g q)))
]

-- ---- the atoms below a width
pub low_digit : (s i w : ℕ) → s < 2 ^ w → w ≤ i → digit s i ≡ 0
low_digit s i w h p = ap (λ (x : ℕ). x % 2) (div-eq_of_lt (lt_of_lt_of_le h (pow_mono p)))

-- a shorter mask after a longer one
pub mod_mod_wide : (n v w : ℕ) → v ≤ w → n % 2 ^ w % 2 ^ v ≡ n % 2 ^ v
mod_mod_wide n v w h =
    let e : w ≡ (w - v) + v = omega arith in
    ap (λ (x : ℕ). n % 2 ^ x % 2 ^ v) e ∙ mod-mod-pow n (w - v) v

-- ---- complement, masks and single atoms
pub not_digit : (w x i : ℕ) → x < 2 ^ w → i < w → digit (2 ^ w - 1 - x) i ≡ 1 - digit x i
not_digit zero x i h k = absurd (omega arith)
not_digit (suc w) x zero h k =
    digit_zero (2 ^ suc w - 1 - x) ∙ low ∙ ap (λ (d : ℕ). 1 - d) (sym (digit_zero x))
  where
    low : (2 ^ suc w - 1 - x) % 2 ≡ 1 - x % 2
    low = omega (arith, pow-suc 2 w)
not_digit (suc w) x (suc i) h k =
    digit_suc (2 ^ suc w - 1 - x) i ∙ ap (λ (n : ℕ). digit n i) halves ∙ not_digit w (x / 2) i below (omega arith) ∙ ap (λ (d : ℕ). 1 - d) (sym (digit_suc x i))
  where
    halves : (2 ^ suc w - 1 - x) / 2 ≡ 2 ^ w - 1 - x / 2
    halves = omega (arith, pow-suc 2 w)

    below : x / 2 < 2 ^ w
    below = omega (arith, pow-suc 2 w)

-- the atoms below w that are not in x
pub not_has : (w x i : ℕ) → x < 2 ^ w → i < w → digit x i ≡ 0 → Has (2 ^ w - 1 - x) i
not_has w x i h k e = not_digit w x i h k ∙ ap (λ (d : ℕ). 1 - d) e

pub not_lacks : (w x i : ℕ) → x < 2 ^ w → Has (2 ^ w - 1 - x) i → digit x i ≡ 0
not_lacks w x i h p = elim (cases_lt i w) [
  | inl k ↦ omega (arith, not_digit w x i h k)
  | inr k ↦ low_digit x i w h k
]

pub mod_digit : (s w i : ℕ) → i < w → digit (s % 2 ^ w) i ≡ digit s i
mod_digit s w i h =
    let e : (w - i) + i ≡ w = omega arith in
    ap (λ (x : ℕ). digit (s % 2 ^ x) i) (sym e) ∙ ap (λ (x : ℕ). x % 2) (field s (w - i) i) ∙ mod_mod_wide (s / 2 ^ i) 1 (w - i) (omega arith)

pub pow_has : (i : ℕ) → Has (2 ^ i) i
pow_has zero = refl
pow_has (suc i) = digit_suc (2 ^ suc i) i ∙ ap (λ (x : ℕ). digit x i) (omega (arith, pow-suc 2 i)) ∙ pow_has i

pub pow_other : (i j : ℕ) → (i ≡ j → ⊥) → digit (2 ^ i) j ≡ 0
pow_other zero zero f = absurd (f refl)
pow_other zero (suc j) f = digit_suc 1 j ∙ digit_of_zero j
pow_other (suc i) zero f = digit_zero (2 ^ suc i) ∙ omega (arith, pow-suc 2 i)
pow_other (suc i) (suc j) f = digit_suc (2 ^ suc i) j ∙ ap (λ (x : ℕ). digit x j) (omega (arith, pow-suc 2 i)) ∙ pow_other i j (λ e. f (ap suc e))

-- where a set is an atom alone
pub pow_only : (i j : ℕ) → Has (2 ^ i) j → i ≡ j
pow_only i j h = elim (cases_eq i j) [ inl e ↦ e | inr n ↦ absurd (lacks_not (2 ^ i) j (pow_other i j n) h) ]

-- an atom below the width stays, and one at or above it does not
pub pow_mod_same : (w i : ℕ) → i < w → 2 ^ i % 2 ^ w ≡ 2 ^ i
pow_mod_same w i h = mod-eq_of_lt (pow-lt h)

pub pow_mod_zero : (w i : ℕ) → w ≤ i → 2 ^ i % 2 ^ w ≡ 0
pow_mod_zero w i h =
    let e : i ≡ w + (i - w) = omega arith in
    ap (λ (x : ℕ). 2 ^ x % 2 ^ w) e ∙ ap (λ (x : ℕ). x % 2 ^ w) (pow-add 2 w (i - w)) ∙ mul-mod_right (2 ^ w) (2 ^ (i - w))

-- a set of 64 atoms has no more below a width than below the least of that and 64
pub mod_min : (s w : ℕ) → s < 2 ^ 64 → s % 2 ^ min w 64 ≡ s % 2 ^ w
mod_min s w small = elim (cases_lt w 64) [
  | inl h ↦ let e : min w 64 ≡ w = omega arith in ap (λ (k : ℕ). s % 2 ^ k) e
  | inr h ↦
      let e : min w 64 ≡ 64 = omega arith in
      ap (λ (k : ℕ). s % 2 ^ k) e ∙ mod-eq_of_lt small ∙ sym (mod-eq_of_lt (lt_of_lt_of_le small (pow_mono h)))
]
