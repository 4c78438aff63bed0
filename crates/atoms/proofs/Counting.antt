-- How many atoms a set has.
use Rattle.std.proofs.Common.{◌≡◌, ℕ, ◌/◌, ◌<◌, ◌≤◌, refl, ap, inl, inr, arith}
use lib.Arith.{bin_ind}
use lib.Count.{ones, ones_in, ones_step}
use Rattle.std.proofs.lemmas.Bool.{cases_eq}
use Rattle.atoms.specs.Sets.{Within}
use Rattle.atoms.proofs.Inclusion.{within_half, within_low}

-- ---- how many atoms
pub ones_zero : ones 0 ≡ 0
unfolding ones ones_in
ones_zero = refl

ones_pos : (b : ℕ) → (0 ≡ b → ⊥) → 0 < ones b
ones_pos = bin_ind (λ (n : ℕ). (0 ≡ n → ⊥) → 0 < ones n) (λ f. absurd (f refl))
    (λ n ih f. elim (cases_eq 0 (n / 2)) [
      | inl e ↦ omega (arith, ones_step n)
      | inr d ↦ omega (arith, ones_step n, ih d)
    ])

pub ones_within : (a b : ℕ) → Within a b → ones a ≤ ones b
ones_within = bin_ind (λ (n : ℕ). (b : ℕ) → Within n b → ones n ≤ ones b) (λ b p. omega (arith, ones_zero))
    (λ n ih b p. omega (arith, ones_step n, ones_step b, ih (b / 2) (within_half p), within_low p))

-- a strictly larger set has more atoms: a chain that rises strictly below 2 ^ w has at most w steps (`ones-le`)
pub ones_strict : (a b : ℕ) → Within a b → (a ≡ b → ⊥) → ones a < ones b
ones_strict = bin_ind (λ (n : ℕ). (b : ℕ) → Within n b → (n ≡ b → ⊥) → ones n < ones b) (λ b p f. omega (arith, ones_zero, ones_pos b f))
    (λ n ih b p f. elim (cases_eq (n / 2) (b / 2)) [
      | inl e ↦ omega (arith, ones_step n, ones_step b, ap ones e, within_low p)
      | inr d ↦ omega (arith, ones_step n, ones_step b, ih (b / 2) (within_half p) d, within_low p)
    ])
