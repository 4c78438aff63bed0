-- Sets moved up and down: atom i moved up by p is atom p + i.
use Rattle.std.proofs.Common.{◌≡◌, ℕ, ◌+◌, ◌-◌, ◌*◌, ◌/◌, ◌%◌, ◌^◌, ◌<◌, sym, ap, ◌∙◌, subst, inl, inr, arith, shr-shr}
use native.Mathlib.Nat.{mul-mod_left}
use Rattle.std.proofs.lemmas.Nat.{shl-shr}
use Rattle.std.proofs.lemmas.Bool.{cases_lt}
use Rattle.atoms.specs.Sets.{digit, Has, Within}
use Rattle.atoms.proofs.Digits.{digit_of_zero, lacks_not, mod_digit}

digit_down : (s p i : ℕ) → digit (s / 2 ^ p) i ≡ digit s (p + i)
digit_down s p i = ap (λ (x : ℕ). x % 2) (shr-shr s p i)

digit_up : (s p i : ℕ) → digit (s * 2 ^ p) (p + i) ≡ digit s i
digit_up s p i = sym (digit_down (s * 2 ^ p) p i) ∙ ap (λ (x : ℕ). digit x i) (shl-shr s p)

-- nothing is moved up to below p
digit_up_low : (s p i : ℕ) → i < p → digit (s * 2 ^ p) i ≡ 0
digit_up_low s p i h = sym (mod_digit (s * 2 ^ p) p i h) ∙ ap (λ (x : ℕ). digit x i) (mul-mod_left s (2 ^ p)) ∙ digit_of_zero i

pub within_down : {a b : ℕ} (p : ℕ) → Within a b → Within (a / 2 ^ p) (b / 2 ^ p)
within_down {a} {b} p q = record { at = λ i h. digit_down b p i ∙ q.at (p + i) (sym (digit_down a p i) ∙ h) }

pub within_up : {a b : ℕ} (p : ℕ) → Within a b → Within (a * 2 ^ p) (b * 2 ^ p)
within_up {a} {b} p q = record {
  at = λ i h. elim (cases_lt i p) [
    | inl k ↦ absurd (lacks_not (a * 2 ^ p) i (digit_up_low a p i k) h)
    | inr k ↦
        let e : p + (i - p) ≡ i = omega arith in
        subst (Has (b * 2 ^ p)) e (digit_up b p (i - p) ∙ q.at (i - p) (sym (digit_up a p (i - p)) ∙ subst (Has (a * 2 ^ p)) (sym e) h))
  ];
}
