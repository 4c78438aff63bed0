-- A set that grows by one atom after another, as each is judged.
use Rattle.std.proofs.Common.{◌≡◌, ℕ, ◌+◌, ◌^◌, ◌<◌, Bool, true, false, cond, eqb, sym, ap, ◌∙◌, subst, inl, inr, pow-suc, one-add, add-one, arith, pow_pos, lt_of_lt_of_le, pow_mono}
use lib.Bits.{bit_or, or_lt, or_zero_r}
use Rattle.std.proofs.lemmas.Bool.{cases_eq, cases_lt, eqb-true, eq-eqb, ne_eqb}
use Rattle.atoms.specs.Sets.{digit, Has, has, clipped, collected}
use Rattle.atoms.proofs.Digits.{has_or_l, has_or_r, has_or_cases, low_digit, pow_has, pow_only, pow_mod_same, same_digit}
use Rattle.atoms.proofs.Collecting.{collected_is}

-- what is so of each atom below a width, by whether the set has it; and the set has no other atom
pub record Judged (P : ℕ → Bool → Type 0) (n s : ℕ) : Type 0 where
  pub below : s < 2 ^ n
  pub has : (i : ℕ) → i < n → P i (has s i)

-- ---- one atom
has_then : (s i : ℕ) → Has s i → has s i ≡ true
has_then s i h = eq-eqb (digit s i) 1 h

lacks_then : (s i : ℕ) → (Has s i → ⊥) → has s i ≡ false
lacks_then s i f = ne_eqb (digit s i) 1 f

has_same : (s t i : ℕ) → digit s i ≡ digit t i → has s i ≡ has t i
has_same s t i e = ap (λ (d : ℕ). eqb d 1) e

wider : (n s : ℕ) → s < 2 ^ n → s < 2 ^ (n + 1)
wider n s h = lt_of_lt_of_le h (pow_mono (omega arith))

pub judged_none : (P : ℕ → Bool → Type 0) → Judged P 0 0
judged_none P = record { below = omega arith; has = λ i h. absurd (omega arith) }

module _ {P : ℕ → Bool → Type 0} {n s : ℕ} (judged : Judged P n s) where
  pub judged_out : P n false → Judged P (n + 1) s
  judged_out p = record {
    below = wider n s judged.below;
    has = λ i h. elim (cases_eq i n) [
      | inl e ↦ subst (λ (k : ℕ). P k (has s k)) (sym e) (subst (P n) (sym (lacks_then s n (λ d. let z = low_digit s n n judged.below (omega arith) in omega arith))) p)
      | inr d ↦ judged.has i (omega arith)
    ];
  }

  old : (i : ℕ) → i < n → has (bit_or s (2 ^ n)) i ≡ has s i
  old i h = has_same (bit_or s (2 ^ n)) s i (same_digit (bit_or s (2 ^ n)) s i
      (λ x. elim (has_or_cases s (2 ^ n) i x) [ inl y ↦ y | inr y ↦ absurd (let e = pow_only n i y in omega arith) ])
      (has_or_l s (2 ^ n) i))

  pub judged_in : {a : ℕ} → a ≡ clipped 64 (2 ^ n) → n < 64 → P n true → Judged P (n + 1) (bit_or s a)
  judged_in {a} e k p = subst (λ (x : ℕ). Judged P (n + 1) (bit_or s x)) (sym (e ∙ pow_mod_same 64 n k)) (record {
    below = or_lt (n + 1) s (2 ^ n) (wider n s judged.below) (omega (arith, pow-suc 2 n, one-add n, pow_pos n, ap (λ (x : ℕ). 2 ^ x) (one-add n), ap (λ (x : ℕ). 2 ^ x) (add-one n)));
    has = λ i h. elim (cases_eq i n) [
      | inl e ↦ subst (λ (x : ℕ). P x (has (bit_or s (2 ^ n)) x)) (sym e) (subst (P n) (sym (has_then (bit_or s (2 ^ n)) n (has_or_r s (2 ^ n) n (pow_has n)))) p)
      | inr d ↦ subst (P i) (sym (old i (omega arith))) (judged.has i (omega arith))
    ];
  })

  pub judged_next : {a : ℕ} (b : Bool) → a ≡ cond b (clipped 64 (2 ^ n)) 0 → n < 64 → P n b → Judged P (n + 1) (bit_or s a)
  judged_next true e k p = judged_in e k p
  judged_next false e k p = subst (λ (x : ℕ). Judged P (n + 1) x) (sym (ap (bit_or s) e ∙ or_zero_r s)) (judged_out p)

-- where the judgement is that of a test, the set is what the test collects
pub judged_collected : (p : ℕ → Bool) {n s : ℕ} → Judged (λ i b. b ≡ p i) n s → s ≡ collected p n
judged_collected p {n} {s} judged = collected_is p n s
    (λ i h. elim (cases_lt i n) [
      | inl k ↦ (k, sym (judged.has i k) ∙ has_then s i h)
      | inr k ↦ absurd (let z = low_digit s i n judged.below k in omega arith)
    ])
    (λ i k e. eqb-true (digit s i) 1 (judged.has i k ∙ e))
