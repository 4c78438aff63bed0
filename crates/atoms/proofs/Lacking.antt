-- The atoms of one set that another lacks, as `a & !b` has them, and sets that have no atom in common, or some.
use Rattle.std.proofs.Common.{◌≡◌, ℕ, suc, ◌-◌, ◌^◌, ◌<◌, sym, refl, ap, ◌∙◌, subst, inl, inr, arith}
use lib.Arith.{bin_ind}
use lib.Bits.{bit_and}
use Rattle.std.proofs.lemmas.Bool.{cases_lt}
use Rattle.atoms.specs.Sets.{digit, Has, Within, Apart, lacking}
use Rattle.atoms.proofs.Digits.{digit_of_zero, digit_zero, digit_suc, empty_zero, has_or_lacks, lacks_not, lacks_from, has_and, has_and_l, has_and_r, low_digit, not_has, not_lacks, pow_only}

pub below_wide : (w s i : ℕ) → s < 2 ^ w → Has s i → i < w
below_wide w s i h p = elim (cases_lt i w) [ inl k ↦ k | inr k ↦ absurd (lacks_not s i (low_digit s i w h k) p) ]

module _ (a b : ℕ) (ha : a < 2 ^ 64) (hb : b < 2 ^ 64) where
  pub lacking_has : (i : ℕ) → Has (lacking a b) i → Has a i
  lacking_has i p = has_and_l a (2 ^ 64 - 1 - b) i p

  pub lacking_lacks : (i : ℕ) → Has (lacking a b) i → digit b i ≡ 0
  lacking_lacks i p = not_lacks 64 b i hb (has_and_r a (2 ^ 64 - 1 - b) i p)

  pub lacking_in : (i : ℕ) → Has a i → digit b i ≡ 0 → Has (lacking a b) i
  lacking_in i p e = has_and a (2 ^ 64 - 1 - b) i p (not_has 64 b i hb (below_wide 64 a i ha p) e)

-- the larger set and the fewer atoms taken from it leave more
pub lacking_within : {a b c d : ℕ} → b < 2 ^ 64 → c < 2 ^ 64 → d < 2 ^ 64 → Within a c → Within d b → Within (lacking a b) (lacking c d)
lacking_within {a} {b} {c} {d} hb hc hd p q = record {
  at = λ i h. lacking_in c d hc hd i (p.at i (has_and_l a (2 ^ 64 - 1 - b) i h))
      (lacks_from d i (λ x. lacks_not b i (not_lacks 64 b i hb (has_and_r a (2 ^ 64 - 1 - b) i h)) (q.at i x)));
}

-- ---- no atom in common
pub apart_from : (a b : ℕ) → bit_and a b ≡ 0 → Apart a b
apart_from a b e i p q = lacks_not (bit_and a b) i (ap (λ (x : ℕ). digit x i) e ∙ digit_of_zero i) (has_and a b i p q)

pub zero_apart : (a : ℕ) → Apart 0 a
zero_apart a i p q = lacks_not 0 i (digit_of_zero i) p

-- an atom that a set lacks, alone
pub atom_apart : (i a : ℕ) → digit a i ≡ 0 → Apart (2 ^ i) a
atom_apart i a e j p q = lacks_not a i e (subst (Has a) (sym (pow_only i j p)) q)

pub apart_none : (a b : ℕ) → Apart a b → bit_and a b ≡ 0
apart_none a b f = empty_zero (bit_and a b) (λ i. lacks_from (bit_and a b) i (λ h. f i (has_and_l a b i h) (has_and_r a b i h)))

-- ---- some atom in common
some_atom : (s : ℕ) → (s ≡ 0 → ⊥) → (i : ℕ) × Has s i
some_atom = bin_ind (λ (n : ℕ). (n ≡ 0 → ⊥) → (i : ℕ) × Has n i) (λ f. absurd (f refl))
    (λ n ih f. elim (has_or_lacks n 0) [
      | inl h ↦ (0, h)
      | inr e ↦ (let r = ih (λ z. f (omega (arith, sym (digit_zero n) ∙ e))) in (suc r.0, digit_suc n r.0 ∙ r.1))
    ])

pub common_atom : (a b : ℕ) → (bit_and a b ≡ 0 → ⊥) → (i : ℕ) × (Has a i × Has b i)
common_atom a b f = let r = some_atom (bit_and a b) f in (r.0, (has_and_l a b r.0 r.1, has_and_r a b r.0 r.1))
