-- The open atoms of bounds: which they are, and that closer bounds have fewer.
use Rattle.std.proofs.Common.{◌≡◌, ℕ, ◌^◌, ◌<◌, ◌≤◌, true, not, ap, ◌∙◌, inl, inr}
use Rattle.std.proofs.lemmas.Bool.{cases_Bool, and_parts, and_from, eqb-true, eq-eqb, ne_eqb, not-true, eqb-false}
use Rattle.atoms.specs.Sets.{digit, Has, has, Within, lacking, collected}
use Rattle.atoms.specs.Bounded.{is_open, open_count}
use Rattle.atoms.specs.declared.bounds.Bounds.{Bounds}
use Rattle.atoms.proofs.Digits.{digit_of_zero, has_or_lacks, lacks_not, lacks_from}
use Rattle.atoms.proofs.Collecting.{collected_in, collected_is, how_many_le, how_many_less}
use Rattle.atoms.proofs.Lacking.{below_wide, lacking_has, lacking_lacks, lacking_in}

-- ---- one atom
module _ (b : Bounds) (i : ℕ) where
  pub open_then : is_open b i ≡ true → Has b.upper i × (digit b.lower i ≡ 0)
  open_then t =
      let q = and_parts (has b.upper i) (not (has b.lower i)) t in
      (eqb-true (digit b.upper i) 1 q.0, lacks_from b.lower i (eqb-false (digit b.lower i) 1 (not-true (has b.lower i) q.1)))

  pub then_open : Has b.upper i → digit b.lower i ≡ 0 → is_open b i ≡ true
  then_open p e =
      and_from (has b.upper i) (not (has b.lower i)) (eq-eqb (digit b.upper i) 1 p) (ap not (ne_eqb (digit b.lower i) 1 (lacks_not b.lower i e)))

-- ---- all of them
-- the open atoms, as `u & !l` has them
pub open_collected : (b : Bounds) → b.lower < 2 ^ 64 → b.upper < 2 ^ 64 → lacking b.upper b.lower ≡ collected (is_open b) 64
open_collected b hl hu = collected_is (is_open b) 64 (lacking b.upper b.lower)
    (λ i h.
    let p = lacking_has b.upper b.lower hu hl i h in
    (below_wide 64 b.upper i hu p, then_open b i p (lacking_lacks b.upper b.lower hu hl i h)))
    (λ i k t. let q = open_then b i t in lacking_in b.upper b.lower hu hl i q.0 q.1)

-- an atom of the upper that is not among the open ones is in the lower
pub closed_lower : (b : Bounds) (i : ℕ) → b.upper < 2 ^ 64 → digit (collected (is_open b) 64) i ≡ 0 → Has b.upper i → Has b.lower i
closed_lower b i hu e p = elim (has_or_lacks b.lower i) [
  | inl q ↦ q
  | inr n ↦ absurd (lacks_not (collected (is_open b) 64) i e (collected_in (is_open b) 64 i (below_wide 64 b.upper i hu p) (then_open b i p n)))
]

pub none_open : (b : Bounds) → b.upper < 2 ^ 64 → collected (is_open b) 64 ≡ 0 → Within b.upper b.lower
none_open b hu e = record { at = λ i p. closed_lower b i hu (ap (λ (x : ℕ). digit x i) e ∙ digit_of_zero i) p }

-- ---- closer bounds
module _ (b c : Bounds) (rises : Within b.lower c.lower) (sinks : Within c.upper b.upper) where
  still_open : (i : ℕ) → is_open c i ≡ true → is_open b i ≡ true
  still_open i t =
      let q = open_then c i t in
      then_open b i (sinks.at i q.0) (lacks_from b.lower i (λ h. lacks_not c.lower i q.1 (rises.at i h)))

  pub open_no_more : open_count c ≤ open_count b
  open_no_more = how_many_le (is_open c) (is_open b) 64 still_open

  -- an atom that was open and is not any more
  pub open_fewer : (i : ℕ) → i < 64 → is_open b i ≡ true → (is_open c i ≡ true → ⊥) → open_count c < open_count b
  open_fewer i k t f = elim (cases_Bool (is_open c i)) [
    | inl q ↦ absurd (f q)
    | inr q ↦ how_many_less (is_open c) (is_open b) 64 i still_open k q t
  ]
