-- Settling as a computed test: where it passes, the bounds are the settled ones.
use Rattle.std.proofs.Common.{◌≡◌, ℕ, zero, suc, Bool, true, false, cond, ◌&&◌, eqb, sym, refl, ap, ◌∙◌, subst, ap₂, inl, inr}
use Rattle.std.proofs.lemmas.Bool.{false≢true, and_parts, eqb-true, eq-eqb, cases_eq, cases_Bool}
use Rattle.atoms.specs.declared.bounds.Bounds.{Bounds}
use Rattle.approx.specs.Meanings.{Meaning}
use Rattle.approx.specs.Settling.{Climbs, rests, goes, NextBounds, Settles}
use Rattle.approx.proofs.Rounding.{SettleWay, settle_turn, settle_end, same_bounds}

-- ---- climbs
-- f, so many times
abbrev pub climbed : ℕ → (ℕ → ℕ) → ℕ → ℕ
climbed zero f c = c
climbed (suc k) f c = climbed k f (f c)

climbed_rests : (k : ℕ) (f : ℕ → ℕ) (c : ℕ) → f c ≡ c → climbed k f c ≡ c
climbed_rests zero f c e = refl
climbed_rests (suc k) f c e = ap (climbed k f) e ∙ climbed_rests k f c e

-- where f rests after so many times, there the climb ends
climbed_climbs : (k : ℕ) (f : ℕ → ℕ) (c : ℕ) → f (climbed k f c) ≡ climbed k f c → Climbs f c (climbed k f c)
climbed_climbs zero f c e = rests e
climbed_climbs (suc k) f c e = elim (cases_eq (f c) c) [
  | inl r ↦ subst (Climbs f c) (sym (ap (climbed k f) r ∙ climbed_rests k f c r)) (rests r)
  | inr n ↦ goes n (climbed_climbs k f (f c) e)
]

-- ---- rounds
-- the bounds after b, by climbs of so many steps
abbrev pub after : ℕ → Meaning → Bounds → Bounds
after k m b = record { lower = climbed k (λ x. m.sure x b.upper) 0; upper = climbed k (λ x. m.may b.lower x) b.lower }

-- both climbs have come to rest at c
abbrev pub rested : Meaning → Bounds → Bounds → Bool
rested m b c = eqb (m.sure c.lower b.upper) c.lower && eqb (m.may b.lower c.upper) c.upper

abbrev pub same : Bounds → Bounds → Bool
same b c = eqb b.lower c.lower && eqb b.upper c.upper

after_next : (k : ℕ) (m : Meaning) (b : Bounds) → rested m b (after k m b) ≡ true → NextBounds m b (after k m b)
after_next k m b e =
    let both = and_parts (eqb (m.sure (after k m b).lower b.upper) (after k m b).lower) (eqb (m.may b.lower (after k m b).upper) (after k m b).upper) e in
    record {
      lower = climbed_climbs k (λ x. m.sure x b.upper) 0 (eqb-true _ _ both.0);
      upper = climbed_climbs k (λ x. m.may b.lower x) b.lower (eqb-true _ _ both.1);
    }

same_true : (b c : Bounds) → same b c ≡ true → b ≡ c
same_true b c e = let both = and_parts (eqb b.lower c.lower) (eqb b.upper c.upper) e in same_bounds b c (eqb-true _ _ both.0) (eqb-true _ _ both.1)

true_same : (b c : Bounds) → b ≡ c → same b c ≡ true
true_same b c e = ap₂ ◌&&◌ (eq-eqb _ _ (ap (λ (x : Bounds). x.lower) e)) (eq-eqb _ _ (ap (λ (x : Bounds). x.upper) e))

-- ---- settling
-- from b, settling comes to d within so many rounds
abbrev pub settles_to : ℕ → ℕ → Meaning → Bounds → Bounds → Bool
settles_to zero k m b d = false
settles_to (suc n) k m b d = rested m b (after k m b) && cond (same b (after k m b)) (same b d) (settles_to n k m (after k m b) d)

pub settles_sound : (n k : ℕ) (m : Meaning) (b d : Bounds) → SettleWay m b → settles_to n k m b d ≡ true → Settles m d
settles_sound zero k m b d w e = absurd (false≢true e)
settles_sound (suc n) k m b d w e =
    let c : Bounds = after k m b in
    let both = and_parts (rested m b c) (cond (same b c) (same b d) (settles_to n k m c d)) e in
    let next : NextBounds m b c = after_next k m b both.0 in
    elim (cases_Bool (same b c)) [
      | inl t ↦ subst (Settles m) (same_true b d (ap (λ (x : Bool). cond x (same b d) (settles_to n k m c d)) (sym t) ∙ both.1)) (settle_end w next (same_true b c t))
      | inr f ↦
          settles_sound n k m c d
          (settle_turn w next (λ q. false≢true (sym f ∙ true_same b c q)))
          (ap (λ (x : Bool). cond x (same b d) (settles_to n k m c d)) (sym f) ∙ both.1)
    ]
