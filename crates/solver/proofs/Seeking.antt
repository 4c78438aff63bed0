-- The first after a given interpretation: where none is left, where there is one only, and from the answers for two parts.
use Rattle.std.specs.Bool.{then_some}
use Rattle.std.proofs.Common.{◌≡◌, ℕ, Bool, true, false, Decides, Some, None, Option, sym, refl, subst, inl, inr}
use Rattle.std.proofs.lemmas.Bool.{false≢true}
use Rattle.atoms.specs.Order.{Before}
use Rattle.atoms.specs.declared.bounds.Bounds.{Bounds}
use Rattle.atoms.proofs.Ordering.{before_trans, within_first}
use Rattle.approx.specs.Meanings.{Meaning}
use Rattle.solver.specs.Search.{Inside, Only, Joins, After, NoneAfter, Sought}

-- the upper comes last between the bounds
pub last_none : {m : Meaning} {b : Bounds} (after : Option ℕ) → (After after b.upper → ⊥) → NoneAfter (Inside m b) after
last_none None f x a i = f tt
last_none (Some z) f x a i = elim (within_first i.between.1) [ inl e ↦ f (subst (Before z) (sym e) a) | inr r ↦ f (before_trans a r) ]

-- d is whether the only one comes after it
pub only_sought : {P : ℕ → Type 0} {z : ℕ} (after : Option ℕ) (d : Bool) → Only P z → Decides d (After after z) → Sought P after (then_some d z)
only_sought after true o t = record { later = t.0 refl; here = o.here; first = λ x q p. inl (o.one x p) }
only_sought after false o t = λ x a p. false≢true (t.1 (subst (After after) (o.one x p) a))

module _ {P Q R : ℕ → Type 0} (j : Joins P Q R) (after : Option ℕ) where
  -- what comes first in the first part comes first
  pub first_answer : (o : Option ℕ) → (o ≡ None → ⊥) → Sought Q after o → Sought P after o
  first_answer None n h = absurd (n refl)
  first_answer (Some y) n h = record {
    later = h.later;
    here = j.first_in y h.here;
    first = λ x a p. elim (j.either x p) [ inl q ↦ h.first x a q | inr r ↦ inr (j.ahead y x h.here r) ];
  }

  -- where the first part has none after it, the second part's answer is the answer
  pub second_answer : (o : Option ℕ) → NoneAfter Q after → Sought R after o → Sought P after o
  second_answer None n h = λ x a p. elim (j.either x p) [ inl q ↦ n x a q | inr r ↦ h x a r ]
  second_answer (Some y) n h = record {
    later = h.later;
    here = j.second_in y h.here;
    first = λ x a p. elim (j.either x p) [ inl q ↦ absurd (n x a q) | inr r ↦ h.first x a r ];
  }
