-- The climb of sure has an end, so every interpretation is stable or not.
use Rattle.std.proofs.Common.{ℕ, zero, suc, ◌-◌, ◌<◌, ◌⊎◌, refl, subst, inl, inr, arith}
use Rattle.std.proofs.lemmas.Bool.{cases_eq}
use Rattle.atoms.specs.Sets.{Within}
use Rattle.atoms.proofs.Inclusion.{within_eq, within_le}
use Rattle.approx.specs.Meanings.{Meaning}
use Rattle.approx.specs.Stability.{Stable}
use Rattle.approx.specs.Settling.{Climbs}
use Rattle.approx.proofs.Laws.{Lawful}
use Rattle.approx.proofs.Climbing.{sure_rises, Way, way_start, way_turn, way_end, way_less}
use Rattle.approx.proofs.Steadiness.{stable_climb, climb_stable}

module _ {m : Meaning} (laws : Lawful m) {u : ℕ} (p : Within (m.sure u u) u) where
  climb_from : (left c : ℕ) → u - c < left → Way (λ x. m.sure x u) 0 u c → (d : ℕ) × Climbs (λ x. m.sure x u) 0 d
  climb_from zero c h w = absurd (omega arith)
  climb_from (suc left) c h w = elim (cases_eq (m.sure c u) c) [
    | inl e ↦ (c, way_end (sure_rises laws u p) w refl e)
    | inr n ↦
        (let next : Way (λ x. m.sure x u) 0 u (m.sure c u) = way_turn (sure_rises laws u p) w refl n in
        climb_from left (m.sure c u) (omega (arith, way_less (sure_rises laws u p) w refl n, within_le next.under)) next)
  ]

  climb_ends : (d : ℕ) × Climbs (λ x. m.sure x u) 0 d
  climb_ends = climb_from (suc u) 0 (omega arith) (way_start (sure_rises laws u p))

pub stable_or_not : {m : Meaning} → Lawful m → (z : ℕ) → (Stable m z) ⊎ (Stable m z → ⊥)
stable_or_not {m} laws z = elim (cases_eq (m.sure z z) z) [
  | inl e ↦
      (let end = climb_ends laws (within_eq e) in
      elim (cases_eq end.0 z) [
        | inl q ↦ inl (climb_stable laws e (subst (Climbs (λ x. m.sure x z) 0) q end.1))
        | inr n ↦ inr (λ s. n (stable_climb laws s end.1))
      ])
  | inr n ↦ inr (λ s. n s.fixed)
]
