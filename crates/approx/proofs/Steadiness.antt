-- What is stable: as one question and one climb tell it, and that it lies within every bounds of the sequence.
use Rattle.std.proofs.Common.{◌≡◌, ℕ, ◌^◌, ◌<◌, sym, subst}
use lib.Bits.{bit_and}
use Rattle.atoms.specs.Sets.{Within}
use Rattle.atoms.specs.Bounded.{Between}
use Rattle.atoms.specs.declared.bounds.Bounds.{Bounds}
use Rattle.atoms.proofs.Inclusion.{within_refl, within_trans, zero_within, within_antisym, within_eq, and_within_l, and_within_r, within_and, below_within}
use Rattle.approx.specs.Meanings.{Meaning}
use Rattle.approx.specs.Stability.{Stable}
use Rattle.approx.specs.Settling.{Climbs, NextBounds, Rounds, begins, goes_on}
use Rattle.approx.proofs.Laws.{Lawful}
use Rattle.approx.proofs.Climbing as climbing
use Rattle.approx.proofs.Rounding as rounding

-- ---- one question and one climb
module _ {m : Meaning} (laws : Lawful m) {z : ℕ} where
  -- under a stable interpretation, sure climbs from no atom to all of it
  pub stable_climb : {d : ℕ} → Stable m z → Climbs (λ c. m.sure c z) 0 d → d ≡ z
  stable_climb {d} t r = t.least d (climbing.lower_in laws (within_eq t.fixed) r) (within_eq (climbing.climb_rests r))

  -- what the step keeps is stable if sure climbs to all of it
  pub climb_stable : m.sure z z ≡ z → Climbs (λ c. m.sure c z) 0 z → Stable m z
  climb_stable e r = record {
    below = subst (λ (s : ℕ). s < 2 ^ m.width) e (laws.below z z (within_refl z)).0;
    fixed = e;
    least = λ s p q. within_antisym p (climbing.lower_least laws p q r);
  }

-- ---- within every bounds
module _ {m : Meaning} (laws : Lawful m) {z : ℕ} (t : Stable m z) where
  -- a stable interpretation within bounds is within the next: what z has of the new upper is kept by sure, so it is all of z
  stable_next : {b c : Bounds} → rounding.Sound m b → NextBounds m b c → Between b z → Between c z
  stable_next {b} {c} s n h =
      let low : Within c.lower z = climbing.lower_least laws h.1 (within_trans (climbing.sure_down laws (within_refl z) h.1) (within_eq t.fixed)) n.lower in
      let y : ℕ = bit_and z c.upper in
      let yz : Within y z = and_within_l z c.upper in
      let yu : Within y c.upper = and_within_r z c.upper in
      let ly : Within b.lower y = within_and h.0 (rounding.next_over laws s n) in
      let inz : Within (m.sure y z) z = within_trans (climbing.sure_up laws yz (within_refl z)) (within_eq t.fixed) in
      let inu : Within (m.sure y z) c.upper =
      within_trans (climbing.sure_down laws (within_refl y) yz) (within_trans (within_eq (laws.exact y)) (within_trans (laws.precise b.lower y y c.upper ly (within_refl y) yu).1 (within_eq (climbing.climb_rests n.upper)))) in
      let e : y ≡ z = t.least y yz (within_and inz inu) in
      (low, within_trans (within_eq (sym e)) yu)

  pub stable_between : {n : ℕ} {b : Bounds} → Rounds m n b → Between b z
  stable_between begins = (zero_within z, below_within m.width t.below)
  stable_between (goes_on r n) = stable_next (rounding.rounds_sound laws r) n (stable_between r)
