-- The rounds of settling: the bounds narrow, are never crossed, rest somewhere, and rest at one place only.
use Rattle.std.proofs.Common.{◌≡◌, ℕ, suc, ◌+◌, ◌-◌, ◌^◌, ◌<◌, sym, refl, subst, ap₂, inl, inr, arith}
use Rattle.std.proofs.lemmas.Bool.{cases_eq, cases_lt}
use Rattle.atoms.specs.Sets.{Within, all_below}
use Rattle.atoms.specs.Bounded.{Proper}
use Rattle.atoms.specs.declared.bounds.Bounds.{Bounds}
use Rattle.atoms.proofs.Inclusion.{within_refl, within_trans, zero_within, within_eq, within_le, below_within}
use Rattle.approx.specs.Meanings.{Meaning}
use Rattle.approx.specs.Settling.{first_bounds, NextBounds, Rounds, begins, goes_on, Moving, Settles, Crosses}
use Rattle.approx.proofs.Laws.{Lawful}
use Rattle.approx.proofs.Climbing as climbing

-- bounds that settling comes to: sure keeps the lower, may keeps the upper, and the lower is within all that sure keeps below the upper
pub record Sound (m : Meaning) (b : Bounds) : Type 0 where
  pub inside : Proper b
  pub grows : Within b.lower (m.sure b.lower b.upper)
  pub shrinks : Within (m.may b.lower b.upper) b.upper
  pub prudent : (x : ℕ) → Within x b.upper → Within (m.sure x b.upper) x → Within b.lower x

module _ {m : Meaning} (laws : Lawful m) where
  pub first_sound : Sound m (first_bounds m)
  first_sound = record {
    inside = zero_within (all_below m.width);
    grows = zero_within (m.sure 0 (all_below m.width));
    shrinks = below_within m.width (laws.below 0 (all_below m.width) (zero_within (all_below m.width))).1;
    prudent = λ x p q. zero_within x;
  }

  -- what the two climbs of a round ask of the bounds
  pub sound_up : {b : Bounds} → Sound m b → Within (m.sure b.upper b.upper) b.upper
  sound_up {b} s = within_trans (within_eq (laws.exact b.upper)) (within_trans (climbing.may_down laws s.inside (within_refl b.upper)) s.shrinks)

  pub sound_down : {b : Bounds} → Sound m b → Within b.lower (m.may b.lower b.lower)
  sound_down {b} s = within_trans s.grows (within_trans (climbing.sure_down laws (within_refl b.lower) s.inside) (within_eq (laws.exact b.lower)))

  module _ {b c : Bounds} (s : Sound m b) (n : NextBounds m b c) where
    pub next_shrinks : Within c.upper b.upper
    next_shrinks = climbing.upper_in laws (sound_down s) s.inside s.shrinks n.upper

    pub next_over : Within b.lower c.upper
    next_over = climbing.upper_above laws (sound_down s) n.upper

    -- the new lower is within the new upper
    pub next_inside : Proper c
    next_inside =
        climbing.lower_least laws next_shrinks
        (within_trans (climbing.sure_in_may laws (within_refl c.upper) (within_refl c.upper) next_shrinks) (within_trans (climbing.may_down laws next_over (within_refl c.upper)) (within_eq (climbing.climb_rests n.upper))))
        n.lower

    pub next_grows : Within b.lower c.lower
    next_grows = s.prudent c.lower (climbing.lower_in laws (sound_up s) n.lower) (within_eq (climbing.climb_rests n.lower))

    pub next_sound : Sound m c
    next_sound = record {
      inside = next_inside;
      grows = within_trans (within_eq (sym (climbing.climb_rests n.lower))) (climbing.sure_down laws next_inside next_shrinks);
      shrinks = within_trans (climbing.may_down laws next_grows next_inside) (within_eq (climbing.climb_rests n.upper));
      prudent = λ x p q. climbing.lower_least laws (within_trans p next_shrinks) (within_trans (climbing.sure_down laws p next_shrinks) q) n.lower;
    }

  pub rounds_sound : {n : ℕ} {b : Bounds} → Rounds m n b → Sound m b
  rounds_sound begins = first_sound
  rounds_sound (goes_on r n) = next_sound (rounds_sound r) n

-- ---- bounds have one successor, and there is one sequence
pub same_bounds : (b c : Bounds) → b.lower ≡ c.lower → b.upper ≡ c.upper → b ≡ c
same_bounds b c p q = ap₂ (λ (l u : ℕ). record { lower = l; upper = u }) p q

pub next_one : {m : Meaning} {b c d : Bounds} → NextBounds m b c → NextBounds m b d → c ≡ d
next_one {m} {b} {c} {d} p q = same_bounds c d (climbing.climb_one p.lower q.lower) (climbing.climb_one p.upper q.upper)

pub rounds_one : {m : Meaning} {n : ℕ} {b c : Bounds} → Rounds m n b → Rounds m n c → b ≡ c
rounds_one begins begins = refl
rounds_one {m} {c = c} (goes_on r p) (goes_on s q) = next_one p (subst (λ x. NextBounds m x c) (sym (rounds_one r s)) q)

pub settles_one : {m : Meaning} {b c : Bounds} → Settles m b → Settles m c → b ≡ c
settles_one {m} {b} {c} s t = elim (cases_eq s.rounds t.rounds) [
  | inl e ↦ rounds_one s.reached (subst (λ (n : ℕ). Rounds m n c) (sym e) t.reached)
  | inr n ↦ elim (cases_lt s.rounds t.rounds) [
    | inl k ↦ absurd (t.earliest s.rounds b k s.reached s.resting)
    | inr k ↦ absurd (s.earliest t.rounds c (omega arith) t.reached t.resting)
  ]
]

-- ---- settling as a loop does it
-- settling has come to b after some rounds, none of which rested
pub record SettleWay (m : Meaning) (b : Bounds) : Type 0 where
  pub rounds : ℕ
  pub reached : Rounds m rounds b
  pub moving : Moving m rounds

pub settle_start : (m : Meaning) → SettleWay m (first_bounds m)
settle_start m = record { rounds = 0; reached = begins; moving = λ k c h r n. omega arith }

module _ {m : Meaning} {b c : Bounds} (w : SettleWay m b) (n : NextBounds m b c) where
  -- where the bounds move, none up to here rested
  still_moving : (b ≡ c → ⊥) → Moving m (suc w.rounds)
  still_moving f k d h r q = elim (cases_eq k w.rounds) [
    | inl e ↦ (let same : d ≡ b = rounds_one (subst (λ (j : ℕ). Rounds m j d) e r) w.reached in f (next_one (subst (λ x. NextBounds m x x) same q) n))
    | inr d' ↦ w.moving k d (omega arith) r q
  ]

  pub settle_turn : (b ≡ c → ⊥) → SettleWay m c
  settle_turn f = record { rounds = suc w.rounds; reached = goes_on w.reached n; moving = still_moving f }

  pub settle_end : b ≡ c → Settles m b
  settle_end e = record { rounds = w.rounds; reached = w.reached; resting = subst (NextBounds m b) (sym e) n; earliest = w.moving }

  pub settle_crossed : (b ≡ c → ⊥) → (Proper c → ⊥) → Crosses m
  settle_crossed f p = record { rounds = w.rounds; before = b; after = c; reached = w.reached; following = n; earlier = still_moving f; crossed = p }

  pub settle_less : Lawful m → (b ≡ c → ⊥) → c.lower < 2 ^ 64 → (2 ^ 64 - c.lower) + c.upper < (2 ^ 64 - b.lower) + b.upper
  settle_less laws f hl =
      let s = rounds_sound laws w.reached in
      let p = within_le (next_grows laws s n) in
      let q = within_le (next_shrinks laws s n) in
      elim (cases_eq b.lower c.lower) [
        | inl e ↦ elim (cases_eq b.upper c.upper) [ inl d ↦ absurd (f (same_bounds b c e d)) | inr d ↦ omega arith ]
        | inr e ↦ omega arith
      ]

-- settling is never crossed
pub settled_uncrossed : {m : Meaning} → Lawful m → Crosses m → ⊥
settled_uncrossed laws x = x.crossed (next_inside laws (rounds_sound laws x.reached) x.following)
