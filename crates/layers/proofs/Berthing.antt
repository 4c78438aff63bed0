-- A lawful meaning moved up is lawful, and in the room that it needs nothing of it is lost.
use Rattle.std.proofs.Common.{◌≡◌, ℕ, ◌+◌, ◌*◌, ◌/◌, ◌%◌, ◌^◌, ◌<◌, ◌≤◌, sym, refl, ap, ◌∙◌, subst, ap₂, mod-eq_of_lt, add_comm}
use Rattle.std.proofs.lemmas.Nat.{field_of, shl_below}
use Rattle.atoms.specs.Sets.{Within, clipped}
use Rattle.atoms.proofs.Moving.{within_down}
use Rattle.approx.specs.Meanings.{Meaning, meaning}
use Rattle.approx.specs.declared.approximator.Approximator.{Ghosts}
use Rattle.approx.proofs.Laws.{Lawful}
use Rattle.layers.specs.Shifts.{lowered, raised, berthed}
use Rattle.layers.specs.Berths.{MovedUp, Granted}
use Rattle.layers.specs.declared.slot.Slot.{Slot}

-- ---- with the room that it needs
module _ (p v l u : ℕ) where
  lowered_is : (s : ℕ) → lowered p (p + v) s ≡ clipped v (s / 2 ^ p)
  lowered_is s = ap (λ (x : ℕ). s % 2 ^ x / 2 ^ p) (add_comm p v) ∙ field_of s v p

  -- an answer that ignores what is at or above v, and lies below v, is moved up whole
  moved : (f : ℕ → ℕ → ℕ) → f (l / 2 ^ p) (u / 2 ^ p) ≡ f (clipped v (l / 2 ^ p)) (clipped v (u / 2 ^ p)) → f (clipped v (l / 2 ^ p)) (clipped v (u / 2 ^ p)) < 2 ^ v → raised p (p + v) (f (lowered p (p + v) l) (lowered p (p + v) u)) ≡ f (l / 2 ^ p) (u / 2 ^ p) * 2 ^ p
  moved f e h =
      let same : f (lowered p (p + v) l) (lowered p (p + v) u) ≡ f (l / 2 ^ p) (u / 2 ^ p) = ap₂ f (lowered_is l) (lowered_is u) ∙ sym e in
      let low : f (l / 2 ^ p) (u / 2 ^ p) < 2 ^ v = subst (λ (x : ℕ). x < 2 ^ v) (sym e) h in
      let room : f (l / 2 ^ p) (u / 2 ^ p) * 2 ^ p < 2 ^ (p + v) = subst (λ (x : ℕ). f (l / 2 ^ p) (u / 2 ^ p) * 2 ^ p < 2 ^ x) (add_comm v p) (shl_below (f (l / 2 ^ p) (u / 2 ^ p)) v p low) in
      ap (raised p (p + v)) same ∙ mod-eq_of_lt room

  below_proper : Within (clipped (p + v) l) (clipped (p + v) u) → Within (clipped v (l / 2 ^ p)) (clipped v (u / 2 ^ p))
  below_proper q = rw (← lowered_is l, ← lowered_is u) (within_down p q)

pub moved_up : {m : Meaning} → Lawful m → (p : ℕ) → MovedUp p m (berthed p (p + m.width) m)
moved_up {m} laws p = record {
  width = refl;
  sure = λ l u q.
      let h = below_proper p m.width l u q in
      moved p m.width l u m.sure (laws.ignores (l / 2 ^ p) (u / 2 ^ p) h).0 (laws.below (clipped m.width (l / 2 ^ p)) (clipped m.width (u / 2 ^ p)) h).0;
  may = λ l u q.
      let h = below_proper p m.width l u q in
      moved p m.width l u m.may (laws.ignores (l / 2 ^ p) (u / 2 ^ p) h).1 (laws.below (clipped m.width (l / 2 ^ p)) (clipped m.width (u / 2 ^ p)) h).1;
}

pub granted : {X : Type 0} (G : Ghosts X) (pile : X) (first : ℕ) (s : Slot) → Lawful (meaning G pile) → s.first ≡ first → s.width ≡ first + G.width pile → first + G.width pile ≤ 64 → Granted G pile first (record { pile = pile; slot = s })
granted G pile first s laws e f h = record {
  pile_in = refl;
  first_is = e;
  narrow = h;
  moved = subst (λ (x : ℕ). MovedUp first (meaning G pile) (berthed x s.width (meaning G pile))) (sym e)
      (subst (λ (y : ℕ). MovedUp first (meaning G pile) (berthed first y (meaning G pile))) (sym f) (moved_up laws first));
}
