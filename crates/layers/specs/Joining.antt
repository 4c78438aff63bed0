-- Two lawful meanings side by side are lawful.
use Rattle.std.proofs.Common.{◌≡◌, ℕ, ◌^◌, ◌<◌, ◌≤◌, max, sym, ◌∙◌, ap₂, lt_of_lt_of_le, arith, pow_mono}
use native.Mathlib.Nat.{le-max_left, le-max_right}
use lib.Bits.{bit_or, or_lt}
use Rattle.atoms.specs.Sets.{Within, clipped}
use Rattle.atoms.proofs.Digits.{mod_mod_wide}
use Rattle.atoms.proofs.Inclusion.{joined_within, within_narrow}
use Rattle.approx.specs.Meanings.{Meaning}
use Rattle.approx.proofs.Laws.{Lawful}
use Rattle.layers.specs.Joined.{joined}

-- a lawful meaning ignores the atoms at or above any larger width too
module _ {m : Meaning} (laws : Lawful m) (w : ℕ) (h : m.width ≤ w) (l u : ℕ) (p : Within (clipped w l) (clipped w u)) where
  ignores_wide : (m.sure l u ≡ m.sure (clipped w l) (clipped w u)) × (m.may l u ≡ m.may (clipped w l) (clipped w u))
  ignores_wide =
      let v = m.width in
      let el : clipped v (clipped w l) ≡ clipped v l = mod_mod_wide l v w h in
      let eu : clipped v (clipped w u) ≡ clipped v u = mod_mod_wide u v w h in
      let x = laws.ignores l u (within_narrow l u v w h p) in
      let y = laws.ignores (clipped w l) (clipped w u) (rw (el, eu) (within_narrow l u v w h p)) in
      (x.0 ∙ sym (y.0 ∙ ap₂ m.sure el eu), x.1 ∙ sym (y.1 ∙ ap₂ m.may el eu))

module _ {m n : Meaning} (a : Lawful m) (b : Lawful n) where
  small_l : {s : ℕ} → s < 2 ^ m.width → s < 2 ^ max m.width n.width
  small_l h = lt_of_lt_of_le h (pow_mono (le-max_left m.width n.width))

  small_r : {s : ℕ} → s < 2 ^ n.width → s < 2 ^ max m.width n.width
  small_r h = lt_of_lt_of_le h (pow_mono (le-max_right m.width n.width))

  joined_below : {l u : ℕ} → Within l u → ((joined m n).sure l u < 2 ^ (joined m n).width) × ((joined m n).may l u < 2 ^ (joined m n).width)
  joined_below {l} {u} p =
      let x = a.below l u p in
      let y = b.below l u p in
      (or_lt _ _ _ (small_l x.0) (small_r y.0), or_lt _ _ _ (small_l x.1) (small_r y.1))

  pub joined_lawful : Lawful (joined m n)
  joined_lawful = record {
    wide = (let x = a.wide in omega arith, let x = a.wide in let y = b.wide in omega arith);
    exact = λ z. ap₂ bit_or (a.exact z) (b.exact z);
    precise = λ l k v u p q r.
        let x = a.precise l k v u p q r in
        let y = b.precise l k v u p q r in
        (joined_within x.0 y.0, joined_within x.1 y.1);
    below = λ l u p. joined_below p;
    ignores = λ l u p.
        let x = ignores_wide a (max m.width n.width) (le-max_left m.width n.width) l u p in
        let y = ignores_wide b (max m.width n.width) (le-max_right m.width n.width) l u p in
        (ap₂ bit_or x.0 y.0, ap₂ bit_or x.1 y.1);
  }
