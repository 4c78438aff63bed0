-- A lawful meaning without its tripped atoms is lawful.
use Rattle.std.proofs.Common.{◌≡◌, ℕ, ◌-◌, ◌^◌, ◌<◌, sym, ap, ap₂, lt_of_lt_of_le, arith, pow_mono}
use native.Mathlib.Nat.{mod-mod}
use lib.Bits.{and_le_l}
use Rattle.atoms.specs.Sets.{Within, lacking, clipped}
use Rattle.atoms.proofs.Collecting.{collected_below}
use Rattle.atoms.proofs.Inclusion.{within_trans, within_mod}
use Rattle.atoms.proofs.Lacking.{lacking_within}
use Rattle.approx.specs.Meanings.{Meaning}
use Rattle.approx.proofs.Laws.{Lawful}
use Rattle.layers.specs.Triggers.{trips, tripped}
use Rattle.layers.specs.CutOuts.{dropped, cut_out}
use Rattle.layers.specs.declared.triggers.TriggerTable.{TriggerTable}
use Rattle.layers.specs.Tripping.{tripped_up}

module _ (t : TriggerTable) {m : Meaning} (laws : Lawful m) where
  small : {s : ℕ} → s < 2 ^ m.width → s < 2 ^ 64
  small h = lt_of_lt_of_le h (pow_mono laws.wide.1)

  few : (s : ℕ) → dropped t m.width s < 2 ^ 64
  few s = small (collected_below (trips t (clipped m.width s)) m.width)

  dropped_up : {s z : ℕ} → Within s z → Within (dropped t m.width s) (dropped t m.width z)
  dropped_up p = tripped_up t m.width (within_mod m.width p)

  dropped_ignores : (s : ℕ) → dropped t m.width s ≡ dropped t m.width (clipped m.width s)
  dropped_ignores s = ap (tripped t m.width) (sym (mod-mod s (2 ^ m.width)))

  less : (a s : ℕ) → a < 2 ^ m.width → lacking a s < 2 ^ m.width
  less a s h = omega (arith, and_le_l a (2 ^ 64 - 1 - s))

  pub cut_out_lawful : Lawful (cut_out t m)
  cut_out_lawful = record {
    wide = laws.wide;
    exact = λ z. ap (λ (s : ℕ). lacking s (dropped t m.width z)) (laws.exact z);
    precise = λ l k v u p q r.
        let x = laws.precise l k v u p q r in (
          lacking_within (few u) (small (laws.below k v q).0) (few v) x.0 (dropped_up r),
          lacking_within (few k) (small (laws.below l u (within_trans p (within_trans q r))).1) (few l) x.1 (dropped_up p),
        );
    below = λ l u p.
        let x = laws.below l u p in
        (less (m.sure l u) (dropped t m.width u) x.0, less (m.may l u) (dropped t m.width l) x.1);
    ignores = λ l u p.
        let x = laws.ignores l u p in
        (ap₂ lacking x.0 (dropped_ignores u), ap₂ lacking x.1 (dropped_ignores l));
  }
