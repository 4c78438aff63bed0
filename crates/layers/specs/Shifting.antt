-- A lawful meaning moved up is lawful.
use Rattle.std.proofs.Common.{◌≡◌, ℕ, ◌/◌, ◌*◌, ◌^◌, ◌<◌, ◌≤◌, sym, ap, ap₂, mod-lt, arith, pow_pos}
use native.Mathlib.Nat.{mod-mod}
use Rattle.atoms.specs.Sets.{Within, clipped}
use Rattle.atoms.proofs.Inclusion.{within_mod}
use Rattle.atoms.proofs.Moving.{within_down, within_up}
use Rattle.approx.specs.Meanings.{Meaning}
use Rattle.approx.proofs.Laws.{Lawful}
use Rattle.layers.specs.Shifts.{lowered, raised, berthed}

module _ (p w : ℕ) where
  lowered_up : {s z : ℕ} → Within s z → Within (lowered p w s) (lowered p w z)
  lowered_up q = within_down p (within_mod w q)

  raised_up : {s z : ℕ} → Within s z → Within (raised p w s) (raised p w z)
  raised_up q = within_mod w (within_up p q)

  lowered_ignores : (s : ℕ) → lowered p w s ≡ lowered p w (clipped w s)
  lowered_ignores s = ap (λ (x : ℕ). x / 2 ^ p) (sym (mod-mod s (2 ^ w)))

  small : (s : ℕ) → raised p w s < 2 ^ w
  small s = mod-lt (s * 2 ^ p) (pow_pos w)

  pub berthed_lawful : {m : Meaning} → p < w → w ≤ 64 → Lawful m → Lawful (berthed p w m)
  berthed_lawful {m} room narrow laws = record {
    wide = (omega arith, narrow);
    exact = λ z. ap (raised p w) (laws.exact (lowered p w z));
    precise = λ l k v u a b c.
        let x = laws.precise (lowered p w l) (lowered p w k) (lowered p w v) (lowered p w u) (lowered_up a) (lowered_up b) (lowered_up c) in
        (raised_up x.0, raised_up x.1);
    below = λ l u q. (small (m.sure (lowered p w l) (lowered p w u)), small (m.may (lowered p w l) (lowered p w u)));
    ignores = λ l u q. (
      ap₂ (λ (x y : ℕ). raised p w (m.sure x y)) (lowered_ignores l) (lowered_ignores u),
      ap₂ (λ (x y : ℕ). raised p w (m.may x y)) (lowered_ignores l) (lowered_ignores u),
    );
  }
