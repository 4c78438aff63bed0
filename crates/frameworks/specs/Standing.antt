-- What stands against a set, and that less stands against more.
use Rattle.std.specs.Prelude.{◌≡◌, ℕ, ◌^◌, ◌<◌, true, is_some, ◌==◌, bit_and}
use Rattle.std.proofs.Common.{sym, refl, ap, arith}
use Rattle.std.proofs.Math.Nat.{mod-mod}
use Rattle.std.proofs.lemmas.Bool.{and_parts, and_from, eqb-true, eq-eqb}
use Rattle.atoms.specs.Sets.{Has, Within, clipped}
use Rattle.atoms.proofs.Collecting.{collected_in, collected_from, collected_below}
use Rattle.atoms.proofs.Inclusion.{within_mod}
use Rattle.atoms.proofs.Lacking.{apart_from, apart_none}
use Rattle.approx.specs.Laws.{Laws}
use Rattle.frameworks.specs.Lines.{line_of, attackers_of, Stands, stands, unattacked}
use Rattle.frameworks.specs.Frameworks.{width_of, sure_of, may_of}
use Rattle.frameworks.specs.declared.framework.Framework.{Framework}
use Rattle.frameworks.specs.declared.table.RelayTable.{RelayTable}

-- ---- one atom
module _ (t : RelayTable) (s i : ℕ) where
  pub stands_then : stands t s i ≡ true → Stands t s i
  stands_then e =
      let a = and_parts (is_some (line_of t i)) (bit_and (attackers_of t i) s == 0) e in
      record { line = a.0; free = apart_from (attackers_of t i) s (eqb-true (bit_and (attackers_of t i) s) 0 a.1) }

  pub then_stands : Stands t s i → stands t s i ≡ true
  then_stands p =
      and_from (is_some (line_of t i)) (bit_and (attackers_of t i) s == 0) p.line (eq-eqb (bit_and (attackers_of t i) s) 0 (apart_none (attackers_of t i) s p.free))

-- ---- the atoms that stand
pub unattacked_has : (t : RelayTable) (w s i : ℕ) → Has (unattacked t w s) i → (i < w) × Stands t s i
unattacked_has t w s i h = let c = collected_from (stands t s) w i h in (c.0, stands_then t s i c.1)

pub unattacked_all : (t : RelayTable) (w s i : ℕ) → i < w → Stands t s i → Has (unattacked t w s) i
unattacked_all t w s i k p = collected_in (stands t s) w i k (then_stands t s i p)

pub unattacked_down : (t : RelayTable) (w : ℕ) {s z : ℕ} → Within s z → Within (unattacked t w z) (unattacked t w s)
unattacked_down t w {s} {z} p = record {
  at = λ i h.
      let c = unattacked_has t w z i h in
      unattacked_all t w s i c.0 (record { line = c.1.line; free = λ j x y. c.1.free j x (p.at j y) });
}

-- ---- the laws
module _ (f : Framework) where
  abbrev answer : ℕ → ℕ
  answer s = unattacked f.table (width_of f) (clipped (width_of f) s)

  pub framework_below : (s : ℕ) → answer s < 2 ^ width_of f
  framework_below s = collected_below (stands f.table (clipped (width_of f) s)) (width_of f)

  pub framework_ignores : (s : ℕ) → answer s ≡ answer (clipped (width_of f) s)
  framework_ignores s = ap (unattacked f.table (width_of f)) (sym (mod-mod s (2 ^ width_of f)))

  pub framework_down : {s z : ℕ} → Within s z → Within (answer z) (answer s)
  framework_down p = unattacked_down f.table (width_of f) (within_mod (width_of f) p)

  pub framework_laws : Laws (width_of f) (sure_of f) (may_of f)
  framework_laws = record {
    wide = (omega arith, omega arith);
    exact = λ z h. refl;
    precise = λ l k v u p q r h. (framework_down r, framework_down p);
    below = λ l u p h. (framework_below u, framework_below l);
    ignores = λ l u p. (framework_ignores u, framework_ignores l);
  }
