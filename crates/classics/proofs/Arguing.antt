-- Stable interpretations of a framework are its stable extensions.
use Rattle.std.proofs.Common.{◌≡◌, ℕ, ◌%◌, ◌^◌, ◌<◌, sym, ap, ◌∙◌, subst, inl, inr, mod-lt, mod-eq_of_lt, arith, pow_pos}
use lib.Bits.{bit_and}
use Rattle.std.proofs.lemmas.Bool.{cases_eq}
use Rattle.atoms.specs.Sets.{Has, Within}
use Rattle.atoms.proofs.Digits.{has_or_lacks, lacks_not, mod_digit}
use Rattle.atoms.proofs.Inclusion.{within_trans, within_eq, within_antisym, within_le}
use Rattle.atoms.proofs.Lacking.{apart_from, common_atom}
use Rattle.approx.specs.Stability.{Stable}
use Rattle.frameworks.specs.Lines.{attackers_of, Stands, unattacked}
use Rattle.frameworks.specs.Frameworks.{width_of, sure_of}
use Rattle.frameworks.specs.declared.framework.Framework.{Framework}
use Rattle.frameworks.specs.Standing.{unattacked_has, unattacked_all, framework_below}
use Rattle.classics.specs.Extensions.{framework_meaning, Argument, Attacks, StableExtension}

module _ (f : Framework) (z : ℕ) where
  -- the step of a framework does not look at its lower: where it gives z again, z is stable
  pub step_stable : sure_of f z z ≡ z → Stable (framework_meaning f) z
  step_stable e = record {
    below = subst (λ (s : ℕ). s < 2 ^ width_of f) e (framework_below f z);
    fixed = e;
    least = λ s p q. within_antisym p (within_trans (within_eq (sym e)) q);
  }

  stands_in : (z < 2 ^ width_of f) → sure_of f z z ≡ unattacked f.table (width_of f) z
  stands_in h = ap (unattacked f.table (width_of f)) (mod-eq_of_lt h)

  module _ (s : Stable (framework_meaning f) z) where
    same : unattacked f.table (width_of f) z ≡ z
    same = sym (stands_in s.below) ∙ s.fixed

    member : (a : ℕ) → Has z a → (a < width_of f) × Stands f.table z a
    member a h = unattacked_has f.table (width_of f) z a (subst (λ (x : ℕ). Has x a) (sym same) h)

    argument : (a : ℕ) → Has z a → Argument f a
    argument a h = ((member a h).0, (member a h).1.line)

    rest : (a : ℕ) → Argument f a → (Has z a → ⊥) → (b : ℕ) × (Has z b × Attacks f b a)
    rest a g n = elim (cases_eq (bit_and (attackers_of f.table a) z) 0) [
      | inl e ↦ absurd (n (subst (λ (x : ℕ). Has x a) same (unattacked_all f.table (width_of f) z a g.0 (record { line = g.1; free = apart_from (attackers_of f.table a) z e }))))
      | inr d ↦ (let m = common_atom (attackers_of f.table a) z d in (m.0, (m.1.1, record { attacker = argument m.0 m.1.1; attacked = g; listed = m.1.0 })))
    ]

    pub stable_extension : StableExtension f z
    stable_extension = record { arguments = argument; no_attack = λ b a p q x. (member a q).1.free b x.listed p; attacks_rest = rest }

  module _ (s : StableExtension f z) where
    low : z < 2 ^ width_of f
    low =
        let p : Within z (z % 2 ^ width_of f) = record { at = λ i h. mod_digit z (width_of f) i (s.arguments i h).0 ∙ h } in
        omega (arith, within_le p, mod-lt z (pow_pos (width_of f)))

    onto : Within (unattacked f.table (width_of f) z) z
    onto = record {
      at = λ i h.
          let c = unattacked_has f.table (width_of f) z i h in
          elim (has_or_lacks z i) [
            | inl y ↦ y
            | inr n ↦ (let b = s.attacks_rest i (c.0, c.1.line) (lacks_not z i n) in absurd (c.1.free b.0 b.1.1.listed b.1.0))
          ];
    }

    into : Within z (unattacked f.table (width_of f) z)
    into = record {
      at = λ i h.
          let g = s.arguments i h in
          unattacked_all f.table (width_of f) z i g.0 (record { line = g.1; free = λ j x y. s.no_attack j i y h (record { attacker = s.arguments j y; attacked = g; listed = x }) });
    }

    pub extension_fixed : sure_of f z z ≡ z
    extension_fixed = stands_in low ∙ within_antisym onto into
