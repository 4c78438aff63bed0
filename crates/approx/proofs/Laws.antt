-- The laws of one meaning, freed of their premises on the width: what the theory works from.
use Rattle.std.proofs.Common.{◌≡◌, ℕ, ◌^◌, ◌<◌, ◌≤◌, sym, ◌∙◌, subst, mod-lt, pow_pos}
use Rattle.atoms.specs.Sets.{Within, clipped}
use Rattle.atoms.proofs.Inclusion.{within_refl, within_trans, within_eq, within_mod}
use Rattle.approx.specs.Laws.{Laws}
use Rattle.approx.specs.Meanings.{Meaning}

-- a meaning that keeps the laws, on all bounds
pub record Lawful (m : Meaning) : Type 0 where
  pub wide : (0 < m.width) × (m.width ≤ 64)
  pub exact : (z : ℕ) → m.sure z z ≡ m.may z z
  pub precise : (l k v u : ℕ) → Within l k → Within k v → Within v u → Within (m.sure l u) (m.sure k v) × Within (m.may k v) (m.may l u)
  pub below : (l u : ℕ) → Within l u → (m.sure l u < 2 ^ m.width) × (m.may l u < 2 ^ m.width)
  pub ignores : (l u : ℕ) → Within (clipped m.width l) (clipped m.width u) → (m.sure l u ≡ m.sure (clipped m.width l) (clipped m.width u)) × (m.may l u ≡ m.may (clipped m.width l) (clipped m.width u))

module _ {w : ℕ} {sure may : ℕ → ℕ → ℕ} (laws : Laws w sure may) where
  abbrev cut : ℕ → ℕ
  cut s = clipped w s

  small : (s : ℕ) → cut s < 2 ^ w
  small s = mod-lt s (pow_pos w)

  inside : {s t : ℕ} → Within s t → Within (cut s) (cut t)
  inside p = within_mod w p

  exact_all : (z : ℕ) → sure z z ≡ may z z
  exact_all z =
      let i = laws.ignores z z (within_refl (cut z)) in
      i.0 ∙ laws.exact (cut z) (small z) ∙ sym i.1

  precise_all : (l k v u : ℕ) → Within l k → Within k v → Within v u → Within (sure l u) (sure k v) × Within (may k v) (may l u)
  precise_all l k v u p q r =
      let x = laws.ignores l u (inside (within_trans p (within_trans q r))) in
      let y = laws.ignores k v (inside q) in
      let t = laws.precise (cut l) (cut k) (cut v) (cut u) (inside p) (inside q) (inside r) (small u) in
      (within_trans (within_eq x.0) (within_trans t.0 (within_eq (sym y.0))), within_trans (within_eq y.1) (within_trans t.1 (within_eq (sym x.1))))

  below_all : (l u : ℕ) → Within l u → (sure l u < 2 ^ w) × (may l u < 2 ^ w)
  below_all l u p =
      let x = laws.ignores l u (inside p) in
      let t = laws.below (cut l) (cut u) (inside p) (small u) in
      (subst (λ (s : ℕ). s < 2 ^ w) (sym x.0) t.0, subst (λ (s : ℕ). s < 2 ^ w) (sym x.1) t.1)

  -- whatever keeps the laws keeps them on all bounds
  pub lawful : Lawful (record { width = w; sure = sure; may = may })
  lawful = record { wide = laws.wide; exact = exact_all; precise = precise_all; below = below_all; ignores = laws.ignores }

-- and the other way round, which is more than is asked
pub asked : {m : Meaning} → Lawful m → Laws m.width m.sure m.may
asked l = record {
  wide = l.wide;
  exact = λ z h. l.exact z;
  precise = λ a b c d p q r h. l.precise a b c d p q r;
  below = λ a b p h. l.below a b p;
  ignores = l.ignores;
}
