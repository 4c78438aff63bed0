-- What bounds leave: nothing stable where they are crossed, one candidate where no atom is open, and else two parts.
use Rattle.std.proofs.Common.{◌≡◌, ℕ, ◌^◌, ◌<◌, true, ◌⊎◌, ◌∙◌, subst, inl, inr}
use Rattle.atoms.specs.Sets.{digit, Has, Lowest, clipped, collected}
use Rattle.atoms.specs.Bounded.{Proper, Between, is_open}
use Rattle.atoms.specs.declared.bounds.Bounds.{Bounds}
use Rattle.atoms.proofs.Collecting.{collected_from}
use Rattle.atoms.proofs.Digits.{has_or_lacks, lacks_not, lacks_from, same_digit, pow_has, pow_mod_same}
use Rattle.atoms.proofs.Inclusion.{within_refl, within_trans, within_antisym, zero_within, atom_within}
use Rattle.atoms.proofs.Lacking.{zero_apart, atom_apart}
use Rattle.atoms.proofs.Openness.{open_then, closed_lower, none_open, open_fewer}
use Rattle.approx.specs.Meanings.{Meaning}
use Rattle.approx.specs.Stability.{Stable}
use Rattle.solver.specs.Pegs.{Pegs}
use Rattle.solver.specs.Search.{Inside, Only, Joins, Parts}

-- ---- nothing, or one
module _ {m : Meaning} {b : Bounds} where
  pub crossed_leaves : (Proper b → ⊥) → (x : ℕ) → Inside m b x → ⊥
  crossed_leaves f x i = f (within_trans i.between.0 i.between.1)

  module _ (hu : b.upper < 2 ^ 64) (closed : collected (is_open b) 64 ≡ 0) where
    lower_is : (x : ℕ) → Inside m b x → x ≡ b.lower
    lower_is x i = within_antisym (within_trans i.between.1 (none_open b hu closed)) i.between.0

    pub closed_one : Proper b → Stable m b.lower → Only (Inside m b) b.lower
    closed_one p s = record { here = record { stable = s; between = (within_refl b.lower, p) }; one = lower_is }

    pub closed_none : (Stable m b.lower → ⊥) → (x : ℕ) → Inside m b x → ⊥
    closed_none f x i = f (subst (Stable m) (lower_is x i) i.stable)

-- ---- two parts: without the lowest open atom, and with it
module _ (b c d : Bounds) (i : ℕ) (hu : b.upper < 2 ^ 64) (proper : Proper b) (low : Lowest (collected (is_open b) 64) i) (without : Pegs b 0 (2 ^ i) c) (having : Pegs b (2 ^ i) 0 d) where
  opened : (i < 64) × (is_open b i ≡ true)
  opened = collected_from (is_open b) 64 i low.here

  at_lower : Between c b.lower
  at_lower = without.keeps b.lower (within_refl b.lower, proper) (zero_within b.lower) (atom_apart i b.lower (open_then b i opened.1).1)

  at_upper : Between d b.upper
  at_upper = having.keeps b.upper (proper, within_refl b.upper) (atom_within i (open_then b i opened.1).0) (zero_apart b.upper)

  c_proper : Proper c
  c_proper = within_trans at_lower.0 at_lower.1

  d_proper : Proper d
  d_proper = within_trans at_upper.0 at_upper.1

  -- below the lowest open atom, what is in the upper is in the lower
  settled_below : {x : ℕ} (j : ℕ) → j < i → Between b x → Has x j → Has b.lower j
  settled_below j h z q = closed_lower b j hu (low.below j h) (z.1.at j q)

  parted : (x : ℕ) → Between b x → (Between c x) ⊎ (Between d x)
  parted x z = elim (has_or_lacks x i) [
    | inl h ↦ inr (having.keeps x z (atom_within i h) (zero_apart x))
    | inr e ↦ inl (without.keeps x z (zero_within x) (atom_apart i x e))
  ]

  same_below : (x y : ℕ) → Between b x → Between b y → (j : ℕ) → j < i → digit x j ≡ digit y j
  same_below x y p q j h = same_digit x y j (λ k. q.0.at j (settled_below j h p k)) (λ k. p.0.at j (settled_below j h q k))

  pub parts_at : Parts b c d
  parts_at = record {
    first_proper = c_proper;
    second_proper = d_proper;
    first_fewer = open_fewer b c (without.inside c.lower (within_refl c.lower, c_proper)).0 (without.inside c.upper (c_proper, within_refl c.upper)).1 i opened.0 opened.1
        (λ t. without.lacks_off c.upper (c_proper, within_refl c.upper) i (pow_has i) (open_then c i t).0);
    second_fewer = open_fewer b d (having.inside d.lower (within_refl d.lower, d_proper)).0 (having.inside d.upper (d_proper, within_refl d.upper)).1 i opened.0 opened.1
        (λ t. lacks_not d.lower i (open_then d i t).1 ((having.has_on d.lower (within_refl d.lower, d_proper)).at i (pow_has i)));
    joins = record {
      first_in = without.inside;
      second_in = having.inside;
      either = parted;
      ahead = λ x y p q. record {
        atom = i;
        lacks = lacks_from x i (without.lacks_off x p i (pow_has i));
        has = (having.has_on y q).at i (pow_has i);
        same = same_below x y (without.inside x p) (having.inside y q);
      };
    };
  }

-- the atom as the code has it
pub parts : (b c d : Bounds) {i s : ℕ} → b.upper < 2 ^ 64 → Proper b → i < 64 → Lowest (collected (is_open b) 64) i → s ≡ clipped 64 (2 ^ i) → Pegs b 0 s c → Pegs b s 0 d → Parts b c d
parts b c d {i} {s} hu proper k low e without having =
    let alone : s ≡ 2 ^ i = e ∙ pow_mod_same 64 i k in
    parts_at b c d i hu proper low (subst (λ (x : ℕ). Pegs b 0 x c) alone without) (subst (λ (x : ℕ). Pegs b x 0 d) alone having)

-- what is stable between the bounds is stable between the parts
pub parts_joins : {m : Meaning} {b c d : Bounds} → Parts b c d → Joins (Inside m b) (Inside m c) (Inside m d)
parts_joins p = record {
  first_in = λ x i. record { stable = i.stable; between = p.joins.first_in x i.between };
  second_in = λ x i. record { stable = i.stable; between = p.joins.second_in x i.between };
  either = λ x i. elim (p.joins.either x i.between) [
    | inl q ↦ inl (record { stable = i.stable; between = q })
    | inr q ↦ inr (record { stable = i.stable; between = q })
  ];
  ahead = λ x y i k. p.joins.ahead x y i.between k.between;
}
