-- Narrower bounds: the climb to what can be founded, and that no stable interpretation is lost.
use Rattle.std.proofs.Common.{ℕ, sym, ap, ◌∙◌, subst, inl, inr}
use lib.Bits.{bit_and, bit_or}
use Rattle.std.specs.Int.Bits.{or_zero_r}
use Rattle.std.proofs.lemmas.Bool.{cases_eq}
use Rattle.atoms.specs.Sets.{Within}
use Rattle.atoms.specs.declared.bounds.Bounds.{Bounds}
use Rattle.atoms.proofs.Inclusion.{within_refl, within_trans, zero_within, within_eq, and_within_l, and_within_r, within_and, or_within, or_within_l, or_within_r}
use Rattle.approx.specs.Meanings.{Meaning}
use Rattle.approx.specs.Settling.{Climbs, rests, goes, Rises}
use Rattle.approx.proofs.Laws.{Lawful}
use Rattle.approx.proofs.Climbing.{climb_rests, climb_keeps, sure_up, sure_down, may_up}
use Rattle.solver.specs.Search.{Inside, grounded, Founded, Narrows}

-- ---- the climb to what can be founded
module _ (m : Meaning) (b : Bounds) where
  -- the atoms of the upper that may be on between the lower and it with those of c
  abbrev pub kept : ℕ → ℕ
  kept c = bit_and b.upper (m.may b.lower (bit_or b.lower c))

  pub kept_rises : Lawful m → Rises kept 0 b.upper
  kept_rises laws = record {
    room = zero_within b.upper;
    starts = zero_within (kept 0);
    stays = and_within_l b.upper (m.may b.lower (bit_or b.lower b.upper));
    grows = λ c d h i k.
        within_and (and_within_l b.upper (m.may b.lower (bit_or b.lower c)))
        (within_trans (and_within_r b.upper (m.may b.lower (bit_or b.lower c)))
        (may_up laws (or_within_l b.lower c) (or_within (or_within_l b.lower d) (within_trans i (or_within_r b.lower d)))));
  }

  -- with the lower in it, that is the climb from the lower
  grounded_climb : {c d : ℕ} → Climbs kept c d → Climbs (grounded m b) (bit_or b.lower c) (bit_or b.lower d)
  grounded_climb (rests e) = rests (ap (bit_or b.lower) e)
  grounded_climb {c} {d} (goes n r) = elim (cases_eq (bit_or b.lower (kept c)) (bit_or b.lower c)) [
    | inl e ↦ subst (λ x. Climbs (grounded m b) x (bit_or b.lower d)) e (grounded_climb r)
    | inr k ↦ goes k (grounded_climb r)
  ]

  pub founded_is : {v : ℕ} → Climbs kept 0 v → Founded m b v
  founded_is {v} r = record {
    end = bit_or b.lower v;
    climbs = subst (λ x. Climbs (grounded m b) x (bit_or b.lower v)) (or_zero_r b.lower) (grounded_climb r);
    is = sym (climb_rests r);
  }

-- ---- what can be founded
module _ {m : Meaning} {b : Bounds} {v : ℕ} (f : Founded m b v) where
  founded_under : Within v b.upper
  founded_under = within_trans (within_eq f.is) (and_within_l b.upper (m.may b.lower f.end))

  founded_all : {x : ℕ} → Within x b.upper → Within x (m.may b.lower f.end) → Within x v
  founded_all p q = within_trans (within_and p q) (within_eq (sym f.is))

  end_over : Within b.lower f.end
  end_over = climb_keeps (λ x. Within b.lower x) (λ x h. or_within_l b.lower (bit_and b.upper (m.may b.lower x))) (within_refl b.lower) f.climbs

  end_has : Within v f.end
  end_has = within_trans (within_eq f.is) (within_trans (or_within_r b.lower (bit_and b.upper (m.may b.lower f.end))) (within_eq (climb_rests f.climbs)))

  -- a stable x between the bounds: what it has of the climb's end is kept by sure, so it is all of x
  end_holds : Lawful m → {x : ℕ} → Inside m b x → Within x f.end
  end_holds laws {x} i =
      let s : ℕ = bit_and x f.end in
      let sx : Within s x = and_within_l x f.end in
      let se : Within s f.end = and_within_r x f.end in
      let ls : Within b.lower s = within_and i.between.0 end_over in
      let inx : Within (m.sure s x) x = within_trans (sure_up laws sx (within_refl x)) (within_eq i.stable.fixed) in
      let may : Within (m.sure s x) (m.may b.lower f.end) =
      within_trans (sure_down laws (within_refl s) sx) (within_trans (within_eq (laws.exact s)) (laws.precise b.lower s s f.end ls (within_refl s) se).1) in
      let ine : Within (m.sure s x) f.end = within_trans (founded_all (within_trans inx i.between.1) may) end_has in
      within_trans (within_eq (sym (i.stable.least s sx (within_and inx ine)))) se

  founded_holds : Lawful m → {x : ℕ} → Inside m b x → Within x v
  founded_holds laws {x} i =
      founded_all i.between.1
      (within_trans (within_eq (sym i.stable.fixed ∙ laws.exact x)) (laws.precise b.lower x x f.end i.between.0 (within_refl x) (end_holds laws i)).1)

-- ---- narrowed bounds
module _ {m : Meaning} {b c : Bounds} (n : Narrows m b c) where
  pub narrow_rises : Within b.lower c.lower
  narrow_rises = within_trans (or_within_l b.lower (m.sure b.lower b.upper)) (within_eq (sym n.lower))

  pub narrow_sinks : Within c.upper b.upper
  narrow_sinks = founded_under n.upper

  pub narrow_inside : {x : ℕ} → Inside m c x → Inside m b x
  narrow_inside i = record { stable = i.stable; between = (within_trans narrow_rises i.between.0, within_trans i.between.1 narrow_sinks) }

  pub narrow_keeps : Lawful m → {x : ℕ} → Inside m b x → Inside m c x
  narrow_keeps laws {x} i =
      let sure : Within (m.sure b.lower b.upper) x =
      within_trans (laws.precise b.lower x x b.upper i.between.0 (within_refl x) i.between.1).0 (within_eq i.stable.fixed) in
      record {
        stable = i.stable;
        between = (within_trans (within_eq n.lower) (or_within i.between.0 sure), founded_holds n.upper laws i);
      }
