-- The settled bounds of normal rules are their well-founded model.
use Rattle.std.proofs.Common.{◌≡◌, ℕ, ◌-◌, ◌^◌, ◌<◌, ◌⊎◌, sym, subst, inl, inr, arith, pow_pos}
use lib.Bits.{bit_and}
use Rattle.std.proofs.lemmas.Bool.{cases_eq}
use Rattle.atoms.specs.Sets.{digit, Has, Within, Apart, all_below}
use Rattle.atoms.specs.declared.bounds.Bounds.{Bounds}
use Rattle.atoms.proofs.Digits.{digit_of_zero, has_and, lacks_not, lacks_from, not_has, not_lacks}
use Rattle.atoms.proofs.Inclusion.{within_refl, within_trans, within_eq, within_antisym, zero_within, and_within_l, within_test}
use Rattle.atoms.proofs.Lacking.{apart_from, below_wide, common_atom}
use Rattle.atoms.proofs.Ordering.{within_first}
use Rattle.approx.specs.Meanings.{Meaning}
use Rattle.approx.specs.Settling.{NextBounds, Rounds, begins, goes_on, Settles}
use Rattle.approx.proofs.Laws.{Lawful}
use Rattle.approx.proofs.Climbing as climbing
use Rattle.approx.proofs.Rounding as rounding
use Rattle.programs.specs.Normal.{NormalRules}
use Rattle.programs.specs.Programs.{Verdict, table_meaning}
use Rattle.programs.specs.Tables.{width_of, clauses_of}
use Rattle.programs.specs.declared.rules.RuleTable.{RuleTable}
use Rattle.programs.specs.Following.{derived_below}
use Rattle.classics.specs.WellFounded.{Meets, Unfounded, Fixpoint, WellFounded, TheWellFounded}
use Rattle.classics.proofs.Applying.{Applies, own, below_of, sure_in, sure_from, may_in, may_from}

-- ---- sets can be searched
within_or : (a b : ℕ) → Within a b ⊎ ((i : ℕ) × (Has a i × (digit b i ≡ 0)))
within_or a b = elim (within_first (and_within_l a b)) [
  | inl e ↦ inl (within_test (sym e))
  | inr r ↦ inr (r.atom, (r.has, lacks_from b r.atom (λ h. lacks_not (bit_and a b) r.atom r.lacks (has_and a b r.atom r.has h))))
]

apart_or : (a b : ℕ) → Apart a b ⊎ Meets a b
apart_or a b = elim (cases_eq (bit_and a b) 0) [ inl e ↦ inl (apart_from a b e) | inr d ↦ inr (common_atom a b d) ]

-- ---- what a set lacks below the width
module _ (w : ℕ) where
  off_below : (u : ℕ) → all_below w - u < 2 ^ w
  off_below u = omega (arith, pow_pos w)

  off_has : {u : ℕ} → u < 2 ^ w → (i : ℕ) → i < w → digit u i ≡ 0 → Has (all_below w - u) i
  off_has {u} h i k e = not_has w u i h k e

  off_lacks : {u : ℕ} → u < 2 ^ w → (i : ℕ) → Has (all_below w - u) i → Has u i → ⊥
  off_lacks {u} h i p q = lacks_not u i (not_lacks w u i h p) q

  -- atoms outside the upper are off, and the other way round
  apart_off : {u s : ℕ} → u < 2 ^ w → s < 2 ^ w → Apart s u → Within s (all_below w - u)
  apart_off {u} {s} hu hs a = record { at = λ i p. off_has hu i (below_wide w s i hs p) (lacks_from u i (a i p)) }

  off_apart : {u s : ℕ} → u < 2 ^ w → Within s (all_below w - u) → Apart s u
  off_apart hu p i x y = off_lacks hu i (p.at i x) y

module _ (t : RuleTable) (normal : NormalRules t) (sure may : Verdict) (laws : Lawful (table_meaning sure may t)) where
  abbrev w : ℕ
  w = width_of t

  abbrev m : Meaning
  m = table_meaning sure may t

  abbrev off : ℕ → ℕ
  off u = all_below w - u

  rounds_below : {n : ℕ} {b : Bounds} → Rounds m n b → b.upper < 2 ^ w
  rounds_below begins = omega (arith, pow_pos w)
  rounds_below (goes_on r n) = below_of t normal (rounding.next_shrinks laws (rounding.rounds_sound laws r) n) (rounds_below r)

  -- ---- bounds that equal their successor are a fixpoint
  module _ {b : Bounds} (s : rounding.Sound m b) (hu : b.upper < 2 ^ w) (n : NextBounds m b b) where
    hl : b.lower < 2 ^ w
    hl = below_of t normal s.inside hu

    rest_l : m.sure b.lower b.upper ≡ b.lower
    rest_l = climbing.climb_rests n.lower

    rest_u : m.may b.lower b.upper ≡ b.upper
    rest_u = climbing.climb_rests n.upper

    off_unfounded : Unfounded (clauses_of t) b.lower (off b.upper) (off b.upper)
    off_unfounded c among h = elim (within_or c.needed b.upper) [
      | inl a ↦ elim (apart_or c.barred b.lower) [
        | inl d ↦ absurd (off_lacks w hu c.head h (subst (λ (x : ℕ). Has x c.head) rest_u (may_in t normal sure may hl hu c.head (own c among a d))))
        | inr d ↦ inr (inr d)
      ]
      | inr a ↦ inl (a.0, (a.1.0, off_has w hu a.0 (below_wide w c.needed a.0 (normal c among).needed a.1.0) a.1.1))
    ]

    -- an unfounded set meets no stage of either climb
    module _ (V : ℕ) (hV : V < 2 ^ w) (un : Unfounded (clauses_of t) b.lower (off b.upper) V) where
      -- no rule with its needed atoms in x and its barred atoms outside the lower has its head in V
      no_head : {x : ℕ} → Within x b.upper → Apart x V → (i : ℕ) → Applies (clauses_of t) x b.lower i → Has V i → ⊥
      no_head xu xv i a h = elim (un a.rule a.among (subst (Has V) (sym a.head) h)) [
        | inl y ↦ off_lacks w hu y.0 y.1.1 (xu.at y.0 (a.needed.at y.0 y.1.0))
        | inr o ↦ elim o [
          | inl y ↦ xv y.0 (a.needed.at y.0 y.1.0) y.1.1
          | inr y ↦ a.barred y.0 y.1.0 y.1.1
        ]
      ]

      lower_apart : Within b.lower b.upper × Apart b.lower V
      lower_apart = climbing.climb_keeps (λ x. Within x b.upper × Apart x V)
          (λ x k. (
            within_trans (climbing.sure_up laws k.0 (within_refl b.upper)) (rounding.sound_up laws s),
            (λ i p q.
                let a = sure_from t normal sure may (below_of t normal k.0 hu) hu i p in
                no_head k.0 k.1 i (record { rule = a.rule; among = a.among; head = a.head; needed = a.needed; barred = λ j y z. a.barred j y (s.inside.at j z) }) q),
          ))
          (zero_within b.upper, (λ i p q. lacks_not 0 i (digit_of_zero i) p)) n.lower

      upper_apart : (Within b.lower b.upper × Within b.upper b.upper) × Apart b.upper V
      upper_apart = climbing.climb_keeps (λ x. (Within b.lower x × Within x b.upper) × Apart x V)
          (λ x k. (
            (
              within_trans (rounding.sound_down laws s) (climbing.may_up laws (within_refl b.lower) k.0.0),
              within_trans (climbing.may_up laws k.0.0 k.0.1) (within_eq rest_u),
            ),
            (λ i p q. no_head k.0.1 k.1 i (may_from t normal sure may hl (below_of t normal k.0.1 hu) i p) q),
          ))
          ((within_refl b.lower, s.inside), lower_apart.1) n.upper

      greatest_off : Within V (off b.upper)
      greatest_off = record { at = λ i p. off_has w hu i (below_wide w V i hV p) (lacks_from b.upper i (λ q. upper_apart.1 i q p)) }

    next_fixpoint : Fixpoint w (clauses_of t) b.lower (off b.upper)
    next_fixpoint = record {
      true_by = λ i p.
          let a = sure_from t normal sure may hl hu i (subst (λ (x : ℕ). Has x i) (sym rest_l) p) in
          record { rule = a.rule; among = a.among; head = a.head; needed = a.needed; barred = apart_off w hu (normal a.rule a.among).barred a.barred };
      all_true = λ i f.
          subst (λ (x : ℕ). Has x i) rest_l
          (sure_in t normal sure may hl hu i (record { rule = f.rule; among = f.among; head = f.head; needed = f.needed; barred = off_apart w hu f.barred }));
      below = off_below w b.upper;
      unfounded = off_unfounded;
      greatest = greatest_off;
    }

  -- ---- every bounds of the sequence stay inside every fixpoint
  module _ {T F : ℕ} (fix : Fixpoint w (clauses_of t) T F) where
    module _ {b c : Bounds} (hl : b.lower < 2 ^ w) (hu : b.upper < 2 ^ w) (hu' : c.upper < 2 ^ w) (p : Within b.lower T) (q : Within (off b.upper) F) (n : NextBounds m b c) where
      next_true : Within c.lower T
      next_true = (climbing.climb_keeps (λ x. (x < 2 ^ w) × Within x T)
          (λ x k. (
            derived_below t _,
            record {
              at = λ i h.
                  let a = sure_from t normal sure may k.0 hu i h in
                  fix.all_true i (record {
                    rule = a.rule;
                    among = a.among;
                    head = a.head;
                    needed = within_trans a.needed k.1;
                    barred = within_trans (apart_off w hu (normal a.rule a.among).barred a.barred) q;
                  });
            },
          ))
          (pow_pos w, zero_within T) n.lower).1

      next_false : Within (off c.upper) F
      next_false = fix.greatest (off c.upper) (off_below w c.upper) (λ r among h. elim (within_or r.needed c.upper) [
        | inl a ↦ elim (apart_or r.barred b.lower) [
          | inl d ↦ absurd (off_lacks w hu' r.head h (subst (λ (x : ℕ). Has x r.head) (climbing.climb_rests n.upper) (may_in t normal sure may hl hu' r.head (own r among a d))))
          | inr d ↦ inr (inr (d.0, (d.1.0, p.at d.0 d.1.1)))
        ]
        | inr a ↦ inr (inl (a.0, (a.1.0, off_has w hu' a.0 (below_wide w r.needed a.0 (normal r among).needed a.1.0) a.1.1)))
      ])

    rounds_inside : {n : ℕ} {b : Bounds} → Rounds m n b → Within b.lower T × Within (off b.upper) F
    rounds_inside begins = (zero_within T, within_trans (within_eq (omega arith)) (zero_within F))
    rounds_inside (goes_on r n) =
        let k = rounds_inside r in
        let sound = rounding.rounds_sound laws r in
        let hu = rounds_below r in
        let hl = below_of t normal sound.inside hu in
        let hu' = rounds_below (goes_on r n) in
        (next_true hl hu hu' k.0 k.1 n, next_false hl hu hu' k.0 k.1 n)

  settled_is : {b : Bounds} → Settles m b → WellFounded w (clauses_of t) b.lower (off b.upper)
  settled_is s = record {
    fixpoint = next_fixpoint (rounding.rounds_sound laws s.reached) (rounds_below s.reached) s.resting;
    least = λ T F fix. rounds_inside fix s.reached;
  }

  pub settled_well_founded : {b : Bounds} → Settles m b → TheWellFounded w (clauses_of t) b
  settled_well_founded s = record { is = settled_is s; only = λ T F x. well_founded_one x (settled_is s) }
    where
      well_founded_one : {T F T' F' : ℕ} → WellFounded w (clauses_of t) T F → WellFounded w (clauses_of t) T' F' → (T ≡ T') × (F ≡ F')
      well_founded_one {T} {F} {T'} {F'} a b =
          let p = a.least T' F' b.fixpoint in
          let q = b.least T F a.fixpoint in
          (within_antisym p.0 q.0, within_antisym p.1 q.1)
