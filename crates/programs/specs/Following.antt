-- What rules derive, atom by atom, and that more is derived from more.
use Rattle.std.proofs.Common.{◌≡◌, ℕ, ◌^◌, ◌<◌, Bool, true, false, cond, ◌&&◌, eqb, List, length, get_or, sym, refl, ◌∙◌, subst, mod-lt, arith, pow_pos}
use lib.Bits.{bit_and}
use Rattle.std.proofs.lemmas.Bool.{and_parts, and_from, eqb-true, eq-eqb}
use Rattle.atoms.specs.Sets.{Has, Within, Apart, clipped}
use Rattle.atoms.proofs.Collecting.{collected_in, collected_from}
use Rattle.atoms.proofs.Digits.{digit_of_zero, lacks_not, mod_digit}
use Rattle.atoms.proofs.Inclusion.{within_trans, within_test, test_within}
use Rattle.atoms.proofs.Lacking.{below_wide, apart_from, apart_none}
use Rattle.tables.specs.Tables.{zero_aggregate}
use Rattle.tables.specs.declared.table.Aggregate.{Aggregate}
use Rattle.programs.specs.Clauses.{Among, union}
use Rattle.programs.specs.Tables.{width_of, clauses_of, aggregates_of}
use Rattle.programs.specs.Deriving.{fires, gives, derived, passes, passing, Follows, JustWhatFollows}
use Rattle.programs.specs.declared.clause.Clause.{Clause}
use Rattle.programs.specs.declared.clause.Grounds.{Grounds}
use Rattle.programs.specs.declared.rules.RuleTable.{RuleTable}
use Rattle.programs.specs.Gathering.{union_in, union_from, alone_in, alone_from}

-- ---- one rule
pub record Fires (g : Grounds) (c : Clause) : Type 0 where
  pub needed : Within c.needed g.held
  pub barred : Apart c.barred g.possible
  pub aggregates : Within c.aggregates g.holding

module _ (g : Grounds) (c : Clause) where
  abbrev held : Bool
  held = eqb (bit_and c.needed g.held) c.needed

  abbrev apart : Bool
  apart = eqb (bit_and c.barred g.possible) 0

  abbrev hold : Bool
  hold = eqb (bit_and c.aggregates g.holding) c.aggregates

  fires_then : fires g c ≡ true → Fires g c
  fires_then e =
      let a = and_parts held (apart && hold) e in
      let b = and_parts apart hold a.1 in
      record {
        needed = within_test (eqb-true (bit_and c.needed g.held) c.needed a.0);
        barred = apart_from c.barred g.possible (eqb-true (bit_and c.barred g.possible) 0 b.0);
        aggregates = within_test (eqb-true (bit_and c.aggregates g.holding) c.aggregates b.1);
      }

  then_fires : Fires g c → fires g c ≡ true
  then_fires f =
      and_from held (apart && hold) (eq-eqb (bit_and c.needed g.held) c.needed (test_within f.needed))
      (and_from apart hold (eq-eqb (bit_and c.barred g.possible) 0 (apart_none c.barred g.possible f.barred)) (eq-eqb (bit_and c.aggregates g.holding) c.aggregates (test_within f.aggregates)))

given_from : (b : Bool) (a i : ℕ) → Has (cond b (clipped 64 (2 ^ a)) 0) i → (b ≡ true) × (a ≡ i)
given_from true a i h = (refl, (alone_from 64 a i h).1)
given_from false a i h = absurd (lacks_not 0 i (digit_of_zero i) h)

-- ---- the heads of the rules that fire
-- atom i is below the width and the head of a rule that fires
pub record Fired (t : RuleTable) (g : Grounds) (i : ℕ) : Type 0 where
  pub rule : Clause
  pub among : Among rule (clauses_of t)
  pub head : rule.head ≡ i
  pub below : i < width_of t
  pub fires : Fires g rule

module _ (t : RuleTable) (g : Grounds) where
  abbrev all : ℕ
  all = union (gives g) (clauses_of t)

  pub derived_below : derived t g < 2 ^ width_of t
  derived_below = mod-lt all (pow_pos (width_of t))

  pub derived_from : (i : ℕ) → Has (derived t g) i → Fired t g i
  derived_from i x =
      let k : i < width_of t = below_wide (width_of t) (derived t g) i derived_below x in
      let o = union_from (gives g) (clauses_of t) i (sym (mod_digit all (width_of t) i k) ∙ x) in
      let f = given_from (fires g o.member) o.member.head i o.gives in
      record { rule = o.member; among = o.among; head = f.1; below = k; fires = fires_then g o.member f.0 }

  pub derived_in : (i : ℕ) → Fired t g i → Has (derived t g) i
  derived_in i f =
      let wide : i < 64 = omega (arith, f.below) in
      let c = f.rule in
      let head : Has (clipped 64 (2 ^ c.head)) i = subst (λ (a : ℕ). Has (clipped 64 (2 ^ a)) i) (sym f.head) (alone_in 64 i wide) in
      mod_digit all (width_of t) i f.below
      ∙ union_in (gives g) (clauses_of t) c i f.among (subst (λ (b : Bool). Has (cond b (clipped 64 (2 ^ c.head)) 0) i) (sym (then_fires g c f.fires)) head)

-- more is held, less is possible and more holds: more is derived
pub derived_up : (t : RuleTable) (g g' : Grounds) → Within g.held g'.held → Within g'.possible g.possible → Within g.holding g'.holding → Within (derived t g) (derived t g')
derived_up t g g' a b c = record {
  at = λ i x.
      let f = derived_from t g i x in
      derived_in t g' i (record {
        rule = f.rule;
        among = f.among;
        head = f.head;
        below = f.below;
        fires = record { needed = within_trans f.fires.needed a; barred = λ k y z. f.fires.barred k y (b.at k z); aggregates = within_trans f.fires.aggregates c };
      });
}

-- ---- the aggregates that pass
pub passing_up : (p q : Aggregate → Bool) (xs : List Aggregate) → ((a : Aggregate) → p a ≡ true → q a ≡ true) → Within (passing p xs) (passing q xs)
passing_up p q xs f = record {
  at = λ n h. let c = collected_from (passes p xs) (length xs) n h in collected_in (passes q xs) (length xs) n c.0 (f (get_or xs n zero_aggregate) c.1);
}

module _ (t : RuleTable) (judge : Aggregate → Bool) (h p : ℕ) where
  abbrev g : Grounds
  g = record { held = h; possible = p; holding = passing judge (aggregates_of t) }

  follows_from : (i : ℕ) → Has (derived t g) i → Follows t judge h p i
  follows_from i x =
      let f = derived_from t g i x in
      record {
        rule = f.rule;
        among = f.among;
        head = f.head;
        below = f.below;
        needed = f.fires.needed;
        barred = f.fires.barred;
        aggregates = λ n y. collected_from (passes judge (aggregates_of t)) (length (aggregates_of t)) n (f.fires.aggregates.at n y);
      }

  follows_in : (i : ℕ) → Follows t judge h p i → Has (derived t g) i
  follows_in i f =
      let all : Within f.rule.aggregates g.holding = record { at = λ n y. let a = f.aggregates n y in collected_in (passes judge (aggregates_of t)) (length (aggregates_of t)) n a.0 a.1 } in
      derived_in t g i (record { rule = f.rule; among = f.among; head = f.head; below = f.below; fires = record { needed = f.needed; barred = f.barred; aggregates = all } })

  pub derived_follows : JustWhatFollows t judge h p (derived t g)
  derived_follows = record { has = follows_from; all = follows_in }
