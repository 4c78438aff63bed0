-- The lower of the settled bounds of a reduct is its least model.
use Rattle.std.proofs.Common.{◌≡◌, ℕ, ◌^◌, ◌<◌, List, sym, refl, ap, ◌∙◌, subst, mod-lt, pow_pos}
use Rattle.atoms.specs.Sets.{Has, Within, Apart, clipped}
use Rattle.atoms.specs.declared.bounds.Bounds.{Bounds}
use Rattle.atoms.proofs.Digits.{digit_of_zero, lacks_not, mod_digit}
use Rattle.atoms.proofs.Inclusion.{within_trans, within_eq, within_antisym, zero_within}
use Rattle.atoms.proofs.Lacking.{below_wide}
use Rattle.approx.specs.Settling.{NextBounds}
use Rattle.approx.proofs.Climbing.{climb_rests, climb_keeps}
use Rattle.tables.proofs.Laid.{in_use_laid}
use Rattle.programs.specs.Clauses.{Among, Same}
use Rattle.programs.specs.Deriving.{passing}
use Rattle.programs.specs.Normal.{NormalRules}
use Rattle.programs.specs.Programs.{Verdict, table_meaning}
use Rattle.programs.specs.Reducts.{reduct, reduced}
use Rattle.programs.specs.Tables.{zero_clause, width_of, clauses_of, aggregates_of}
use Rattle.programs.specs.declared.clause.Clause.{Clause}
use Rattle.programs.specs.declared.clause.Grounds.{Grounds}
use Rattle.programs.specs.declared.rules.RuleTable.{RuleTable}
use Rattle.programs.specs.Following.{derived_from, derived_in}
use Rattle.classics.specs.StableModels.{Model, StableModel}
use Rattle.classics.proofs.Reducing.{reduct_from}

module _ (t : RuleTable) (normal : NormalRules t) (z : ℕ) (sure may : Verdict) {b : Bounds} (n : NextBounds (table_meaning sure may (reduced z t)) b b) where
  abbrev rules : List Clause
  rules = reduct z (clauses_of t)

  abbrev step : ℕ → ℕ
  step x = (table_meaning sure may (reduced z t)).sure x b.upper

  abbrev cut : ℕ → ℕ
  cut s = clipped (width_of t) s

  -- what the rules are held against at a step from x
  abbrev grounds : ℕ → Grounds
  grounds x = record { held = cut x; possible = cut b.upper; holding = passing (λ a. sure a (cut x) (cut b.upper)) (aggregates_of t) }

  same : clauses_of (reduced z t) ≡ rules
  same = in_use_laid 128 zero_clause rules

  cut_within : (s : ℕ) → Within (cut s) s
  cut_within s = record { at = λ i h. sym (mod_digit s (width_of t) i (below_wide (width_of t) (cut s) i (mod-lt s (pow_pos (width_of t))) h)) ∙ h }

  -- a step stays within each model
  step_model : (m x : ℕ) → Model rules m → Within x m → Within (step x) m
  step_model m x f p = record {
    at = λ i h.
        let d = derived_from (reduced z t) (grounds x) i h in
        subst (Has m) d.head (f d.rule (subst (Among d.rule) same d.among) (within_trans d.fires.needed (within_trans (cut_within x) p)));
  }

  lower_least : (m : ℕ) → Model rules m → Within b.lower m
  lower_least m f = climb_keeps (λ x. Within x m) (λ x p. step_model m x f p) (zero_within m) n.lower

  lower_model : Model rules b.lower
  lower_model c among p =
      let k = reduct_from z (clauses_of t) c among in
      let o = normal k.rule k.among in
      let head : c.head < width_of t = subst (λ (i : ℕ). i < width_of t) (sym (ap (λ (d : Clause). d.head) k.is)) o.head in
      let small : c.needed < 2 ^ width_of t = subst (λ (i : ℕ). i < 2 ^ width_of t) (sym (ap (λ (d : Clause). d.needed) k.is)) o.needed in
      let needed : Within c.needed (cut b.lower) = record { at = λ i h. mod_digit b.lower (width_of t) i (below_wide (width_of t) c.needed i small h) ∙ p.at i h } in
      let barred : Apart c.barred (cut b.upper) = λ i h _. lacks_not 0 i (digit_of_zero i) (subst (λ (s : ℕ). Has s i) (ap (λ (d : Clause). d.barred) k.is) h) in
      let holding = (grounds b.lower).holding in
      let none : Within c.aggregates holding = within_trans (within_eq (ap (λ (d : Clause). d.aggregates) k.is ∙ o.aggregates)) (zero_within holding) in
      subst (λ (s : ℕ). Has s c.head) (climb_rests n.lower)
      (derived_in (reduced z t) (grounds b.lower) c.head (record {
        rule = c;
        among = subst (Among c) (sym same) among;
        head = refl;
        below = head;
        fires = record { needed = needed; barred = barred; aggregates = none };
      }))

  pub lower_stable : Same (b.lower ≡ z) (StableModel (clauses_of t) z)
  lower_stable = (
    (λ e. record { model = subst (Model rules) e lower_model; least = λ m f. subst (λ (x : ℕ). Within x m) e (lower_least m f) }),
    (λ s. within_antisym (lower_least z s.model) (s.least b.lower lower_model)),
  )
