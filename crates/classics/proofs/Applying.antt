-- Normal rules: what a question of the table gives, in terms of its rules alone.
use Rattle.std.proofs.Common.{◌≡◌, ℕ, ◌^◌, ◌<◌, List, sym, refl, subst, ap₂, mod-eq_of_lt, arith}
use Rattle.atoms.specs.Sets.{Has, Within, Apart}
use Rattle.atoms.proofs.Inclusion.{within_trans, within_eq, zero_within, within_le}
use Rattle.programs.specs.Clauses.{Among}
use Rattle.programs.specs.Deriving.{derived, passing}
use Rattle.programs.specs.Normal.{NormalRules}
use Rattle.programs.specs.Programs.{Verdict, surely, perhaps, table_meaning}
use Rattle.programs.specs.Tables.{width_of, clauses_of, aggregates_of}
use Rattle.programs.specs.declared.clause.Clause.{Clause}
use Rattle.programs.specs.declared.clause.Grounds.{Grounds}
use Rattle.programs.specs.declared.rules.RuleTable.{RuleTable}
use Rattle.programs.specs.Following.{derived_from, derived_in}

-- atom i is the head of a rule with its needed atoms in h and its barred atoms outside p
pub record Applies (cs : List Clause) (h p i : ℕ) : Type 0 where
  pub rule : Clause
  pub among : Among rule cs
  pub head : rule.head ≡ i
  pub needed : Within rule.needed h
  pub barred : Apart rule.barred p

module _ (t : RuleTable) (normal : NormalRules t) where
  derived_applies : (g : Grounds) (i : ℕ) → Has (derived t g) i → Applies (clauses_of t) g.held g.possible i
  derived_applies g i x =
      let f = derived_from t g i x in
      record { rule = f.rule; among = f.among; head = f.head; needed = f.fires.needed; barred = f.fires.barred }

  applies_derived : (g : Grounds) (i : ℕ) → Applies (clauses_of t) g.held g.possible i → Has (derived t g) i
  applies_derived g i a =
      let n = normal a.rule a.among in
      derived_in t g i (record {
        rule = a.rule;
        among = a.among;
        head = a.head;
        below = subst (λ (x : ℕ). x < width_of t) a.head n.head;
        fires = record { needed = a.needed; barred = a.barred; aggregates = within_trans (within_eq n.aggregates) (zero_within g.holding) };
      })

  pub below_of : {s z : ℕ} → Within s z → z < 2 ^ width_of t → s < 2 ^ width_of t
  below_of p h = omega (arith, within_le p)

  -- between sets below the width, a clipped question is the question
  module _ (sure may : Verdict) {l u : ℕ} (hl : l < 2 ^ width_of t) (hu : u < 2 ^ width_of t) where
    sure_is : (table_meaning sure may t).sure l u ≡ surely sure t l u
    sure_is = ap₂ (surely sure t) (mod-eq_of_lt hl) (mod-eq_of_lt hu)

    may_is : (table_meaning sure may t).may l u ≡ perhaps may t l u
    may_is = ap₂ (perhaps may t) (mod-eq_of_lt hl) (mod-eq_of_lt hu)

    -- what a rule is held against, where the verdict says which aggregates hold
    abbrev on : Verdict → ℕ → ℕ → Grounds
    on verdict held possible = record { held = held; possible = possible; holding = passing (λ a. verdict a l u) (aggregates_of t) }

    pub sure_in : (i : ℕ) → Applies (clauses_of t) l u i → Has ((table_meaning sure may t).sure l u) i
    sure_in i a = subst (λ (s : ℕ). Has s i) (sym sure_is) (applies_derived (on sure l u) i a)

    pub sure_from : (i : ℕ) → Has ((table_meaning sure may t).sure l u) i → Applies (clauses_of t) l u i
    sure_from i x = derived_applies (on sure l u) i (subst (λ (s : ℕ). Has s i) sure_is x)

    pub may_in : (i : ℕ) → Applies (clauses_of t) u l i → Has ((table_meaning sure may t).may l u) i
    may_in i a = subst (λ (s : ℕ). Has s i) (sym may_is) (applies_derived (on may u l) i a)

    pub may_from : (i : ℕ) → Has ((table_meaning sure may t).may l u) i → Applies (clauses_of t) u l i
    may_from i x = derived_applies (on may u l) i (subst (λ (s : ℕ). Has s i) may_is x)

-- a rule applies to its own head
pub own : {cs : List Clause} {h p : ℕ} (c : Clause) → Among c cs → Within c.needed h → Apart c.barred p → Applies cs h p c.head
own c m a b = record { rule = c; among = m; head = refl; needed = a; barred = b }
