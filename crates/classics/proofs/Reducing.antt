-- Stable interpretations of normal rules are their stable models.
use Rattle.std.proofs.Common.{◌≡◌, ℕ, ◌^◌, ◌<◌, Bool, true, false, cond, List, [], ◌∷◌, map, sym, refl, ap, ◌∙◌, subst, inl, inr, mod-lt, arith, pow_pos}
use lib.Bits.{bit_and}
use Rattle.std.specs.List.{filter}
use Rattle.std.proofs.lemmas.Bool.{eqb-true, eq-eqb}
use Rattle.atoms.specs.Sets.{Has, Within, Apart, clipped}
use Rattle.atoms.proofs.Digits.{has_and, mod_digit}
use Rattle.atoms.proofs.Inclusion.{within_trans, within_eq, within_antisym, and_within_l, and_within_r, within_le}
use Rattle.atoms.proofs.Lacking.{apart_from, apart_none, below_wide}
use Rattle.approx.specs.Stability.{Stable}
use Rattle.programs.specs.Clauses.{Among}
use Rattle.programs.specs.Normal.{NormalRules}
use Rattle.programs.specs.Programs.{Verdict, table_meaning}
use Rattle.programs.specs.Tables.{width_of, clauses_of}
use Rattle.programs.specs.declared.clause.Clause.{Clause}
use Rattle.programs.specs.declared.rules.RuleTable.{RuleTable}
use Rattle.programs.specs.Reducts.{unbarred, spares, reduct}
use Rattle.classics.specs.StableModels.{Model, StableModel}
use Rattle.classics.proofs.Applying.{Applies, own, below_of, sure_in, sure_from}

-- ---- the reduct, rule by rule
reduct_in : (z : ℕ) (cs : List Clause) (c : Clause) → Among c cs → Apart c.barred z → Among (unbarred c) (reduct z cs)
reduct_in z [] c m a = absurd m
reduct_in z (x ∷ xs) c (inl e) a =
    let t : spares z x ≡ true = eq-eqb (bit_and x.barred z) 0 (subst (λ (y : Clause). bit_and y.barred z ≡ 0) e (apart_none c.barred z a)) in
    subst (λ (b : Bool). Among (unbarred c) (map unbarred (cond b (x ∷ filter (spares z) xs) (filter (spares z) xs)))) (sym t) (inl (ap unbarred e))
reduct_in z (x ∷ xs) c (inr m) a = later (spares z x) (reduct_in z xs c m a)
  where
    later : (b : Bool) → Among (unbarred c) (reduct z xs) → Among (unbarred c) (map unbarred (cond b (x ∷ filter (spares z) xs) (filter (spares z) xs)))
    later true k = inr k
    later false k = k

-- the rule that a rule of the reduct comes from
pub record Kept (z : ℕ) (cs : List Clause) (d : Clause) : Type 0 where
  pub rule : Clause
  pub among : Among rule cs
  pub free : Apart rule.barred z
  pub is : d ≡ unbarred rule

pub reduct_from : (z : ℕ) (cs : List Clause) (d : Clause) → Among d (reduct z cs) → Kept z cs d
reduct_from z [] d m = absurd m
reduct_from z (x ∷ xs) d m = by (spares z x) refl (reduct_from z xs d) m
  where
    further : Kept z xs d → Kept z (x ∷ xs) d
    further k = record { rule = k.rule; among = inr k.among; free = k.free; is = k.is }

    by : (b : Bool) → spares z x ≡ b → (Among d (reduct z xs) → Kept z xs d) → Among d (map unbarred (cond b (x ∷ filter (spares z) xs) (filter (spares z) xs))) → Kept z (x ∷ xs) d
    by true e f (inl q) = record { rule = x; among = inl refl; free = apart_from x.barred z (eqb-true (bit_and x.barred z) 0 e); is = q }
    by true e f (inr k) = further (f k)
    by false e f k = further (f k)

-- a model of the reduct has what the rules give that bar nothing of z, and the other way round
module _ {z : ℕ} {cs : List Clause} {m : ℕ} where
  pub model_applies : Model (reduct z cs) m → (i : ℕ) → Applies cs m z i → Has m i
  model_applies f i a = subst (Has m) a.head (f (unbarred a.rule) (reduct_in z cs a.rule a.among a.barred) a.needed)

  pub applies_model : ((i : ℕ) → Applies cs m z i → Has m i) → Model (reduct z cs) m
  applies_model f d x n =
      let k = reduct_from z cs d x in
      let head : d.head ≡ k.rule.head = ap (λ (y : Clause). y.head) k.is in
      subst (Has m) (sym head) (f k.rule.head (own k.rule k.among (subst (λ (y : Clause). Within y.needed m) k.is n) k.free))

-- ---- stable is the least model of the reduct
module _ (t : RuleTable) (normal : NormalRules t) (sure may : Verdict) (z : ℕ) where
  abbrev step : ℕ → ℕ
  step s = (table_meaning sure may t).sure s z

  pub stable_model : Stable (table_meaning sure may t) z → StableModel (clauses_of t) z
  stable_model s = record { model = applies_model closed; least = least }
    where
      closed : (i : ℕ) → Applies (clauses_of t) z z i → Has z i
      closed i a = subst (λ (x : ℕ). Has x i) s.fixed (sure_in t normal sure may s.below s.below i a)

      least : (m : ℕ) → Model (reduct z (clauses_of t)) m → Within z m
      least m f =
          let y : ℕ = bit_and m z in
          let yz : Within y z = and_within_r m z in
          let kept : Within (step y) y = record {
            at = λ i h.
                let a = sure_from t normal sure may (below_of t normal yz s.below) s.below i h in
                has_and m z i
                (model_applies f i (record { rule = a.rule; among = a.among; head = a.head; needed = within_trans a.needed (and_within_l m z); barred = a.barred }))
                (closed i (record { rule = a.rule; among = a.among; head = a.head; needed = within_trans a.needed yz; barred = a.barred }));
          } in
          within_trans (within_eq (sym (s.least y yz kept))) (and_within_l m z)

  pub model_stable : StableModel (clauses_of t) z → Stable (table_meaning sure may t) z
  model_stable s = record { below = small; fixed = within_antisym into onto; least = least }
    where
      -- what z has below the width is a model of the reduct, so z has no other atom
      low : Within z (clipped (width_of t) z)
      low = s.least (clipped (width_of t) z) (applies_model (λ i a.
          let k : i < width_of t = subst (λ (x : ℕ). x < width_of t) a.head (normal a.rule a.among).head in
          let in_z : Within (clipped (width_of t) z) z = record { at = λ j h. sym (mod_digit z (width_of t) j (below_wide (width_of t) (clipped (width_of t) z) j (mod-lt z (pow_pos (width_of t))) h)) ∙ h } in
          mod_digit z (width_of t) i k ∙ model_applies s.model i (record { rule = a.rule; among = a.among; head = a.head; needed = within_trans a.needed in_z; barred = a.barred })))

      small : z < 2 ^ width_of t
      small = omega (arith, within_le low, mod-lt z (pow_pos (width_of t)))

      into : Within (step z) z
      into = record { at = λ i h. model_applies s.model i (sure_from t normal sure may small small i h) }

      onto : Within z (step z)
      onto = s.least (step z) (applies_model (λ i a. sure_in t normal sure may small small i (record { rule = a.rule; among = a.among; head = a.head; needed = within_trans a.needed into; barred = a.barred })))

      least : (x : ℕ) → Within x z → Within (step x) x → x ≡ z
      least x p q = within_antisym p (s.least x (applies_model (λ i a. q.at i (sure_in t normal sure may (below_of t normal p small) small i a))))
