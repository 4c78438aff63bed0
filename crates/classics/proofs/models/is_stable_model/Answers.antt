use Rattle.std.proofs.Common.{◌≡◌, ℕ, eqb, Result, Ok, Err, MatchResult, sym, ◌∙◌, subst, rules}
use Rattle.std.proofs.lemmas.Bool.{eqb-true, eq-eqb}
use Rattle.atoms.specs.declared.bounds.Bounds.{Bounds}
use Rattle.aggregates.specs.Readings.{plain_sure, plain_may}
use Rattle.approx.specs.Settling.{Settles}
use Rattle.programs.specs.Programs.{table_meaning}
use Rattle.programs.specs.Reducts.{reduced}
use Rattle.programs.specs.declared.rules.RuleTable.{RuleTable}
use Rattle.classics.proofs.Closing.{lower_stable}
use Rattle.classics.proofs.Reducing.{stable_model, model_stable}
use Rattle.classics.proofs.models.is_stable_model.Goals as goal

-- what settles at a table settles at an equal one
settles_at : {s t : RuleTable} {b : Bounds} → s ≡ t → Settles (table_meaning plain_sure plain_may s) b → Settles (table_meaning plain_sure plain_may t) b
settles_at {b = b} e x = subst (λ (t : RuleTable). Settles (table_meaning plain_sure plain_may t) b) e x

-- a result that is no error has a value, of which both facts hold
value : {T E : Type 0} (P Q : T → Type 0) (S : E → Type 0) (r : Result T E) → MatchResult r P (λ _. ⊥) → MatchResult r Q S → (x : T) × (P x × Q x)
value P Q S (Ok x) p q = (x, (p, q))
value P Q S (Err e) p q = absurd p

pub returns : goal.returns
returns g c =
    let p = c.args.program.now in
    let z : ℕ = c.args.z in
    let v = value _ _ _ c.well_founded_model.result c.well_founded_model.ensures.settled c.is_ok_and.ensures in
    let b : Bounds = v.0 in
    let is : c.is_ok_and.result ≡ eqb b.lower z = let h = v.1.1 in search rules in
    let sure = g.R.Reading.sure p.reading in
    let may = g.R.Reading.may p.reading in
    let settled : Settles (table_meaning plain_sure plain_may (reduced z p.table)) b =
    settles_at {t = reduced z p.table} (c.new-reduct.ensures.table ∙ c.reduct.ensures) v.1.0 in
    record {
      settled = (b, (settled, ((λ e. eqb-true b.lower z (sym is ∙ e)), (λ e. is ∙ eq-eqb b.lower z e))));
      model = λ n.
          let k = lower_stable p.table n z plain_sure plain_may settled.resting in
          ((λ e. k.0 (eqb-true b.lower z (sym is ∙ e))), (λ s. is ∙ eq-eqb b.lower z (k.1 s)));
      stable = λ n x. (stable_model p.table n sure may x, model_stable p.table n sure may x);
    }
