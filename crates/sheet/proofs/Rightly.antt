-- What the verdict says of a text is what the text writes, and what is wrong with it.
use Rattle.std.proofs.Common.{◌≡◌, ℕ, List, Ok, Err, Result, sym, refl, ap, ◌∙◌, subst, arith}
use Rattle.faults.specs.declared.SheetFault.{SheetFault}
use Rattle.tables.specs.declared.table.Table.{Table}
use Rattle.grammar.specs.Verdicts.{verdict}
use Rattle.refusals.proofs.Refusing.{refuses}
use Rattle.written.proofs.Accepts.{accepts}
use Rattle.written.proofs.Alone.{one_sheet}
use Rattle.sheet.specs.Reads.{answer, table_after, RightlyRead}

module _ (text : List ℕ) (old : Table) where
  rightly_by : (v : Result Table SheetFault) → v ≡ verdict text → RightlyRead text (table_after old v) (answer v)
  rightly_by (Ok t) e = record {
    accepted = λ _. (accepts text t).0 (sym e);
    written = λ u w. (let q : Ok t ≡ Ok u = e ∙ (accepts text u).1 w in let same : t ≡ u = cc in (refl, same));
    alone = one_sheet text;
    refused = λ f r. (let z : ◌≡◌ {A = ℕ} 0 1 = cc in absurd (omega arith));
    faulty = λ f w. (let q : Ok t ≡ Err f = e ∙ (refuses text f).1 w in let z : ◌≡◌ {A = ℕ} 0 1 = cc in absurd (omega arith));
  }
  rightly_by (Err g) e = record {
    accepted = λ r. (let z : ◌≡◌ {A = ℕ} 0 1 = cc in absurd (omega arith));
    written = λ u w. (let q : Err g ≡ Ok u = e ∙ (accepts text u).1 w in let z : ◌≡◌ {A = ℕ} 0 1 = cc in absurd (omega arith));
    alone = one_sheet text;
    refused = λ f r. (let same : g ≡ f = cc in (refuses text f).0 (sym e ∙ ap Err same));
    faulty = λ f w. (let q : Err g ≡ Err f = e ∙ (refuses text f).1 w in let same : g ≡ f = cc in ap Err same);
  }

  pub rightly : (after : Table) (r : Result (Unit {0}) SheetFault) → after ≡ table_after old (verdict text) → r ≡ answer (verdict text) → RightlyRead text after r
  rightly after r a e = subst (λ t. RightlyRead text t r) (sym a) (subst (RightlyRead text (table_after old (verdict text))) (sym e) (rightly_by (verdict text) refl))
