-- A text has one answer only: its settled bounds are the only ones, and so is the list of its stable interpretations.
use Rattle.std.proofs.Common.{◌≡◌, ℕ, List, ◌++◌, Ok, Err, Result, inl, inr, sym, ap, ◌∙◌, ap₂, arith}
use Rattle.std.proofs.lemmas.Bool.{cases_lt}
use Rattle.atoms.specs.Bounded.{open_count}
use Rattle.atoms.specs.declared.bounds.Bounds.{Bounds}
use Rattle.approx.specs.Meanings.{Meaning}
use Rattle.approx.proofs.Laws.{Lawful, lawful}
use Rattle.approx.proofs.Rounding.{settles_one, settled_uncrossed}
use Rattle.faults.specs.declared.BenchFault.TheVariants.{TooManyOpen}
use Rattle.faults.specs.declared.SheetFault.{SheetFault}
use Rattle.tables.specs.declared.table.Table.{Table}
use Rattle.aggregates.specs.Readings.{bound_sure, bound_may}
use Rattle.aggregates.specs.Bounding.{bound_laws}
use Rattle.programs.specs.Tables.{rule_table}
use Rattle.programs.specs.Obeying.{program_lawful}
use Rattle.frameworks.specs.Makers.{framework_of}
use Rattle.frameworks.specs.Standing.{framework_laws}
use Rattle.layers.specs.Joining.{joined_lawful}
use Rattle.solver.proofs.Listed.{same_lists}
use Rattle.grammar.specs.Verdicts.{verdict}
use Rattle.report.specs.Sheets.{rules_meaning, relays_meaning, sheet_meaning}
use Rattle.report.specs.Lines.{state_lines, listing_lines, refusal_line}
use Rattle.report.specs.Answers.{IsListing, IsSettledAnswer, IsAnswerBy, HasOneAnswer}

-- the meaning of every sheet keeps the laws
sheet_lawful : (t : Table) → Lawful (sheet_meaning t)
sheet_lawful t =
    let rules : Lawful (rules_meaning t) = program_lawful {X = Unit {0}} (record { sure = λ x. bound_sure; may = λ x. bound_may }) (λ x. bound_laws) (record { table = rule_table t; reading = tt }) in
    let relays : Lawful (relays_meaning t) = lawful (framework_laws (framework_of t)) in
    joined_lawful rules relays

module _ {text : List ℕ} {t : Table} {m : Meaning} where
  one_listing : {x y : List ℕ} → IsListing text t m x → IsListing text t m y → x ≡ y
  one_listing a b = a.is ∙ ap (listing_lines text t) (same_lists a.listed b.listed) ∙ sym b.is

  one_settled : {x y : List ℕ} → IsSettledAnswer text t m x → IsSettledAnswer text t m y → x ≡ y
  one_settled a b =
      let e : a.bounds ≡ b.bounds = settles_one a.settled b.settled in
      let n : open_count a.bounds ≡ open_count b.bounds = ap open_count e in
      let rests : a.rest ≡ b.rest = elim (cases_lt 16 (open_count a.bounds)) [
        | inl h ↦ a.refused h ∙ ap (λ (k : ℕ). refusal_line (TooManyOpen k)) n ∙ sym (b.refused (omega (arith, h, n)))
        | inr h ↦ one_listing (a.listed h) (b.listed (omega (arith, h, n)))
      ] in
      a.is ∙ ap₂ (λ (bounds : Bounds) (rest : List ℕ). state_lines text t bounds ++ rest) e rests ∙ sym b.is

one_answer_by : (v : Result Table SheetFault) (text x y : List ℕ) → IsAnswerBy text v x → IsAnswerBy text v y → x ≡ y
one_answer_by (Ok t) text x y (inl a) (inl b) = one_settled a b
one_answer_by (Ok t) text x y (inl a) (inr b) = absurd (settled_uncrossed (sheet_lawful t) b.crosses)
one_answer_by (Ok t) text x y (inr a) b = absurd (settled_uncrossed (sheet_lawful t) a.crosses)
one_answer_by (Err fault) text x y a b = a ∙ sym b

pub one_answer : (text : List ℕ) → HasOneAnswer text
one_answer text x y a b = one_answer_by (verdict text) text x y a b
