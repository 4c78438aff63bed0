-- The theorem of refusal, from the text layer and the lines.
use Rattle.std.proofs.Common.{◌≡◌, ℕ, List, Ok, Err, Result, sym, refl, ap, ◌∙◌}
use Rattle.faults.specs.declared.TextFault.{TextFault}
use Rattle.faults.specs.declared.SheetFault.{SheetFault}
use Rattle.text.specs.Lines.{lines_of}
use Rattle.text.specs.Text.{text_verdict}
use Rattle.grammar.specs.Verdicts.{after_text, lines_read, verdict}
use Rattle.refusals.specs.Refuses.{Faulty, in_text, in_lines, Refuses}
use Rattle.refusals.proofs.Texts.{text_tells}
use Rattle.refusals.proofs.Sheets.{lines_tell}

module _ (text : List ℕ) (f : SheetFault) where
  faulty_after : (t : Result (Unit {0}) TextFault) → text_verdict text ≡ t → after_text t (lines_read text (lines_of text)) ≡ Err f → Faulty text f
  faulty_after (Ok u) passed e = in_lines ((text_tells text).lawful u passed) ((lines_tell text (lines_of text)).faulty f e)
  faulty_after (Err g) failed e = in_text g ((text_tells text).faulty g failed) (cc)

  refused_by : Faulty text f → verdict text ≡ Err f
  refused_by (in_text t bad is) = ap (λ r. after_text r (lines_read text (lines_of text))) ((text_tells text).refused t bad) ∙ ap Err (sym is)
  refused_by (in_lines passed bad) =
      ap (λ r. after_text r (lines_read text (lines_of text))) ((text_tells text).granted tt passed) ∙ (lines_tell text (lines_of text)).refused f bad

-- the verdict is a fault exactly when that is what is wrong with the text
pub refuses : Refuses
refuses text f = (faulty_after text f (text_verdict text) refl, refused_by text f)
