-- The theorem of refusal.
use Rattle.std.specs.Prelude.{◌≡◌, ℕ, List, Err}
use Rattle.faults.specs.declared.TextFault.{TextFault}
use Rattle.faults.specs.declared.SheetFault.{SheetFault}
use Rattle.faults.specs.declared.SheetFault.TheVariants as fault
use Rattle.text.specs.Lines.{lines_of}
use Rattle.grammar.specs.Verdicts.{verdict}
use Rattle.refusals.specs.Texts.{TextLawful, TextFaulty}
use Rattle.refusals.specs.Sheets.{SheetFaulty}

-- What is wrong with a text: a fault of the text itself, or, where that is lawful, a fault of its lines.
pub data Faulty (text : List ℕ) (f : SheetFault) : Type 0 where
  in_text : (t : TextFault) → TextFaulty text t → f ≡ fault.Text t → Faulty text f
  in_lines : TextLawful text → SheetFaulty text (lines_of text) f → Faulty text f

-- The verdict on a text is a given fault exactly when that is what is wrong with it.
abbrev pub Refuses : Type 0
Refuses = (text : List ℕ) (f : SheetFault) → ((verdict text ≡ Err f) → Faulty text f) × (Faulty text f → verdict text ≡ Err f)
