-- The verdict accepts just the texts that write a lawful sheet, and then gives that sheet's table.
use Rattle.std.proofs.Common.{◌≡◌, ℕ, ◌+◌, ◌≤◌, List, [], ◌∷◌, map, length, Ok, Err, Result, sym, refl, ap, ◌∙◌, subst, arith}
use Rattle.std.specs.List.{AllByRecursion}
use Rattle.faults.specs.declared.SheetFault.{SheetFault}
use Rattle.faults.specs.declared.TextFault.{TextFault}
use Rattle.tables.specs.declared.table.Table.{Table}
use Rattle.text.specs.Lines.{numbered, lines_of, pieces}
use Rattle.text.specs.Text.{text_verdict}
use Rattle.text.proofs.Laws.{passed_short}
use Rattle.grammar.specs.Verdicts.{after_text, lines_read, verdict}
use Rattle.written.specs.Sheets.{Sheet, LawfulSheet}
use Rattle.written.specs.Writing.{spaced, ended, text_of, sheet_lines, written, table_for}
use Rattle.written.specs.Accepts.{Writes, Accepts}
use Rattle.written.proofs.Results.{no_way}
use Rattle.written.proofs.Pieces.{words_text}
use Rattle.written.proofs.Bytes.{passed_ended, passed_spaced, good_passes}
use Rattle.written.proofs.Rows.{words}
use Rattle.written.proofs.Places.{bytes_of, Spaced}
use Rattle.written.proofs.Whole.{spaced_bytes, lines_told, lines_tell}
use Rattle.written.proofs.Good.{sheet_good}

after_ok : (r : Result (Unit {0}) TextFault) (next : Result Table SheetFault) (t : Table) → after_text r next ≡ Ok t → (u : Unit {0}) × (r ≡ Ok u) × (next ≡ Ok t)
after_ok (Ok u) next t e = (u, refl, e)
after_ok (Err f) next t e = no_way (cc)

-- lines are numbered, and else what they were
numbered_bytes : (n : ℕ) (ps : List (List ℕ)) → map bytes_of (numbered n ps) ≡ ps
numbered_bytes n [] = refl
numbered_bytes n (p ∷ ps) = ap (λ l. p ∷ l) (numbered_bytes (n + 1) ps)

numbered_words : (n : ℕ) (ps : List (List ℕ)) → map words (numbered n ps) ≡ map (pieces 32) ps
numbered_words n [] = refl
numbered_words n (p ∷ ps) = ap (λ l. pieces 32 p ∷ l) (numbered_words (n + 1) ps)

numbered_spaced : (n : ℕ) (ps : List (List ℕ)) → AllByRecursion (λ p. spaced (pieces 32 p) ≡ p) ps → AllByRecursion Spaced (numbered n ps)
numbered_spaced n [] h = tt
numbered_spaced n (p ∷ ps) h = (h.0, numbered_spaced (n + 1) ps h.1)

-- a text that passed is its lines, and each line its words
module _ (text : List ℕ) (u : Unit {0}) (passed : text_verdict text ≡ Ok u) where
  laid : ended 10 (map bytes_of (lines_of text)) ≡ text
  laid = ap (ended 10) (numbered_bytes 1 (pieces 10 text)) ∙ passed_ended text u passed

  spaces : AllByRecursion Spaced (lines_of text)
  spaces = numbered_spaced 1 (pieces 10 text) (passed_spaced text u passed)

  rewritten : text_of (map words (lines_of text)) ≡ text
  rewritten = ap (ended 10) (spaced_bytes (lines_of text) spaces) ∙ laid

-- a text that is accepted writes a lawful sheet with its table
pub accepted_writes : (text : List ℕ) (t : Table) → verdict text ≡ Ok t → Writes text t
accepted_writes text t e =
    let passed = after_ok (text_verdict text) (lines_read text (lines_of text)) t e in
    let found = lines_told text (lines_of text) (laid text passed.0 passed.1) (spaces text passed.0 passed.1) t passed.2 in
    record {
      sheet = found.sheet;
      lawful = found.lawful;
      is = ap text_of found.spelt ∙ rewritten text passed.0 passed.1;
      short = passed_short text passed.0 passed.1;
      filled = found.filled;
    }

-- what a lawful sheet writes, if it is not too long, is accepted with its table
pub written_accepted : (sheet : Sheet) → LawfulSheet sheet → length (written sheet) ≤ 16384 → verdict (written sheet) ≡ Ok (table_for sheet)
written_accepted sheet h short =
    let good = sheet_good sheet h in
    let passes : text_verdict (written sheet) ≡ Ok tt = good_passes (sheet_lines sheet) (omega arith) good short in
    let spelt : sheet_lines sheet ≡ map words (lines_of (written sheet)) = sym (numbered_words 1 (pieces 10 (written sheet)) ∙ words_text (sheet_lines sheet) good) in
    ap (λ r. after_text r (lines_read (written sheet) (lines_of (written sheet)))) passes
    ∙ lines_tell (written sheet) (lines_of (written sheet)) (laid (written sheet) tt passes) (spaces (written sheet) tt passes) sheet h spelt

pub accepts : Accepts
accepts text t = (
  accepted_writes text t,
  (λ w.
      let P : List ℕ → Type 0 = λ l. length l ≤ 16384 in
      ap verdict (sym w.is) ∙ written_accepted w.sheet w.lawful (subst P (sym w.is) w.short) ∙ ap Ok w.filled),
)
