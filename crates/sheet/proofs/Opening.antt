-- A reader that was just made has all lines of its text before it.
use Rattle.std.proofs.Common.{◌≡◌, ℕ, ◌+◌, List, take, drop, Ok, ap, ◌∙◌}
use Rattle.std.proofs.lemmas.List.{take_all}
use Rattle.text.specs.declared.reader.Reader.{Reader}
use Rattle.text.specs.Text.{text_verdict}
use Rattle.text.specs.Lines.{numbered, pieces, whole, lines_left, lines_of}
use Rattle.text.proofs.Laws.{passed_short}

pub opened : (r : Reader) (text : List ℕ) → whole r ≡ take 16384 text → r.position ≡ 0 → r.lines ≡ 0 → text_verdict text ≡ Ok tt → lines_left r ≡ lines_of text
opened r text w p l passed =
    ap (λ (n : ℕ). numbered (n + 1) (pieces 10 (drop r.position (whole r)))) l
    ∙ ap (λ (n : ℕ). numbered 1 (pieces 10 (drop n (whole r)))) p
    ∙ ap (λ (t : List ℕ). numbered 1 (pieces 10 t)) (w ∙ take_all 16384 text (passed_short text tt passed))
