-- A line that is not begun has all its words before it, so what is read of it is what the whole line says.
use Rattle.std.proofs.Common.{◌≡◌, ℕ, ◌+◌, List, drop, Option, Result, ap, ◌∙◌, ap₂}
use Rattle.faults.specs.declared.SheetFault.{SheetFault}
use Rattle.text.specs.declared.reader.Line.{Line}
use Rattle.text.specs.Lines.{placed, pieces, as_line, end_of, words_left, words_of}
use Rattle.text.specs.Words.{Meaning}
use Rattle.grammar.specs.declared.wrong.Wrong.{Wrong}
use Rattle.grammar.specs.Lines.{reading, line_read}

fresh_words : (line : Line) → line.position ≡ 0 → words_left line ≡ words_of (as_line line)
fresh_words line e = ap (λ (p : ℕ). placed line.number (p + 1) (pieces 32 (drop p line.bytes.now))) e

-- the rows above and the position may be known under another name
pub fresh_row : {S R : Type 0} (follows : List R → ℕ → S → Meaning → Result S Wrong) (gives : S → Option R) (missing : Wrong) (begins : S)
    → (line : Line) → line.position ≡ 0 → (slice above : List R) → slice ≡ above → (at from : ℕ) → at ≡ from
    → (row : Result R SheetFault) → row ≡ reading (follows slice at) gives missing (end_of (as_line line)) begins (words_left line) → row ≡ line_read (follows above from) gives missing begins (as_line line)
fresh_row follows gives missing begins line e slice above s at from a row is =
    is ∙ ap (reading (follows slice at) gives missing (end_of (as_line line)) begins) (fresh_words line e)
    ∙ ap₂ (λ (xs : List _) (n : ℕ). line_read (follows xs n) gives missing begins (as_line line)) s a
