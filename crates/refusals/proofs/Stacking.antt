-- Lines of one kind, one below another: what is read says which lines are lawful and which is the topmost bad one, and the other way round.
use Rattle.std.proofs.Common.{◌≡◌, List, [], ◌∷◌, ◌++◌, Ok, Err, Result, sym, refl, ap, ◌∙◌, subst, ⊎_elim}
use Rattle.std.proofs.lemmas.List.{append-nil}
use Rattle.faults.specs.declared.SheetFault.{SheetFault}
use Rattle.text.specs.Lines.{Numbered, words_of, end_of}
use Rattle.grammar.specs.Lines.{line_read}
use Rattle.grammar.specs.Verdicts.{onward}
use Rattle.refusals.specs.Rows.{LineKind, Lawful, Faulted, Rows, no_line, one_line, Topmost}
use Rattle.refusals.proofs.Telling.{Tells, tells_like, not_both, onward_ok, onward_err}
use Rattle.refusals.proofs.Standing.{words_tell}

-- one line, below what the lines above gave
module _ {X S R : Type 0} (kind : LineKind X S R) (x : X) (line : Numbered) where
  abbrev pub one_read : Result R SheetFault
  one_read = line_read (kind.next x) kind.done kind.missing kind.start line

  one_tells : Tells one_read (Lawful kind x line) (Faulted kind x line)
  one_tells = words_tell (kind.next x) kind.done kind.missing (end_of line) kind.start (words_of line)

-- `read` is any reader of lines that goes by the kind, and gives `out` of what the lines give
module _ {X S R Y : Type 0} (kind : LineKind X S R) (out : X → Y) (read : X → List Numbered → Result Y SheetFault)
    (ends : (x : X) → read x [] ≡ Ok (out x))
    (goes_on : (x : X) (line : Numbered) (lines : List Numbered) → read x (line ∷ lines) ≡ onward (one_read kind x line) (λ row. read (kind.more x line row) lines)) where
  topmost_more : {x : X} {line : Numbered} {lines : List Numbered} {row : R} {f : SheetFault} → Lawful kind x line row
      → Topmost kind (kind.more x line row) lines f → Topmost kind x (line ∷ lines) f
  topmost_more {line = line} l t = record {
    above = line ∷ t.above;
    line = t.line;
    below = t.below;
    split = ap (λ ls. line ∷ ls) t.split;
    given = t.given;
    lawful = one_line l t.lawful;
    faulty = t.faulty;
  }

  rows_from_read : (x : X) (lines : List Numbered) (y : Y) → read x lines ≡ Ok y → (z : X) × Rows kind x lines z × (out z ≡ y)
  rows_from_read x [] y e = let p = ends x in (x, no_line, cc)
  rows_from_read x (line ∷ lines) y e =
      let m = onward_ok (one_read kind x line) (λ row. read (kind.more x line row) lines) y (sym (goes_on x line lines) ∙ e) in
      let r = rows_from_read (kind.more x line m.0) lines y m.2 in
      (r.0, one_line ((one_tells kind x line).lawful m.0 m.1) r.1, r.2)

  topmost_from_read : (x : X) (lines : List Numbered) (f : SheetFault) → read x lines ≡ Err f → Topmost kind x lines f
  topmost_from_read x [] f e = absurd (not_both (sym (ends x) ∙ e))
  topmost_from_read x (line ∷ lines) f e =
      ⊎_elim (λ p. record { above = []; line = line; below = lines; split = refl; given = x; lawful = no_line; faulty = (one_tells kind x line).faulty f p })
      (λ p. topmost_more ((one_tells kind x line).lawful p.0 p.1) (topmost_from_read (kind.more x line p.0) lines f p.2))
      (onward_err (one_read kind x line) (λ row. read (kind.more x line row) lines) f (sym (goes_on x line lines) ∙ e))

  -- lawful lines are read past
  past_rows : {x z : X} {above : List Numbered} → Rows kind x above z → (below : List Numbered) → read x (above ++ below) ≡ read z below
  past_rows no_line below = refl
  past_rows (one_line {x = x} {line = line} {lines = lines} l rows) below =
      goes_on x line (lines ++ below)
      ∙ ap (λ r. onward r (λ row. read (kind.more x line row) (lines ++ below))) ((one_tells kind x line).granted _ l)
      ∙ past_rows rows below

  read_from_rows : {x z : X} (lines : List Numbered) → Rows kind x lines z → read x lines ≡ Ok (out z)
  read_from_rows {x} {z} lines rows = ap (read x) (sym (append-nil lines)) ∙ past_rows rows [] ∙ ends z

  read_from_topmost : (x : X) (lines : List Numbered) (f : SheetFault) → Topmost kind x lines f → read x lines ≡ Err f
  read_from_topmost x lines f t =
      ap (read x) t.split ∙ past_rows t.lawful (t.line ∷ t.below) ∙ goes_on t.given t.line t.below
      ∙ ap (λ r. onward r (λ row. read (kind.more t.given t.line row) t.below)) ((one_tells kind t.given t.line).refused f t.faulty)

  -- what is read of lines tells whether they are lawful, and which one is the topmost bad one
  pub rows_tell : (x : X) (lines : List Numbered) → Tells (read x lines) (λ y. (z : X) × Rows kind x lines z × (out z ≡ y)) (Topmost kind x lines)
  rows_tell x lines = record {
    lawful = rows_from_read x lines;
    granted = λ y p. read_from_rows lines p.1 ∙ ap Ok p.2;
    faulty = topmost_from_read x lines;
    refused = read_from_topmost x lines;
  }

-- the same where the answer is all that the lines give
pub same_rows_tell : {X S R : Type 0} (kind : LineKind X S R) (read : X → List Numbered → Result X SheetFault)
    → ((x : X) → read x [] ≡ Ok x)
    → ((x : X) (line : Numbered) (lines : List Numbered) → read x (line ∷ lines) ≡ onward (one_read kind x line) (λ row. read (kind.more x line row) lines))
    → (x : X) (lines : List Numbered) → Tells (read x lines) (Rows kind x lines) (Topmost kind x lines)
same_rows_tell kind read ends goes_on x lines =
    tells_like (rows_tell kind (λ z. z) read ends goes_on x lines)
    (λ y p. subst (Rows kind x lines) p.2 p.1) (λ y rows. (y, rows, refl)) (λ f t. t) (λ f t. t)
