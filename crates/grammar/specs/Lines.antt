-- How a line is read, whatever its kind.
use Rattle.std.specs.Prelude.{List, [], ◌∷◌, Some, None, Ok, Err, Option, Result}
use Rattle.faults.specs.declared.Spot.{Spot}
use Rattle.faults.specs.declared.SheetFault.{SheetFault}
use Rattle.text.specs.Lines.{Numbered, Placed, words_of, end_of}
use Rattle.text.specs.Words.{Meaning, meaning}
use Rattle.grammar.specs.declared.wrong.Wrong.{Wrong}
use Rattle.grammar.specs.Wrongs.{fault_at}

-- What a line gives at its end: its row, or the fault of a missing word.
abbrev pub finished : {R : Type 0} → Option R → SheetFault → Result R SheetFault
finished None fault = Err fault
finished (Some row) fault = Ok row

-- After a word: the reading goes on from the next state, or the word is wrong at its spot.
abbrev pub moved : {S R : Type 0} → Result S Wrong → Spot → (S → Result R SheetFault) → Result R SheetFault
moved (Ok state) spot go = go state
moved (Err wrong) spot go = Err (fault_at wrong spot)

-- The words of a line are read from the left: each moves the state on or is wrong there, and at the end the line is done or a word is missing.
abbrev pub reading : {S R : Type 0} → (S → Meaning → Result S Wrong) → (S → Option R) → Wrong → Spot → S → List Placed → Result R SheetFault
reading next done missing end state [] = finished (done state) (fault_at missing end)
reading next done missing end state (word ∷ words) = moved (next state (meaning word.bytes)) word.at (λ s. reading next done missing end s words)

-- A whole line.
abbrev pub line_read : {S R : Type 0} → (S → Meaning → Result S Wrong) → (S → Option R) → Wrong → S → Numbered → Result R SheetFault
line_read next done missing start line = reading next done missing (end_of line) start (words_of line)
