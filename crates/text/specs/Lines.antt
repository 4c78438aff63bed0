-- The lines of a text and the words of a line, with their numbers and spots.
use Rattle.std.specs.Prelude.{ℕ, ◌+◌, Bool, cond, List, [], ◌∷◌, length, drop, ◌==◌, nat_lt}
use Rattle.faults.specs.declared.Spot.{Spot}
use Rattle.faults.specs.Faults.{at}
use Rattle.text.specs.declared.reader.Reader.{Reader}
use Rattle.text.specs.declared.reader.Line.{Line}
use Rattle.text.specs.declared.reader.Piece.{Piece}

-- A byte put in front of the first piece.
abbrev pub onto : ℕ → List (List ℕ) → List (List ℕ)
onto byte [] = (byte ∷ []) ∷ []
onto byte (piece ∷ pieces) = (byte ∷ piece) ∷ pieces

-- The pieces of some bytes, each ended by the byte `stop` or by the end.
abbrev pub pieces : ℕ → List ℕ → List (List ℕ)
pieces stop [] = []
pieces stop (byte ∷ bytes) = cond (byte == stop) ([] ∷ pieces stop bytes) (onto byte (pieces stop bytes))

-- A line and its number.
pub record Numbered : Type 0 where
  pub number : ℕ
  pub bytes : List ℕ

-- Lines in a row, numbered from a number on.
abbrev pub numbered : ℕ → List (List ℕ) → List Numbered
numbered number [] = []
numbered number (line ∷ lines) = record { number = number; bytes = line } ∷ numbered (number + 1) lines

-- The lines of a text, each ended by a newline.
abbrev pub lines_of : List ℕ → List Numbered
lines_of text = numbered 1 (pieces 10 text)

-- A word and its spot.
pub record Placed : Type 0 where
  pub bytes : List ℕ
  pub at : Spot

-- Words in a row on one line, the first at a column, with one space after each.
abbrev pub placed : ℕ → ℕ → List (List ℕ) → List Placed
placed line column [] = []
placed line column (word ∷ words) = record { bytes = word; at = at line column } ∷ placed line (column + length word + 1) words

-- The words of a line, split by spaces.
abbrev pub words_of : Numbered → List Placed
words_of line = placed line.number 1 (pieces 32 line.bytes)

-- The spot just past the end of a line.
abbrev pub end_of : Numbered → Spot
end_of line = at line.number (length line.bytes + 1)

-- The text that a reader reads.
abbrev pub whole : Reader → List ℕ
whole reader = reader.text.now

-- The lines that a reader has yet to read.
abbrev pub lines_left : Reader → List Numbered
lines_left reader = numbered (reader.lines + 1) (pieces 10 (drop reader.position (whole reader)))

-- What a reader hands on past the last line: an empty line with the last number.
abbrev pub no_line : Reader → Numbered
no_line reader = record { number = reader.lines; bytes = [] }

-- A line as its number and its bytes.
abbrev pub as_line : Line → Numbered
as_line line = record { number = line.number; bytes = line.bytes.now }

-- A reader has a line where one is left to read.
abbrev pub has_line : Reader → Bool
has_line reader = nat_lt 0 (length (lines_left reader))

-- Reading a line counts it; at the end nothing is counted.
abbrev pub lines_past : Reader → ℕ
lines_past reader = cond (has_line reader) (reader.lines + 1) reader.lines

-- Reading a line moves past its bytes and its newline; at the end nothing moves.
abbrev pub position_past : Reader → List ℕ → ℕ
position_past reader line = cond (has_line reader) (reader.position + (length line + 1)) reader.position

-- The words of a line that are yet to be read.
abbrev pub words_left : Line → List Placed
words_left line = placed line.number (line.position + 1) (pieces 32 (drop line.position line.bytes.now))

-- A word that is lent, as its bytes and its spot.
abbrev pub as_placed : Piece → Placed
as_placed piece = record { bytes = piece.bytes.now; at = piece.at }
