-- What is printed of a sheet that is refused.
use Rattle.std.specs.Prelude.{ℕ, ◌-◌, if◌then◌else◌, ◌&&◌, ◌==◌, nat_le, List, [], ◌∷◌, ◌++◌, Option, Some, None, codes, map, replicate, slice_get}
use Rattle.std.specs.List.{slice_split}
use Rattle.faults.specs.Faults.{bench_told, told_text}
use Rattle.faults.specs.declared.BenchFault.{BenchFault}
use Rattle.faults.specs.declared.Spot.{Spot}

-- each line that is printed ends with a newline
abbrev pub newline : List ℕ
newline = 10 ∷ []

-- a byte as it is shown: a space or a printable ASCII character as itself, and any other as a question mark
abbrev pub shown_byte : ℕ → ℕ
shown_byte byte = if nat_le 32 byte && nat_le byte 126 then byte else 63

-- the line of a number from 1, if the text has it; the lines stand between the newlines, and the last after the last of them
abbrev pub numbered_line : List ℕ → ℕ → Option (List ℕ)
numbered_line text number = if number == 0 then None else slice_get (slice_split (λ byte. byte == 10) text) (number - 1)

-- a line of the text, as it is shown
abbrev pub shown_line : List ℕ → List ℕ
shown_line line = map shown_byte line ++ newline

-- a caret under a column: as many spaces as there are columns before it, and the caret; there is no column 0, and so none is pointed at
abbrev pub caret_lines : ℕ → List ℕ
caret_lines column = if column == 0 then [] else replicate (column - 1) 32 ++ (codes "^" ++ newline)

-- a line of the text, with the caret under a column; where the text has no such line, nothing is pointed at
abbrev pub pointed_lines : Option (List ℕ) → ℕ → List ℕ
pointed_lines None column = []
pointed_lines (Some line) column = shown_line line ++ caret_lines column

-- the line of the text at a spot, with the caret
abbrev pub spot_lines : List ℕ → Spot → List ℕ
spot_lines text spot = pointed_lines (numbered_line text spot.line) spot.column

-- the refusal, and the line of the text where it stands
abbrev pub refused_lines : List ℕ → BenchFault → List ℕ
refused_lines text fault = codes "refused " ++ told_text (bench_told fault) ++ newline ++ spot_lines text (bench_told fault).spot
