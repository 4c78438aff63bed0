-- The rows of a section, and the contents as the program keeps them.
use Rattle.std.specs.Prelude.{ℕ, ◌+◌, ◌≤◌, List, [], ◌∷◌, ◌++◌, length, Ok, Result}
use Rattle.faults.specs.declared.SheetFault.{SheetFault}
use Rattle.text.specs.Lines.{Numbered}
use Rattle.grammar.specs.Verdicts.{Counts, announced, onward}
use Rattle.sheet.specs.declared.contents.Contents.{Contents}

-- Rows that lines write one after another, each read by the rows above it and by the position in the text where it begins.
abbrev pub section_read : {R : Type 0} → (List R → ℕ → Numbered → Result R SheetFault) → List R → ℕ → List Numbered → Result (List R) SheetFault
section_read one above from [] = Ok above
section_read one above from (line ∷ lines) = onward (one above from line) (λ row. section_read one (above ++ row ∷ []) (from + (length line.bytes + 1)) lines)

-- No count is more than its section has room for.
pub record LawfulContents (c : Contents) : Type 0 where
  pub marks : c.marks ≤ 64
  pub loads : c.loads ≤ 32
  pub rules : c.rules ≤ 128
  pub relays : c.relays ≤ 64

-- The counts that the program keeps.
abbrev pub counts_in : Contents → Counts
counts_in c = record { marks = c.marks; loads = c.loads; rules = c.rules; relays = c.relays }

-- How many lines the kept contents announce.
abbrev pub announced_in : Contents → ℕ
announced_in c = announced (counts_in c)
