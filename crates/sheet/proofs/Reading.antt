-- The sections of the names and of rows that are read by the rows above alone.
use Rattle.std.proofs.Common.{◌≡◌, ℕ, ◌+◌, List, [], ◌∷◌, ◌++◌, length, take, Ok, Err, Result, refl}
use Rattle.faults.specs.declared.SheetFault.{SheetFault}
use Rattle.tables.specs.declared.table.Place.{Place}
use Rattle.text.specs.Lines.{Numbered}
use Rattle.text.specs.Names.{names_of}
use Rattle.grammar.specs.declared.name.NameState.TheVariants as named
use Rattle.grammar.specs.declared.wrong.Wrong.TheVariants as wrongs
use Rattle.grammar.specs.Names.{name_next, name_done}
use Rattle.grammar.specs.Lines.{line_read}
use Rattle.grammar.specs.Verdicts.{onward, rows_read, names_read}
use Rattle.sheet.specs.Sections.{section_read}

-- what goes on in the same way gives the same
onward_same : {X Y : Type 0} (r : Result X SheetFault) (f g : X → Result Y SheetFault) → ((x : X) → f x ≡ g x) → onward r f ≡ onward r g
onward_same (Ok x) f g e = e x
onward_same (Err fault) f g e = refl

pub rows_section : {R : Type 0} (one : List R → Numbered → Result R SheetFault) (above : List R) (from : ℕ) (lines : List Numbered) → section_read (λ rows _. one rows) above from lines ≡ rows_read one above lines
rows_section one above from [] = refl
rows_section one above from (line ∷ lines) = onward_same (one above line) _ _ (λ row. rows_section one (above ++ row ∷ []) (from + (length line.bytes + 1)) lines)

pub names_section : (text : List ℕ) (above : List Place) (from : ℕ) (lines : List Numbered)
    → section_read (λ places position. line_read (name_next (names_of text (take 64 places)) position) name_done wrongs.Misplaced named.Start) above from lines ≡ names_read text from above lines
names_section text above from [] = refl
names_section text above from (line ∷ lines) =
    onward_same (line_read (name_next (names_of text (take 64 above)) from) name_done wrongs.Misplaced named.Start line) _ _ (λ place. names_section text (above ++ place ∷ []) (from + (length line.bytes + 1)) lines)
