-- The bench's whole answer to a text.
use Rattle.std.specs.Prelude.{◌≡◌, ℕ, ◌<◌, ◌≤◌, ◌⊎◌, List, ◌++◌, Ok, Err, Option, Result}
use Rattle.std.specs.Io.KnownBytes.{Appends}
use Rattle.atoms.specs.Bounded.{open_count}
use Rattle.atoms.specs.declared.bounds.Bounds.{Bounds}
use Rattle.approx.specs.Meanings.{Meaning}
use Rattle.approx.specs.Settling.{Settles, Crosses}
use Rattle.approx.specs.Stability.{Stable}
use Rattle.faults.specs.declared.BenchFault.TheVariants.{Sheet, Crossed, TooManyOpen}
use Rattle.faults.specs.declared.SheetFault.{SheetFault}
use Rattle.tables.specs.declared.table.Table.{Table}
use Rattle.solver.specs.Lists.{Lists}
use Rattle.grammar.specs.Verdicts.{verdict}
use Rattle.report.specs.Sheets.{sheet_meaning}
use Rattle.report.specs.Lines.{state_lines, listing_lines, refusal_line}

-- The lines of all stable interpretations, in listing order, and of how many there are.
pub record IsListing (text : List ℕ) (t : Table) (m : Meaning) (bytes : List ℕ) : Type 0 where
  pub standings : List ℕ
  pub listed : Lists (Stable m) standings
  pub is : bytes ≡ listing_lines text t standings

-- The answer where the bounds settle: the states of the atoms, and then the listing, or its refusal where more than 16 atoms are open.
pub record IsSettledAnswer (text : List ℕ) (t : Table) (m : Meaning) (bytes : List ℕ) : Type 0 where
  pub bounds : Bounds
  pub settled : Settles m bounds
  pub rest : List ℕ
  pub listed : open_count bounds ≤ 16 → IsListing text t m rest
  pub refused : 16 < open_count bounds → rest ≡ refusal_line (TooManyOpen (open_count bounds))
  pub is : bytes ≡ state_lines text t bounds ++ rest

-- The answer where the bounds cross: that refusal.
pub record IsCrossedAnswer (m : Meaning) (bytes : List ℕ) : Type 0 where
  pub crosses : Crosses m
  pub is : bytes ≡ refusal_line Crossed

-- The answer by the verdict on the text: a refused sheet's is the refusal, and an accepted one's is that of its meaning.
abbrev pub IsAnswerBy : List ℕ → Result Table SheetFault → List ℕ → Type 0
IsAnswerBy text (Ok t) bytes = (IsSettledAnswer text t (sheet_meaning t) bytes) ⊎ (IsCrossedAnswer (sheet_meaning t) bytes)
IsAnswerBy text (Err fault) bytes = bytes ≡ refusal_line (Sheet fault)

-- The bytes are the whole answer to a text.
abbrev pub IsAnswer : List ℕ → List ℕ → Type 0
IsAnswer text bytes = IsAnswerBy text (verdict text) bytes

-- Known bytes grow by some bytes of which P holds.
pub record AppendsSome (P : List ℕ → Type 0) (old new : Option (List ℕ)) : Type 0 where
  pub bytes : List ℕ
  pub right : P bytes
  pub appended : Appends old new bytes

-- A text has one answer only.
abbrev pub HasOneAnswer : List ℕ → Type 0
HasOneAnswer text = (a b : List ℕ) → IsAnswer text a → IsAnswer text b → a ≡ b
