-- Lines of one kind that stand one below another, and the topmost bad one among them.
use Rattle.std.specs.Prelude.{◌≡◌, List, [], ◌∷◌, ◌++◌, Option, Result}
use Rattle.faults.specs.declared.SheetFault.{SheetFault}
use Rattle.text.specs.Lines.{Numbered}
use Rattle.text.specs.Words.{Meaning}
use Rattle.grammar.specs.declared.wrong.Wrong.{Wrong}
use Rattle.refusals.specs.Words.{LineLawful, LineFaulty}

-- A kind of line: by what the lines above gave, which word can stand where; where a line may end, and with which row; what a missing word is called; and what the lines give with one row more.
pub record LineKind (X S R : Type 0) : Type 0 where
  pub next : X → S → Meaning → Result S Wrong
  pub done : S → Option R
  pub missing : Wrong
  pub start : S
  pub more : X → Numbered → R → X

-- A line of a kind is lawful below what the lines above gave, and gives a row.
abbrev pub Lawful : {X S R : Type 0} → LineKind X S R → X → Numbered → R → Type 0
Lawful kind above line row = LineLawful (kind.next above) kind.done kind.start line row

-- A line of a kind is faulty below what the lines above gave.
abbrev pub Faulted : {X S R : Type 0} → LineKind X S R → X → Numbered → SheetFault → Type 0
Faulted kind above line f = LineFaulty (kind.next above) kind.done kind.missing kind.start line f

-- Lines are lawful one below another, and lead from what was given above them to what is given below them.
pub data Rows {X S R : Type 0} (kind : LineKind X S R) : X → List Numbered → X → Type 0 where
  no_line : {x : X} → Rows kind x [] x
  one_line : {x y : X} {line : Numbered} {lines : List Numbered} {row : R} → Lawful kind x line row → Rows kind (kind.more x line row) lines y → Rows kind x (line ∷ lines) y

-- Among some lines one is the topmost bad one: every line above it is lawful, and it is faulty.
pub record Topmost {X S R : Type 0} (kind : LineKind X S R) (start : X) (lines : List Numbered) (f : SheetFault) : Type 0 where
  pub above : List Numbered
  pub line : Numbered
  pub below : List Numbered
  pub split : lines ≡ above ++ line ∷ below
  pub given : X
  pub lawful : Rows kind start above given
  pub faulty : Faulted kind given line f
