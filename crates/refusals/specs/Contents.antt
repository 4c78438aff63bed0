-- The contents of a sheet: four lines that announce how many lines of each kind follow.
use Rattle.std.specs.Prelude.{◌≡◌, ℕ, List, [], ◌∷◌, drop, codes}
use Rattle.faults.specs.declared.SheetFault.{SheetFault}
use Rattle.faults.specs.declared.SheetFault.TheVariants as fault
use Rattle.faults.specs.Faults.{at}
use Rattle.text.specs.Lines.{Numbered}
use Rattle.grammar.specs.declared.count.CountState.TheVariants as count
use Rattle.grammar.specs.declared.wrong.Wrong.TheVariants as wrong
use Rattle.grammar.specs.Counts.{count_next, count_done}
use Rattle.grammar.specs.Verdicts.{Counts}
use Rattle.refusals.specs.Words.{LineLawful, LineFaulty}

-- What a line of the contents has to say: its word, and a number from the lowest to the highest; and the number of the line.
pub record Heading : Type 0 where
  pub word : List ℕ
  pub lowest : ℕ
  pub highest : ℕ
  pub number : ℕ

-- Line 1 says `marks` and a number from 1 to 64.
abbrev pub marks : Heading
marks = record { word = codes "marks"; lowest = 1; highest = 64; number = 1 }

-- Line 2 says `loads` and a number from 0 to 32.
abbrev pub loads : Heading
loads = record { word = codes "loads"; lowest = 0; highest = 32; number = 2 }

-- Line 3 says `rules` and a number from 0 to 128.
abbrev pub rules : Heading
rules = record { word = codes "rules"; lowest = 0; highest = 128; number = 3 }

-- Line 4 says `relays` and a number from 0 to 64.
abbrev pub relays : Heading
relays = record { word = codes "relays"; lowest = 0; highest = 64; number = 4 }

-- The first of some lines is what a heading asks, and says a number.
pub record Headed (h : Heading) (lines : List Numbered) (n : ℕ) : Type 0 where
  pub line : Numbered
  pub below : List Numbered
  pub split : lines ≡ line ∷ below
  pub lawful : LineLawful (count_next h.word h.lowest h.highest) count_done count.Start line n

-- The first of some lines is not what a heading asks: there is none, which is told in column 0 of its number, or it is faulty.
pub data Misheaded (h : Heading) (lines : List Numbered) (f : SheetFault) : Type 0 where
  line_missing : lines ≡ [] → f ≡ fault.Contents (at h.number 0) → Misheaded h lines f
  line_wrong : (line : Numbered) (below : List Numbered) → lines ≡ line ∷ below
      → LineFaulty (count_next h.word h.lowest h.highest) count_done wrong.Contents count.Start line f → Misheaded h lines f

-- The contents are lawful: the first four lines are what the headings ask, and say these numbers.
pub record ContentsLawful (lines : List Numbered) (c : Counts) : Type 0 where
  pub marks_line : Headed marks lines c.marks
  pub loads_line : Headed loads (drop 1 lines) c.loads
  pub rules_line : Headed rules (drop 2 lines) c.rules
  pub relays_line : Headed relays (drop 3 lines) c.relays

-- The contents are faulty: one of the four lines is missing or wrong, and those above it are lawful.
pub data ContentsFaulty (lines : List Numbered) (f : SheetFault) : Type 0 where
  at_marks : Misheaded marks lines f → ContentsFaulty lines f
  at_loads : (m : ℕ) → Headed marks lines m → Misheaded loads (drop 1 lines) f → ContentsFaulty lines f
  at_rules : (m l : ℕ) → Headed marks lines m → Headed loads (drop 1 lines) l → Misheaded rules (drop 2 lines) f → ContentsFaulty lines f
  at_relays : (m l r : ℕ) → Headed marks lines m → Headed loads (drop 1 lines) l → Headed rules (drop 2 lines) r → Misheaded relays (drop 3 lines) f → ContentsFaulty lines f
