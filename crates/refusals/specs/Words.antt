-- Which words of a line can stand, and which is the first that cannot.
use Rattle.std.specs.Prelude.{◌≡◌, List, [], ◌∷◌, ◌++◌, Some, None, Ok, Err, Option, Result}
use Rattle.faults.specs.declared.Spot.{Spot}
use Rattle.faults.specs.declared.SheetFault.{SheetFault}
use Rattle.text.specs.Lines.{Numbered, Placed, words_of, end_of}
use Rattle.text.specs.Words.{Meaning, meaning}
use Rattle.grammar.specs.declared.wrong.Wrong.{Wrong}
use Rattle.grammar.specs.Wrongs.{fault_at}

-- Words stand, one after another: each can stand where the ones to its left have led, and leads on.
pub data Stands {S : Type 0} (next : S → Meaning → Result S Wrong) : S → List Placed → S → Type 0 where
  no_word : {s : S} → Stands next s [] s
  one_word : {s t u : S} {w : Placed} {ws : List Placed} → next s (meaning w.bytes) ≡ Ok t → Stands next t ws u → Stands next s (w ∷ ws) u

-- The words of a line that ends at the spot `end` are faulty: every word to the left stands, and the word there cannot; or all words stand, and one is missing at the end.
pub data WordsFaulty {S R : Type 0} (next : S → Meaning → Result S Wrong) (done : S → Option R) (missing : Wrong) (end : Spot) (start : S) (words : List Placed) (f : SheetFault) : Type 0 where
  wrong_word : (left right : List Placed) (w : Placed) (s : S) (k : Wrong)
      → words ≡ left ++ w ∷ right → Stands next start left s → next s (meaning w.bytes) ≡ Err k → f ≡ fault_at k w.at
      → WordsFaulty next done missing end start words f
  missing_word : (s : S) → Stands next start words s → done s ≡ None → f ≡ fault_at missing end → WordsFaulty next done missing end start words f

-- A line is faulty when its words are; a missing word stands just past the end of the line.
abbrev pub LineFaulty : {S R : Type 0} → (S → Meaning → Result S Wrong) → (S → Option R) → Wrong → S → Numbered → SheetFault → Type 0
LineFaulty next done missing start line f = WordsFaulty next done missing (end_of line) start (words_of line) f

-- Words that all stand, after which the line may end and gives its row.
pub record WordsLawful {S R : Type 0} (next : S → Meaning → Result S Wrong) (done : S → Option R) (start : S) (words : List Placed) (row : R) : Type 0 where
  pub last : S
  pub stand : Stands next start words last
  pub ends : done last ≡ Some row

-- A line is lawful when its words are.
abbrev pub LineLawful : {S R : Type 0} → (S → Meaning → Result S Wrong) → (S → Option R) → S → Numbered → R → Type 0
LineLawful next done start line row = WordsLawful next done start (words_of line) row
