-- What is said in a session, line by line, and all that the keeper prints.
use Rattle.std.specs.Prelude.{◌≡◌, ◌⊎◌, ℕ, ⊤, true, false, List, [], ◌∷◌, ◌++◌, Ok, MatchResult}
use Rattle.std.specs.Borrow.{Bor}
use Rattle.atoms.specs.declared.bounds.Bounds.{Bounds}
use Rattle.approx.specs.declared.approximator.Approximator.{Ghosts}
use Rattle.faults.specs.declared.BenchFault.{BenchFault}
use Rattle.tables.specs.declared.table.Table.{Table}
use Rattle.engine.specs.Standing.{pegs_count}
use Rattle.engine.specs.Listings.{list_gives}
use Rattle.engine.specs.declared.board.Settled.{Settled}
use Rattle.engine.specs.declared.listing.Listing.{Listing}
use Rattle.report.specs.Sheets.{SettledSheet}
use Rattle.report.specs.Lines.{refusal_line}
use Rattle.report.specs.Answers.{IsAnswer, IsAnswerBy}
use Rattle.keeper.specs.Names.{SheetNames}
use Rattle.keeper.specs.Texts.{reply_text, is_last}
use Rattle.keeper.specs.Refusals.{newline, refused_lines}
use Rattle.keeper.specs.Desk.{AnswersLine}
use Rattle.keeper.specs.declared.Ending.{Ending}
use Rattle.keeper.specs.declared.Ending.TheVariants as ending
use Rattle.keeper.specs.declared.marks.Marks.{Marks}
use Rattle.keeper.specs.declared.reply.Reply.{Reply}
use Rattle.keeper.specs.declared.reply.Reply.TheVariants as reply

-- a line that was read, and the reply to it
pub record Exchange : Type 0 where
  pub line : List ℕ
  pub reply : Reply

-- each line of a session, whose newest exchange stands first, is answered in its turn; so the listing goes on from old to new
abbrev pub AnswersEach : {X : Type 0} → Ghosts X → Marks → Listing X → List Exchange → Listing X → Type 0
AnswersEach G m old [] new = new ≡ old
AnswersEach {X} G m old (x ∷ xs) new = (mid : Listing X) × AnswersEach G m old xs mid × AnswersLine G m x.line mid new x.reply

-- the lines of the replies, as they are printed
abbrev pub replies_text : List Exchange → List ℕ
replies_text [] = []
replies_text (x ∷ xs) = replies_text xs ++ (reply_text x.reply ++ newline)

-- none of the replies is the last
abbrev pub NoneLast : List Exchange → Type 0
NoneLast [] = ⊤
NoneLast (x ∷ xs) = (is_last x.reply ≡ false) × NoneLast xs

-- a session is closed by its newest reply, and the input is over where no reply was the last
abbrev pub EndsAs : List Exchange → Ending → Type 0
EndsAs [] ending.Closed = ⊥
EndsAs (x ∷ xs) ending.Closed = (is_last x.reply ≡ true) × NoneLast xs
EndsAs xs ending.InputOver = NoneLast xs

-- what is printed after the replies: where the input is over, how many pegs were pulled
abbrev pub ending_text : Ending → ℕ → List ℕ
ending_text ending.Closed pegs = []
ending_text ending.InputOver pegs = reply_text (reply.Ended pegs) ++ newline

-- the bytes are those of a session that begins with a listing, at marks of these names and bounds
pub record IsSession {X : Type 0} (G : Ghosts X) (names : List (Bor (List ℕ))) (bounds : Bounds) (begun : Listing X) (bytes : List ℕ) : Type 0 where
  pub marks : Marks
  pub names_are : marks.names.now ≡ names
  pub bounds_are : marks.bounds ≡ bounds
  pub exchanges : List Exchange
  pub left : Listing X
  pub answered : AnswersEach G marks begun exchanges left
  pub ending : Ending
  pub ends : EndsAs exchanges ending
  pub is : bytes ≡ replies_text exchanges ++ ending_text ending (pegs_count left.pegs)

-- the bytes are those of a session over a settled board, or of the refusal where it cannot be listed
abbrev pub IsKept : {X : Type 0} → Ghosts X → List (Bor (List ℕ)) → Settled X → List ℕ → Type 0
IsKept G names board bytes = MatchResult (list_gives board) (λ begun. IsSession G names board.bounds begun bytes) (λ refused. bytes ≡ refused_lines [] refused.fault)

-- the bytes are those of a session over a sheet's settled board, at the names that the text has of its atoms; and the bench answers the text as that sheet
pub record IsSheetKept {X : Type 0} (G : Ghosts X) (text : List ℕ) (bytes : List ℕ) : Type 0 where
  pub table : Table
  pub answered : (a : List ℕ) → IsAnswer text a → IsAnswerBy text (Ok table) a
  pub board : Settled X
  pub settled : SettledSheet G table board
  pub names : List (Bor (List ℕ))
  pub names_are : SheetNames table text names
  pub kept : IsKept G names board bytes

-- the bytes are those of the refusal of a text, which the bench refuses likewise
pub record IsTextRefused (text : List ℕ) (bytes : List ℕ) : Type 0 where
  pub fault : BenchFault
  pub answered : IsAnswer text (refusal_line fault)
  pub is : bytes ≡ refused_lines text fault

-- the bytes are those of a session over a sheet, or of the refusal of the text
abbrev pub IsOpened : {X : Type 0} → Ghosts X → List ℕ → List ℕ → Type 0
IsOpened G text bytes = IsSheetKept G text bytes ⊎ IsTextRefused text bytes
