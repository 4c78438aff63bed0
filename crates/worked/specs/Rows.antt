-- A row of the table, and when it is right.
use Rattle.std.specs.Prelude.{ℕ, List}
use Rattle.atoms.specs.declared.bounds.Bounds.{Bounds}
use Rattle.approx.specs.Meanings.{Meaning}
use Rattle.approx.specs.Settling.{Settles}
use Rattle.solver.specs.Lists.{Lists, Counted}
use Rattle.engine.specs.Histories.{History, in_force, Agreeing}
use Rattle.worked.specs.declared.Answer.{Answer}

-- a board, the pegs that it was given, its settled bounds, the stable interpretations that agree with the pegs, and how many they are
pub record Row : Type 0 where
  pub board : Meaning
  pub pegs : History
  pub settled : Bounds
  pub stable : List ℕ
  pub tally : ℕ

-- the row is right: the bounds are the settled ones, the list is whole and in listing order, and the tally is its number
pub record Right (row : Row) : Type 0 where
  pub settled : Settles row.board row.settled
  pub listed : Lists (Agreeing row.board (in_force row.pegs)) row.stable
  pub counted : Counted (Agreeing row.board (in_force row.pegs)) row.tally

-- what a board comes to
abbrev pub answer : ℕ → ℕ → ℕ → Answer
answer lower upper tally = record { bounds = record { lower = lower; upper = upper }; tally = tally }

-- what the row says that its board comes to
abbrev pub answer_of : Row → Answer
answer_of row = record { bounds = row.settled; tally = row.tally }
