use Rattle.std.proofs.Common.{List}
use Rattle.std.specs.Io.KnownBytes.{Appends}
use Rattle.keeper.specs.Sessions.{Exchange, AnswersEach, NoneLast, replies_text}
use Rattle.keeper.proofs.attend.Given as goal

abbrev pub invariant-loop-line : goal.invariant-loop-line
invariant-loop-line g l =
    (xs : List Exchange) × AnswersEach g.A.Approximator l.marks l.initial.board.listing xs l.board.listing × NoneLast xs × Appends (g.W.Write.contents l.initial.out) (g.W.Write.contents l.out) (replies_text xs)
