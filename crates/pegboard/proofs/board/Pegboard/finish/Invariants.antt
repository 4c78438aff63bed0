use Rattle.std.proofs.Common.{◌≡◌, vec_len}
use Rattle.pegboard.specs.Kept.{Kept}
use Rattle.pegboard.specs.Answered.{unlisted}
use Rattle.pegboard.proofs.board.Pegboard.finish.Given as goal

abbrev pub invariant-loop-token : goal.invariant-loop-token
invariant-loop-token g l = Kept l.listing.pegs l.tokens.items × (unlisted l.listing ≡ unlisted l.fn.self.listing)

abbrev pub decreases-loop-token : goal.decreases-loop-token
decreases-loop-token g l = vec_len l.tokens
