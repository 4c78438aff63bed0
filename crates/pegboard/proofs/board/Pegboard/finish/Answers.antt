use Rattle.pegboard.proofs.Keeping.{kept_popped}
use Rattle.pegboard.proofs.board.Pegboard.finish.Goals as goal

pub loop-token-preserved : goal.loop-token-preserved
loop-token-preserved g c =
    let inv = c.loop-token.invariant in
    let t = c.in-Some.token in
    rw c.lift.ensures.leaves (kept_popped c.loop-token.listing.pegs c.loop-token.tokens.items c.pop.new.self.items t inv.0 c.in-Some.ensures.items, inv.1)
