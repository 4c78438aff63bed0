use Rattle.std.proofs.Common.{◌≤◌}
use Rattle.pegboard.proofs.Listed.{kept_granted}
use Rattle.pegboard.proofs.board.Pegboard.peg.Goals as goal

pub invariant_of-self-2 : goal.invariant_of-self-2
invariant_of-self-2 g c =
    let x = c.args.self.now.listing in
    let wide : g.A.Approximator.width x.pile ≤ 64 = (g.met.A.Approximator.laws x.pile).wide.1 in
    rw (c.push_reserved.ensures.items, c.reserve.ensures.items)
    (record { kept = kept_granted x c.peg.new.self c.args.self.now.tokens.items (g.A.Approximator.width x.pile) c.args.atom c.args.sense c.in_ok-token.token c.args.self.now.kept wide c.in_ok-token.ensures.gives c.in_ok-token.ensures.leaves })
