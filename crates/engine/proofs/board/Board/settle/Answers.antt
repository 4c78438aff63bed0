use Rattle.std.proofs.Common.{refl}
use Rattle.approx.proofs.Laws.{lawful}
use Rattle.approx.proofs.Rounding.{settles_one, settled_uncrossed}
use Rattle.approx.proofs.Steadiness.{stable_between}
use Rattle.engine.proofs.board.Board.settle.Goals as goal

pub returns-in-Ok : goal.returns-in-Ok
returns-in-Ok g c =
    let s = c.in-Ok.ensures in
    record {
      pile = refl;
      settled = s;
      only = λ b t. settles_one t s;
      stable_within = λ z t. stable_between (lawful (g.met.A.Approximator.laws c.args.self.pile)) t s.reached;
      uncrossed = λ x. settled_uncrossed (lawful (g.met.A.Approximator.laws c.args.self.pile)) x;
    }

pub returns-in-Err : goal.returns-in-Err
returns-in-Err g c =
    let x = c.in-Err.ensures in
    record {
      fault = x.0;
      board_back = refl;
      crossed = x.1;
      unsettled = λ b t. settled_uncrossed (lawful (g.met.A.Approximator.laws c.args.self.pile)) x.1;
    }
