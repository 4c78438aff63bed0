use Rattle.std.proofs.Common.{◌≤◌, arith}
use Rattle.std.proofs.lemmas.Nat.{and_mask}
use Rattle.layers.proofs.cut_out.CutOut.dropped.Goals as goal

pub returns : goal.returns
returns g c =
    let narrow : g.A.Approximator.width c.args.self.now.pile ≤ 64 = (g.met.A.Approximator.laws c.args.self.now.pile).wide.1 in
    grind (arith, and_mask)
