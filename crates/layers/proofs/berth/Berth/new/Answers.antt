use Rattle.std.proofs.Common.{arith}
use Rattle.approx.proofs.Laws.{lawful}
use Rattle.layers.proofs.Berthing.{granted}
use Rattle.layers.proofs.berth.Berth.new.Goals as goal

pub returns : goal.returns
returns g c =
    granted g.A.Approximator c.args.pile c.args.first c.new.result
    (lawful (g.met.A.Approximator.laws c.args.pile)) (omega arith) (omega arith) (omega arith)
