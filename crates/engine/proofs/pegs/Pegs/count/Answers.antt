use Rattle.std.proofs.Common.{◌+◌, ap₂, arith}
use Rattle.atoms.proofs.Collecting.{ones_how_many}
use Rattle.engine.proofs.pegs.Pegs.count.Goals as goal

pub returns : goal.returns
returns c = ap₂ ◌+◌ (ones_how_many 64 c.args.self.on (omega arith)) (ones_how_many 64 c.args.self.off (omega arith))
