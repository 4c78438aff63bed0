use Rattle.std.proofs.Common.{arith}
use Rattle.atoms.proofs.Openness.{open_collected}
use Rattle.atoms.proofs.bounds.Bounds.open_atoms.Goals as goal

pub returns : goal.returns
returns c = open_collected c.args.self (omega arith) (omega arith)
