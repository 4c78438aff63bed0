use Rattle.std.proofs.Common.{ap₂, arith}
use lib.Bits.{bit_or}
use Rattle.atoms.proofs.Inclusion.{within_narrow}
use Rattle.layers.proofs.joined.JoinedApproximator.sure.Goals as goal

pub returns : goal.returns
returns g c = λ p.
    ap₂ bit_or (c.sure.ensures (within_narrow _ _ _ _ (omega arith) p)) (c.sure-2.ensures (within_narrow _ _ _ _ (omega arith) p))
