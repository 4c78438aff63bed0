use Rattle.std.proofs.Common.{ap}
use lib.Bits.{bit_or}
use Rattle.atoms.proofs.Inclusion.{within_mod}
use Rattle.solver.proofs.search.narrowed.Goals as goal

-- the bounds are not crossed, so the question is answered by the meaning
pub returns : goal.returns
returns g c = record {
  lower = ap (bit_or c.args.bounds.lower) (c.sure.ensures (within_mod (g.A.Approximator.width c.args.pile.now) c.requires));
  upper = c.founded.ensures;
}
