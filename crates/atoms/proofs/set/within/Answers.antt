use lib.Bits.{bit_and}
use Rattle.std.proofs.lemmas.Bool.{eqb-true, eq-eqb}
use Rattle.atoms.proofs.Inclusion.{within_test, test_within}
use Rattle.atoms.proofs.set.within.Goals as goal

pub returns : goal.returns
returns c = (
  (λ t. within_test (eqb-true (bit_and c.args.a c.args.b) c.args.a t)),
  (λ p. eq-eqb (bit_and c.args.a c.args.b) c.args.a (test_within p)),
)
