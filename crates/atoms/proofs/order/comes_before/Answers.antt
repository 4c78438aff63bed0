use Rattle.std.proofs.Common.{rules}
use Rattle.atoms.proofs.Ordering.{before_decided}
use Rattle.atoms.proofs.order.comes_before.Goals as goal

pub returns : goal.returns
returns c = before_decided c.args.a c.args.b c.lowest.result c.is_some_and.result c.lowest.ensures (search rules)
