use Rattle.std.proofs.Common.{arith}
use Rattle.engine.specs.declared.pegs.Sense.TheVariants.{On, Off}
use Rattle.engine.proofs.Turning.{turned_off}
use Rattle.engine.proofs.pegs.Pegs.without.Goals as goal

pub returns-in-On-clause-holds : goal.returns-in-On-clause-holds
returns-in-On-clause-holds c = rw (c.in-On.is, c.only.ensures) (turned_off c.args.self c.args.atom On (omega arith) (omega arith))

pub returns-in-Off-clause-holds : goal.returns-in-Off-clause-holds
returns-in-Off-clause-holds c = rw (c.in-Off.is, c.only-in-Off.ensures) (turned_off c.args.self c.args.atom Off (omega arith) (omega arith))
