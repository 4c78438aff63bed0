use Rattle.engine.specs.declared.pegs.Sense.TheVariants.{On, Off}
use Rattle.engine.proofs.Turning.{turned_on}
use Rattle.engine.proofs.pegs.Pegs.with.Goals as goal

pub returns-in-On-clause-holds : goal.returns-in-On-clause-holds
returns-in-On-clause-holds c = λ l. rw (c.in-On.is, c.only.ensures) (turned_on c.args.self c.args.atom On l)

pub returns-in-Off-clause-holds : goal.returns-in-Off-clause-holds
returns-in-Off-clause-holds c = λ l. rw (c.in-Off.is, c.only-in-Off.ensures) (turned_on c.args.self c.args.atom Off l)
