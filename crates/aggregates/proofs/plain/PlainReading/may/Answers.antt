use Rattle.std.proofs.Common.{◌∙◌}
use Rattle.aggregates.specs.Deciding.{plain_decided}
use Rattle.aggregates.proofs.plain.PlainReading.may.Goals as goal

pub returns-else-leaves_open : goal.returns-else-leaves_open
returns-else-leaves_open c = λ p. c.may.ensures p ∙ (plain_decided c.args.aggregate.now c.args.bounds.lower c.args.bounds.upper (cc)).1
