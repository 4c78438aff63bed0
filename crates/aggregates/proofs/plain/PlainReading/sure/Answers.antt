use Rattle.std.proofs.Common.{◌∙◌}
use Rattle.aggregates.specs.Deciding.{plain_decided}
use Rattle.aggregates.proofs.plain.PlainReading.sure.Goals as goal

pub returns-then-not-leaves_open : goal.returns-then-not-leaves_open
returns-then-not-leaves_open c = λ p. c.sure.ensures p ∙ (plain_decided c.args.aggregate.now c.args.bounds.lower c.args.bounds.upper (cc)).0
