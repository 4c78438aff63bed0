use Rattle.programs.specs.Gathering.{clauses_more}
use Rattle.programs.proofs.rules.clauses_from.Goals as goal

pub loop-rule-preserved : goal.loop-rule-preserved
loop-rule-preserved c = clauses_more _ _ _ c.loop-rule-test.true c.as_slice-rule-items.ensures.few c.loop-rule.invariant c.of.ensures.is c.push.ensures.holds
