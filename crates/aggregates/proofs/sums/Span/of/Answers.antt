use Rattle.std.proofs.Common.{ap, ◌∙◌}
use Rattle.aggregates.specs.Sums.{high_sum}
use Rattle.aggregates.proofs.Summing.{summed_turn, summed_end}
use Rattle.aggregates.proofs.sums.Span.of.Goals as goal

pub loop-entry-preserved : goal.loop-entry-preserved
loop-entry-preserved c =
    let one = c.of_one-one.ensures in (
      summed_turn _ _ _ _ _ one.small.0 _ c.loop-entry-test.true c.as_slice-entry-items.ensures.few one.low c.loop-entry.invariant.0,
      summed_turn _ _ _ _ _ one.small.1 _ c.loop-entry-test.true c.as_slice-entry-items.ensures.few one.high c.loop-entry.invariant.1,
    )

pub returns-clause-high : goal.returns-clause-high
returns-clause-high c = summed_end c.loop-entry.invariant.1 c.loop-entry-test.false ∙ ap (λ es. high_sum es c.args.bounds.lower c.args.bounds.upper) c.as_slice-entry-items.ensures.is
