use Rattle.aggregates.specs.Sums.{least_of, most_of}
use Rattle.aggregates.proofs.Summing.{Summed}
use Rattle.aggregates.proofs.sums.Span.of.Given as goal

abbrev pub invariant-loop-entry : goal.invariant-loop-entry
invariant-loop-entry l =
    Summed (λ e. least_of e l.bounds.lower l.bounds.upper) l.entry-items l.entry-index l.low
    × Summed (λ e. most_of e l.bounds.lower l.bounds.upper) l.entry-items l.entry-index l.high
