use Rattle.std.proofs.Common.{rules}
use Rattle.std.proofs.lemmas.Bool.{false≢true}
use Rattle.approx.specs.Meanings.{meaning}
use Rattle.approx.proofs.Laws.{lawful}
use Rattle.solver.proofs.Forking.{fork_none, fork_only, fork_joins, fork_fewer}
use Rattle.solver.proofs.Parting.{crossed_leaves}
use Rattle.solver.proofs.Seeking.{last_none, only_sought, first_answer, second_answer}
use Rattle.solver.proofs.search.+first_after.Goals as goal

pub returns-then-not-comes_after : goal.returns-then-not-comes_after
returns-then-not-comes_after g t c = last_none c.args.after (λ p. false≢true (c.if-not-comes_after.ensures.1 p))

pub returns-then-not-is_proper : goal.returns-then-not-is_proper
returns-then-not-is_proper g t c = λ x a i. crossed_leaves (λ p. false≢true (c.if-not-is_proper.ensures.1 p)) x i

pub first_after-requires : goal.first_after-requires
first_after-requires g t c κs within = let fewer = fork_fewer {m = meaning g.A.Approximator c.args.pile.now} {b = c.args.bounds} c.in_Two-pile.ensures in search rules

pub first_after-requires-in-None : goal.first_after-requires-in-None
first_after-requires-in-None g t c κs within = let fewer = fork_fewer {m = meaning g.A.Approximator c.args.pile.now} {b = c.args.bounds} c.in_Two-pile.ensures in search rules

pub returns-in_Nothing-pile : goal.returns-in_Nothing-pile
returns-in_Nothing-pile g t c = λ x a i. fork_none (lawful (g.met.A.Approximator.laws c.args.pile.now)) c.in_Nothing-pile.ensures x i

pub returns-in_Single-pile : goal.returns-in_Single-pile
returns-in_Single-pile g t c =
    rw c.then_some.ensures
    (only_sought c.args.after c.comes_after-in_Single-pile.result (fork_only (lawful (g.met.A.Approximator.laws c.args.pile.now)) c.in_Single-pile.ensures) c.comes_after-in_Single-pile.ensures)

pub returns-in_default : goal.returns-in_default
returns-in_default g t c = first_answer (fork_joins c.in_Two-pile.ensures (lawful (g.met.A.Approximator.laws c.args.pile.now))) c.args.after c.first_after.result c.in_default.not-None c.first_after.ensures

pub returns-in-None : goal.returns-in-None
returns-in-None g t c =
    second_answer (fork_joins c.in_Two-pile.ensures (lawful (g.met.A.Approximator.laws c.args.pile.now))) c.args.after c.first_after-in-None.result c.in-None.ensures c.first_after-in-None.ensures
