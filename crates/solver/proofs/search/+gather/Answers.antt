use Rattle.std.proofs.Common.{◌^◌, ◌<◌, rules, arith}
use Rattle.std.proofs.lemmas.Bool.{false≢true}
use Rattle.std.proofs.lemmas.Result.{err_from_is_err_and, on_ok_weaker, on_err_weaker}
use Rattle.approx.specs.Meanings.{meaning}
use Rattle.approx.proofs.Laws.{lawful}
use Rattle.solver.proofs.Forking.{fork_none, fork_only, fork_joins, fork_fewer}
use Rattle.solver.proofs.Parting.{crossed_leaves}
use Rattle.solver.proofs.Listed.{lists_one}
use Rattle.solver.proofs.Enlisting.{inside_listed}
use Rattle.solver.proofs.Gathering.{gathered_none, gathered_one, gathered_both, front_none, front_first, front_second}
use Rattle.solver.proofs.search.+gather.Goals as goal

pub returns-then-not-is_proper-clause-whole : goal.returns-then-not-is_proper-clause-whole
returns-then-not-is_proper-clause-whole g t c = gathered_none c.args.found.now.items (crossed_leaves (λ p. false≢true (c.if-not-is_proper.ensures.1 p)))

pub gather-requires : goal.gather-requires
gather-requires g t c κs within = let fewer = fork_fewer {m = meaning g.A.Approximator c.args.pile.now} c.in_Two-pile.ensures in search rules

pub gather-requires-in_Two-pile : goal.gather-requires-in_Two-pile
gather-requires-in_Two-pile g t c κs within = let fewer = fork_fewer {m = meaning g.A.Approximator c.args.pile.now} c.in_Two-pile.ensures in search rules

pub returns-in_Nothing-pile-clause-whole : goal.returns-in_Nothing-pile-clause-whole
returns-in_Nothing-pile-clause-whole g t c = gathered_none c.args.found.now.items (fork_none (lawful (g.met.A.Approximator.laws c.args.pile.now)) c.in_Nothing-pile.ensures)

pub returns-in_err-push-in_Single-pile-clause-short : goal.returns-in_err-push-in_Single-pile-clause-short
returns-in_err-push-in_Single-pile-clause-short g t c =
    let only = fork_only (lawful (g.met.A.Approximator.laws c.args.pile.now)) c.in_Single-pile.ensures in
    let p = err_from_is_err_and c.from_residual.result c.from_residual.ensures.1 in
    rw p.1 (front_none {old = c.args.found.now.items} {new = c.push.new.self.items} (lists_one only) c.in_err-push-in_Single-pile.ensures.items)

pub returns-in_ok-push-in_Single-pile-clause-whole : goal.returns-in_ok-push-in_Single-pile-clause-whole
returns-in_ok-push-in_Single-pile-clause-whole g t c = gathered_one (fork_only (lawful (g.met.A.Approximator.laws c.args.pile.now)) c.in_Single-pile.ensures) c.in_ok-push-in_Single-pile.ensures.items

pub returns-in_err-gather-in_Two-pile-clause-short : goal.returns-in_err-gather-in_Two-pile-clause-short
returns-in_err-gather-in_Two-pile-clause-short g t c =
    let laws = lawful (g.met.A.Approximator.laws c.args.pile.now) in
    let fits : c.in_Two-pile.with.upper < 2 ^ 64 = omega arith in
    let p = err_from_is_err_and c.from_residual-in_err-gather-in_Two-pile.result c.from_residual-in_err-gather-in_Two-pile.ensures.1 in
    rw p.1 (front_first (fork_joins c.in_Two-pile.ensures laws) c.in_err-gather-in_Two-pile.ensures.short (inside_listed laws c.in_Two-pile.with fits).1)

pub returns-in_ok-gather-in_Two-pile-clause-whole : goal.returns-in_ok-gather-in_Two-pile-clause-whole
returns-in_ok-gather-in_Two-pile-clause-whole g t c =
    on_ok_weaker c.gather-in_Two-pile.result
    (gathered_both (fork_joins c.in_Two-pile.ensures (lawful (g.met.A.Approximator.laws c.args.pile.now))) c.in_ok-gather-in_Two-pile.ensures.whole)
    c.gather-in_Two-pile.ensures.whole

pub returns-in_ok-gather-in_Two-pile-clause-short : goal.returns-in_ok-gather-in_Two-pile-clause-short
returns-in_ok-gather-in_Two-pile-clause-short g t c =
    on_err_weaker c.gather-in_Two-pile.result
    (front_second (fork_joins c.in_Two-pile.ensures (lawful (g.met.A.Approximator.laws c.args.pile.now))) c.in_ok-gather-in_Two-pile.ensures.whole)
    c.gather-in_Two-pile.ensures.short
