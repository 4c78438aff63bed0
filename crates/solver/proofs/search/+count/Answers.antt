use Rattle.std.proofs.Common.{ℕ, ◌^◌, ◌≤◌, rules}
use Rattle.std.proofs.lemmas.Bool.{false≢true}
use Rattle.atoms.specs.Bounded.{open_count}
use Rattle.approx.specs.Meanings.{meaning}
use Rattle.approx.proofs.Laws.{lawful}
use Rattle.solver.specs.Lists.{Counted, Tallied}
use Rattle.solver.proofs.Forking.{fork_none, fork_only, fork_joins, fork_fewer}
use Rattle.solver.proofs.Parting.{crossed_leaves}
use Rattle.solver.proofs.Tallying.{tallied_none, tallied_one, tallied_both, tallied_exact}
use Rattle.solver.proofs.search.+count.Goals as goal

-- a tally that fits is the number
exactly : {P : ℕ → Type 0} {k r : ℕ} → Tallied P (2 ^ k) r → record { tallied : Tallied P (2 ^ k) r; exact : k ≤ 16 → Counted P r }
exactly t = record { tallied = t; exact = λ few. tallied_exact few t }

pub returns-then-not-is_proper : goal.returns-then-not-is_proper
returns-then-not-is_proper g t c = exactly (tallied_none _ (crossed_leaves (λ p. false≢true (c.if-not-is_proper.ensures.1 p))))

pub count-requires : goal.count-requires
count-requires g t c κs within = let fewer = fork_fewer {m = meaning g.A.Approximator c.args.pile.now} c.in_Two-pile.ensures in search rules

pub count-requires-in_Two-pile : goal.count-requires-in_Two-pile
count-requires-in_Two-pile g t c κs within = let fewer = fork_fewer {m = meaning g.A.Approximator c.args.pile.now} c.in_Two-pile.ensures in search rules

pub returns-in_Nothing-pile : goal.returns-in_Nothing-pile
returns-in_Nothing-pile g t c = exactly (tallied_none _ (fork_none (lawful (g.met.A.Approximator.laws c.args.pile.now)) c.in_Nothing-pile.ensures))

pub returns-in_Single-pile : goal.returns-in_Single-pile
returns-in_Single-pile g t c = exactly (tallied_one (open_count c.args.bounds) (fork_only (lawful (g.met.A.Approximator.laws c.args.pile.now)) c.in_Single-pile.ensures))

pub returns-in_Two-pile : goal.returns-in_Two-pile
returns-in_Two-pile g t c =
    let m = meaning g.A.Approximator c.args.pile.now in
    let f = c.in_Two-pile.ensures in
    let fewer = fork_fewer {m = m} f in
    exactly (tallied_both (fork_joins {m = m} f (lawful (g.met.A.Approximator.laws c.args.pile.now))) fewer.0 fewer.1 c.count.ensures.tallied c.count-in_Two-pile.ensures.tallied c.saturating_add.ensures)
