use Rattle.std.proofs.Common.{◌≡◌, ◌≤◌, refl, subst, rules}
use Rattle.std.proofs.lemmas.Bool.{cond_above}
use Rattle.atoms.specs.Bounded.{open_count}
use Rattle.approx.proofs.Laws.{lawful}
use Rattle.engine.specs.Standing.{no_pegs}
use Rattle.engine.proofs.Tracking.{fresh_ran}
use Rattle.engine.proofs.board.Settled.list.Goals as goal

pub returns : goal.returns
returns g c =
    let s = c.args.self in
    let none : c.default.result ≡ no_pegs = search rules in
    let few : open_count s.bounds ≤ 16 = subst (λ n. n ≤ 16) c.open_count-open.ensures c.if-open-gt-MOST_OPEN.false in
    rw none (record {
      gives = cond_above 16 (open_count s.bounds) _ _ _ few refl;
      law = λ settles. fresh_ran g.A.Approximator s (lawful (g.met.A.Approximator.laws s.pile)) settles few;
    })
