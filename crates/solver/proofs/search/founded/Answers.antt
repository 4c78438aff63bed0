use Rattle.std.proofs.Common.{rules}
use Rattle.atoms.proofs.Inclusion.{within_mod, or_within_l}
use Rattle.approx.specs.Meanings.{meaning}
use Rattle.approx.proofs.Laws.{lawful}
use Rattle.solver.proofs.Narrowing.{kept_rises, founded_is}
use Rattle.solver.proofs.search.founded.Goals as goal

pub climb-requires : goal.climb-requires
climb-requires g c = (_, record { rises = kept_rises (meaning g.A.Approximator c.args.pile.now) c.args.bounds (lawful (g.met.A.Approximator.laws c.args.pile.now)); asked = λ x h k. tt; gives = λ x d h k r. search (rules, within_mod, or_within_l) })

pub returns : goal.returns
returns g c =
    founded_is (meaning g.A.Approximator c.args.pile.now) c.args.bounds
    (c.climb.ensures _ (record { rises = kept_rises (meaning g.A.Approximator c.args.pile.now) c.args.bounds (lawful (g.met.A.Approximator.laws c.args.pile.now)); asked = λ x h k. tt; gives = λ x d h k r. search (rules, within_mod, or_within_l) }))
