use Rattle.std.proofs.Common.{rules}
use Rattle.atoms.proofs.Inclusion.{within_mod}
use Rattle.approx.proofs.Laws.{lawful}
use Rattle.approx.proofs.Climbing.{sure_rises}
use Rattle.solver.proofs.settling.climb_lower.Goals as goal

-- no question is crossed, so each is answered by the meaning
pub climb-requires : goal.climb-requires
climb-requires g c = (_, record { rises = sure_rises (lawful (g.met.A.Approximator.laws c.args.pile.now)) c.args.upper c.requires; asked = λ x h k. tt; gives = λ x d h k r. search (rules, within_mod) })

pub returns : goal.returns
returns g c = c.climb.ensures _ (record { rises = sure_rises (lawful (g.met.A.Approximator.laws c.args.pile.now)) c.args.upper c.requires; asked = λ x h k. tt; gives = λ x d h k r. search (rules, within_mod) })
