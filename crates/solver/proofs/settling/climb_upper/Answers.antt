use Rattle.std.proofs.Common.{◌≡◌, ℕ, sym, ap, subst, rules}
use Rattle.atoms.specs.declared.bounds.Bounds.{Bounds}
use Rattle.atoms.proofs.Inclusion.{within_mod}
use Rattle.approx.specs.Settling.{Rises}
use Rattle.approx.proofs.Laws.{lawful}
use Rattle.approx.proofs.Climbing.{may_rises}
use Rattle.solver.proofs.settling.climb_upper.Goals as goal

up_to : {f : ℕ → ℕ} {start : ℕ} {b c : Bounds} → b ≡ c → Rises f start c.upper → Rises f start b.upper
up_to {f} {start} e r = subst (Rises f start) (sym (ap (λ (d : Bounds). d.upper) e)) r

-- no question is crossed, so each is answered by the meaning
pub climb-requires : goal.climb-requires
climb-requires g c = (_, record { rises = up_to c.first_bounds.ensures (may_rises (lawful (g.met.A.Approximator.laws c.args.pile.now)) c.args.lower c.requires); asked = λ x h k. tt; gives = λ x d h k r. search (rules, within_mod) })

pub returns : goal.returns
returns g c = c.climb.ensures _ (record { rises = up_to c.first_bounds.ensures (may_rises (lawful (g.met.A.Approximator.laws c.args.pile.now)) c.args.lower c.requires); asked = λ x h k. tt; gives = λ x d h k r. search (rules, within_mod) })
