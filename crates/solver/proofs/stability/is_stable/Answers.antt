use Rattle.std.proofs.Common.{◌≡◌, ℕ, sym, ◌∙◌, subst}
use Rattle.std.proofs.lemmas.Bool.{eqb-true, eq-eqb}
use Rattle.atoms.proofs.Inclusion.{within_refl}
use Rattle.approx.specs.Meanings.{meaning}
use Rattle.approx.specs.Settling.{Climbs}
use Rattle.approx.proofs.Laws.{lawful}
use Rattle.approx.proofs.Steadiness.{stable_climb, climb_stable}
use Rattle.solver.proofs.stability.is_stable.Goals as goal

pub returns-then-sure-z : goal.returns-then-sure-z
returns-then-sure-z g c =
    let m = meaning g.A.Approximator c.args.pile.now in
    let z : ℕ = c.args.z in
    let fixed : m.sure z z ≡ z = sym (c.sure.ensures (within_refl _)) ∙ c.if-sure-z.true in (
      (λ t. climb_stable (lawful (g.met.A.Approximator.laws c.args.pile.now)) fixed (subst (Climbs (λ x. m.sure x z) 0) (eqb-true c.climb_lower.result z t) c.climb_lower.ensures)),
      (λ s. eq-eqb c.climb_lower.result z (stable_climb (lawful (g.met.A.Approximator.laws c.args.pile.now)) s c.climb_lower.ensures)),
    )
