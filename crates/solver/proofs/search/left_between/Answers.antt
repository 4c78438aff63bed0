use Rattle.std.proofs.Common.{ℕ, ◌^◌, ◌<◌, sym, refl, ◌∙◌, subst, arith}
use Rattle.std.proofs.lemmas.Bool.{false≢true}
use Rattle.atoms.specs.Sets.{Lowest}
use Rattle.approx.specs.Meanings.{meaning}
use Rattle.solver.proofs.Parting.{closed_one, closed_none, parts}
use Rattle.solver.proofs.search.left_between.Goals as goal

pub returns-in-None : goal.returns-in-None
returns-in-None g c =
    let fits : c.args.bounds.upper < 2 ^ 64 = omega arith in
    closed_one {m = meaning g.A.Approximator c.args.pile.now} fits (sym c.open_atoms.ensures ∙ c.in-None.ensures) (c.if-not-is_proper.ensures.0 refl) (c.if-is_stable.ensures.0 refl)

pub returns-in-None-2 : goal.returns-in-None-2
returns-in-None-2 g c =
    let fits : c.args.bounds.upper < 2 ^ 64 = omega arith in
    closed_none {m = meaning g.A.Approximator c.args.pile.now} fits (sym c.open_atoms.ensures ∙ c.in-None.ensures) (λ s. false≢true (c.if-is_stable.ensures.1 s))

pub returns-in-Some : goal.returns-in-Some
returns-in-Some g c =
    let b = c.args.bounds in
    let fits : b.upper < 2 ^ 64 = omega arith in
    let found = c.in-Some.ensures in
    parts b c.pegged.result c.pegged-in-Some.result fits (c.if-not-is_proper.ensures.0 refl) found.0
    (subst (λ (s : ℕ). Lowest s c.in-Some.atom) c.open_atoms.ensures found.1) c.only-chosen.ensures c.pegged.ensures.holds c.pegged-in-Some.ensures.holds
