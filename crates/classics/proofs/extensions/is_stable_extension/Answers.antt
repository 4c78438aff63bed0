use Rattle.std.proofs.Common.{◌≡◌, ℕ, sym, ◌∙◌}
use Rattle.std.proofs.lemmas.Bool.{eqb-true, eq-eqb}
use Rattle.atoms.proofs.Inclusion.{within_refl}
use Rattle.frameworks.specs.Frameworks.{sure_of}
use Rattle.classics.proofs.Arguing.{step_stable, stable_extension, extension_fixed}
use Rattle.classics.proofs.extensions.is_stable_extension.Goals as goal

pub returns : goal.returns
returns c =
    let f = c.args.framework.now in
    let z : ℕ = c.args.set in
    let s : ℕ = c.sure.result in
    let e : s ≡ sure_of f z z = c.sure.ensures (within_refl _) in
    let stable = λ (q : _). step_stable f z (sym e ∙ eqb-true s z q) in
    record {
      stable = (stable, (λ x. eq-eqb s z (e ∙ x.fixed)));
      extension = ((λ q. stable_extension f z (stable q)), (λ x. eq-eqb s z (e ∙ extension_fixed f z x)));
    }
