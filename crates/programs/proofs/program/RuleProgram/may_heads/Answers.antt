use Rattle.std.proofs.Common.{◌≡◌, sym, subst, rules}
use Rattle.atoms.specs.Bounded.{Proper}
use Rattle.atoms.specs.declared.bounds.Bounds.{Bounds}
use Rattle.programs.specs.Programs.{PerhapsFollow, perhaps, below_width}
use Rattle.programs.specs.Following.{derived_follows}
use Rattle.programs.proofs.program.RuleProgram.may_heads.Goals as goal

pub returns : goal.returns
returns g c =
    let t = c.args.self.now.table in
    let judge = g.R.Reading.may c.args.self.now.reading in
    let i = c.below-inside.result in
    let is = subst (λ (b : Bounds). Proper b → c.heads.result ≡ perhaps judge t b.lower b.upper) c.below-inside.ensures
    (λ p. c.heads.ensures (λ a. judge a i.lower i.upper) (λ a b r. let h = r.says in search rules)) in
    record { is = is; follow = λ p. subst (PerhapsFollow judge t (below_width t c.args.bounds)) (sym (is p)) (derived_follows t _ _ _) }
