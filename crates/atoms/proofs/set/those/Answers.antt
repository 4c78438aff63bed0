use Rattle.std.proofs.Common.{◌≡◌, ℕ, ◌+◌, ◌<◌, min, subst, arith}
use Rattle.atoms.proofs.Judging.{Judged, judged_next}
use Rattle.atoms.proofs.set.those.Given as given
use Rattle.atoms.proofs.set.those.Goals as goal

pub loop-atom-preserved : goal.loop-atom-preserved
loop-atom-preserved g c =
    let room : c.loop-atom.atom < 64 = omega (arith, c.loop-atom-test.true, c.min-atom-end.ensures) in
    judged_next c.loop-atom.invariant c.holds.result c.only_if-set.ensures room c.holds.ensures

whole : (g : given.Over) (c : goal.After-drop-holds g) → Judged (given.F-post g c.args.holds) (min c.args.width 64) c.loop-atom.set
whole g c =
    let end : c.loop-atom.atom ≡ min c.args.width 64 = omega (arith, c.loop-atom-test.false, c.loop-atom.auto.atom-end, c.min-atom-end.ensures) in
    subst (λ (n : ℕ). Judged (given.F-post g c.args.holds) n c.loop-atom.set) end c.loop-atom.invariant

pub returns-clause-has : goal.returns-clause-has
returns-clause-has g c = (whole g c).has
