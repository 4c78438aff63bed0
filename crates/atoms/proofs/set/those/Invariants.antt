use Rattle.atoms.proofs.Judging.{Judged}
use Rattle.atoms.proofs.set.those.Given as goal

abbrev pub invariant-loop-atom : goal.invariant-loop-atom
invariant-loop-atom g l = Judged (goal.F-post g l.fn.holds) l.atom l.set
