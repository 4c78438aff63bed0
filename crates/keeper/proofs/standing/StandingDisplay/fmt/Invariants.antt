use Rattle.std.proofs.Common.{◌++◌, take, codes}
use Rattle.std.specs.Fmt.{HasWritten, IsPlainFormatter}
use Rattle.atoms.specs.Sets.{has}
use Rattle.keeper.specs.Texts.{told_from, lit_text}
use Rattle.keeper.proofs.standing.StandingDisplay.fmt.Given as goal

abbrev pub invariant-loop-i : goal.invariant-loop-i
invariant-loop-i g l =
    IsPlainFormatter l.fn.f → HasWritten g.W.Write.write_str_gives l.fn.f (codes "standing" ++ told_from (λ i. lit_text (has l.self.on i)) 0 (take l.i l.self.marks.names.now)) l.f
