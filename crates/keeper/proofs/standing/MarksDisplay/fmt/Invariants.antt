use Rattle.std.proofs.Common.{◌++◌, take, codes}
use Rattle.std.specs.Fmt.{HasWritten, IsPlainFormatter}
use Rattle.atoms.specs.Bounded.{state_of}
use Rattle.keeper.specs.Texts.{told_from, mark_text}
use Rattle.keeper.proofs.standing.MarksDisplay.fmt.Given as goal

abbrev pub invariant-loop-i : goal.invariant-loop-i
invariant-loop-i g l =
    IsPlainFormatter l.fn.f → HasWritten g.W.Write.write_str_gives l.fn.f (codes "marks:" ++ told_from (λ i. mark_text (state_of l.self.bounds i)) 0 (take l.i l.self.names.now)) l.f
