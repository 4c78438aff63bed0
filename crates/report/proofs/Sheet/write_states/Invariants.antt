use Rattle.std.specs.Io.KnownBytes.{Appends}
use Rattle.report.specs.Lines.{for_each, state_line}
use Rattle.report.proofs.Sheet.write_states.Given as goal

abbrev pub invariant-loop-atom : goal.invariant-loop-atom
invariant-loop-atom g l = Appends (g.W.Write.contents l.initial.out) (g.W.Write.contents l.out) (for_each (state_line l.self.text.now l.self.table.now l.bounds) l.atom)
