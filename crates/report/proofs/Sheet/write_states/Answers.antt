use Rattle.report.specs.Lines.{state_line}
use Rattle.report.proofs.Lines.{each_appended}
use Rattle.report.proofs.Sheet.write_states.Goals as goal

pub loop-atom-preserved : goal.loop-atom-preserved
loop-atom-preserved g c = each_appended (state_line c.args.self.text.now c.args.self.table.now c.args.bounds) c.loop-atom.atom _ _ _ c.loop-atom.invariant c.in_ok-write_state.ensures
