use Rattle.std.specs.List.{flat_map}
use Rattle.std.specs.Io.KnownBytes.{Appends}
use Rattle.std.proofs.Common.{take}
use Rattle.report.specs.Lines.{standing_line}
use Rattle.report.proofs.Sheet.write_standings.Given as goal

abbrev pub invariant-loop-standing : goal.invariant-loop-standing
invariant-loop-standing g l = Appends (g.W.Write.contents l.initial.out) (g.W.Write.contents l.out) (flat_map (standing_line l.self.text.now l.self.table.now) (take l.standing-index l.standings))
