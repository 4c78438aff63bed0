use Rattle.std.proofs.Common.{◌≡◌, take}
use Rattle.frameworks.specs.Makers.{lines_of}
use Rattle.frameworks.proofs.maker.lines_of.Given as goal

abbrev pub invariant-loop-line : goal.invariant-loop-line
invariant-loop-line l = l.table ≡ lines_of (take l.line-index l.lines)
