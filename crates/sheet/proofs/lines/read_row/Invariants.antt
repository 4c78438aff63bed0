use Rattle.std.proofs.Common.{◌≡◌, length}
use Rattle.text.specs.Lines.{words_left}
use Rattle.grammar.specs.Lines.{reading}
use Rattle.sheet.proofs.lines.read_row.Given as goal

abbrev pub invariant-words : goal.invariant-words
invariant-words g l =
    reading (g.K.LineKind.follows l.kind l.at.above.now l.at.from) g.K.LineKind.gives g.K.LineKind.missing l.end l.state (words_left l.line)
    ≡ reading (g.K.LineKind.follows l.kind l.at.above.now l.at.from) g.K.LineKind.gives g.K.LineKind.missing l.end g.K.LineKind.begins (words_left l.initial.line)

abbrev pub decreases-words : goal.decreases-words
decreases-words g l = length (words_left l.line)
