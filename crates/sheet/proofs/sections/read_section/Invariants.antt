use Rattle.text.specs.Lines.{lines_left}
use Rattle.grammar.specs.Lines.{line_read}
use Rattle.sheet.proofs.Sectioning.{SectionWay}
use Rattle.sheet.proofs.sections.read_section.Given as goal

abbrev pub invariant-section : goal.invariant-section
invariant-section g l =
    SectionWay (λ above from. line_read (g.K.LineKind.follows l.kind above from) g.K.LineKind.gives g.K.LineKind.missing g.K.LineKind.begins)
    g.row.N l.fn.zero l.initial.reader.position l.count (lines_left l.initial.reader) l._n l.rows l.reader.position (lines_left l.reader)
