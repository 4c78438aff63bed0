use Rattle.std.proofs.Common.{Ok, Err}
use Rattle.std.proofs.lemmas.Result.{err_from_is_err_and}
use Rattle.tables.specs.Rows.{in_use}
use Rattle.text.specs.Lines.{as_line, lines_left, no_line}
use Rattle.grammar.specs.Lines.{line_read}
use Rattle.sheet.proofs.Fresh.{fresh_row}
use Rattle.sheet.proofs.Sectioning.{section_start, section_fault, section_turn}
use Rattle.sheet.proofs.sections.read_section.Goals as goal

pub section-init : goal.section-init
section-init g c = section_start _ g.row.N c.args.zero c.args.reader.now.position c.args.count (lines_left c.args.reader.now) c.new-rows.result c.new-rows.ensures

pub section-preserved : goal.section-preserved
section-preserved g c =
    let k = g.K.LineKind in
    section_turn (λ above from. line_read (k.follows c.args.kind.now above from) k.gives k.missing k.begins) g.row.N c.args.zero c.args.reader.now.position c.args.count (lines_left c.args.reader.now)
    c.section.invariant c.section-test.true c.requires.lines (no_line c.section.reader) (as_line c.line.result) c.line.ensures.gives c.requires.counted c.requires.room c.in_ok-row.row
    (fresh_row (k.follows c.args.kind.now) k.gives k.missing k.begins c.line.result c.line.ensures.fresh c.as_slice.result.now (in_use g.row.N c.section.rows) c.as_slice.ensures.is c.position-from.result c.section.reader.position c.position-from.ensures (Ok c.in_ok-row.row) c.in_ok-row.ensures)
    c.push.new.self c.push.ensures.holds c.line.new.self.position c.line.ensures.moves (lines_left c.line.new.self) c.line.ensures.leaves

pub returns-in_err-row-clause-gives : goal.returns-in_err-row-clause-gives
returns-in_err-row-clause-gives g c =
    let k = g.K.LineKind in
    let p = err_from_is_err_and c.from_residual.result c.from_residual.ensures.1 in
    rw (p.1, p.2) (section_fault (λ above from. line_read (k.follows c.args.kind.now above from) k.gives k.missing k.begins) g.row.N c.args.zero c.args.reader.now.position c.args.count (lines_left c.args.reader.now)
    c.section.invariant c.section-test.true c.requires.lines (no_line c.section.reader) (as_line c.line.result) c.line.ensures.gives c.in_err-row.field-0.0
    (fresh_row (k.follows c.args.kind.now) k.gives k.missing k.begins c.line.result c.line.ensures.fresh c.as_slice.result.now (in_use g.row.N c.section.rows) c.as_slice.ensures.is c.position-from.result c.section.reader.position c.position-from.ensures (Err c.in_err-row.field-0.0) c.in_err-row.ensures))
