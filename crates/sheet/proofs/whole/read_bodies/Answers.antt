use Rattle.std.proofs.Common.{◌≡◌, [], take, Ok, Err, sym, ◌∙◌}
use Rattle.std.proofs.lemmas.Result.{err_from_is_err_and}
use Rattle.tables.specs.Rows.{in_use}
use Rattle.text.specs.Lines.{lines_left}
use Rattle.grammar.specs.Verdicts.{names_read}
use Rattle.sheet.proofs.Reading.{names_section}
use Rattle.sheet.proofs.whole.read_bodies.Goals as goal

pub returns-in_err-names : goal.returns-in_err-names
returns-in_err-names c =
    let p = err_from_is_err_and c.from_residual.result c.from_residual.ensures.1 in
    let n : names_read c.args.text.now c.args.reader.now.position [] (take c.args.contents.marks (lines_left c.args.reader.now)) ≡ Err c.in_err-names.field-0.0 =
    sym (names_section c.args.text.now [] c.args.reader.now.position (take c.args.contents.marks (lines_left c.args.reader.now))) ∙ c.in_err-names.ensures.gives in
    rw (p.1, p.2, n)

pub read_rest-requires-clause-named : goal.read_rest-requires-clause-named
read_rest-requires-clause-named c = cc (c.in_ok-names.ensures.laid)

pub returns : goal.returns
returns c =
    let n : names_read c.args.text.now c.args.reader.now.position [] (take c.args.contents.marks (lines_left c.args.reader.now)) ≡ Ok (in_use 64 c.in_ok-names.names) =
    sym (names_section c.args.text.now [] c.args.reader.now.position (take c.args.contents.marks (lines_left c.args.reader.now))) ∙ c.in_ok-names.ensures.gives in
    rw (c.read_rest.ensures, c.in_ok-names.ensures.leaves, n)
