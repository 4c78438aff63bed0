use Rattle.std.proofs.Common.{◌≤◌, length, take, ap, arith, length-drop}
use Rattle.std.proofs.lemmas.Result.{err_from_is_err_and}
use Rattle.tables.specs.Rows.{in_use}
use Rattle.text.specs.Lines.{lines_left}
use Rattle.text.specs.Names.{parts}
use Rattle.grammar.specs.Names.{known}
use Rattle.sheet.proofs.Filling.{cut_held, loads_fault, rules_fault, relays_fault, filled}
use Rattle.sheet.proofs.whole.read_rest.Goals as goal

pub returns-in_err-aggregates : goal.returns-in_err-aggregates
unfolding known
returns-in_err-aggregates c =
    let w = cut_held c.args.text.now c.as_slice-places.result.now (in_use 64 c.args.names) c.as_slice-parts.result.now (in_use 64 c.names_at-cut.result) c.as_slice-places.ensures.is c.as_slice-parts.ensures.is c.as_slice-parts.ensures.few c.names_at-cut.ensures in
    let p = err_from_is_err_and c.from_residual.result c.from_residual.ensures.1 in
    rw (p.1, p.2) (loads_fault c.args.text.now c.args.contents (parts (take 64 c.as_slice-parts.result.now)) (in_use 64 c.args.names) w (lines_left c.args.reader.now) c.args.reader.now.position
    c.in_err-aggregates.field-0.0 c.in_err-aggregates.ensures.gives)

pub returns-in_err-rules : goal.returns-in_err-rules
unfolding known
returns-in_err-rules c =
    let w = cut_held c.args.text.now c.as_slice-places.result.now (in_use 64 c.args.names) c.as_slice-parts.result.now (in_use 64 c.names_at-cut.result) c.as_slice-places.ensures.is c.as_slice-parts.ensures.is c.as_slice-parts.ensures.few c.names_at-cut.ensures in
    let p = err_from_is_err_and c.from_residual-in_err-rules.result c.from_residual-in_err-rules.ensures.1 in
    rw (p.1, p.2) (rules_fault c.args.text.now c.args.contents (parts (take 64 c.as_slice-parts.result.now)) (in_use 64 c.args.names) w (lines_left c.args.reader.now) c.args.reader.now.position
    (in_use 32 c.in_ok-aggregates.aggregates) c.in_ok-aggregates.ensures.gives c.read_section.new.reader.position (lines_left c.read_section.new.reader) c.in_ok-aggregates.ensures.leaves
    c.in_err-rules.field-0.0 c.in_err-rules.ensures.gives)

pub returns-in_err-relays : goal.returns-in_err-relays
unfolding known
returns-in_err-relays c =
    let w = cut_held c.args.text.now c.as_slice-places.result.now (in_use 64 c.args.names) c.as_slice-parts.result.now (in_use 64 c.names_at-cut.result) c.as_slice-places.ensures.is c.as_slice-parts.ensures.is c.as_slice-parts.ensures.few c.names_at-cut.ensures in
    let p = err_from_is_err_and c.from_residual-in_err-relays.result c.from_residual-in_err-relays.ensures.1 in
    let few : length (lines_left c.read_section-2.new.reader) ≤ c.args.contents.relays = omega (arith, ap length c.in_ok-aggregates.ensures.leaves, length-drop c.args.contents.loads (lines_left c.args.reader.now), ap length c.in_ok-rules.ensures.leaves, length-drop c.args.contents.rules (lines_left c.read_section.new.reader)) in
    rw (p.1, p.2) (relays_fault c.args.text.now c.args.contents (parts (take 64 c.as_slice-parts.result.now)) (in_use 64 c.args.names) w (lines_left c.args.reader.now) c.args.reader.now.position
    (in_use 32 c.in_ok-aggregates.aggregates) c.in_ok-aggregates.ensures.gives c.read_section.new.reader.position (lines_left c.read_section.new.reader) c.in_ok-aggregates.ensures.leaves
    (in_use 128 c.in_ok-rules.rules) c.in_ok-rules.ensures.gives c.read_section-2.new.reader.position (lines_left c.read_section-2.new.reader) c.in_ok-rules.ensures.leaves few
    c.in_err-relays.field-0.0 c.in_err-relays.ensures.gives)

pub returns : goal.returns
unfolding known
returns c =
    let w = cut_held c.args.text.now c.as_slice-places.result.now (in_use 64 c.args.names) c.as_slice-parts.result.now (in_use 64 c.names_at-cut.result) c.as_slice-places.ensures.is c.as_slice-parts.ensures.is c.as_slice-parts.ensures.few c.names_at-cut.ensures in
    let few : length (lines_left c.read_section-2.new.reader) ≤ c.args.contents.relays = omega (arith, ap length c.in_ok-aggregates.ensures.leaves, length-drop c.args.contents.loads (lines_left c.args.reader.now), ap length c.in_ok-rules.ensures.leaves, length-drop c.args.contents.rules (lines_left c.read_section.new.reader)) in
    let end = filled c.args.text.now c.args.contents (parts (take 64 c.as_slice-parts.result.now)) (in_use 64 c.args.names) w (lines_left c.args.reader.now) c.args.reader.now.position
    (in_use 32 c.in_ok-aggregates.aggregates) c.in_ok-aggregates.ensures.gives c.read_section.new.reader.position (lines_left c.read_section.new.reader) c.in_ok-aggregates.ensures.leaves
    (in_use 128 c.in_ok-rules.rules) c.in_ok-rules.ensures.gives c.read_section-2.new.reader.position (lines_left c.read_section-2.new.reader) c.in_ok-rules.ensures.leaves few
    (in_use 64 c.in_ok-relays.relays) c.in_ok-relays.ensures.gives in
    cc (end, c.in_ok-aggregates.ensures.laid, c.in_ok-rules.ensures.laid, c.in_ok-relays.ensures.laid)
