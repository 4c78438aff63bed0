use Rattle.std.proofs.Common.{◌≡◌, refl}
use Rattle.std.proofs.lemmas.Result.{err_from_is_err_and}
use Rattle.programs.specs.Tables.{rule_table}
use Rattle.frameworks.specs.Makers.{framework_of}
use Rattle.grammar.specs.Verdicts.{verdict}
use Rattle.report.proofs.Settling.{of_parts, parts_mean, settles_fault, settles_crossed, settles_board}
use Rattle.report.proofs.settled.Goals as goal

pub returns-in_err-read-clause-settles : goal.returns-in_err-read-clause-settles
returns-in_err-read-clause-settles c =
    let p = err_from_is_err_and c.from_residual.result c.from_residual.ensures.1 in
    settles_fault _ (verdict c.args.text.now) c.from_residual.result p.0 _ p.1 p.2 c.in_err-read.ensures.answers

pub returns-in_err-settle-clause-settles : goal.returns-in_err-settle-clause-settles
returns-in_err-settle-clause-settles c =
    let p = err_from_is_err_and c.from_residual-in_err-settle.result c.from_residual-in_err-settle.ensures.1 in
    let left : c.new.result.pile.left.table ≡ rule_table c.read.new.table = rw (c.new.ensures, c.new-pile.ensures.same_left, c.of.ensures.table) refl in
    let right : c.new.result.pile.right ≡ framework_of c.read.new.table = rw (c.new.ensures, c.new-pile.ensures.same_right, c.of-2.ensures) refl in
    settles_crossed _ c.args.table.now c.read.new.table (verdict c.args.text.now) c.from_residual-in_err-settle.result p.0 _ p.1 p.2 c.in_err-settle.ensures.fault c.in_ok-read.ensures.answers c.in_ok-read.ensures.holds
    (of_parts c.new.result.pile.left.table c.new.result.pile.right) (parts_mean c.read.new.table _ _ left right) c.in_err-settle.ensures.crossed

pub returns-clause-settles : goal.returns-clause-settles
returns-clause-settles c =
    let left : c.new.result.pile.left.table ≡ rule_table c.read.new.table = rw (c.new.ensures, c.new-pile.ensures.same_left, c.of.ensures.table) refl in
    let right : c.new.result.pile.right ≡ framework_of c.read.new.table = rw (c.new.ensures, c.new-pile.ensures.same_right, c.of-2.ensures) refl in
    settles_board _ c.args.table.now c.read.new.table (verdict c.args.text.now) c.in_ok-read.ensures.answers c.in_ok-read.ensures.holds c.in_ok-settle.field-0 c.new.result.pile
    c.in_ok-settle.ensures.pile (parts_mean c.read.new.table _ _ left right) c.in_ok-settle.ensures.settled
