use Rattle.std.proofs.lemmas.Result.{on_ok_weaker}
use Rattle.keeper.proofs.Keeping.{on_ok, answered_sheet, answered_refused, sheet_opened, refused_opened}
use Rattle.keeper.proofs.open.Goals as goal

pub returns-in_ok-names-in-Ok : goal.returns-in_ok-names-in-Ok
returns-in_ok-names-in-Ok g c =
    let answered = answered_sheet _ _ c.args.text.now c.fresh-table.result c.settled.new.table c.in-Ok.board c.in-Ok.ensures.holds c.in-Ok.ensures.settles in
    on_ok_weaker c.keep.result
    (sheet_opened _ _ c.args.text.now c.fresh-table.result c.settled.new.table c.in-Ok.board c.in-Ok.ensures.holds c.in-Ok.ensures.settles answered c.in_ok-names-in-Ok.names.items c.deref.result.now c.deref.ensures.value c.in_ok-names-in-Ok.ensures _ _)
    c.keep.ensures

pub returns-in_ok-write_refused-in-Err : goal.returns-in_ok-write_refused-in-Err
returns-in_ok-write_refused-in-Err g c =
    let answered = answered_refused _ _ c.args.text.now c.in-Err.fault c.in-Err.ensures.settles in
    on_ok c.flush.result (refused_opened _ c.args.text.now c.in-Err.fault answered _ _ _ c.in_ok-write_refused-in-Err.ensures c.flush.ensures.bytes)
