use Rattle.std.proofs.Common.{◌∙◌}
use Rattle.keeper.proofs.Keeping.{on_ok, session_kept}
use Rattle.keeper.proofs.keep.Goals as goal

pub returns : goal.returns
returns g c =
    let told = c.in_ok-ending.ensures in
    on_ok c.flush.result
    (session_kept g.A.Approximator c.args.names.now c.args.board c.new-marks.result c.new-marks.ensures.names (c.new-marks.ensures.bounds ∙ c.bounds.ensures) c.in-Ok.board.listing c.in-Ok.ensures.gives.0
    told.0 c.attend-ending.new.board.listing told.1 c.in_ok-ending.field-0 told.2.0 c.pegs-pegs.result c.pegs-pegs.ensures _ _ _ _ told.2.1 c.in_ok-write_ending.ensures c.flush.ensures.bytes)
