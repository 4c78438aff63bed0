-- A row as one computed test: a row that passes is right.
use Rattle.std.proofs.Common.{◌≡◌, suc, Bool, true, ◌&&◌, eqb, length}
use Rattle.std.proofs.lemmas.Bool.{and_parts, eqb-true}
use Rattle.approx.specs.Settling.{first_bounds}
use Rattle.approx.proofs.Rounding.{settle_start}
use Rattle.solver.specs.Lists.{Lists}
use Rattle.solver.proofs.Alikeness.{lists_alike}
use Rattle.engine.specs.Histories.{in_force, Agreeing}
use Rattle.engine.proofs.Agreement.{wanted_agreeing}
use Rattle.worked.specs.Rows.{Row, Right}
use Rattle.worked.proofs.Settling.{settles_to, settles_sound}
use Rattle.worked.proofs.Enumerating.{is_list, list_true}
use Rattle.worked.proofs.Pegging.{only_pegs, pegs_of, pegs_in_force}

-- every round but the last moves an atom, and so does every step of a climb: so many of each are enough
abbrev pub settles_right : Row → Bool
settles_right row = settles_to (suc row.board.width) row.board.width row.board (first_bounds row.board) row.settled

abbrev pub lists_right : Row → Bool
lists_right row = is_list row.board (pegs_of row.pegs).on (pegs_of row.pegs).off row.stable

abbrev pub is_right : Row → Bool
is_right row = (settles_right row && only_pegs row.pegs) && (lists_right row && eqb (length row.stable) row.tally)

pub right : (row : Row) → is_right row ≡ true → Right row
right row e =
    let halves = and_parts (settles_right row && only_pegs row.pegs) (lists_right row && eqb (length row.stable) row.tally) e in
    let first = and_parts (settles_right row) (only_pegs row.pegs) halves.0 in
    let second = and_parts (lists_right row) (eqb (length row.stable) row.tally) halves.1 in
    let listed : Lists (Agreeing row.board (in_force row.pegs)) row.stable =
    lists_alike (wanted_agreeing (pegs_of row.pegs) (in_force row.pegs) (pegs_in_force row.pegs first.1)) (list_true row.board (pegs_of row.pegs).on (pegs_of row.pegs).off row.stable second.0) in
    record {
      settled = settles_sound (suc row.board.width) row.board.width row.board (first_bounds row.board) row.settled (settle_start row.board) first.0;
      listed = listed;
      counted = record { items = row.stable; long = eqb-true (length row.stable) row.tally second.1; held = listed };
    }
