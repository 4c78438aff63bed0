use Rattle.pegboard.proofs.Keeping.{kept_none}
use Rattle.pegboard.proofs.Listed.{listed_bare}
use Rattle.pegboard.proofs.board.Pegboard.list.Goals as goal

pub invariant_of-result : goal.invariant_of-result
invariant_of-result g c = rw (listed_bare c.args.settled c.in_ok-list.field-0 c.in_ok-list.ensures.gives, c.new.ensures.items) (record { kept = kept_none })
