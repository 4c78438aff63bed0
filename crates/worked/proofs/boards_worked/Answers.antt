use Rattle.worked.proofs.Working.{boards_worked}
use Rattle.worked.proofs.boards_worked.Goals as goal

pub returns : goal.returns
returns c = record { is = c.by_hand.ensures; right = boards_worked }
