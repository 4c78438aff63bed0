use Rattle.std.proofs.Common.{rules}
use Rattle.pegboard.proofs.Counting.{few_pegs}
use Rattle.pegboard.proofs.board.Pegboard.pegs.Goals as goal

pub overflow_cast-result : goal.overflow_cast-result
overflow_cast-result g c = search (rules, few_pegs c.args.self.now.listing.pegs, c.args.self.now.kept.counted)
