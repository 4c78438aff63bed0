use Rattle.atoms.specs.Bounded.{open_count}
use Rattle.solver.proofs.search.+gather.Given as goal

abbrev pub decreases-gather : goal.decreases-gather
decreases-gather g l = open_count l.bounds
