use Rattle.atoms.specs.Bounded.{open_count}
use Rattle.solver.proofs.search.+count.Given as goal

abbrev pub decreases-count : goal.decreases-count
decreases-count g l = open_count l.bounds
