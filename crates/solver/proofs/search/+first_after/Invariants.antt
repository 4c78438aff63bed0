use Rattle.atoms.specs.Bounded.{open_count}
use Rattle.solver.proofs.search.+first_after.Given as goal

abbrev pub decreases-first_after : goal.decreases-first_after
decreases-first_after g l = open_count l.bounds
