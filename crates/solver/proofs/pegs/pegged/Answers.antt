use Rattle.std.proofs.Common.{arith}
use Rattle.solver.proofs.Pegging.{pegs_hold}
use Rattle.solver.proofs.pegs.pegged.Goals as goal

pub returns-clause-holds : goal.returns-clause-holds
returns-clause-holds c = pegs_hold c.args.bounds c.args.on c.args.off (omega arith) c.ranges.off.fits
