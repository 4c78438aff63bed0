use Rattle.std.proofs.Common.{◌<◌, arith}
use Rattle.atoms.proofs.Ordering.{lowest_at}
use Rattle.atoms.proofs.set.lowest.Goals as goal

pub returns : goal.returns
returns c =
    let pos : 0 < c.args.set = omega arith in
    lowest_at 64 c.args.set pos c.ranges.set.fits
