use Rattle.std.proofs.Common.{ap, ◌∙◌, min}
use lib.Bits.{bit_and, and_mask}
use Rattle.atoms.proofs.Digits.{mod_min}
use Rattle.atoms.proofs.set.clipped.Goals as goal

pub returns : goal.returns
returns c = ap (bit_and c.args.set) c.full.ensures ∙ and_mask c.args.set (min c.args.width 64) ∙ mod_min c.args.set c.args.width c.ranges.set.fits
