use Rattle.std.proofs.Common.{sym}
use Rattle.atoms.proofs.Digits.{pow_mod_zero}
use Rattle.atoms.proofs.set.only.Goals as goal

pub returns-else-atom-lt64 : goal.returns-else-atom-lt64
returns-else-atom-lt64 c = sym (pow_mod_zero 64 c.args.atom c.if-atom-lt64.false)
