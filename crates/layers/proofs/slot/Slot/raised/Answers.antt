use Rattle.std.proofs.Common.{◌^◌, ◌*◌, arith}
use Rattle.std.proofs.lemmas.Nat.{and_mask}
use Rattle.atoms.proofs.Digits.{mod_mod_wide}
use Rattle.layers.proofs.slot.Slot.raised.Goals as goal

pub returns : goal.returns
returns c =
    let e = mod_mod_wide (c.args.set * 2 ^ c.args.self.first) c.args.self.width 64 c.args.self.narrow in
    grind (arith, and_mask)
