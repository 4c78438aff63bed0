use Rattle.std.proofs.Common.{◌≡◌, length}
use Rattle.keeper.specs.Names.{Named}
use Rattle.keeper.proofs.marks.names_of.Given as goal

abbrev pub invariant-loop-atom : goal.invariant-loop-atom
invariant-loop-atom l = Named l.table l.text l.names.items × (length l.names.items ≡ l.atom)
