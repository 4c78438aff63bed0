use Rattle.std.proofs.Common.{◌≡◌, List, ℕ, Bor, take}
use Rattle.tables.specs.Rows.{laid, in_use}
use Rattle.text.specs.Names.{names_of, parts}
use Rattle.text.proofs.names.names_at.Given as goal

abbrev pub invariant-loop-place : goal.invariant-loop-place
invariant-loop-place l = (zero : Bor (List ℕ)) × ((l.names ≡ laid 64 zero (in_use 64 l.names)) × (parts (in_use 64 l.names) ≡ names_of l.text (take l.place-index l.place-items)))
