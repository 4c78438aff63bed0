-- When a peg or a pull is refused, and with which fault.
use Rattle.std.specs.Prelude.{ℕ, cond, ◌||◌, Some, None, Option, nat_lt}
use Rattle.faults.specs.declared.BenchFault.{BenchFault}
use Rattle.faults.specs.declared.BenchFault.TheVariants as fault
use Rattle.engine.specs.Standing.{Standing}
use Rattle.engine.specs.declared.pegs.Sense.{Sense}
use Rattle.engine.specs.declared.pegs.Sense.TheVariants.{On, Off}

-- a peg is refused for an atom not below the width, then for an atom that has a peg, on or off
abbrev pub peg_fault : ℕ → Standing → ℕ → Option BenchFault
peg_fault width pegs i = cond (nat_lt i width) (cond (pegs i On || pegs i Off) (Some (fault.Pegged i)) None) (Some (fault.NoSuchAtom i))

-- a pull is refused where no peg of that atom and sense is in force
abbrev pub pull_fault : Standing → ℕ → Sense → Option BenchFault
pull_fault pegs i s = cond (pegs i s) None (Some (fault.NotInForce i))
