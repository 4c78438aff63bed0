-- What bounds say of an entry's condition. A lower l and an upper u are sets of atoms.
use Rattle.std.specs.Prelude.{ℕ, Bool, true, false}
use Rattle.atoms.specs.Bounded.{state_of}
use Rattle.atoms.specs.declared.bounds.State.{State}
use Rattle.atoms.specs.declared.bounds.State.TheVariants as state
use Rattle.tables.specs.declared.table.Entry.{Entry}
use Rattle.aggregates.specs.declared.condition.Condition.{Condition}
use Rattle.aggregates.specs.declared.condition.Condition.TheVariants.{Met, Failed, Open}

-- the condition `a` is met if a is on, failed if a is off, and otherwise open; `not a` is the reverse
abbrev pub judged : Bool → State → Condition
judged false state.On = Met
judged false state.Off = Failed
judged false state.Open = Open
judged true state.On = Failed
judged true state.Off = Met
judged true state.Open = Open

-- what bounds say of an entry's condition
abbrev pub condition : Entry → ℕ → ℕ → Condition
condition e l u = judged e.negated (state_of (record { lower = l; upper = u }) e.atom)

-- a condition is undecided where it is neither met nor failed
abbrev pub undecided : Condition → Bool
undecided Met = false
undecided Failed = false
undecided Open = true
