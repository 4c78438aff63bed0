-- Triggers: which atoms a set trips.
use Rattle.std.specs.Prelude.{ℕ, Bool, not, replicate, ◌==◌, bit_and, slice_index, slice_set}
use Rattle.atoms.specs.Sets.{Has, collected}
use Rattle.layers.specs.declared.triggers.TriggerTable.{TriggerTable}

-- no atom has a trigger
abbrev pub no_triggers : TriggerTable
no_triggers = record { triggers = replicate 64 0 }

-- the table in which atom i has these triggers
abbrev pub with_triggers : TriggerTable → ℕ → ℕ → TriggerTable
with_triggers t i triggers = record { triggers = slice_set t.triggers i triggers }

-- the triggers of atom i
abbrev pub triggers_of : TriggerTable → ℕ → ℕ
triggers_of t i = slice_index t.triggers i

-- a set trips atom i: some trigger of the atom is in the set
pub record Trips (t : TriggerTable) (by i : ℕ) : Type 0 where
  pub trigger : ℕ
  pub its : Has (triggers_of t i) trigger
  pub here : Has by trigger

-- the same as a test
abbrev pub trips : TriggerTable → ℕ → ℕ → Bool
trips t by i = not (bit_and (triggers_of t i) by == 0)

-- the atoms below a width that a set trips
abbrev pub tripped : TriggerTable → ℕ → ℕ → ℕ
tripped t w by = collected (trips t by) w
