-- Bounds: what is on, off and open between a lower and an upper interpretation.
use Rattle.std.specs.Prelude.{List, ℕ, Bool, cond, not, ◌&&◌, codes}
use Rattle.atoms.specs.Sets.{has, Within, how_many}
use Rattle.atoms.specs.declared.bounds.Bounds.{Bounds}
use Rattle.atoms.specs.declared.bounds.State.{State}
use Rattle.atoms.specs.declared.bounds.State.TheVariants.{On, Off, Open}

-- the lower is within the upper: the bounds are not crossed
abbrev pub Proper : Bounds → Type 0
Proper b = Within b.lower b.upper

-- z lies within the bounds: the lower is within z, and z within the upper
abbrev pub Between : Bounds → ℕ → Type 0
Between b z = Within b.lower z × Within z b.upper

-- an atom is on if it is in the lower, off if it is not in the upper, and open otherwise
abbrev pub state_of : Bounds → ℕ → State
state_of b i = cond (has b.lower i) On (cond (has b.upper i) Open Off)

-- the word that is printed of a state
abbrev pub state_word : State → List ℕ
state_word On = codes "on"
state_word Off = codes "off"
state_word Open = codes "open"

-- an atom is open where the upper has it and the lower does not
abbrev pub is_open : Bounds → ℕ → Bool
is_open b i = has b.upper i && not (has b.lower i)

-- how many of the 64 atoms are open
abbrev pub open_count : Bounds → ℕ
open_count b = how_many (is_open b) 64
