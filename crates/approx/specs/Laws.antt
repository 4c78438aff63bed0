-- What every approximator keeps, the least that the engine needs: it speaks of bounds, never of a lower that is not within its upper.
use Rattle.std.specs.Prelude.{◌≡◌, ℕ, ◌^◌, ◌<◌, ◌≤◌}
use Rattle.atoms.specs.Sets.{Within, clipped}

pub record Laws (width : ℕ) (sure may : ℕ → ℕ → ℕ) : Type 0 where
  -- there is an atom, and there are at most 64
  pub wide : (0 < width) × (width ≤ 64)
  -- where lower and upper are equal, sure and may are equal
  pub exact : (z : ℕ) → z < 2 ^ width → sure z z ≡ may z z
  -- when the lower grows and the upper shrinks, still as bounds, sure loses no atom and may gains none
  pub precise : (l k v u : ℕ) → Within l k → Within k v → Within v u → u < 2 ^ width → Within (sure l u) (sure k v) × Within (may k v) (may l u)
  -- the answers are atoms below the width
  pub below : (l u : ℕ) → Within l u → u < 2 ^ width → (sure l u < 2 ^ width) × (may l u < 2 ^ width)
  -- atoms at or above the width are ignored
  pub ignores : (l u : ℕ) → Within (clipped width l) (clipped width u) → (sure l u ≡ sure (clipped width l) (clipped width u)) × (may l u ≡ may (clipped width l) (clipped width u))
