-- What every reading keeps.
use Rattle.std.specs.Prelude.{◌≡◌, ℕ, Bool, true, false}
use Rattle.atoms.specs.Sets.{Within}
use Rattle.tables.specs.declared.table.Aggregate.{Aggregate}
use Rattle.aggregates.specs.Aggregates.{holds}

pub record Laws (sure may : Aggregate → ℕ → ℕ → Bool) : Type 0 where
  -- where lower and upper are equal, both say the truth
  pub truth : (a : Aggregate) (z : ℕ) → (sure a z z ≡ holds a z) × (may a z z ≡ holds a z)
  -- when the lower grows and the upper shrinks, still as bounds, sure stays yes and may stays no
  pub precise : (a : Aggregate) (l k v u : ℕ) → Within l k → Within k v → Within v u → (sure a l u ≡ true → sure a k v ≡ true) × (may a l u ≡ false → may a k v ≡ false)
