-- What has been handed out of the wanted interpretations, and what is left. W says which are wanted.
use Rattle.std.specs.Prelude.{ℕ, ◌⊎◌, List, Option}
use Rattle.atoms.specs.Order.{Before}
use Rattle.solver.specs.Lists.{In, Ordered}
use Rattle.solver.specs.Search.{After}

-- these were handed out so far, the last of them given if there is one: they are wanted, in listing order and before all
-- that comes after the last, and what is wanted is one of them or comes after the last
pub record Front (W : ℕ → Type 0) (last : Option ℕ) (handed : List ℕ) : Type 0 where
  pub ordered : Ordered handed
  pub sound : (x : ℕ) → In x handed → W x
  pub ahead : (x y : ℕ) → In x handed → After last y → W y → Before x y
  pub split : (x : ℕ) → W x → (In x handed) ⊎ (After last x)
