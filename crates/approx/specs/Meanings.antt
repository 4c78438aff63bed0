-- What an approximator means.
use Rattle.std.specs.Prelude.{ℕ}
use Rattle.approx.specs.declared.approximator.Approximator.{Ghosts}

-- a width and, for a lower and an upper interpretation, what is surely on and what may be on
pub record Meaning : Type 0 where
  pub width : ℕ
  pub sure : ℕ → ℕ → ℕ
  pub may : ℕ → ℕ → ℕ

-- the meaning of a value of some implementation
abbrev pub meaning : {X : Type 0} → Ghosts X → X → Meaning
meaning G a = record { width = G.width a; sure = G.sure a; may = G.may a }
