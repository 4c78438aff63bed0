-- The order in which interpretations are listed.
use Rattle.std.specs.Prelude.{◌≡◌, ℕ, ◌<◌}
use Rattle.atoms.specs.Sets.{digit, Has}

-- a comes before b: at the lowest atom where they differ, a lacks it and b has it
pub record Before (a b : ℕ) : Type 0 where
  pub atom : ℕ
  pub lacks : digit a atom ≡ 0
  pub has : Has b atom
  pub same : (j : ℕ) → j < atom → digit a j ≡ digit b j
