-- What a climb asks of its step.
use Rattle.std.specs.Prelude.{◌≡◌, ℕ}
use Rattle.atoms.specs.Sets.{Within}
use Rattle.approx.specs.Settling.{Rises}

-- f rises from start to top, and between them the step may be called and gives what f gives
pub record Ascends (pre : ℕ → Type 0) (post : ℕ → ℕ → Type 0) (f : ℕ → ℕ) (start top : ℕ) : Type 0 where
  pub rises : Rises f start top
  pub asked : (c : ℕ) → Within start c → Within c top → pre c
  pub gives : (c d : ℕ) → Within start c → Within c top → post c d → d ≡ f c
