-- What settling a board leaves behind.
use Rattle.std.specs.Prelude.{◌≡◌, ℕ}
use Rattle.atoms.specs.Bounded.{Between}
use Rattle.atoms.specs.declared.bounds.Bounds.{Bounds}
use Rattle.approx.specs.Meanings.{meaning}
use Rattle.approx.specs.Stability.{Stable}
use Rattle.approx.specs.Settling.{Settles, Crosses}
use Rattle.approx.specs.declared.approximator.Approximator.{Ghosts}
use Rattle.faults.specs.declared.BenchFault.TheVariants.{Crossed}
use Rattle.faults.specs.declared.Refused.{Refused}
use Rattle.engine.specs.declared.board.Board.{Board}
use Rattle.engine.specs.declared.board.Settled.{Settled}

-- settling granted: the same pile, with the settled bounds, the only ones, within which every stable interpretation lies
pub record Granted {X : Type 0} (G : Ghosts X) (board : Board X) (s : Settled X) : Type 0 where
  pub pile : s.pile ≡ board.pile
  pub settled : Settles (meaning G board.pile) s.bounds
  pub only : (b : Bounds) → Settles (meaning G board.pile) b → b ≡ s.bounds
  pub stable_within : (z : ℕ) → Stable (meaning G board.pile) z → Between s.bounds z
  pub uncrossed : Crosses (meaning G board.pile) → ⊥

-- settling refused: the same board again, since the bounds cross, and then there are no settled bounds
pub record Denied {X : Type 0} (G : Ghosts X) (board : Board X) (r : Refused (Board X)) : Type 0 where
  pub fault : r.fault ≡ Crossed
  pub board_back : r.back ≡ board
  pub crossed : Crosses (meaning G board.pile)
  pub unsettled : (b : Bounds) → Settles (meaning G board.pile) b → ⊥
