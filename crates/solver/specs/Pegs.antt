-- Pegs: atoms that are to be on, and atoms that are to be off.
use Rattle.std.specs.Prelude.{ℕ, ◌≤◌, bit_or}
use Rattle.atoms.specs.Sets.{Within, Apart, lacking}
use Rattle.atoms.specs.Bounded.{Between, open_count}
use Rattle.atoms.specs.declared.bounds.Bounds.{Bounds}
use Rattle.approx.specs.Meanings.{Meaning}
use Rattle.approx.specs.Stability.{Stable}

-- x is stable, has every atom of on and none of off
pub record Wanted (m : Meaning) (on off x : ℕ) : Type 0 where
  pub stable : Stable m x
  pub pegged_on : Within on x
  pub pegged_off : Apart off x

-- the bounds with the atoms of on joined to the lower and those of off taken out of the upper
abbrev pub pegged : Bounds → ℕ → ℕ → Bounds
pegged b on off = record { lower = bit_or b.lower on; upper = lacking b.upper off }

-- between c lies just what lies between b, has every atom of on and none of off; and no more atoms are open
pub record Pegs (b : Bounds) (on off : ℕ) (c : Bounds) : Type 0 where
  pub keeps : (x : ℕ) → Between b x → Within on x → Apart off x → Between c x
  pub inside : (x : ℕ) → Between c x → Between b x
  pub has_on : (x : ℕ) → Between c x → Within on x
  pub lacks_off : (x : ℕ) → Between c x → Apart off x
  pub no_more_open : open_count c ≤ open_count b
