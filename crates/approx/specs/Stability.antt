-- Which interpretations bear themselves out.
use Rattle.std.specs.Prelude.{◌≡◌, ℕ, ◌^◌, ◌<◌}
use Rattle.atoms.specs.Sets.{Within}
use Rattle.approx.specs.Meanings.{Meaning}

-- z is stable: the step at z is z, and no other s within z has sure(s, z) within s
pub record Stable (m : Meaning) (z : ℕ) : Type 0 where
  pub below : z < 2 ^ m.width
  pub fixed : m.sure z z ≡ z
  pub least : (s : ℕ) → Within s z → Within (m.sure s z) s → s ≡ z
