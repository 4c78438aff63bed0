-- What is made of a pile and a first place.
use Rattle.std.specs.Prelude.{◌≡◌, ℕ, ◌+◌, ◌*◌, ◌/◌, ◌^◌, ◌<◌, ◌≤◌}
use Rattle.atoms.specs.Sets.{Within, clipped}
use Rattle.approx.specs.Meanings.{Meaning, meaning}
use Rattle.approx.specs.declared.approximator.Approximator.{Ghosts}
use Rattle.faults.specs.declared.BenchFault.TheVariants.{BerthTooWide}
use Rattle.faults.specs.declared.Refused.{Refused}
use Rattle.layers.specs.declared.berth.Berth.{Berth}
use Rattle.layers.specs.Shifts.{berthed}

-- a meaning n is m moved up by p: asked on bounds, it answers what m answers to the bounds moved down, with atom i as atom p + i
pub record MovedUp (p : ℕ) (m n : Meaning) : Type 0 where
  pub width : n.width ≡ p + m.width
  pub sure : (l u : ℕ) → Within (clipped n.width l) (clipped n.width u) → n.sure l u ≡ m.sure (l / 2 ^ p) (u / 2 ^ p) * 2 ^ p
  pub may : (l u : ℕ) → Within (clipped n.width l) (clipped n.width u) → n.may l u ≡ m.may (l / 2 ^ p) (u / 2 ^ p) * 2 ^ p

-- a berth granted: the same pile, from the first place on, and its meaning moved up
pub record Granted {X : Type 0} (G : Ghosts X) (pile : X) (first : ℕ) (b : Berth X) : Type 0 where
  pub pile_in : b.pile ≡ pile
  pub first_is : b.slot.first ≡ first
  pub narrow : first + G.width pile ≤ 64
  pub moved : MovedUp first (meaning G pile) (berthed b.slot.first b.slot.width (meaning G b.pile))

-- a berth refused: its width would be more than 64, and the same pile comes back
pub record Denied {X : Type 0} (G : Ghosts X) (pile : X) (first : ℕ) (r : Refused X) : Type 0 where
  pub pile_back : r.back ≡ pile
  pub wide : 64 < first + G.width pile
  pub fault : r.fault ≡ BerthTooWide (first + G.width pile)
