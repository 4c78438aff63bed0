-- What settling comes to: the sequence of bounds, and where it rests.
use Rattle.std.specs.Prelude.{◌≡◌, ℕ, suc, ◌<◌, ◌≢◌}
use Rattle.atoms.specs.Sets.{Within, all_below}
use Rattle.atoms.specs.Bounded.{Proper}
use Rattle.atoms.specs.declared.bounds.Bounds.{Bounds}
use Rattle.approx.specs.Meanings.{Meaning}

-- a climb from c ends at d: c is replaced by f c until it repeats
pub data Climbs (f : ℕ → ℕ) : ℕ → ℕ → Type 0 where
  rests : {c : ℕ} → f c ≡ c → Climbs f c c
  goes : {c d : ℕ} → (f c ≢ c) → Climbs f (f c) d → Climbs f c d

-- a climb by f from start stays within top and loses no atom: f is within top there, and grows with its argument
pub record Rises (f : ℕ → ℕ) (start top : ℕ) : Type 0 where
  pub room : Within start top
  pub starts : Within start (f start)
  pub stays : Within (f top) top
  pub grows : (c d : ℕ) → Within start c → Within c d → Within d top → Within (f c) (f d)

-- the first bounds: no atom, and every atom below the width
abbrev pub first_bounds : Meaning → Bounds
first_bounds m = record { lower = 0; upper = all_below m.width }

-- the bounds after b are c: the new lower climbs from no atom by sure under the old upper, the new upper from the old lower by may over it
pub record NextBounds (m : Meaning) (b c : Bounds) : Type 0 where
  pub lower : Climbs (λ x. m.sure x b.upper) 0 c.lower
  pub upper : Climbs (λ x. m.may b.lower x) b.lower c.upper

-- the bounds after n rounds are b
pub data Rounds (m : Meaning) : ℕ → Bounds → Type 0 where
  begins : Rounds m 0 (first_bounds m)
  goes_on : {n : ℕ} {b c : Bounds} → Rounds m n b → NextBounds m b c → Rounds m (suc n) c

-- settling comes to b after some rounds
abbrev pub Reached : Meaning → Bounds → Type 0
Reached m b = (n : ℕ) × Rounds m n b

-- before n rounds, no bounds equal their successor
abbrev pub Moving : Meaning → ℕ → Type 0
Moving m n = (k : ℕ) (c : Bounds) → k < n → Rounds m k c → NextBounds m c c → ⊥

-- the settled bounds are b: the earliest that equal their successor
pub record Settles (m : Meaning) (b : Bounds) : Type 0 where
  pub rounds : ℕ
  pub reached : Rounds m rounds b
  pub resting : NextBounds m b b
  pub earliest : Moving m rounds

-- settling is crossed: before any bounds equal their successor, a new lower is not within the new upper
pub record Crosses (m : Meaning) : Type 0 where
  pub rounds : ℕ
  pub before : Bounds
  pub after : Bounds
  pub reached : Rounds m rounds before
  pub following : NextBounds m before after
  pub earlier : Moving m (suc rounds)
  pub crossed : Proper after → ⊥
