-- What the search between bounds means: what lies inside them, how they are narrowed and parted, and what comes next.
use Rattle.std.specs.Prelude.{◌≡◌, ℕ, ◌<◌, ◌⊎◌, Some, None, Option, bit_and, bit_or}
use Rattle.atoms.specs.Order.{Before}
use Rattle.atoms.specs.Bounded.{Proper, Between, open_count}
use Rattle.atoms.specs.declared.bounds.Bounds.{Bounds}
use Rattle.approx.specs.Meanings.{Meaning}
use Rattle.approx.specs.Stability.{Stable}
use Rattle.approx.specs.Settling.{Climbs}
use Rattle.solver.specs.declared.search.Fork.{Fork}
use Rattle.solver.specs.declared.search.Fork.TheVariants.{Nothing, Single, Two}

-- x is stable and lies between the bounds
pub record Inside (m : Meaning) (b : Bounds) (x : ℕ) : Type 0 where
  pub stable : Stable m x
  pub between : Between b x

-- ---- narrower bounds
-- one step of the climb from the lower: the lower, and the atoms of the upper that may be on between the lower and c
abbrev pub grounded : Meaning → Bounds → ℕ → ℕ
grounded m b c = bit_or b.lower (bit_and b.upper (m.may b.lower c))

-- v is what can be founded between the bounds: the atoms of the upper that may be on between the lower and the end of that climb
pub record Founded (m : Meaning) (b : Bounds) (v : ℕ) : Type 0 where
  pub end : ℕ
  pub climbs : Climbs (grounded m b) b.lower end
  pub is : v ≡ bit_and b.upper (m.may b.lower end)

-- c are the bounds b narrowed: the lower gains what is sure, and the upper keeps what can be founded
pub record Narrows (m : Meaning) (b c : Bounds) : Type 0 where
  pub lower : c.lower ≡ bit_or b.lower (m.sure b.lower b.upper)
  pub upper : Founded m b c.upper

-- ---- what bounds leave
-- z is the only one of which P holds
pub record Only (P : ℕ → Type 0) (z : ℕ) : Type 0 where
  pub here : P z
  pub one : (x : ℕ) → P x → x ≡ z

-- P holds of just what Q or R holds of, and all that Q holds of come before all that R holds of
pub record Joins (P Q R : ℕ → Type 0) : Type 0 where
  pub first_in : (x : ℕ) → Q x → P x
  pub second_in : (x : ℕ) → R x → P x
  pub either : (x : ℕ) → P x → (Q x) ⊎ (R x)
  pub ahead : (x y : ℕ) → Q x → R y → Before x y

-- what lies between b lies between c or, after all of those, between d; neither is crossed, and both have fewer open atoms
pub record Parts (b c d : Bounds) : Type 0 where
  pub first_proper : Proper c
  pub second_proper : Proper d
  pub first_fewer : open_count c < open_count b
  pub second_fewer : open_count d < open_count b
  pub joins : Joins (Between b) (Between c) (Between d)

-- the bounds leave nothing that is stable, a single one that is, or two parts
abbrev pub Leaves : Meaning → Bounds → Fork → Type 0
Leaves m b Nothing = (x : ℕ) → Inside m b x → ⊥
Leaves m b (Single z) = Only (Inside m b) z
Leaves m b (Two c d) = Parts b c d

-- the fork at the bounds b: what they leave once they are narrowed
pub record Forks (m : Meaning) (b : Bounds) (f : Fork) : Type 0 where
  pub narrow : Bounds
  pub narrows : Narrows m b narrow
  pub leaves : Leaves m narrow f

-- ---- what comes next
-- x comes after the interpretation that is given, if one is
abbrev pub After : Option ℕ → ℕ → Type 0
After None x = Unit {0}
After (Some z) x = Before z x

-- y is the first of which P holds after the one that is given
pub record FirstAfter (P : ℕ → Type 0) (after : Option ℕ) (y : ℕ) : Type 0 where
  pub later : After after y
  pub here : P y
  pub first : (x : ℕ) → After after x → P x → (x ≡ y) ⊎ Before y x

-- P holds of none after the one that is given
abbrev pub NoneAfter : (ℕ → Type 0) → Option ℕ → Type 0
NoneAfter P after = (x : ℕ) → After after x → P x → ⊥

-- the answer is the first of which P holds after the one that is given, or that there is none
abbrev pub Sought : (ℕ → Type 0) → Option ℕ → Option ℕ → Type 0
Sought P after None = NoneAfter P after
Sought P after (Some y) = FirstAfter P after y
