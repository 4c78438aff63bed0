-- Lists of interpretations in listing order, and how many there are.
use Rattle.std.specs.Prelude.{◌≡◌, ℕ, ◌-◌, ◌^◌, ◌≤◌, min, ◌⊎◌, List, [], ◌∷◌, ◌++◌, length}
use Rattle.atoms.specs.Order.{Before}

-- x is one of the list
abbrev pub In : ℕ → List ℕ → Type 0
In x [] = ⊥
In x (y ∷ ys) = (x ≡ y) ⊎ In x ys

-- y comes before each of the list
abbrev pub AheadOf : ℕ → List ℕ → Type 0
AheadOf y [] = Unit {0}
AheadOf y (x ∷ xs) = Before y x × AheadOf y xs

-- the list is in listing order, with none twice
abbrev pub Ordered : List ℕ → Type 0
Ordered [] = Unit {0}
Ordered (x ∷ xs) = AheadOf x xs × Ordered xs

-- the list has, in listing order, just the interpretations of which P holds
pub record Lists (P : ℕ → Type 0) (xs : List ℕ) : Type 0 where
  pub ordered : Ordered xs
  pub sound : (x : ℕ) → In x xs → P x
  pub whole : (x : ℕ) → P x → In x xs

-- there are n interpretations of which P holds
pub record Counted (P : ℕ → Type 0) (n : ℕ) : Type 0 where
  pub items : List ℕ
  pub long : length items ≡ n
  pub held : Lists P items

-- r says how many there are of which P holds, no more than the limit; a number past 2 ^ 32 - 1 is said as 2 ^ 32 - 1
pub record Tallied (P : ℕ → Type 0) (limit r : ℕ) : Type 0 where
  pub number : ℕ
  pub counted : Counted P number
  pub few : number ≤ limit
  pub said : r ≡ min number (2 ^ 32 - 1)

-- the list new is the list old and, behind it, all of which P holds, in listing order
pub record Gathered (P : ℕ → Type 0) (old new : List ℕ) : Type 0 where
  pub items : List ℕ
  pub listed : Lists P items
  pub behind : new ≡ old ++ items

-- the list new is the list old and, behind it, the first so many of which P holds, in listing order
pub record GatheredFront (P : ℕ → Type 0) (old new : List ℕ) : Type 0 where
  pub items : List ℕ
  pub rest : List ℕ
  pub listed : Lists P (items ++ rest)
  pub behind : new ≡ old ++ items
