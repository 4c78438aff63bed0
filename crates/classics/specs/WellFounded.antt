-- The well-founded model of rules without aggregates (Van Gelder, Ross and Schlipf 1991). The atoms of T are true, and those of F are false.
use Rattle.std.specs.Prelude.{◌≡◌, ℕ, ◌-◌, ◌^◌, ◌<◌, ◌⊎◌, List}
use Rattle.atoms.specs.Sets.{Has, Within, all_below}
use Rattle.atoms.specs.declared.bounds.Bounds.{Bounds}
use Rattle.programs.specs.Clauses.{Among}
use Rattle.programs.specs.declared.clause.Clause.{Clause}

-- some atom is in both sets
abbrev pub Meets : ℕ → ℕ → Type 0
Meets a b = (i : ℕ) × (Has a i × Has b i)

-- a set V is unfounded: each rule of each atom of V needs an atom of F or of V, or bars an atom of T
abbrev pub Unfounded : List Clause → ℕ → ℕ → ℕ → Type 0
Unfounded cs T F V = (c : Clause) → Among c cs → Has V c.head → Meets c.needed F ⊎ (Meets c.needed V ⊎ Meets c.barred T)

-- atom i is true by a rule: it is the head of one whose needed atoms are true and whose barred atoms are false
pub record TrueBy (cs : List Clause) (T F i : ℕ) : Type 0 where
  pub rule : Clause
  pub among : Among rule cs
  pub head : rule.head ≡ i
  pub needed : Within rule.needed T
  pub barred : Within rule.barred F

-- T and F are a fixpoint over the atoms below w: T has just what is true by a rule, and F is the greatest unfounded set
pub record Fixpoint (w : ℕ) (cs : List Clause) (T F : ℕ) : Type 0 where
  pub true_by : (i : ℕ) → Has T i → TrueBy cs T F i
  pub all_true : (i : ℕ) → TrueBy cs T F i → Has T i
  pub below : F < 2 ^ w
  pub unfounded : Unfounded cs T F F
  pub greatest : (V : ℕ) → V < 2 ^ w → Unfounded cs T F V → Within V F

-- the well-founded model is the fixpoint that lies within every fixpoint
pub record WellFounded (w : ℕ) (cs : List Clause) (T F : ℕ) : Type 0 where
  pub fixpoint : Fixpoint w cs T F
  pub least : (T' F' : ℕ) → Fixpoint w cs T' F' → Within T T' × Within F F'

-- bounds as a model: true is what the lower has, and false what the upper lacks below w; there is no other such model
pub record TheWellFounded (w : ℕ) (cs : List Clause) (b : Bounds) : Type 0 where
  pub is : WellFounded w cs b.lower (all_below w - b.upper)
  pub only : (T F : ℕ) → WellFounded w cs T F → (T ≡ b.lower) × (F ≡ all_below w - b.upper)
