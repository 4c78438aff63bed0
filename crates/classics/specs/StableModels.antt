-- Stable models of rules without aggregates (Gelfond and Lifschitz 1988).
use Rattle.std.specs.Prelude.{ℕ, List}
use Rattle.atoms.specs.Sets.{Has, Within}
use Rattle.programs.specs.Clauses.{Among}
use Rattle.programs.specs.Reducts.{reduct}
use Rattle.programs.specs.declared.clause.Clause.{Clause}

-- a model of rules without barred atoms has the head of each rule whose needed atoms it has
abbrev pub Model : List Clause → ℕ → Type 0
Model cs m = (c : Clause) → Among c cs → Within c.needed m → Has m c.head

-- a stable model is the least model of its reduct
pub record StableModel (cs : List Clause) (z : ℕ) : Type 0 where
  pub model : Model (reduct z cs) z
  pub least : (m : ℕ) → Model (reduct z cs) m → Within z m
