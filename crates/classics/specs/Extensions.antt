-- Argumentation frameworks (Dung 1995).
use Rattle.std.specs.Prelude.{ℕ, ◌<◌}
use Rattle.atoms.specs.Sets.{Has}
use Rattle.approx.specs.Meanings.{Meaning}
use Rattle.frameworks.specs.Lines.{HasLine, attackers_of}
use Rattle.frameworks.specs.Frameworks.{width_of, sure_of, may_of}
use Rattle.frameworks.specs.declared.framework.Framework.{Framework}

-- what a framework means as an approximator
abbrev pub framework_meaning : Framework → Meaning
framework_meaning f = record { width = width_of f; sure = sure_of f; may = may_of f }

-- the arguments are the atoms below the width that have a line
abbrev pub Argument : Framework → ℕ → Type 0
Argument f i = (i < width_of f) × HasLine f.table i

-- argument b attacks argument a where the line of a lists b
pub record Attacks (f : Framework) (b a : ℕ) : Type 0 where
  pub attacker : Argument f b
  pub attacked : Argument f a
  pub listed : Has (attackers_of f.table a) b

-- a stable extension is a set of arguments without an attack inside that attacks every argument outside
pub record StableExtension (f : Framework) (s : ℕ) : Type 0 where
  pub arguments : (a : ℕ) → Has s a → Argument f a
  pub no_attack : (b a : ℕ) → Has s b → Has s a → Attacks f b a → ⊥
  pub attacks_rest : (a : ℕ) → Argument f a → (Has s a → ⊥) → (b : ℕ) × (Has s b × Attacks f b a)
