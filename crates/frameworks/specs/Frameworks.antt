-- What a framework says on bounds.
use Rattle.std.specs.Prelude.{ℕ}
use Rattle.atoms.specs.Sets.{width_read, clipped}
use Rattle.frameworks.specs.declared.framework.Framework.{Framework}
use Rattle.frameworks.specs.Lines.{unattacked}

-- the width, from 1 to 64
abbrev pub width_of : Framework → ℕ
width_of f = width_read f.width

-- sure has each atom with a line none of whose attackers is in the upper
abbrev pub sure_of : Framework → ℕ → ℕ → ℕ
sure_of f l u = unattacked f.table (width_of f) (clipped (width_of f) u)

-- may has each atom with a line none of whose attackers is in the lower
abbrev pub may_of : Framework → ℕ → ℕ → ℕ
may_of f l u = unattacked f.table (width_of f) (clipped (width_of f) l)
