-- Pegs: which are in force, and the two sets of atoms that hold them.
use Rattle.std.specs.Prelude.{◌≡◌, ℕ, ◌+◌, ◌^◌, Bool, false, cond, ◌==◌, bit_or}
use Rattle.atoms.specs.Sets.{has, how_many, clipped, lacking}
use Rattle.engine.specs.declared.pegs.Sense.{Sense}
use Rattle.engine.specs.declared.pegs.Sense.TheVariants.{On, Off}
use Rattle.engine.specs.declared.pegs.Pegs.{Pegs}

-- for each atom and sense, whether such a peg is in force
abbrev pub Standing : Type 0
Standing = ℕ → Sense → Bool

-- whether the peg of atom j and sense t is the one of atom i and sense s
abbrev pub same_peg : ℕ → Sense → ℕ → Sense → Bool
same_peg i On j On = j == i
same_peg i On j Off = false
same_peg i Off j On = false
same_peg i Off j Off = j == i

-- all is as before but the peg of atom i and sense s, which is in force where b says so
abbrev pub changed : Standing → ℕ → Sense → Bool → Standing
changed before i s b = λ j t. cond (same_peg i s j t) b (before j t)

-- the pegs in force change so
abbrev pub Turned : Standing → ℕ → Sense → Bool → Standing → Type 0
Turned before i s b after = (j : ℕ) (t : Sense) → after j t ≡ changed before i s b j t

-- ---- as two sets
-- a peg is in force where the set of its sense has its atom
abbrev pub standing : Pegs → Standing
standing p i On = has p.on i
standing p i Off = has p.off i

-- no atom is pegged
abbrev pub no_pegs : Pegs
no_pegs = record { on = 0; off = 0 }

-- the atom alone, as a set of 64 atoms
abbrev pub alone : ℕ → ℕ
alone i = clipped 64 (2 ^ i)

-- the atom joins the set of its sense
abbrev pub with_peg : Pegs → ℕ → Sense → Pegs
with_peg p i On = record { on = bit_or p.on (alone i); off = p.off }
with_peg p i Off = record { on = p.on; off = bit_or p.off (alone i) }

-- the atom leaves the set of its sense
abbrev pub without_peg : Pegs → ℕ → Sense → Pegs
without_peg p i On = record { on = lacking p.on (alone i); off = p.off }
without_peg p i Off = record { on = p.on; off = lacking p.off (alone i) }

-- how many pegs are in force
abbrev pub pegs_count : Pegs → ℕ
pegs_count p = how_many (has p.on) 64 + how_many (has p.off) 64
