-- Pegs that were granted one after the other, as the two sets of atoms that hold them.
use Rattle.std.proofs.Common.{◌≡◌, ℕ, Bool, true, false, cond, ◌&&◌, ltb, [], ◌∷◌, Ok, Err, ap, ◌∙◌}
use Rattle.std.proofs.lemmas.Bool.{false≢true, and_parts, ltb-true, ne_eqb}
use Rattle.atoms.specs.Sets.{digit, has}
use Rattle.atoms.proofs.Digits.{digit_of_zero, lacks_not}
use Rattle.engine.specs.Standing.{standing, same_peg, no_pegs, with_peg}
use Rattle.engine.specs.Histories.{History, in_force}
use Rattle.engine.specs.declared.pegs.Sense.{Sense}
use Rattle.engine.specs.declared.pegs.Sense.TheVariants.{On, Off}
use Rattle.engine.specs.declared.pegs.Pegs.{Pegs}
use Rattle.engine.specs.declared.runs.Event.TheVariants.{Next, Peg, Pull, Rewind, Tally}
use Rattle.engine.proofs.Turning.{turned_on}

-- nothing but pegs were granted, each on one of 64 atoms
abbrev pub only_pegs : History → Bool
only_pegs [] = true
only_pegs (Next r ∷ h) = false
only_pegs (Peg i s (Ok u) ∷ h) = ltb i 64 && only_pegs h
only_pegs (Peg i s (Err f) ∷ h) = false
only_pegs (Pull i s r ∷ h) = false
only_pegs (Rewind ∷ h) = false
only_pegs (Tally n ∷ h) = false

abbrev pub pegs_of : History → Pegs
pegs_of [] = no_pegs
pegs_of (Next r ∷ h) = no_pegs
pegs_of (Peg i s (Ok u) ∷ h) = with_peg (pegs_of h) i s
pegs_of (Peg i s (Err f) ∷ h) = no_pegs
pegs_of (Pull i s r ∷ h) = no_pegs
pegs_of (Rewind ∷ h) = no_pegs
pegs_of (Tally n ∷ h) = no_pegs

none_has : (i : ℕ) → has 0 i ≡ false
none_has i = ne_eqb (digit 0 i) 1 (λ h. lacks_not 0 i (digit_of_zero i) h)

pub pegs_in_force : (h : History) → only_pegs h ≡ true → (i : ℕ) (s : Sense) → standing (pegs_of h) i s ≡ in_force h i s
pegs_in_force [] e i On = none_has i
pegs_in_force [] e i Off = none_has i
pegs_in_force (Next r ∷ h) e i s = absurd (false≢true e)
pegs_in_force (Peg j t (Ok u) ∷ h) e i s =
    let both = and_parts (ltb j 64) (only_pegs h) e in
    turned_on (pegs_of h) j t (ltb-true j 64 both.0) i s ∙ ap (λ (x : Bool). cond (same_peg j t i s) true x) (pegs_in_force h both.1 i s)
pegs_in_force (Peg i s (Err f) ∷ h) e j t = absurd (false≢true e)
pegs_in_force (Pull i s r ∷ h) e j t = absurd (false≢true e)
pegs_in_force (Rewind ∷ h) e i s = absurd (false≢true e)
pegs_in_force (Tally n ∷ h) e i s = absurd (false≢true e)
