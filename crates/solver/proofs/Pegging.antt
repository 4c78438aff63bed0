-- Bounds with pegs put in: what lies between them, and that the stable ones are those that are wanted.
use Rattle.std.proofs.Common.{ℕ, ◌^◌, ◌<◌, Option}
use Rattle.atoms.specs.Sets.{Within}
use Rattle.atoms.specs.Bounded.{Between}
use Rattle.atoms.specs.declared.bounds.Bounds.{Bounds}
use Rattle.atoms.proofs.Digits.{lacks_not, lacks_from}
use Rattle.atoms.proofs.Inclusion.{within_trans, or_within, or_within_l, or_within_r}
use Rattle.atoms.proofs.Lacking.{lacking_has, lacking_lacks, lacking_in}
use Rattle.atoms.proofs.Openness.{open_no_more}
use Rattle.approx.specs.Meanings.{Meaning}
use Rattle.approx.specs.Stability.{Stable}
use Rattle.solver.specs.Lists.{Counted}
use Rattle.solver.specs.Pegs.{Wanted, pegged, Pegs}
use Rattle.solver.specs.Search.{Inside, Sought}
use Rattle.solver.proofs.Alikeness.{Alike, sought_alike, counted_alike}

-- ---- between the pegged bounds
module _ (b : Bounds) (on off : ℕ) (hu : b.upper < 2 ^ 64) (hoff : off < 2 ^ 64) where
  rises : Within b.lower (pegged b on off).lower
  rises = or_within_l b.lower on

  sinks : Within (pegged b on off).upper b.upper
  sinks = record { at = lacking_has b.upper off hu hoff }

  pub pegs_hold : Pegs b on off (pegged b on off)
  pegs_hold = record {
    keeps = λ x z p f. (or_within z.0 p, record { at = λ i h. lacking_in b.upper off hu hoff i (z.1.at i h) (lacks_from off i (λ o. f i o h)) });
    inside = λ x z. (within_trans rises z.0, within_trans z.1 sinks);
    has_on = λ x z. within_trans (or_within_r b.lower on) z.0;
    lacks_off = λ x z i o h. lacks_not off i (lacking_lacks b.upper off hu hoff i (z.1.at i h)) o;
    no_more_open = open_no_more b (pegged b on off) rises sinks;
  }

-- ---- the wanted
-- where every stable interpretation lies between b, the wanted ones are the stable ones between the pegged bounds c
module _ {m : Meaning} {b c : Bounds} {on off : ℕ} (pegs : Pegs b on off c) (bounded : (x : ℕ) → Stable m x → Between b x) where
  pub wanted_alike : Alike (Inside m c) (Wanted m on off)
  wanted_alike = record {
    there = λ x i. record { stable = i.stable; pegged_on = pegs.has_on x i.between; pegged_off = pegs.lacks_off x i.between };
    back = λ x w. record { stable = w.stable; between = pegs.keeps x (bounded x w.stable) w.pegged_on w.pegged_off };
  }

  pub wanted_sought : (after answer : Option ℕ) → Sought (Inside m c) after answer → Sought (Wanted m on off) after answer
  wanted_sought = sought_alike wanted_alike

  pub wanted_counted : {n : ℕ} → Counted (Inside m c) n → Counted (Wanted m on off) n
  wanted_counted = counted_alike wanted_alike
