-- The interpretations that agree with pegs, said by the two sets of atoms and said by which pegs are in force.
use Rattle.std.proofs.Common.{◌≡◌, ℕ, true, List, Option, sym, ◌∙◌}
use Rattle.std.proofs.lemmas.Bool.{eq-eqb, eqb-true}
use Rattle.atoms.specs.Sets.{digit}
use Rattle.approx.specs.Meanings.{Meaning}
use Rattle.approx.proofs.Laws.{Lawful}
use Rattle.solver.specs.Lists.{Lists}
use Rattle.solver.specs.Pegs.{Wanted}
use Rattle.solver.specs.Fronts.{Front}
use Rattle.solver.proofs.Alikeness.{Alike, lists_alike}
use Rattle.solver.proofs.Enlisting.{wanted_listed}
use Rattle.solver.proofs.Handing.{front_of}
use Rattle.engine.specs.Standing.{Standing, standing}
use Rattle.engine.specs.Histories.{Obeys, Agreeing, FirstSoMany}
use Rattle.engine.specs.declared.pegs.Sense.{Sense}
use Rattle.engine.specs.declared.pegs.Sense.TheVariants.{On, Off}
use Rattle.engine.specs.declared.pegs.Pegs.{Pegs}

module _ {m : Meaning} (p : Pegs) (f : Standing) (same : (i : ℕ) (s : Sense) → standing p i s ≡ f i s) where
  wanted_obeys : (z : ℕ) → Wanted m p.on p.off z → (i : ℕ) (s : Sense) → f i s ≡ true → Obeys z i s
  wanted_obeys z w i On e = w.pegged_on.at i (eqb-true (digit p.on i) 1 (same i On ∙ e))
  wanted_obeys z w i Off e = w.pegged_off i (eqb-true (digit p.off i) 1 (same i Off ∙ e))

  pub wanted_agreeing : Alike (Wanted m p.on p.off) (Agreeing m f)
  wanted_agreeing = record {
    there = λ z w. record { stable = w.stable; obeys = wanted_obeys z w };
    back = λ z a. record {
      stable = a.stable;
      pegged_on = record { at = λ i h. a.obeys i On (sym (same i On) ∙ eq-eqb (digit p.on i) 1 h) };
      pegged_off = λ i o h. a.obeys i Off (sym (same i Off) ∙ eq-eqb (digit p.off i) 1 o) h;
    };
  }

  -- there is a list of all that agree, and what was handed out of it are its first so many
  pub first_so_many : Lawful m → {last : Option ℕ} {out : List ℕ} → Front (Agreeing m f) last out → FirstSoMany m f out
  first_so_many laws front =
      let wanted = wanted_listed laws p.on p.off in
      let listed : Lists (Agreeing m f) wanted.0 = lists_alike wanted_agreeing wanted.1 in
      let begins = front_of front listed in
      record { all = wanted.0; listed = listed; rest = begins.0; front = begins.1 }
