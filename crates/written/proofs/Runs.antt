-- A line's state machine over its words alone, without their spots; and one that takes unit after unit.
use Rattle.std.proofs.Common.{◌≡◌, ℕ, zero, suc, ◌+◌, ◌<◌, ◌≤◌, List, [], ◌∷◌, ◌++◌, length, Some, None, Ok, Err, Option, Result, sym, refl, ap, ◌∙◌, arith}
use Rattle.std.specs.List.{flat_map, AllByRecursion}
use Rattle.std.proofs.lemmas.List.{append_assoc, append-nil, length-append, length_push}
use Rattle.faults.specs.declared.Spot.{Spot}
use Rattle.faults.specs.declared.SheetFault.{SheetFault}
use Rattle.faults.specs.Faults.{at}
use Rattle.text.specs.Lines.{Numbered, pieces, placed, end_of}
use Rattle.text.specs.Words.{Meaning, meaning}
use Rattle.grammar.specs.declared.Wrong.{Wrong}
use Rattle.grammar.specs.Wrongs.{fault_at}
use Rattle.grammar.specs.Lines.{finished, moved, reading, line_read}
use Rattle.written.specs.Writing.{Word}
use Rattle.written.proofs.Results.{no_way}

-- after a word the machine goes on from the next state, or stops with nothing
abbrev pub then : {S R : Type 0} → Result S Wrong → (S → Option R) → Option R
then (Ok state) go = go state
then (Err wrong) go = None

-- what a machine makes of words
abbrev pub run : {S R : Type 0} → (S → Meaning → Result S Wrong) → (S → Option R) → S → List Word → Option R
run next done state [] = done state
run next done state (word ∷ words) = then (next state (meaning word)) (λ s. run next done s words)

then_some : {S R : Type 0} (o : Result S Wrong) (go : S → Option R) (r : R) → then o go ≡ Some r → (s : S) × (o ≡ Ok s) × (go s ≡ Some r)
then_some (Ok s) go r e = (s, refl, e)
then_some (Err w) go r e = no_way (cc)

finished_ok : {R : Type 0} (o : Option R) (fault : SheetFault) (r : R) → finished o fault ≡ Ok r → o ≡ Some r
finished_ok None fault r e = no_way (cc)
finished_ok (Some x) fault r e = ap Some (let same : x ≡ r = cc in same)

moved_ok : {S R : Type 0} (o : Result S Wrong) (spot : Spot) (go : S → Result R SheetFault) (r : R) → moved o spot go ≡ Ok r → (s : S) × (o ≡ Ok s) × (go s ≡ Ok r)
moved_ok (Ok s) spot go r e = (s, refl, e)
moved_ok (Err w) spot go r e = no_way (cc)

module _ {S R : Type 0} (next : S → Meaning → Result S Wrong) (done : S → Option R) where
  -- a step over a word, forwards and back
  pub run_step : (s t : S) (w : Word) (ws : List Word) → next s (meaning w) ≡ Ok t → run next done s (w ∷ ws) ≡ run next done t ws
  run_step s t w ws e = ap (λ o. then o (λ u. run next done u ws)) e

  pub step_run : (s : S) (w : Word) (ws : List Word) (r : R) → run next done s (w ∷ ws) ≡ Some r → (t : S) × (next s (meaning w) ≡ Ok t) × (run next done t ws ≡ Some r)
  step_run s w ws r e = then_some (next s (meaning w)) (λ u. run next done u ws) r e

  module _ (missing : Wrong) (end : Spot) where
    reading_runs : (number column : ℕ) (s : S) (ws : List Word) (r : R) → reading next done missing end s (placed number column ws) ≡ Ok r → run next done s ws ≡ Some r
    reading_runs number column s [] r e = finished_ok (done s) (fault_at missing end) r e
    reading_runs number column s (w ∷ ws) r e =
        let moves = moved_ok (next s (meaning w)) _ _ r e in
        run_step s moves.0 w ws moves.1 ∙ reading_runs number (column + length w + 1) moves.0 ws r moves.2

    runs_reading : (number column : ℕ) (s : S) (ws : List Word) (r : R) → run next done s ws ≡ Some r → reading next done missing end s (placed number column ws) ≡ Ok r
    runs_reading number column s [] r e = ap (λ o. finished o (fault_at missing end)) e
    runs_reading number column s (w ∷ ws) r e =
        let steps = step_run s w ws r e in
        ap (λ o. moved o (at number column) (λ t. reading next done missing end t (placed number (column + length w + 1) ws))) steps.1
        ∙ runs_reading number (column + length w + 1) steps.0 ws r steps.2

  -- a line is read just where the machine makes a row of its words
  pub line_runs : (missing : Wrong) (start : S) (line : Numbered) (r : R) → line_read next done missing start line ≡ Ok r → run next done start (pieces 32 line.bytes) ≡ Some r
  line_runs missing start line r e = reading_runs missing (end_of line) line.number 1 start (pieces 32 line.bytes) r e

  pub runs_line : (missing : Wrong) (start : S) (line : Numbered) (r : R) → run next done start (pieces 32 line.bytes) ≡ Some r → line_read next done missing start line ≡ Ok r
  runs_line missing start line r e = runs_reading missing (end_of line) line.number 1 start (pieces 32 line.bytes) r e

  -- ---- unit after unit: `after us` is the state after the units us, at most so many of them
  module _ {U : Type 0} (after : List U → S) (spell : U → List Word) (Fits : U → Type 0) (most : ℕ) where
    -- a unit was taken, and some words are left
    pub record Took (us : List U) (ws : List Word) (r : R) : Type 0 where
      pub unit : U
      pub rest : List Word
      pub is : spell unit ++ rest ≡ ws
      pub some : 0 < length (spell unit)
      pub fits : Fits unit
      pub room : length us < most
      pub goes : run next done (after (us ++ unit ∷ [])) rest ≡ Some r

    -- units were taken to the end
    pub record Taken (us : List U) (ws : List Word) (r : R) : Type 0 where
      pub units : List U
      pub is : flat_map spell units ≡ ws
      pub fits : AllByRecursion Fits units
      pub few : length us + length units ≤ most
      pub ends : done (after (us ++ units)) ≡ Some r

    module _ (take_one : (us : List U) (w : Word) (ws : List Word) (r : R) → run next done (after us) (w ∷ ws) ≡ Some r → Took us (w ∷ ws) r) where
      taking : (fuel : ℕ) (us : List U) (ws : List Word) (r : R) → length ws < fuel → length us ≤ most → run next done (after us) ws ≡ Some r → Taken us ws r
      taking zero us ws r h few e = absurd (omega arith)
      taking (suc fuel) us [] r h few e = record { units = []; is = refl; fits = tt; few = omega arith; ends = ap (λ l. done (after l)) (append-nil us) ∙ e }
      taking (suc fuel) us (w ∷ ws) r h few e =
          let one = take_one us w ws r e in
          let size : length (spell one.unit) + length one.rest ≡ suc (length ws) = sym (length-append (spell one.unit) one.rest) ∙ ap length one.is in
          let pushed : length (us ++ one.unit ∷ []) ≡ length us + 1 = length_push us one.unit in
          let more = taking fuel (us ++ one.unit ∷ []) one.rest r (omega (arith, one.some)) (omega (arith, one.room)) one.goes in
          record {
            units = one.unit ∷ more.units;
            is = ap (λ l. spell one.unit ++ l) more.is ∙ one.is;
            fits = (one.fits, more.fits);
            few = omega (arith, more.few);
            ends = ap (λ l. done (after l)) (sym (append_assoc us (one.unit ∷ []) more.units)) ∙ more.ends;
          }

      -- the words are those of units
      pub units_taken : (us : List U) (ws : List Word) (r : R) → length us ≤ most → run next done (after us) ws ≡ Some r → Taken us ws r
      units_taken us ws r few e = taking (suc (length ws)) us ws r (omega arith) few e

    module _ (put_one : (us : List U) (u : U) (rest : List Word) → length us < most → Fits u → run next done (after us) (spell u ++ rest) ≡ run next done (after (us ++ u ∷ [])) rest) where
      -- the words of units are taken
      pub units_put : (us more : List U) → length us + length more ≤ most → AllByRecursion Fits more → run next done (after us) (flat_map spell more) ≡ done (after (us ++ more))
      units_put us [] few fits = ap (λ l. done (after l)) (sym (append-nil us))
      units_put us (u ∷ more) few fits =
          put_one us u (flat_map spell more) (omega arith) fits.0
          ∙ units_put (us ++ u ∷ []) more (omega (arith, length_push us u)) fits.1
          ∙ ap (λ l. done (after l)) (append_assoc us (u ∷ []) more)
