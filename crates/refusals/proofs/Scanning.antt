-- The first byte of a text that breaks a law: the scan for it finds just that.
use Rattle.std.proofs.Common.{◌≡◌, ℕ, zero, suc, ◌<◌, Bool, true, false, List, [], ◌∷◌, length, get_or, take, Some, None, Decides, Option, sym, refl, ap, ◌∙◌, ⊎_elim, arith}
use Rattle.std.proofs.lemmas.Bool.{cond-true, cond-false, cases_Bool}
use Rattle.std.proofs.lemmas.Bool.Decides.{not_from_Decides}
use Rattle.faults.specs.declared.Spot.{Spot}
use Rattle.text.specs.Text.{start, past, first_broken}
use Rattle.refusals.specs.Texts.{First, Nowhere, spot_of}
use Rattle.refusals.proofs.Spotting.{walked, walked_is}

-- nothing is not something
pub not_some : {X : Type 0} {x : X} → None ≡ Some x → ⊥
not_some e = cc

-- a search that finds what P says, and misses where Q holds
pub record Finds {X : Type 0} (o : Option X) (P : X → Type 0) (Q : Type 0) : Type 0 where
  pub found : (x : X) → o ≡ Some x → P x
  pub found_by : (x : X) → P x → o ≡ Some x
  pub missed : o ≡ None → Q
  pub missed_by : Q → o ≡ None

-- a test of the bytes before, at and after a position, put to a position of bytes that follow a byte
abbrev pub tested : (ℕ → ℕ → ℕ → Bool) → ℕ → List ℕ → ℕ → Bool
tested test before bytes k = test (get_or (before ∷ bytes) k 0) (get_or bytes k 0) (get_or bytes (suc k) 10)

module _ (test : ℕ → ℕ → ℕ → Bool) where
  abbrev scan : Spot → ℕ → List ℕ → Option Spot
  scan spot before bytes = first_broken test spot before bytes

  -- a position is the first that the test finds, and a walk to it comes to a spot
  record Found (spot : Spot) (before : ℕ) (bytes : List ℕ) (here : Spot) : Type 0 where
    place : ℕ
    inside : place < length bytes
    breaks : tested test before bytes place ≡ true
    earlier : (j : ℕ) → j < place → tested test before bytes j ≡ false
    spotted : here ≡ walked spot (take place bytes)

  sooner : (before b : ℕ) (bytes : List ℕ) (n : ℕ) → test before b (get_or bytes 0 10) ≡ false → ((j : ℕ) → j < n → tested test b bytes j ≡ false)
      → (j : ℕ) → j < suc n → tested test before (b ∷ bytes) j ≡ false
  sooner before b bytes n e rest zero h = e
  sooner before b bytes n e rest (suc j) h = rest j (omega arith)

  found_later : (spot : Spot) (before b : ℕ) (bytes : List ℕ) (here : Spot) → test before b (get_or bytes 0 10) ≡ false → Found (past spot b) b bytes here → Found spot before (b ∷ bytes) here
  found_later spot before b bytes here e f = record {
    place = suc f.place;
    inside = omega arith;
    breaks = f.breaks;
    earlier = sooner before b bytes f.place e f.earlier;
    spotted = f.spotted;
  }

  -- the scan, once the test of its first byte is known
  stops : (spot : Spot) (before b : ℕ) (bytes : List ℕ) → test before b (get_or bytes 0 10) ≡ true → scan spot before (b ∷ bytes) ≡ Some spot
  stops spot before b bytes t = cond-true _ _ _ t

  steps : (spot : Spot) (before b : ℕ) (bytes : List ℕ) → test before b (get_or bytes 0 10) ≡ false → scan spot before (b ∷ bytes) ≡ scan (past spot b) b bytes
  steps spot before b bytes t = cond-false _ _ _ t

  found_from_scan : (spot : Spot) (before : ℕ) (bytes : List ℕ) (here : Spot) → scan spot before bytes ≡ Some here → Found spot before bytes here
  found_from_scan spot before [] here e = absurd (not_some e)
  found_from_scan spot before (b ∷ bytes) here e =
      ⊎_elim
      (λ t. let s = stops spot before b bytes t in record { place = 0; inside = omega arith; breaks = t; earlier = λ j h. absurd (omega arith); spotted = cc })
      (λ t. found_later spot before b bytes here t (found_from_scan (past spot b) b bytes here (sym (steps spot before b bytes t) ∙ e)))
      (cases_Bool (test before b (get_or bytes 0 10)))

  none_from_scan : (spot : Spot) (before : ℕ) (bytes : List ℕ) → scan spot before bytes ≡ None → (k : ℕ) → k < length bytes → tested test before bytes k ≡ false
  none_from_scan spot before [] e = λ k h. absurd (omega arith)
  none_from_scan spot before (b ∷ bytes) e =
      ⊎_elim
      (λ t. absurd (not_some (sym e ∙ stops spot before b bytes t)))
      (λ t. sooner before b bytes (length bytes) t (none_from_scan (past spot b) b bytes (sym (steps spot before b bytes t) ∙ e)))
      (cases_Bool (test before b (get_or bytes 0 10)))

  scan_from_found : (spot : Spot) (before : ℕ) (bytes : List ℕ) (k : ℕ) → k < length bytes → tested test before bytes k ≡ true → ((j : ℕ) → j < k → tested test before bytes j ≡ false)
      → scan spot before bytes ≡ Some (walked spot (take k bytes))
  scan_from_found spot before [] k h t early = absurd (omega arith)
  scan_from_found spot before (b ∷ bytes) zero h t early = stops spot before b bytes t
  scan_from_found spot before (b ∷ bytes) (suc k) h t early =
      steps spot before b bytes (early 0 (omega arith)) ∙ scan_from_found (past spot b) b bytes k (omega arith) t (λ j l. early (suc j) (omega arith))

  scan_from_none : (spot : Spot) (before : ℕ) (bytes : List ℕ) → ((k : ℕ) → k < length bytes → tested test before bytes k ≡ false) → scan spot before bytes ≡ None
  scan_from_none spot before [] sound = refl
  scan_from_none spot before (b ∷ bytes) sound =
      steps spot before b bytes (sound 0 (omega arith)) ∙ scan_from_none (past spot b) b bytes (λ k h. sound (suc k) (omega arith))

  -- the kind of position that the test finds in a text
  module _ (text : List ℕ) (P : ℕ → Type 0) (inside : (k : ℕ) → P k → k < length text) (decides : (k : ℕ) → k < length text → Decides (tested test 10 text k) (P k)) where
    untested : (j : ℕ) → j < length text → (P j → ⊥) → tested test 10 text j ≡ false
    untested j l none = ⊎_elim (λ t. absurd (none ((decides j l).0 t))) (λ t. t) (cases_Bool (tested test 10 text j))

    first_from_scan : (here : Spot) → scan start 10 text ≡ Some here → (k : ℕ) × First P k × (here ≡ spot_of text k)
    first_from_scan here e =
        let f = found_from_scan start 10 text here e in (
          f.place,
          ((decides f.place f.inside).0 f.breaks, λ j h. not_from_Decides (tested test 10 text j) (decides j (omega arith)) (f.earlier j h)),
          f.spotted ∙ walked_is (take f.place text),
        )

    scan_from_first : (k : ℕ) → First P k → scan start 10 text ≡ Some (spot_of text k)
    scan_from_first k p =
        let l = inside k p.0 in
        scan_from_found start 10 text k l ((decides k l).1 p.0) (λ j h. untested j (omega arith) (p.1 j h)) ∙ ap Some (walked_is (take k text))

    nowhere_from_scan : scan start 10 text ≡ None → Nowhere P
    nowhere_from_scan e k p = let l = inside k p in not_from_Decides (tested test 10 text k) (decides k l) (none_from_scan start 10 text e k l) p

    -- the scan of the text finds the first such position, or there is none
    pub scan_finds : Finds (scan start 10 text) (λ here. (k : ℕ) × First P k × (here ≡ spot_of text k)) (Nowhere P)
    scan_finds = record {
      found = first_from_scan;
      found_by = λ here p. scan_from_first p.0 p.1 ∙ ap Some (sym p.2);
      missed = nowhere_from_scan;
      missed_by = λ none. scan_from_none start 10 text (λ k l. untested k l (none k));
    }
