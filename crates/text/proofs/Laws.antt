-- What a caller needs of a text that passed, of the lines that are left, and of a line's place in it.
use Rattle.std.proofs.Common.{◌≡◌, ℕ, ◌+◌, ◌<◌, ◌≤◌, true, false, cond, eqb, ltb, List, [], ◌∷◌, length, take, drop, Ok, Err, sym, refl, ap, ◌∙◌, ⊎_elim, add-one}
use Rattle.std.proofs.lemmas.List.{take_all}
use Rattle.std.proofs.lemmas.Bool.{cond-true, cases_lt, lt-ltb}
use Rattle.faults.specs.declared.TextFault.TheVariants.{TooLong}
use Rattle.text.specs.Text.{text_verdict}
use Rattle.text.specs.Lines.{onto, pieces}

-- a text that passed is short, so that a reader reads all of it
module _ (text : List ℕ) (u : Unit {0}) (passed : text_verdict text ≡ Ok u) where
  too_long : 16384 < length text → ⊥
  too_long h = let e : Err TooLong ≡ Ok u = sym (cond-true _ _ _ (lt-ltb 16384 (length text) h)) ∙ passed in cc

  pub passed_short : length text ≤ 16384
  passed_short = ⊎_elim (λ (h : 16384 < length text). absurd (too_long h)) (λ h. h) (cases_lt 16384 (length text))

  pub passed_whole : take 16384 text ≡ text
  passed_whole = take_all 16384 text passed_short

-- the first piece is the front of the bytes
front_onto : (b : ℕ) (bytes : List ℕ) (rest : List (List ℕ)) → ((p : List ℕ) (ps : List (List ℕ)) → rest ≡ p ∷ ps → take (length p) bytes ≡ p)
    → (p : List ℕ) (ps : List (List ℕ)) → onto b rest ≡ p ∷ ps → take (length p) (b ∷ bytes) ≡ p
front_onto b bytes [] front p ps e = let q : (b ∷ []) ≡ p = cc in ap (λ w. take (length w) (b ∷ bytes)) (sym q) ∙ q
front_onto b bytes (r ∷ rs) front p ps e =
    let q : (b ∷ r) ≡ p = cc in
    ap (λ w. take (length w) (b ∷ bytes)) (sym q) ∙ ap (λ w. b ∷ w) (front r rs refl) ∙ q

pub first_is_front : (stop : ℕ) (bytes : List ℕ) (p : List ℕ) (ps : List (List ℕ)) → pieces stop bytes ≡ p ∷ ps → take (length p) bytes ≡ p
first_is_front stop [] p ps e = cc
first_is_front stop (b ∷ bs) p ps e =
    elim (eqb b stop) as (λ t. cond t ([] ∷ pieces stop bs) (onto b (pieces stop bs)) ≡ p ∷ ps → take (length p) (b ∷ bs) ≡ p) [
      | true ↦ λ q. let n : [] ≡ p = cc in ap (λ w. take (length w) (b ∷ bs)) (sym n) ∙ n
      | false ↦ λ q. front_onto b bs (pieces stop bs) (first_is_front stop bs) p ps q
    ] e

-- a list that is not empty is one longer than what follows its first item, so a loop over lines ends
pub one_fewer : {X : Type 0} (xs : List X) → true ≡ ltb 0 (length xs) → length (drop 1 xs) + 1 ≡ length xs
one_fewer [] e = cc
one_fewer (x ∷ xs) e = add-one (length xs)
