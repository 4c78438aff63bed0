-- Spots: where a walk over the bytes of a text comes to.
use Rattle.std.proofs.Common.{◌≡◌, ℕ, ◌+◌, Bool, true, false, cond, eqb, List, [], ◌∷◌, ◌++◌, length, sym, refl, ap, ◌∙◌, ap₂, arith}
use Rattle.std.proofs.lemmas.List.{append_assoc, append-nil, length_push}
use Rattle.std.proofs.lemmas.Bool.{ne_eqb, cond-false}
use Rattle.std.proofs.lemmas.Bool.Decides.{nat_tests}
use Rattle.faults.specs.declared.Spot.{Spot}
use Rattle.faults.specs.Faults.{at}
use Rattle.text.specs.Text.{start, past}
use Rattle.refusals.specs.Texts.{newlines, since_newline, spot_past}

-- one byte more
newlines_step : (x y : Bool) (m n : ℕ) → m ≡ cond y (n + 1) n → cond x (m + 1) m ≡ cond y (cond x (n + 1) n + 1) (cond x (n + 1) n)
newlines_step true true m n e = ap (λ k. k + 1) e
newlines_step true false m n e = ap (λ k. k + 1) e
newlines_step false y m n e = e

newlines_push : (bytes : List ℕ) (byte : ℕ) → newlines (bytes ++ byte ∷ []) ≡ cond (eqb byte 10) (newlines bytes + 1) (newlines bytes)
newlines_push [] byte = refl
newlines_push (b ∷ bytes) byte = newlines_step (eqb b 10) (eqb byte 10) (newlines (bytes ++ byte ∷ [])) (newlines bytes) (newlines_push bytes byte)

since_step : (y : Bool) (m n len more s t : ℕ) → m ≡ cond y (n + 1) n → more ≡ len + 1 → t ≡ cond y 0 (s + 1)
    → cond (eqb m 0) (more + 1) t ≡ cond y 0 (cond (eqb n 0) (len + 1) s + 1)
since_step true m n len more s t e l h = cond-false _ _ _ (ne_eqb m 0 (omega arith)) ∙ h
since_step false m n len more s t e l h = grind (arith, nat_tests)

since_alone : (y : Bool) → ◌≡◌ {A = ℕ} (cond (eqb (cond y 1 0) 0) 1 0) (cond y 0 1)
since_alone true = refl
since_alone false = refl

since_push : (bytes : List ℕ) (byte : ℕ) → since_newline (bytes ++ byte ∷ []) ≡ cond (eqb byte 10) 0 (since_newline bytes + 1)
since_push [] byte = since_alone (eqb byte 10)
since_push (b ∷ bytes) byte =
    since_step (eqb byte 10) _ (newlines (b ∷ bytes)) (length bytes) _ (since_newline bytes) _ (newlines_push (b ∷ bytes) byte) (length_push bytes byte) (since_push bytes byte)

spot_step : (t : Bool) (l c : ℕ) → at (cond t (l + 1) l + 1) (cond t 0 (c + 1) + 1) ≡ cond t (at (l + 1 + 1) 1) (at (l + 1) (c + 1 + 1))
spot_step true l c = refl
spot_step false l c = refl

spot_push : (bytes : List ℕ) (byte : ℕ) → spot_past (bytes ++ byte ∷ []) ≡ past (spot_past bytes) byte
spot_push bytes byte = ap₂ (λ l c. at (l + 1) (c + 1)) (newlines_push bytes byte) (since_push bytes byte) ∙ spot_step (eqb byte 10) (newlines bytes) (since_newline bytes)

-- where a walk from a spot over bytes comes to
abbrev pub walked : Spot → List ℕ → Spot
walked spot [] = spot
walked spot (byte ∷ bytes) = walked (past spot byte) bytes

walked_on : (front bytes : List ℕ) → walked (spot_past front) bytes ≡ spot_past (front ++ bytes)
walked_on front [] = ap spot_past (sym (append-nil front))
walked_on front (b ∷ bytes) =
    ap (λ s. walked s bytes) (sym (spot_push front b)) ∙ walked_on (front ++ b ∷ []) bytes ∙ ap spot_past (append_assoc front (b ∷ []) bytes)

-- from the start of a text it comes to the spot past the bytes
pub walked_is : (bytes : List ℕ) → walked start bytes ≡ spot_past bytes
walked_is bytes = walked_on [] bytes
