-- What a text that passed keeps, byte by byte; and that a text which keeps it passes.
use Rattle.std.proofs.Common.{◌≡◌, ℕ, ◌+◌, ◌-◌, ◌≤◌, Bool, true, false, cond, not, ◌||◌, eqb, List, [], ◌∷◌, ◌++◌, length, get_or, take, drop, Some, None, Ok, Err, Option, Result, sym, refl, ap, ◌∙◌, arith}
use Rattle.std.proofs.lemmas.List.{take-append-drop, drop_more, drop_all, length_push, get_or_push}
use Rattle.std.proofs.lemmas.Bool.{cond-false, eq-eqb, ne_eqb, eqb-true, eqb-false, le-ltb, or_parts, or_from, not-false, not_from_true}
use Rattle.faults.specs.declared.Spot.{Spot}
use Rattle.faults.specs.declared.TextFault.{TextFault}
use Rattle.faults.specs.declared.TextFault.TheVariants.{BadByte, Spacing}
use Rattle.text.specs.Text.{start, past, bad_byte, bad_spacing, first_broken, fault_or, text_verdict}

-- no byte fails the test, where the text goes on after a byte
abbrev pub Kept : (ℕ → ℕ → ℕ → Bool) → ℕ → List ℕ → Type 0
Kept bad before [] = Unit {0}
Kept bad before (byte ∷ bytes) = (bad before byte (get_or bytes 0 10) ≡ false) × Kept bad byte bytes

-- a text that ends with a newline and keeps both laws
pub record Passes (text : List ℕ) : Type 0 where
  pub front : List ℕ
  pub ends : front ++ 10 ∷ [] ≡ text
  pub bytes : Kept bad_byte 10 text
  pub spaces : Kept bad_spacing 10 text

kept_none : (bad : ℕ → ℕ → ℕ → Bool) (spot : Spot) (before : ℕ) (bytes : List ℕ) → Kept bad before bytes → first_broken bad spot before bytes ≡ None
kept_none bad spot before [] c = refl
kept_none bad spot before (b ∷ bs) c = cond-false _ _ _ c.0 ∙ kept_none bad (past spot b) b bs c.1

none_kept : (bad : ℕ → ℕ → ℕ → Bool) (spot : Spot) (before : ℕ) (bytes : List ℕ) → first_broken bad spot before bytes ≡ None → Kept bad before bytes
none_kept bad spot before [] e = tt
none_kept bad spot before (b ∷ bs) e =
    elim (bad before b (get_or bs 0 10)) as (λ t. cond t (Some spot) (first_broken bad (past spot b) b bs) ≡ None → (t ≡ false) × Kept bad b bs) [
      | true ↦ λ q. cc
      | false ↦ λ q. (refl, none_kept bad (past spot b) b bs q)
    ] e

-- a test or a spot that leads to a fault was not met
past_test : (b : Bool) (f : TextFault) (next : Result (Unit {0}) TextFault) (u : Unit {0}) → cond b (Err f) next ≡ Ok u → (b ≡ false) × (next ≡ Ok u)
past_test true f next u e = cc
past_test false f next u e = (refl, e)

past_spot : (o : Option Spot) (fault : Spot → TextFault) (next : Result (Unit {0}) TextFault) (u : Unit {0}) → fault_or o fault next ≡ Ok u → (o ≡ None) × (next ≡ Ok u)
past_spot (Some spot) fault next u e = cc
past_spot None fault next u e = (refl, e)

module _ (text : List ℕ) where
  abbrev no_end : Bool
  no_end = eqb (length text) 0 || not (eqb (get_or text (length text - 1) 0) 10)

  ends_from : no_end ≡ false → take (length text - 1) text ++ 10 ∷ [] ≡ text
  ends_from e =
      let parts = or_parts (eqb (length text) 0) _ e in
      let some : length text ≡ 0 → ⊥ = eqb-false (length text) 0 parts.0 in
      let last : get_or text (length text - 1) 0 ≡ 10 = eqb-true _ 10 (not-false _ parts.1) in
      let rest : drop (length text - 1) text ≡ 10 ∷ [] = drop_more text (length text - 1) 0 (omega arith) ∙ (λ i. last i ∷ drop_all (length text - 1 + 1) text (omega arith) i) in
      ap (λ l. take (length text - 1) text ++ l) (sym rest) ∙ take-append-drop (length text - 1) text

  has_end : (front : List ℕ) → front ++ 10 ∷ [] ≡ text → no_end ≡ false
  has_end front e =
      let size : length text ≡ length front + 1 = ap length (sym e) ∙ length_push front 10 in
      let last : get_or text (length text - 1) 0 ≡ 10 = ap (λ t. get_or t (length text - 1) 0) (sym e) ∙ get_or_push front 10 0 (length text - 1) (omega arith) in
      or_from _ _ (ne_eqb (length text) 0 (λ z. omega arith)) (not_from_true _ (eq-eqb _ 10 last))

  pub passed_keeps : (u : Unit {0}) → text_verdict text ≡ Ok u → Passes text
  passed_keeps u passed =
      let sized = past_test _ _ _ u passed in
      let ended = past_test _ _ _ u sized.1 in
      let printed = past_spot _ BadByte _ u ended.1 in
      let spaced = past_spot _ Spacing _ u printed.1 in
      record {
        front = take (length text - 1) text;
        ends = ends_from ended.0;
        bytes = none_kept bad_byte start 10 text printed.0;
        spaces = none_kept bad_spacing start 10 text spaced.0;
      }

  pub kept_passes : length text ≤ 16384 → Passes text → text_verdict text ≡ Ok tt
  kept_passes short p =
      cond-false _ _ _ (le-ltb 16384 (length text) short) ∙ cond-false _ _ _ (has_end p.front p.ends)
      ∙ ap (λ o. fault_or o BadByte (fault_or (first_broken bad_spacing start 10 text) Spacing (Ok tt))) (kept_none bad_byte start 10 text p.bytes)
      ∙ ap (λ o. fault_or o Spacing (Ok tt)) (kept_none bad_spacing start 10 text p.spaces)
