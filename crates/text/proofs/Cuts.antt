-- Bytes that are cut at a byte: the first piece, and what is left after it.
use Rattle.std.proofs.Common.{◌≡◌, ℕ, suc, ◌+◌, ◌-◌, ◌<◌, ◌≤◌, true, false, cond, not, eqb, ltb, List, [], ◌∷◌, length, get_or, take, drop, sym, subst, refl, ap, ◌∙◌, ⊎_elim, arith}
use native.Mathlib.Nat.{sub-zero}
use Rattle.std.proofs.lemmas.List.{drop-drop, take_rest, length-drop, length-take-le, at_drop_all}
use Rattle.std.proofs.lemmas.List.Sums.{position_or_len_is}
use Rattle.std.proofs.lemmas.Bool.{eq-eqb, ne_eqb, cases_lt, lt-ltb, le-ltb}
use Rattle.std.specs.List.{position_or_len}
use Rattle.text.specs.Lines.{onto, pieces, numbered}

-- where the first piece ends
abbrev end_in : ℕ → List ℕ → ℕ
end_in stop bytes = position_or_len (λ x. eqb x stop) bytes

later : (stop b n : ℕ) (bytes : List ℕ) (ps : List (List ℕ)) → ps ≡ take n bytes ∷ pieces stop (drop (n + 1) bytes) → onto b ps ≡ take (1 + n) (b ∷ bytes) ∷ pieces stop (drop (1 + n + 1) (b ∷ bytes))
later stop b n bytes ps e =
    let s : 1 + n ≡ suc n = omega arith in
    let t : suc n + 1 ≡ suc (n + 1) = omega arith in
    rw (s, t) (ap (onto b) e)

first_piece : (stop : ℕ) (bytes : List ℕ) → 0 < length bytes → pieces stop bytes ≡ take (end_in stop bytes) bytes ∷ pieces stop (drop (end_in stop bytes + 1) bytes)
first_piece stop [] h = absurd (omega arith)
first_piece stop (b ∷ []) h =
    elim (eqb b stop) as (λ t. cond t ([] ∷ []) ((b ∷ []) ∷ []) ≡ take (cond (not t) 1 0) (b ∷ []) ∷ pieces stop (drop (cond (not t) 1 0 + 1) (b ∷ []))) [ true ↦ refl | false ↦ refl ]
first_piece stop (b ∷ d ∷ bs) h =
    let n : ℕ = end_in stop (d ∷ bs) in
    elim (eqb b stop) as (λ t. cond t ([] ∷ pieces stop (d ∷ bs)) (onto b (pieces stop (d ∷ bs))) ≡ take (cond (not t) (1 + n) 0) (b ∷ d ∷ bs) ∷ pieces stop (drop (cond (not t) (1 + n) 0 + 1) (b ∷ d ∷ bs))) [
      | true ↦ refl
      | false ↦ later stop b n (d ∷ bs) _ (first_piece stop (d ∷ bs) (omega arith))
    ]

-- the same where a search found the stop, or the end
cut_at : (stop : ℕ) (bytes : List ℕ) (n : ℕ) → 0 < length bytes → n ≤ length bytes → ((k : ℕ) → k < n → get_or bytes k 0 ≡ stop → ⊥) → (n < length bytes → get_or bytes n 0 ≡ stop)
    → pieces stop bytes ≡ take n bytes ∷ pieces stop (drop (n + 1) bytes)
cut_at stop bytes n some within before found =
    subst (λ m. pieces stop bytes ≡ take m bytes ∷ pieces stop (drop (m + 1) bytes))
    (position_or_len_is (λ x. eqb x stop) bytes n 0 within (λ k l. ne_eqb _ stop (before k l)) (λ l. eq-eqb _ stop (found l)))
    (first_piece stop bytes some)

-- and at a position, with the bytes that are left as the code takes them
pub cut_first : (stop : ℕ) (text : List ℕ) (at n : ℕ) → let left : List ℕ = take (length text - at) (drop at text) in
    at < length text → n ≤ length left → ((k : ℕ) → k < n → get_or left k 0 ≡ stop → ⊥) → (n < length left → get_or left n 0 ≡ stop)
    → pieces stop (drop at text) ≡ take n left ∷ pieces stop (drop (at + (length (take n left) + 1)) text)
cut_first stop text at n inside within before found =
    rw (length-take-le n _ within, take_rest text at, ← drop-drop)
    (cut_at stop (drop at text) n (simp length-drop (omega arith)) (rw take_rest at within) (rw take_rest at before) (rw take_rest at found))

-- what is cut at a position ends within the text
module _ (stop : ℕ) (text : List ℕ) (at n : ℕ) where
  abbrev left : List ℕ
  left = take (length text - at) (drop at text)

  abbrev part : List ℕ
  part = take (n - 0) left

  length_part : n ≤ length left → length part ≡ n
  length_part u = rw sub-zero (length-take-le n left u)

  pub cut_within : at < length text → n ≤ length left → at + length part ≤ length text
  cut_within w u =
      let m : n ≤ length text - at = rw (take_rest text at, length-drop) at u in
      omega (arith, length_part u)

-- a line is left where a byte is left
module _ (number : ℕ) (text : List ℕ) (at : ℕ) where
  some_line : at < length text → 0 < length (numbered number (pieces 10 (drop at text)))
  some_line h = rw (first_piece 10 (drop at text) (simp length-drop (omega arith))) (omega arith)

  pub line_left : ltb at (length text) ≡ ltb 0 (length (numbered number (pieces 10 (drop at text))))
  line_left =
      ⊎_elim (λ h. lt-ltb at (length text) h ∙ sym (lt-ltb 0 _ (some_line h)))
      (λ h. le-ltb at (length text) h ∙ sym (ap (λ ls. ltb 0 (length ls)) (at_drop_all (λ bytes. numbered number (pieces 10 bytes)) text at h)))
      (cases_lt at (length text))
