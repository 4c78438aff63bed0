-- What a caller needs of rows that hold a list: what is in use, whether there is room, and one more item.
use Rattle.std.proofs.Common.{◌≡◌, ℕ, suc, ◌-◌, ◌<◌, ◌≤◌, true, false, ltb, List, [], ◌∷◌, ◌++◌, length, set, replicate, sym, refl, ap, ◌∙◌, ⊎_elim, arith}
use native.Mathlib.Nat.{sub-zero}
use Rattle.std.proofs.lemmas.List.{take_at, set_at, length_push, append_assoc}
use Rattle.std.proofs.lemmas.Bool.{cond-true, cond-false, lt-ltb, le-ltb, ltb-true, and_from, and_left, cases_lt}
use Rattle.tables.specs.declared.rows.Rows.{Rows}
use Rattle.tables.specs.Rows.{laid, in_use, has_room, pushed}

abbrev rows_of : {T : Type 0} (N : ℕ) → ℕ → List T → Rows T N
rows_of N count items = record { count = count; items = items }

module _ {T : Type 0} (N : ℕ) (zero : T) where
  -- rows that are all zero, with none counted, hold nothing
  pub laid_none : rows_of N 0 (replicate N zero) ≡ laid N zero []
  unfolding laid
  laid_none = ap (λ n. rows_of N 0 (replicate n zero)) (sym (sub-zero N))

  module _ (xs : List T) where
    -- what is in use is the list
    pub in_use_laid : in_use N (laid N zero xs) ≡ xs
    unfolding laid
    in_use_laid = take_at xs (replicate (N - length xs) zero) (length xs) refl

    -- there is room where the list is shorter than the rows are many
    pub room_laid : N ≤ 255 → length xs < N → has_room N (laid N zero xs) ≡ true
    unfolding laid
    room_laid few h = and_from _ _ (lt-ltb (length xs) N h) (lt-ltb (length xs) 255 (omega arith))

    pub no_room_laid : N ≤ length xs → has_room N (laid N zero xs) ≡ false
    unfolding laid
    no_room_laid h = and_left _ _ (le-ltb (length xs) N h)

    module _ (x : T) where
      -- where there is room the rows then hold the list with the item behind it
      put : length xs < N → set (xs ++ replicate (N - length xs) zero) (length xs) x ≡ (xs ++ x ∷ []) ++ replicate (N - length (xs ++ x ∷ [])) zero
      put h =
          let one : N - length xs ≡ suc (N - length (xs ++ x ∷ [])) = omega (arith, length_push xs x) in
          ap (λ n. set (xs ++ replicate n zero) (length xs) x) one
          ∙ set_at xs zero (replicate (N - length (xs ++ x ∷ [])) zero) x (length xs) refl
          ∙ sym (append_assoc xs (x ∷ []) (replicate (N - length (xs ++ x ∷ [])) zero))

      pub pushed_laid : N ≤ 255 → length xs < N → pushed N (laid N zero xs) x ≡ laid N zero (xs ++ x ∷ [])
      unfolding laid
      pushed_laid few h =
          cond-true _ _ _ (room_laid few h) ∙ (λ i. rows_of N (sym (length_push xs x) i) (put h i))

      -- and where there is none they stay
      pub full_laid : N ≤ length xs → pushed N (laid N zero xs) x ≡ laid N zero xs
      full_laid h = cond-false _ _ _ (no_room_laid h)

-- the same of any rows that are known to hold a list, by what `push` answered
module _ {T : Type 0} (N : ℕ) (zero : T) (rows : Rows T N) (xs : List T) (is : rows ≡ laid N zero xs) where
  pub in_use_held : in_use N rows ≡ xs
  in_use_held = ap (in_use N) is ∙ in_use_laid N zero xs

  -- where every row can be counted, there is room exactly where the list is shorter than the rows are many
  pub room_held : N ≤ 255 → has_room N rows ≡ ltb (length xs) N
  room_held few =
      ap (has_room N) is
      ∙ ⊎_elim (λ (h : length xs < N). room_laid N zero xs few h ∙ sym (lt-ltb (length xs) N h)) (λ h. no_room_laid N zero xs h ∙ sym (le-ltb (length xs) N h)) (cases_lt (length xs) N)

  pub pushed_held : N ≤ 255 → (x : T) → has_room N rows ≡ true → pushed N rows x ≡ laid N zero (xs ++ x ∷ [])
  pushed_held few x room = ap (λ r. pushed N r x) is ∙ pushed_laid N zero xs x few (ltb-true (length xs) N (sym (room_held few) ∙ room))

  pub refused_held : (x : T) → has_room N rows ≡ false → pushed N rows x ≡ rows
  refused_held x none = cond-false _ _ _ none
