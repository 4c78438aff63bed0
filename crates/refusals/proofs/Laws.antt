-- The checks of a text one by one: what each test says of a position, of the length and of the end.
use Rattle.std.proofs.Common.{◌≡◌, ℕ, zero, suc, ◌+◌, ◌-◌, ◌<◌, false, not, ◌||◌, eqb, ltb, ◌⊎◌, List, ◌∷◌, length, get_or, Decides, sym, refl, ap, ◌∙◌, inl, inr, ⊎_elim, add-one, arith}
use Rattle.std.proofs.lemmas.List.{get_or_default}
use Rattle.std.proofs.lemmas.Bool.{ltb-true, ltb-false, lt-ltb, le-ltb, eqb-true, eqb-false, eq-eqb, ne_eqb, or_parts, or_from, not-false, not_from_true, cases_lt}
use Rattle.std.proofs.lemmas.Bool.Decides.{Decides-like, Decides-not, Decides-and, Decides-or, Decides-eqb, Decides-ltb}
use Rattle.text.specs.Text.{bad_byte, bad_spacing}
use Rattle.refusals.specs.Texts.{Holds, Follows, LineBegins, BadByteAt, BadSpacingAt, empty_line, space_first, space_doubled, space_last, Short, Ended, Unended}
use Rattle.refusals.proofs.Telling.{Parts}
use Rattle.refusals.proofs.Scanning.{tested}

-- the law of bytes
module _ (text : List ℕ) (k : ℕ) (inside : k < length text) where
  pub byte_decides : Decides (tested bad_byte 10 text k) (BadByteAt text k)
  byte_decides =
      Decides-like (tested bad_byte 10 text k)
      (λ p. record { inside = inside; no_newline = p.0; no_sign = p.1 }) (λ b. (b.no_newline, b.no_sign))
      (Decides-and _ _ (Decides-not _ (Decides-eqb (get_or text k 0) 10)) (Decides-or _ _ (Decides-ltb (get_or text k 0) 32) (Decides-ltb 126 (get_or text k 0))))

-- the byte before a position, where a newline stands before the text
before_is : (text : List ℕ) (k byte : ℕ) → get_or (10 ∷ text) k 0 ≡ byte → ((k ≡ 0) × (byte ≡ 10)) ⊎ Follows text k byte
before_is text zero byte e = inl (refl, sym e)
before_is text (suc j) byte e = inr (j, omega arith, e)

is_before : (text : List ℕ) (k byte : ℕ) → Follows text k byte → get_or (10 ∷ text) k 0 ≡ byte
is_before text k byte (j, is, e) = ap (λ n. get_or (10 ∷ text) n 0) (is ∙ add-one j) ∙ e

-- the law of spaces
module _ (text : List ℕ) (ended : Ended text) (k : ℕ) (inside : k < length text) where
  begins : get_or (10 ∷ text) k 0 ≡ 10 → LineBegins text k
  begins e = ⊎_elim (λ p. inl p.0) inr (before_is text k 10 e)

  begun : LineBegins text k → get_or (10 ∷ text) k 0 ≡ 10
  begun (inl e) = ap (λ n. get_or (10 ∷ text) n 0) e
  begun (inr f) = is_before text k 10 f

  follows : get_or (10 ∷ text) k 0 ≡ 32 → Follows text k 32
  follows e = ⊎_elim (λ p. absurd (omega arith)) (λ f. f) (before_is text k 32 e)

  -- a space is not the last byte, so that one follows it
  goes_on : get_or text k 0 ≡ 32 → suc k < length text
  goes_on e = ⊎_elim (λ h. h) (λ h. let last : k ≡ length text - 1 = omega arith in let z : ◌≡◌ {A = ℕ} 32 10 = sym e ∙ ap (λ n. get_or text n 0) last ∙ ended.1 in absurd (omega arith)) (cases_lt (suc k) (length text))

  newline_next : get_or text k 0 ≡ 32 → get_or text (suc k) 10 ≡ 10 → Holds text (k + 1) 10
  newline_next s e = (omega (arith, goes_on s), ap (λ n. get_or text n 0) (add-one k) ∙ get_or_default text (suc k) 0 10 (goes_on s) ∙ e)

  next_newline : Holds text (k + 1) 10 → get_or text (suc k) 10 ≡ 10
  next_newline h = get_or_default text (suc k) 10 0 (omega (arith, h.0)) ∙ ap (λ n. get_or text n 0) (sym (add-one k)) ∙ h.1

  abbrev SpaceParts : Type 0
  SpaceParts =
      ((get_or text k 0 ≡ 10) × (get_or (10 ∷ text) k 0 ≡ 10))
      ⊎ ((get_or text k 0 ≡ 32) × ((get_or (10 ∷ text) k 0 ≡ 10) ⊎ ((get_or (10 ∷ text) k 0 ≡ 32) ⊎ (get_or text (suc k) 10 ≡ 10))))

  spaced_badly : SpaceParts → BadSpacingAt text k
  spaced_badly (inl (e, b)) = empty_line (inside, e) (begins b)
  spaced_badly (inr (e, inl b)) = space_first (inside, e) (begins b)
  spaced_badly (inr (e, inr (inl b))) = space_doubled (inside, e) (follows b)
  spaced_badly (inr (e, inr (inr a))) = space_last (inside, e) (newline_next e a)

  space_parts : BadSpacingAt text k → SpaceParts
  space_parts (empty_line (l, e) b) = inl (e, begun b)
  space_parts (space_first (l, e) b) = inr (e, inl (begun b))
  space_parts (space_doubled (l, e) f) = inr (e, inr (inl (is_before text k 32 f)))
  space_parts (space_last (l, e) h) = inr (e, inr (inr (next_newline h)))

  pub space_decides : Decides (tested bad_spacing 10 text k) (BadSpacingAt text k)
  space_decides =
      Decides-like (tested bad_spacing 10 text k) spaced_badly space_parts
      (Decides-or _ _ (Decides-and _ _ (Decides-eqb (get_or text k 0) 10) (Decides-eqb (get_or (10 ∷ text) k 0) 10))
      (Decides-and _ _ (Decides-eqb (get_or text k 0) 32)
      (Decides-or _ _ (Decides-eqb (get_or (10 ∷ text) k 0) 10) (Decides-or _ _ (Decides-eqb (get_or (10 ∷ text) k 0) 32) (Decides-eqb (get_or text (suc k) 10) 10)))))

pub space_inside : (text : List ℕ) (k : ℕ) → BadSpacingAt text k → k < length text
space_inside text k (empty_line h b) = h.0
space_inside text k (space_first h b) = h.0
space_inside text k (space_doubled h f) = h.0
space_inside text k (space_last h n) = h.0

-- the tests of the length and of the end
pub length_parts : (text : List ℕ) → Parts (ltb 16384 (length text)) (16384 < length text) (Short text)
length_parts text = record { then = ltb-true _ _; true_by = lt-ltb _ _; else = ltb-false _ _; false_by = le-ltb _ _ }

module _ (text : List ℕ) where
  end_decides : Decides (eqb (length text) 0 || not (eqb (get_or text (length text - 1) 0) 10)) (Unended text)
  end_decides = Decides-or _ _ (Decides-eqb (length text) 0) (Decides-not _ (Decides-eqb (get_or text (length text - 1) 0) 10))

  ended_else : (eqb (length text) 0 || not (eqb (get_or text (length text - 1) 0) 10)) ≡ false → Ended text
  ended_else e = let p = or_parts _ _ e in let apart = eqb-false (length text) 0 p.0 in (omega arith, eqb-true _ _ (not-false _ p.1))

  pub end_parts : Parts (eqb (length text) 0 || not (eqb (get_or text (length text - 1) 0) 10)) (Unended text) (Ended text)
  end_parts = record {
    then = end_decides.0;
    true_by = end_decides.1;
    else = ended_else;
    false_by = λ e. or_from _ _ (ne_eqb _ _ (omega (arith, e.0))) (not_from_true _ (eq-eqb _ _ e.1));
  }
