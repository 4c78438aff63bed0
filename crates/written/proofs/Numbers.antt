-- The words that write numbers are those that `decimal` and `signed` give.
use Rattle.std.proofs.Common.{◌≡◌, ℕ, zero, suc, ◌+◌, ◌-◌, ◌*◌, ◌^◌, ◌<◌, ◌≤◌, Bool, true, false, cond, ◌&&◌, eqb, leb, List, [], ◌∷◌, length, get_or, ℤ, pos, negsuc, Some, None, decimal, Option, sym, refl, ap, ◌∙◌, ⊎_elim, arith, rules}
use lib.Signed.{mag}
use Rattle.std.specs.Int.{IsInRange}
use Rattle.std.specs.Fmt.{signed_decimal}
use Rattle.std.specs.List.{AllByRecursion}
use Rattle.std.proofs.lemmas.Fmt.{decimal-digits_value, digits_decimal, digits_value-decimal, decimal_nonempty, decimal_digit, first_decimal}
use Rattle.std.proofs.lemmas.Str.Parse.{IsNumeralModel, numerals_by_fold}
use Rattle.std.proofs.lemmas.Bool.{cond-true, cond-false, ne_eqb, eqb-true, eqb-false, leb-true, le-leb, and_parts, and_right, lt-leb, cases_eq, not-true, not_from_false}
use Rattle.std.proofs.lemmas.Bool.Decides.{nat_tests}
use Rattle.text.specs.Numbers.{is_digit, digits, well_begun, small, magnitude_of, plain, negative, number_of}

abbrev all_digits : List ℕ → Bool
all_digits [] = true
all_digits (b ∷ bs) = is_digit b && all_digits bs

abbrev read_on : ℕ → List ℕ → ℕ
read_on n [] = n
read_on n (b ∷ bs) = read_on (n * 10 + (b - 48)) bs

own : IsNumeralModel (λ ds. all_digits ds ≡ true) (read_on 0)
own = numerals_by_fold _ (search rules) read_on (search rules)

digits_read : (n : ℕ) (ds : List ℕ) → all_digits ds ≡ true → digits n ds ≡ Some (read_on n ds)
digits_read n [] h = refl
digits_read n (d ∷ ds) h =
    let parts = and_parts (is_digit d) (all_digits ds) h in
    cond-true _ _ _ parts.0 ∙ digits_read (n * 10 + (d - 48)) ds parts.1

digits_all : (n : ℕ) (ds : List ℕ) (m : ℕ) → digits n ds ≡ Some m → all_digits ds ≡ true
digits_all n [] m e = refl
digits_all n (d ∷ ds) m e =
    elim (is_digit d) as (λ t. cond t (digits (n * 10 + (d - 48)) ds) None ≡ Some m → (t && all_digits ds) ≡ true) [
      | true ↦ λ q. digits_all (n * 10 + (d - 48)) ds m q
      | false ↦ λ q. cc
    ] e

small_some : (o : Option ℕ) (n : ℕ) → small o ≡ Some n → (o ≡ Some n) × (n ≤ 1000000)
small_some None n e = cc
small_some (Some m) n e = grind (arith, nat_tests)

begun_some : (w : List ℕ) → well_begun w ≡ true → (0 < length w) × (get_or w 0 0 ≡ 48 → length w ≡ 1)
begun_some [] e = cc
begun_some (b ∷ []) e = (omega arith, λ _. refl)
begun_some (b ∷ c ∷ cs) e = (omega arith, λ z. absurd (eqb-false b 48 (not-true _ e) z))

begun_from : (w : List ℕ) → 0 < length w → 48 < get_or w 0 0 → well_begun w ≡ true
begun_from [] h l = absurd (omega arith)
begun_from (b ∷ []) h l = refl
begun_from (b ∷ c ∷ cs) h l = not_from_false _ (ne_eqb b 48 (λ e. omega arith))

-- a word of digits is what writes its number
magnitude_says : (w : List ℕ) (n : ℕ) → magnitude_of w ≡ Some n → (w ≡ decimal n) × (n ≤ 1000000)
magnitude_says w n e =
    elim (well_begun w) as (λ t. well_begun w ≡ t → cond t (small (digits 0 w)) None ≡ Some n → (w ≡ decimal n) × (n ≤ 1000000)) [
      | true ↦ λ b q.
          let few = small_some (digits 0 w) n q in
          let all : all_digits w ≡ true = digits_all 0 w n few.0 in
          let begun = begun_some w b in
          let same : read_on 0 w ≡ n = let d = digits_read 0 w all in let s = few.0 in cc in
          let under : read_on 0 w < 2 ^ 64 = omega (arith, few.1) in
          (sym (decimal-digits_value own w all begun.0 begun.1 under) ∙ ap decimal same, few.1)
      | false ↦ λ b q. cc
    ] refl e

module _ (n : ℕ) (few : n ≤ 1000000) where
  under : n < 2 ^ 64
  under = omega arith

  decimal_begun : well_begun (decimal n) ≡ true
  decimal_begun =
      ⊎_elim (λ (e : n ≡ 0). ap (λ k. well_begun (decimal k)) e ∙ ap well_begun (decimal_digit 0 (omega arith)))
      (λ (h : n ≡ 0 → ⊥). begun_from (decimal n) (decimal_nonempty n under) (first_decimal n (omega arith) under)) (cases_eq n 0)

  says_magnitude : magnitude_of (decimal n) ≡ Some n
  says_magnitude =
      cond-true _ _ _ decimal_begun
      ∙ ap small (digits_read 0 (decimal n) (digits_decimal own n under) ∙ ap Some (digits_value-decimal own n under))
      ∙ cond-true _ _ _ (le-leb n 1000000 few)

first_digit : (w : List ℕ) → 0 < length w → all_digits w ≡ true → IsInRange 48 57 (get_or w 0 0)
first_digit [] h e = absurd (omega arith)
first_digit (b ∷ bs) h e = let p = and_parts (leb 48 b) (leb b 57) (and_parts (is_digit b) (all_digits bs) e).0 in (leb-true 48 b p.0, leb-true b 57 p.1)

-- a number without a minus begins with a digit
pub decimal_begins : (n : ℕ) → n ≤ 1000000 → IsInRange 48 57 (get_or (decimal n) 0 0)
decimal_begins n few = first_digit (decimal n) (decimal_nonempty n (under n few)) (digits_decimal own n (under n few))

-- all its bytes are digits
digits_in : (w : List ℕ) → all_digits w ≡ true → AllByRecursion (IsInRange 48 57) w
digits_in [] e = tt
digits_in (b ∷ bs) e =
    let p = and_parts (is_digit b) (all_digits bs) e in
    let q = and_parts (leb 48 b) (leb b 57) p.0 in
    ((leb-true 48 b q.0, leb-true b 57 q.1), digits_in bs p.1)

pub decimal_digits : (n : ℕ) → n ≤ 1000000 → AllByRecursion (IsInRange 48 57) (decimal n)
decimal_digits n few = digits_in (decimal n) (digits_decimal own n (under n few))

pub decimal_length : (n : ℕ) → n ≤ 1000000 → 0 < length (decimal n)
decimal_length n few = decimal_nonempty n (under n few)

plain_says : (o : Option ℕ) (z : ℤ) → plain o ≡ Some z → (n : ℕ) × (o ≡ Some n) × (z ≡ pos n)
plain_says None z e = cc
plain_says (Some n) z e = (n, refl, cc)

negative_says : (o : Option ℕ) (z : ℤ) → negative o ≡ Some z → (n : ℕ) × (o ≡ Some (suc n)) × (z ≡ negsuc n)
negative_says None z e = cc
negative_says (Some zero) z e = cc
negative_says (Some (suc n)) z e =
    let q : Some (negsuc n) ≡ Some z = sym (cond-false _ _ _ (ne_eqb (suc n) 0 (λ h. omega arith))) ∙ e in
    (n, refl, cc)

-- a word that writes a number is what writes it, and the number is no larger than a million
pub number_says : (w : List ℕ) (z : ℤ) → number_of w ≡ Some z → (w ≡ signed_decimal z) × (mag z ≤ 1000000)
number_says [] z e = cc
number_says (b ∷ bs) z e =
    elim (eqb b 45) as (λ t. eqb b 45 ≡ t → cond t (negative (magnitude_of bs)) (plain (magnitude_of (b ∷ bs))) ≡ Some z → ((b ∷ bs) ≡ signed_decimal z) × (mag z ≤ 1000000)) [
      | true ↦ λ m q.
          let minus = negative_says (magnitude_of bs) z q in
          let word = magnitude_says bs (suc minus.0) minus.1 in
          ((λ i. eqb-true b 45 m i ∷ word.0 i) ∙ ap signed_decimal (sym minus.2), rw minus.2 (omega (arith, word.1)))
      | false ↦ λ m q.
          let just = plain_says (magnitude_of (b ∷ bs)) z q in
          let word = magnitude_says (b ∷ bs) just.0 just.1 in
          (word.0 ∙ ap signed_decimal (sym just.2), rw just.2 word.1)
    ] refl e

number_plain : (w : List ℕ) → 0 < length w → (get_or w 0 0 ≡ 45 → ⊥) → number_of w ≡ plain (magnitude_of w)
number_plain [] h e = absurd (omega arith)
number_plain (b ∷ bs) h e = cond-false _ _ _ (ne_eqb b 45 e)

-- from -1000000 to 1000000
abbrev pub Small : ℤ → Type 0
Small (pos n) = n ≤ 1000000
Small (negsuc n) = suc n ≤ 1000000

pub says_number : (z : ℤ) → Small z → number_of (signed_decimal z) ≡ Some z
says_number (pos n) h = number_plain (decimal n) (decimal_length n h) (λ e. omega (arith, decimal_begins n h)) ∙ ap plain (says_magnitude n h)
says_number (negsuc n) h = ap negative (says_magnitude (suc n) h) ∙ cond-false _ _ _ (ne_eqb (suc n) 0 (λ e. omega arith))

either_none : (b : Bool) → cond b (small None) None ≡ None
either_none true = refl
either_none false = refl

-- a word that begins past the digits writes no number
pub no_number : (w : List ℕ) → 57 < get_or w 0 0 → number_of w ≡ None
no_number [] h = refl
no_number (b ∷ bs) h =
    cond-false _ _ _ (ne_eqb b 45 (λ e. omega arith))
    ∙ ap (λ (o : Option ℕ). plain (cond (well_begun (b ∷ bs)) (small o) None)) (cond-false (is_digit b) (digits (0 * 10 + (b - 48)) bs) None (and_right (leb 48 b) (leb b 57) (lt-leb b 57 h)))
    ∙ ap plain (either_none (well_begun (b ∷ bs)))
