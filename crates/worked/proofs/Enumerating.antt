-- What is stable and what is wanted as computed tests, and the list of all that is wanted by trying every set below the width.
use Rattle.std.proofs.Common.{◌≡◌, ℕ, zero, suc, ◌^◌, ◌<◌, Bool, true, false, not, ◌&&◌, ◌||◌, eqb, ltb, List, [], ◌∷◌, sym, refl, ap, ◌∙◌, subst, inl, inr, arith}
use lib.Bits.{bit_and, bit_xor}
use lib.Count.{count_trailing_zeros}
use Rattle.std.proofs.lemmas.Bool.{false≢true, and_parts, and_from, or_cases, not-true, not_from_false, ltb-true, lt-ltb, eqb-true, eq-eqb, cases_eq, cases_Bool}
use Rattle.atoms.specs.Sets.{Has, has, digit, Within, Apart}
use Rattle.atoms.specs.Order.{Before}
use Rattle.atoms.proofs.Digits.{has_and, lacks_not, digit_of_zero}
use Rattle.atoms.proofs.Inclusion.{within_test, test_within, within_le, and_within_l, and_within_r}
use Rattle.atoms.proofs.Ordering.{lowest_at, before_by}
use Rattle.approx.specs.Meanings.{Meaning}
use Rattle.approx.specs.Stability.{Stable}
use Rattle.solver.specs.Lists.{In, AheadOf, Ordered, Lists}
use Rattle.solver.specs.Pegs.{Wanted}

-- ---- sets below a number
-- none below n passes
abbrev pub none_below : (ℕ → Bool) → ℕ → Bool
none_below f zero = true
none_below f (suc n) = not (f n) && none_below f n

none_passes : (f : ℕ → Bool) (n : ℕ) → none_below f n ≡ true → (s : ℕ) → s < n → f s ≡ true → ⊥
none_passes f zero e s h t = omega arith
none_passes f (suc n) e s h t =
    let both = and_parts (not (f n)) (none_below f n) e in
    elim (cases_eq s n) [
      | inl q ↦ false≢true (sym (not-true (f n) both.0) ∙ ap f (sym q) ∙ t)
      | inr d ↦ none_passes f n both.1 s (omega arith) t
    ]

passes_none : (f : ℕ → Bool) (n : ℕ) → ((s : ℕ) → s < n → f s ≡ true → ⊥) → none_below f n ≡ true
passes_none f zero h = refl
passes_none f (suc n) h = elim (cases_Bool (f n)) [
  | inl t ↦ absurd (h n (omega arith) t)
  | inr t ↦ and_from (not (f n)) (none_below f n) (not_from_false (f n) t) (passes_none f n (λ s l. h s (omega arith)))
]

-- ---- what is stable
abbrev pub inside : ℕ → ℕ → Bool
inside s z = eqb (bit_and s z) s

inside_true : (s z : ℕ) → inside s z ≡ true → Within s z
inside_true s z e = within_test (eqb-true (bit_and s z) s e)

true_inside : (s z : ℕ) → Within s z → inside s z ≡ true
true_inside s z w = eq-eqb (bit_and s z) s (test_within w)

-- s is within z, and sure keeps it under z
abbrev pub kept : Meaning → ℕ → ℕ → Bool
kept m z s = inside s z && inside (m.sure s z) s

abbrev pub is_stable : Meaning → ℕ → Bool
is_stable m z = ltb z (2 ^ m.width) && (eqb (m.sure z z) z && none_below (kept m z) z)

module _ (m : Meaning) (z : ℕ) where
  stable_true : is_stable m z ≡ true → Stable m z
  stable_true e =
      let first = and_parts (ltb z (2 ^ m.width)) (eqb (m.sure z z) z && none_below (kept m z) z) e in
      let second = and_parts (eqb (m.sure z z) z) (none_below (kept m z) z) first.1 in
      record {
        below = ltb-true z (2 ^ m.width) first.0;
        fixed = eqb-true (m.sure z z) z second.0;
        least = λ s p k. elim (cases_eq s z) [
          | inl q ↦ q
          | inr d ↦ absurd (none_passes (kept m z) z second.1 s (omega (arith, within_le p)) (and_from (inside s z) (inside (m.sure s z) s) (true_inside s z p) (true_inside (m.sure s z) s k)))
        ];
      }

  true_stable : Stable m z → is_stable m z ≡ true
  true_stable t =
      and_from (ltb z (2 ^ m.width)) (eqb (m.sure z z) z && none_below (kept m z) z) (lt-ltb z (2 ^ m.width) t.below)
      (and_from (eqb (m.sure z z) z) (none_below (kept m z) z) (eq-eqb (m.sure z z) z t.fixed)
      (passes_none (kept m z) z (λ s l e.
      let both = and_parts (inside s z) (inside (m.sure s z) s) e in
      let q : s ≡ z = t.least s (inside_true s z both.0) (inside_true (m.sure s z) s both.1) in
      omega arith)))

-- ---- what is wanted under pegs
abbrev pub is_wanted : Meaning → ℕ → ℕ → ℕ → Bool
is_wanted m on off z = is_stable m z && (inside on z && eqb (bit_and off z) 0)

apart_true : (off z : ℕ) → bit_and off z ≡ 0 → Apart off z
apart_true off z e i o h = lacks_not 0 i (digit_of_zero i) (subst (λ (s : ℕ). Has s i) e (has_and off z i o h))

true_apart : (off z : ℕ) → Apart off z → bit_and off z ≡ 0
true_apart off z f = let w : Within (bit_and off z) 0 = record { at = λ i h. absurd (f i ((and_within_l off z).at i h) ((and_within_r off z).at i h)) } in omega (arith, within_le w)

module _ (m : Meaning) (on off z : ℕ) where
  wanted_true : is_wanted m on off z ≡ true → Wanted m on off z
  wanted_true e =
      let first = and_parts (is_stable m z) (inside on z && eqb (bit_and off z) 0) e in
      let second = and_parts (inside on z) (eqb (bit_and off z) 0) first.1 in
      record { stable = stable_true m z first.0; pegged_on = inside_true on z second.0; pegged_off = apart_true off z (eqb-true (bit_and off z) 0 second.1) }

  true_wanted : Wanted m on off z → is_wanted m on off z ≡ true
  true_wanted w =
      and_from (is_stable m z) (inside on z && eqb (bit_and off z) 0) (true_stable m z w.stable)
      (and_from (inside on z) (eqb (bit_and off z) 0) (true_inside on z w.pegged_on) (eq-eqb (bit_and off z) 0 (true_apart off z w.pegged_off)))

-- ---- lists
-- at the lowest atom below the width where a and b differ, b has it
abbrev pub is_before : ℕ → ℕ → ℕ → Bool
is_before w a b = (ltb 0 (bit_xor a b) && ltb (bit_xor a b) (2 ^ w)) && has b (count_trailing_zeros w (bit_xor a b))

before_true : (w a b : ℕ) → is_before w a b ≡ true → Before a b
before_true w a b e =
    let x : ℕ = bit_xor a b in
    let first = and_parts (ltb 0 x && ltb x (2 ^ w)) (has b (count_trailing_zeros w x)) e in
    let second = and_parts (ltb 0 x) (ltb x (2 ^ w)) first.0 in
    before_by (lowest_at w x (ltb-true 0 x second.0) (ltb-true x (2 ^ w) second.1)).1 (eqb-true (digit b (count_trailing_zeros w x)) 1 first.1)

abbrev pub all : (ℕ → Bool) → List ℕ → Bool
all f [] = true
all f (x ∷ xs) = f x && all f xs

abbrev pub among : ℕ → List ℕ → Bool
among x [] = false
among x (y ∷ ys) = eqb x y || among x ys

abbrev pub is_ordered : ℕ → List ℕ → Bool
is_ordered w [] = true
is_ordered w (x ∷ xs) = all (is_before w x) xs && is_ordered w xs

ahead_true : (w y : ℕ) (xs : List ℕ) → all (is_before w y) xs ≡ true → AheadOf y xs
ahead_true w y [] e = tt
ahead_true w y (x ∷ xs) e = let both = and_parts (is_before w y x) (all (is_before w y) xs) e in (before_true w y x both.0, ahead_true w y xs both.1)

ordered_true : (w : ℕ) (xs : List ℕ) → is_ordered w xs ≡ true → Ordered xs
ordered_true w [] e = tt
ordered_true w (x ∷ xs) e = let both = and_parts (all (is_before w x) xs) (is_ordered w xs) e in (ahead_true w x xs both.0, ordered_true w xs both.1)

all_in : (f : ℕ → Bool) (xs : List ℕ) → all f xs ≡ true → (x : ℕ) → In x xs → f x ≡ true
all_in f [] e x i = absurd i
all_in f (y ∷ ys) e x (inl q) = ap f q ∙ (and_parts (f y) (all f ys) e).0
all_in f (y ∷ ys) e x (inr i) = all_in f ys (and_parts (f y) (all f ys) e).1 x i

among_true : (x : ℕ) (xs : List ℕ) → among x xs ≡ true → In x xs
among_true x [] e = absurd (false≢true e)
among_true x (y ∷ ys) e = elim (or_cases (eqb x y) (among x ys) e) [ inl t ↦ inl (eqb-true x y t) | inr t ↦ inr (among_true x ys t) ]

-- z is wanted, and the list lacks it
abbrev pub missed : Meaning → ℕ → ℕ → List ℕ → ℕ → Bool
missed m on off xs z = is_wanted m on off z && not (among z xs)

abbrev pub is_list : Meaning → ℕ → ℕ → List ℕ → Bool
is_list m on off xs = is_ordered m.width xs && (all (is_wanted m on off) xs && none_below (missed m on off xs) (2 ^ m.width))

pub list_true : (m : Meaning) (on off : ℕ) (xs : List ℕ) → is_list m on off xs ≡ true → Lists (Wanted m on off) xs
list_true m on off xs e =
    let first = and_parts (is_ordered m.width xs) (all (is_wanted m on off) xs && none_below (missed m on off xs) (2 ^ m.width)) e in
    let second = and_parts (all (is_wanted m on off) xs) (none_below (missed m on off xs) (2 ^ m.width)) first.1 in
    record {
      ordered = ordered_true m.width xs first.0;
      sound = λ x i. wanted_true m on off x (all_in (is_wanted m on off) xs second.0 x i);
      whole = λ x w. elim (cases_Bool (among x xs)) [
        | inl t ↦ among_true x xs t
        | inr t ↦ absurd (none_passes (missed m on off xs) (2 ^ m.width) second.1 x w.stable.below (and_from (is_wanted m on off x) (not (among x xs)) (true_wanted m on off x w) (not_from_false (among x xs) t)))
      ];
    }
