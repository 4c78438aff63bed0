-- A number that is too large stays so, whatever digits follow.
use Rattle.std.proofs.Common.{◌≡◌, ℕ, ◌+◌, ◌-◌, ◌*◌, ◌<◌, true, false, cond, List, [], ◌∷◌, length, get_or, drop, None, refl, ap, ◌∙◌, arith}
use Rattle.std.proofs.lemmas.List.{at_drop_more}
use Rattle.std.proofs.lemmas.Bool.{cond-true}
use Rattle.std.proofs.lemmas.Bool.Decides.{nat_tests}
use Rattle.text.specs.Numbers.{is_digit, digits, small}

too_large : (n : ℕ) (bytes : List ℕ) → 1000000 < n → small (digits n bytes) ≡ None
too_large n [] h = grind (arith, nat_tests)
too_large n (b ∷ bs) h = elim (is_digit b) as (λ v. small (cond v (digits (n * 10 + (b - 48)) bs) None) ≡ None) [ true ↦ too_large (n * 10 + (b - 48)) bs (omega arith) | false ↦ refl ]

-- the number of some bytes, where the digit at a position makes it too large
pub digit_over : (n : ℕ) (word : List ℕ) (i : ℕ) → i < length word → is_digit (get_or word i 0) ≡ true → 1000000 < n * 10 + (get_or word i 0 - 48) → small (digits n (drop i word)) ≡ None
digit_over n word i h e l =
    at_drop_more (λ w. small (digits n w)) word i 0 h ∙ ap small (cond-true _ _ _ e) ∙ too_large _ (drop (i + 1) word) l
