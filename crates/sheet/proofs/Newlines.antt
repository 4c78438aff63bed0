-- A text that ends with a newline has as many lines as newlines.
use Rattle.std.proofs.Common.{◌≡◌, ℕ, suc, ◌+◌, ◌<◌, true, false, cond, eqb, List, [], ◌∷◌, ◌++◌, length, Ok, sym, refl, ap, ◌∙◌, subst, arith}
use Rattle.std.specs.List.{count_by}
use Rattle.std.proofs.lemmas.List.Recursion.{is_count_by}
use Rattle.text.specs.Text.{text_verdict}
use Rattle.text.specs.Lines.{onto, pieces, numbered, lines_of}
use Rattle.text.proofs.Kept.{Passes, passed_keeps}

length_numbered : (n : ℕ) (ps : List (List ℕ)) → length (numbered n ps) ≡ length ps
length_numbered n [] = refl
length_numbered n (p ∷ ps) = ap suc (length_numbered (n + 1) ps)

-- how many newlines there are, from the first byte on
abbrev newlines : List ℕ → ℕ
newlines [] = 0
newlines (b ∷ bs) = cond (eqb b 10) (1 + newlines bs) (newlines bs)

abbrev Counts : ℕ → List (List ℕ) → Type 0
Counts n ps = (n ≡ length ps) × (0 < length ps)

onto_counts : (n b : ℕ) (ps : List (List ℕ)) → Counts n ps → Counts n (onto b ps)
onto_counts n b [] c = absurd (omega arith)
onto_counts n b (p ∷ ps) c = c

newlines_count : (front : List ℕ) → Counts (newlines (front ++ 10 ∷ [])) (pieces 10 (front ++ 10 ∷ []))
newlines_count [] = (refl, omega arith)
newlines_count (b ∷ bs) =
    let n : ℕ = newlines (bs ++ 10 ∷ []) in
    let ps : List (List ℕ) = pieces 10 (bs ++ 10 ∷ []) in
    let c : Counts n ps = newlines_count bs in
    elim (eqb b 10) as (λ t. Counts (cond t (1 + n) n) (cond t ([] ∷ ps) (onto b ps))) [ true ↦ (omega arith, omega arith) | false ↦ onto_counts n b ps c ]

pub lines_counted : (text : List ℕ) → text_verdict text ≡ Ok tt → count_by (λ x. eqb x 10) text ≡ length (lines_of text)
lines_counted text passed =
    let kept : Passes text = passed_keeps text tt passed in
    let P : List ℕ → Type 0 = λ t. newlines t ≡ length (pieces 10 t) in
    sym (is_count_by newlines (λ x. eqb x 10) refl (λ _ _. refl) text) ∙ subst P kept.ends (newlines_count kept.front).0 ∙ sym (length_numbered 1 (pieces 10 text))
