-- The loop that builds the reduct.
use Rattle.std.proofs.Common.{◌≡◌, ℕ, ◌+◌, ◌<◌, ◌≤◌, Bool, true, false, cond, List, [], ◌∷◌, ◌++◌, map, length, get_or, take, sym, ap, ◌∙◌, arith}
use Rattle.std.specs.List.{filter}
use Rattle.std.proofs.lemmas.List.{length-take, length-map, map-append, append-nil}
use Rattle.std.proofs.lemmas.List.Elements.{filter_more}
use Rattle.std.proofs.lemmas.List.Sums.{length-filter, count_by-le-length}
use Rattle.tables.specs.Rows.{laid, pushed}
use Rattle.tables.specs.declared.rows.Rows.{Rows}
use Rattle.tables.proofs.Laid.{pushed_laid}
use Rattle.programs.specs.Tables.{zero_clause}
use Rattle.programs.specs.Reducts.{unbarred, spares, reduct_rows}
use Rattle.programs.specs.declared.clause.Clause.{Clause}

put : (b : Bool) (x : Clause) (xs : List Clause) → length xs < 128 → cond b (pushed 128 (laid 128 zero_clause xs) (unbarred x)) (laid 128 zero_clause xs) ≡ laid 128 zero_clause (xs ++ map unbarred (cond b (x ∷ []) []))
put true x xs h = pushed_laid 128 zero_clause xs (unbarred x) (omega arith) h
put false x xs h = ap (laid 128 zero_clause) (sym (append-nil xs))

-- one rule more, which is kept where it spares z
pub reduct_more : (z : ℕ) (xs : List Clause) (i : ℕ) (d : Clause) (s : Bool) {b c : Rows Clause 128} → i < length xs → length xs ≤ 128 → b ≡ reduct_rows z (take i xs)
    → s ≡ spares z (get_or xs i d) → c ≡ cond s (pushed 128 b (unbarred (get_or xs i d))) b → c ≡ reduct_rows z (take (i + 1) xs)
reduct_more z xs i d s h few e es q =
    let x = get_or xs i d in
    let some = filter (spares z) (take i xs) in
    let short : length (map unbarred some) < 128 = omega (arith, length-map some unbarred, length-filter (spares z) (take i xs), count_by-le-length (spares z) (take i xs), length-take i xs) in
    q ∙ ap (λ (r : Rows Clause 128). cond s (pushed 128 r (unbarred x)) r) e
    ∙ put s x (map unbarred some) short
    ∙ ap (λ (t : Bool). laid 128 zero_clause (map unbarred some ++ map unbarred (cond t (x ∷ []) []))) es
    ∙ ap (laid 128 zero_clause) (sym (map-append unbarred some (cond (spares z x) (x ∷ []) [])) ∙ ap (map unbarred) (sym (filter_more (spares z) xs i d h)))
