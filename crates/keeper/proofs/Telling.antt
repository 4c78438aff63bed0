-- What is told of names one after another, by one name more.
use Rattle.std.proofs.Common.{◌≡◌, ℕ, ◌+◌, ◌<◌, List, [], ◌∷◌, ◌++◌, length, take, get_or, sym, ap, ◌∙◌, arith, Bor}
use Rattle.std.proofs.lemmas.List.{append-nil, append_assoc, take_more, length-take-le}
use Rattle.keeper.specs.Texts.{told_from}

told_push : (f : ℕ → List ℕ → List ℕ) (i : ℕ) (ns : List (Bor (List ℕ))) (n : Bor (List ℕ)) → told_from f i (ns ++ n ∷ []) ≡ told_from f i ns ++ f (i + length ns) n.now
told_push f i [] n = append-nil (f i n.now) ∙ ap (λ (k : ℕ). f k n.now) (omega arith)
told_push f i (m ∷ ns) n =
    ap (λ (l : List ℕ). f i m.now ++ l) (told_push f (i + 1) ns n)
    ∙ sym (append_assoc (f i m.now) (told_from f (i + 1) ns) (f (i + 1 + length ns) n.now))
    ∙ ap (λ (k : ℕ). f i m.now ++ told_from f (i + 1) ns ++ f k n.now) (omega arith)

told_more : (f : ℕ → List ℕ → List ℕ) (ns : List (Bor (List ℕ))) (i : ℕ) (d : Bor (List ℕ)) → i < length ns → told_from f 0 (take (i + 1) ns) ≡ told_from f 0 (take i ns) ++ f i (get_or ns i d).now
told_more f ns i d l =
    ap (told_from f 0) (take_more ns i d l)
    ∙ told_push f 0 (take i ns) (get_or ns i d)
    ∙ ap (λ (k : ℕ). told_from f 0 (take i ns) ++ f k (get_or ns i d).now) (omega (arith, length-take-le i ns (omega (arith, l))))

-- the same behind a text that stands first
pub told_behind : (a : List ℕ) (f : ℕ → List ℕ → List ℕ) (ns : List (Bor (List ℕ))) (i : ℕ) (d : Bor (List ℕ)) → i < length ns → (a ++ told_from f 0 (take i ns)) ++ f i (get_or ns i d).now ≡ a ++ told_from f 0 (take (i + 1) ns)
told_behind a f ns i d l = append_assoc a (told_from f 0 (take i ns)) (f i (get_or ns i d).now) ∙ ap (λ (t : List ℕ). a ++ t) (sym (told_more f ns i d l))
