-- Bytes that are written one after another.
use Rattle.std.proofs.Common.{◌≡◌, ℕ, ◌+◌, ◌<◌, List, [], ◌∷◌, ◌++◌, length, map, take, get_or, Option, sym, ap, ◌∙◌, subst}
use Rattle.std.proofs.lemmas.List.{take_more, map-append}
use Rattle.std.specs.Io.KnownBytes.{Appends}
use Rattle.std.proofs.KnownBytes.{Appends-trans}

-- one byte more, each put through a function
pub mapped_more : (f : ℕ → ℕ) (bytes : List ℕ) (i : ℕ) (a b c : Option (List ℕ)) → i < length bytes → Appends a b (map f (take i bytes)) → Appends b c (f (get_or bytes i 0) ∷ []) → Appends a c (map f (take (i + 1) bytes))
mapped_more f bytes i a b c l p q =
    let e : map f (take (i + 1) bytes) ≡ map f (take i bytes) ++ f (get_or bytes i 0) ∷ [] = ap (map f) (take_more bytes i 0 l) ∙ map-append f (take i bytes) (get_or bytes i 0 ∷ []) in
    subst (λ (t : List ℕ). Appends a c t) (sym e) (Appends-trans a b c (map f (take i bytes)) (f (get_or bytes i 0) ∷ []) p q)
