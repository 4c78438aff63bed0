-- Bytes that are written atom by atom.
use Rattle.std.proofs.Common.{◌≡◌, ℕ, zero, suc, ◌+◌, ◌≤◌, List, ◌++◌, Option, sym, ap, ◌∙◌, subst, append_assoc, append-nil, arith}
use Rattle.std.specs.List.{flat_map, range_with_len}
use Rattle.std.specs.Io.KnownBytes.{Appends}
use Rattle.std.proofs.KnownBytes.{Appends-trans}
use Rattle.report.specs.Lines.{for_each}

range_more : (f : ℕ → List ℕ) (a n : ℕ) → flat_map f (range_with_len a (suc n)) ≡ flat_map f (range_with_len a n) ++ f (a + n)
range_more f a zero = let e : a ≡ a + 0 = omega arith in append-nil (f a) ∙ ap f e
range_more f a (suc n) =
    let e : (a + 1) + n ≡ a + suc n = omega arith in
    let before : List ℕ = flat_map f (range_with_len (a + 1) n) in
    ap (λ (l : List ℕ). f a ++ l) (range_more f (a + 1) n) ∙ sym (append_assoc (f a) before (f ((a + 1) + n))) ∙ ap (λ (k : ℕ). (f a ++ before) ++ f k) e

for_each_more : (f : ℕ → List ℕ) (n : ℕ) → for_each f (n + 1) ≡ for_each f n ++ f n
for_each_more f n =
    let e : n + 1 ≡ suc n = omega arith in
    let z : 0 + n ≡ n = omega arith in
    ap (λ (k : ℕ). for_each f k) e ∙ range_more f 0 n ∙ ap (λ (k : ℕ). for_each f n ++ f k) z

-- one atom more
pub each_appended : (f : ℕ → List ℕ) (n : ℕ) (a b c : Option (List ℕ)) → Appends a b (for_each f n) → Appends b c (f n) → Appends a c (for_each f (n + 1))
each_appended f n a b c p q = subst (λ (l : List ℕ). Appends a c l) (sym (for_each_more f n)) (Appends-trans a b c (for_each f n) (f n) p q)

-- all atoms
pub each_whole : (f : ℕ → List ℕ) (n width : ℕ) (a b : Option (List ℕ)) → n ≤ width → width ≤ n → Appends a b (for_each f n) → Appends a b (for_each f width)
each_whole f n width a b h k p = let e : n ≡ width = omega arith in subst (λ (m : ℕ). Appends a b (for_each f m)) e p
