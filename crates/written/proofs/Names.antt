-- The names of atoms: which are lawful, and what number a name has among them.
use Rattle.std.proofs.Common.{◌≡◌, ℕ, zero, suc, ◌+◌, ◌<◌, ◌≤◌, true, false, cond, ◌&&◌, eqb, ltb, leb, List, [], ◌∷◌, length, get_or, Some, None, Decides, sym, refl, ap, ◌∙◌, add-zero, arith}
use Rattle.std.specs.Int.{IsInRange}
use Rattle.std.specs.List.{AllByRecursion}
use Rattle.std.specs.Str.{bytes_eq}
use Rattle.std.proofs.ByRecursion.{All-get_or, Decides-by_and}
use Rattle.std.proofs.lemmas.Slice.Eq.{bytes_eq-Decides}
use Rattle.std.proofs.lemmas.Bool.{cond-true, cond-false, leb-true, le-leb}
use Rattle.std.proofs.lemmas.Bool.Decides.{Decides-eqb, Decides-ltb, Decides-and, Decides-or, not_from_Decides}
use Rattle.text.specs.Words.{is_letter, name_byte, name_bytes, lawful_name}
use Rattle.text.specs.Names.{atom_among}
use Rattle.written.specs.Sheets.{NoneTwice, NameByte}
use Rattle.written.specs.Writing.{Word, name_at}
use Rattle.written.proofs.Results.{no_way}

decides_in : (low high b : ℕ) → Decides (leb low b && leb b high) (IsInRange low high b)
decides_in low high b = Decides-and (leb low b) (leb b high) (leb-true low b, le-leb low b) (leb-true b high, le-leb b high)

decides_name_byte : (b : ℕ) → Decides (name_byte b) (NameByte b)
decides_name_byte b = Decides-or (is_letter b) _ (decides_in 97 122 b) (Decides-or (leb 48 b && leb b 57) (eqb b 95) (decides_in 48 57 b) (Decides-eqb b 95))

-- the test of a name says what a lawful name is made of
pub decides_lawful : (w : List ℕ) → Decides (lawful_name w) ((0 < length w) × ((length w ≤ 16) × (IsInRange 97 122 (get_or w 0 0) × AllByRecursion NameByte w)))
decides_lawful w =
    Decides-and (ltb 0 (length w)) _ (Decides-ltb 0 (length w))
    (Decides-and (leb (length w) 16) _ (leb-true (length w) 16, le-leb (length w) 16)
    (Decides-and (is_letter (get_or w 0 0)) (name_bytes w) (decides_in 97 122 (get_or w 0 0))
    (Decides-by_and name_byte NameByte name_bytes decides_name_byte refl (λ _ _. refl) w)))

same_self : (w : List ℕ) → bytes_eq w w ≡ true
same_self w = (bytes_eq-Decides w w).1 refl

pub differs : (v w : List ℕ) → (v ≡ w → ⊥) → bytes_eq v w ≡ false
differs v w apart = elim (bytes_eq v w) as (λ t. bytes_eq v w ≡ t → t ≡ false) [ true ↦ λ e. absurd (apart ((bytes_eq-Decides v w).0 e)) | false ↦ λ e. refl ] refl

-- the number that is found is that of the name
pub among_some : (from : ℕ) (names : List Word) (w : Word) (i : ℕ) → atom_among from names w ≡ Some i → (k : ℕ) × (i ≡ from + k) × (k < length names) × (name_at names k ≡ w)
among_some from [] w i e = no_way (cc)
among_some from (name ∷ names) w i e =
    elim (bytes_eq name w) as (λ t. bytes_eq name w ≡ t → cond t (Some from) (atom_among (from + 1) names w) ≡ Some i → (k : ℕ) × (i ≡ from + k) × (k < length (name ∷ names)) × (name_at (name ∷ names) k ≡ w)) [
      | true ↦ λ s q. let found : from ≡ i = cc in (0, omega arith, omega arith, (bytes_eq-Decides name w).0 s)
      | false ↦ λ s q. let more = among_some (from + 1) names w i q in (suc more.0, omega (arith, more.1), omega (arith, more.2), more.3)
    ] refl e

-- of names that differ each one's own number is found
pub some_among : (from : ℕ) (names : List Word) (k : ℕ) → NoneTwice names → k < length names → atom_among from names (name_at names k) ≡ Some (from + k)
some_among from [] k once h = absurd (omega arith)
some_among from (name ∷ names) zero once h = cond-true _ _ _ (same_self name) ∙ ap Some (sym (add-zero from))
some_among from (name ∷ names) (suc k) once h =
    let apart : name ≡ name_at names k → ⊥ = All-get_or (λ y. name ≡ y → ⊥) names k [] (omega arith) once.0 in
    cond-false _ _ _ (differs name (name_at names k) apart) ∙ some_among (from + 1) names k once.1 (omega arith) ∙ ap Some (omega arith)

-- none is found where no name is the word
pub among_none : (from : ℕ) (names : List Word) (w : Word) → atom_among from names w ≡ None → AllByRecursion (λ name. name ≡ w → ⊥) names
among_none from [] w e = tt
among_none from (name ∷ names) w e =
    elim (bytes_eq name w) as (λ t. bytes_eq name w ≡ t → cond t (Some from) (atom_among (from + 1) names w) ≡ None → AllByRecursion (λ n. n ≡ w → ⊥) (name ∷ names)) [
      | true ↦ λ s q. no_way (cc)
      | false ↦ λ s q. (not_from_Decides (bytes_eq name w) (bytes_eq-Decides name w) s, among_none (from + 1) names w q)
    ] refl e

pub none_among : (from : ℕ) (names : List Word) (w : Word) → AllByRecursion (λ name. name ≡ w → ⊥) names → atom_among from names w ≡ None
none_among from [] w apart = refl
none_among from (name ∷ names) w apart = cond-false _ _ _ (differs name w apart.0) ∙ none_among (from + 1) names w apart.1
