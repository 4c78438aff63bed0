-- Rows that lines write one after another, each lawful after those before it.
use Rattle.std.proofs.Common.{◌≡◌, List, [], ◌∷◌, ◌++◌, map, Ok, Result, sym, refl, ap, ◌∙◌}
use Rattle.std.specs.List.{AllByRecursion}
use Rattle.std.proofs.ByRecursion.{All-map, All-weaker, All-push}
use Rattle.std.proofs.lemmas.List.{append-nil, append_assoc, map_push}
use Rattle.faults.specs.declared.SheetFault.{SheetFault}
use Rattle.text.specs.Lines.{Numbered, pieces}
use Rattle.grammar.specs.Verdicts.{onward, rows_read}
use Rattle.written.specs.Sheets.{NoneTwice}
use Rattle.written.specs.Writing.{Word}
use Rattle.written.proofs.Results.{no_way, onward_ok}

-- the words of a line
abbrev pub words : Numbered → List Word
words line = pieces 32 line.bytes

-- each is lawful after those before it
abbrev pub Follow : {L : Type 0} → (List L → L → Type 0) → List L → List L → Type 0
Follow P before [] = Unit {0}
Follow P before (x ∷ xs) = P before x × Follow P (before ++ x ∷ []) xs

module _ {L R : Type 0} (one : List R → Numbered → Result R SheetFault) (spell : L → List Word) (row : L → R) (Lawful : List L → L → Type 0) where
  -- a lawful line with the words and the row of a line
  abbrev pub OneOf : List L → Numbered → R → Type 0
  OneOf before line r = (x : L) × (spell x ≡ words line) × Lawful before x × (row x ≡ r)

  -- lawful lines with the words and the rows of lines
  pub record RowsOf (before : List L) (lines : List Numbered) (rows : List R) : Type 0 where
    pub made : List L
    pub spelt : map spell made ≡ map words lines
    pub lawful : Follow Lawful before made
    pub rowed : map row (before ++ made) ≡ rows

  module _ (told : (before : List L) (line : Numbered) (r : R) → one (map row before) line ≡ Ok r → OneOf before line r) where
    pub rows_told : (before : List L) (lines : List Numbered) (rows : List R) → rows_read one (map row before) lines ≡ Ok rows → RowsOf before lines rows
    rows_told before [] rows e = record { made = []; spelt = refl; lawful = tt; rowed = ap (map row) (append-nil before) ∙ (let same : map row before ≡ rows = cc in same) }
    rows_told before (line ∷ lines) rows e =
        let read = onward_ok (one (map row before) line) _ rows e in
        let first = told before line read.0 read.1 in
        let pushed : map row (before ++ first.0 ∷ []) ≡ map row before ++ read.0 ∷ [] = map_push row before first.0 ∙ ap (λ r. map row before ++ r ∷ []) first.3 in
        let more = rows_told (before ++ first.0 ∷ []) lines rows (ap (λ rs. rows_read one rs lines) pushed ∙ read.2) in
        record {
          made = first.0 ∷ more.made;
          spelt = (λ i. first.1 i ∷ more.spelt i);
          lawful = (first.2, more.lawful);
          rowed = ap (map row) (sym (append_assoc before (first.0 ∷ []) more.made)) ∙ more.rowed;
        }

  module _ (tells : (before : List L) (line : Numbered) (x : L) → spell x ≡ words line → Lawful before x → one (map row before) line ≡ Ok (row x)) where
    pub rows_tell : (before xs : List L) (lines : List Numbered) → map spell xs ≡ map words lines → Follow Lawful before xs → rows_read one (map row before) lines ≡ Ok (map row (before ++ xs))
    rows_tell before [] [] e lawful = ap (λ l. Ok (map row l)) (sym (append-nil before))
    rows_tell before [] (line ∷ lines) e lawful = no_way (cc)
    rows_tell before (x ∷ xs) [] e lawful = no_way (cc)
    rows_tell before (x ∷ xs) (line ∷ lines) e lawful =
        let head : spell x ≡ words line = cc in
        let tail : map spell xs ≡ map words lines = cc in
        ap (λ o. onward o (λ r. rows_read one (map row before ++ r ∷ []) lines)) (tells before line x head lawful.0)
        ∙ ap (λ rs. rows_read one rs lines) (sym (map_push row before x))
        ∙ rows_tell (before ++ x ∷ []) xs lines tail lawful.1
        ∙ ap (λ l. Ok (map row l)) (append_assoc before (x ∷ []) xs)

-- ---- what is lawful after others, and what is lawful and not twice

follow_all : {L : Type 0} (P : L → Type 0) (before xs : List L) → Follow (λ _ x. P x) before xs → AllByRecursion P xs
follow_all P before [] h = tt
follow_all P before (x ∷ xs) h = (h.0, follow_all P (before ++ x ∷ []) xs h.1)

pub all_of_follow : {L : Type 0} (P : L → Type 0) (xs : List L) → Follow (λ _ x. P x) [] xs → AllByRecursion P xs
all_of_follow P xs h = follow_all P [] xs h

pub follow_of_all : {L : Type 0} (P : L → Type 0) (before xs : List L) → AllByRecursion P xs → Follow (λ _ x. P x) before xs
follow_of_all P before [] h = tt
follow_of_all P before (x ∷ xs) h = (h.0, follow_of_all P (before ++ x ∷ []) xs h.1)

all_parts : {L : Type 0} (P : L → Type 0) (xs : List L) (x : L) → AllByRecursion P (xs ++ x ∷ []) → AllByRecursion P xs × P x
all_parts P [] x h = (tt, h.0)
all_parts P (y ∷ ys) x h = let more = all_parts P ys x h.1 in ((h.0, more.0), more.1)

all_unmap : {L K : Type 0} (P : K → Type 0) (f : L → K) (xs : List L) → AllByRecursion P (map f xs) → AllByRecursion (λ x. P (f x)) xs
all_unmap P f [] h = tt
all_unmap P f (x ∷ xs) h = (h.0, all_unmap P f xs h.1)

module _ {L K : Type 0} (P : L → Type 0) (f : L → K) where
  -- none before has the same f
  abbrev pub New : List L → L → Type 0
  New before x = P x × AllByRecursion (λ y. f y ≡ f x → ⊥) before

  -- none of these has the same f as one before
  abbrev Apart : List L → List L → Type 0
  Apart before xs = AllByRecursion (λ x. AllByRecursion (λ y. f y ≡ f x → ⊥) before) xs

  follow_apart : (before xs : List L) → Follow New before xs → NoneTwice (map f xs) × Apart before xs
  follow_apart before [] h = (tt, tt)
  follow_apart before (x ∷ xs) h =
      let more = follow_apart (before ++ x ∷ []) xs h.1 in
      let split : (y : L) → AllByRecursion (λ z. f z ≡ f y → ⊥) (before ++ x ∷ []) → AllByRecursion (λ z. f z ≡ f y → ⊥) before × (f x ≡ f y → ⊥) = λ y a. all_parts (λ z. f z ≡ f y → ⊥) before x a in (
        (All-map (λ k. f x ≡ k → ⊥) f xs (All-weaker _ (λ y. f x ≡ f y → ⊥) (λ y a. (split y a).1) xs more.1), more.0),
        (h.0.1, All-weaker _ (λ y. AllByRecursion (λ z. f z ≡ f y → ⊥) before) (λ y a. (split y a).0) xs more.1),
      )

  follow_each : (before xs : List L) → Follow New before xs → AllByRecursion P xs
  follow_each before [] h = tt
  follow_each before (x ∷ xs) h = (h.0.0, follow_each (before ++ x ∷ []) xs h.1)

  apart_follow : (before xs : List L) → AllByRecursion P xs → NoneTwice (map f xs) → Apart before xs → Follow New before xs
  apart_follow before [] each once apart = tt
  apart_follow before (x ∷ xs) each once apart =
      let here : AllByRecursion (λ y. f x ≡ f y → ⊥) xs = all_unmap (λ k. f x ≡ k → ⊥) f xs once.0 in
      ((each.0, apart.0), apart_follow (before ++ x ∷ []) xs each.1 once.1 (joined xs here apart.1))
    where
      joined : (ys : List L) → AllByRecursion (λ y. f x ≡ f y → ⊥) ys → Apart before ys → Apart (before ++ x ∷ []) ys
      joined [] a b = tt
      joined (y ∷ ys) a b = (All-push (λ z. f z ≡ f y → ⊥) before x b.0 a.0, joined ys a.1 b.1)

  pub once_of_follow : (xs : List L) → Follow New [] xs → AllByRecursion P xs × NoneTwice (map f xs)
  once_of_follow xs h = (follow_each [] xs h, (follow_apart [] xs h).0)

  none_apart : (xs : List L) → Apart [] xs
  none_apart [] = tt
  none_apart (x ∷ xs) = (tt, none_apart xs)

  pub follow_of_once : (xs : List L) → AllByRecursion P xs → NoneTwice (map f xs) → Follow New [] xs
  follow_of_once xs each once = apart_follow [] xs each once (none_apart xs)
