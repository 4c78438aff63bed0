-- A section as a loop reads it: so many lines are read, their rows are laid, and the rest is yet to be read.
use Rattle.std.proofs.Common.{◌≡◌, ℕ, suc, ◌+◌, ◌-◌, ◌<◌, ◌≤◌, cond, ltb, List, [], ◌∷◌, ◌++◌, length, get_or, take, drop, Ok, Err, Result, sym, refl, ap, ◌∙◌, ap₂, arith, length-drop}
use native.Mathlib.Nat.{sub-zero}
use Rattle.std.proofs.lemmas.List.{length_push, drop-drop}
use Rattle.std.proofs.lemmas.Bool.{cond-true, lt-ltb}
use Rattle.faults.specs.declared.SheetFault.{SheetFault}
use Rattle.tables.specs.declared.rows.Rows.{Rows}
use Rattle.tables.specs.Rows.{laid, in_use, pushed}
use Rattle.tables.proofs.Laid.{in_use_held, pushed_laid}
use Rattle.text.specs.Lines.{Numbered}
use Rattle.grammar.specs.Verdicts.{onward}
use Rattle.sheet.specs.Sections.{section_read}

module _ {R : Type 0} (one : List R → ℕ → Numbered → Result R SheetFault) where
  -- one line more
  section_step : (above : List R) (from : ℕ) (left : List Numbered) (d : Numbered) (k : ℕ) → 0 < length left
      → section_read one above from (take (suc k) left)
      ≡ onward (one above from (get_or left 0 d)) (λ row. section_read one (above ++ row ∷ []) (from + (length (get_or left 0 d).bytes + 1)) (take k (drop 1 left)))
  section_step above from [] d k h = absurd (omega arith)
  section_step above from (l ∷ ls) d k h = refl

  -- n of count lines are read: their rows are laid, and the reading goes on from what is left, at a position of the text
  pub record SectionWay (N : ℕ) (zero : R) (start count : ℕ) (all : List Numbered) (n : ℕ) (rows : Rows R N) (from : ℕ) (left : List Numbered) : Type 0 where
    pub held : rows ≡ laid N zero (in_use N rows)
    pub many : length (in_use N rows) ≡ n
    pub at : left ≡ drop n all
    pub same : section_read one (in_use N rows) from (take (count - n) left) ≡ section_read one [] start (take count all)

  module _ (N : ℕ) (zero : R) (start count : ℕ) (all : List Numbered) where
    way_of : (n : ℕ) (rows : Rows R N) (from : ℕ) (left : List Numbered) (items : List R) → rows ≡ laid N zero items → length items ≡ n → left ≡ drop n all
        → section_read one items from (take (count - n) left) ≡ section_read one [] start (take count all) → SectionWay N zero start count all n rows from left
    way_of n rows from left items e m a s =
        let u : in_use N rows ≡ items = in_use_held N zero rows items e in
        record { held = e ∙ ap (laid N zero) (sym u); many = ap length u ∙ m; at = a; same = ap (λ xs. section_read one xs from (take (count - n) left)) u ∙ s }

    pub section_start : (rows : Rows R N) → rows ≡ laid N zero [] → SectionWay N zero start count all 0 rows start all
    section_start rows e = way_of 0 rows start all [] e refl refl (ap (λ (k : ℕ). section_read one [] start (take k all)) (sub-zero count))

    module _ {n : ℕ} {rows : Rows R N} {from : ℕ} {left : List Numbered} (w : SectionWay N zero start count all n rows from left) where
      pub section_end : count ≤ n → n ≤ count → section_read one [] start (take count all) ≡ Ok (in_use N rows)
      section_end p q =
          let none : count - n ≡ 0 = omega arith in
          sym w.same ∙ ap (λ (k : ℕ). section_read one (in_use N rows) from (take k left)) none

      pub section_left : count ≤ n → n ≤ count → left ≡ drop count all
      section_left p q = let e : n ≡ count = omega arith in w.at ∙ ap (λ (k : ℕ). drop k all) e

      module _ (more : n < count) (enough : count ≤ length all) (d line : Numbered) (is : line ≡ get_or left 0 d) where
        some : 0 < length left
        some = omega (arith, ap length w.at, length-drop n all)

        follows : onward (one (in_use N rows) from line) (λ row. section_read one (in_use N rows ++ row ∷ []) (from + (length line.bytes + 1)) (take (count - (n + 1)) (drop 1 left))) ≡ section_read one [] start (take count all)
        follows =
            let e : count - n ≡ suc (count - (n + 1)) = omega arith in
            ap (λ l. onward (one (in_use N rows) from l) (λ row. section_read one (in_use N rows ++ row ∷ []) (from + (length l.bytes + 1)) (take (count - (n + 1)) (drop 1 left)))) is
            ∙ sym (section_step (in_use N rows) from left d (count - (n + 1)) some)
            ∙ sym (ap (λ (k : ℕ). section_read one (in_use N rows) from (take k left)) e) ∙ w.same

        pub section_fault : (f : SheetFault) → Err f ≡ one (in_use N rows) from line → section_read one [] start (take count all) ≡ Err f
        section_fault f e = sym follows ∙ sym (ap (λ r. onward r (λ row. section_read one (in_use N rows ++ row ∷ []) (from + (length line.bytes + 1)) (take (count - (n + 1)) (drop 1 left)))) e)

        pub section_turn : N ≤ 255 → count ≤ N → (row : R) → Ok row ≡ one (in_use N rows) from line → (rows' : Rows R N) → rows' ≡ pushed N rows row
            → (from' : ℕ) → from' ≡ cond (ltb 0 (length left)) (from + (length line.bytes + 1)) from → (left' : List Numbered) → left' ≡ drop 1 left
            → SectionWay N zero start count all (n + 1) rows' from' left'
        section_turn few room row e rows' p from' moved left' q =
            let short : length (in_use N rows) < N = omega (arith, w.many) in
            let next : from' ≡ from + (length line.bytes + 1) = moved ∙ cond-true (ltb 0 (length left)) (from + (length line.bytes + 1)) from (lt-ltb 0 (length left) some) in
            way_of (n + 1) rows' from' left' (in_use N rows ++ row ∷ [])
            (p ∙ ap (λ r. pushed N r row) w.held ∙ pushed_laid N zero (in_use N rows) row few short)
            (omega (arith, length_push (in_use N rows) row, w.many))
            (q ∙ ap (drop 1) w.at ∙ drop-drop 1 n all)
            (ap₂ (λ (f : ℕ) (ls : List Numbered). section_read one (in_use N rows ++ row ∷ []) f (take (count - (n + 1)) ls)) next q
            ∙ ap (λ r. onward r (λ x. section_read one (in_use N rows ++ x ∷ []) (from + (length line.bytes + 1)) (take (count - (n + 1)) (drop 1 left)))) e ∙ follows)
