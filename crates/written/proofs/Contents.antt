-- The contents, and the parts of a sheet's lines that they announce.
use Rattle.std.proofs.Common.{◌≡◌, ℕ, ◌+◌, ◌≤◌, List, [], ◌∷◌, ◌++◌, map, length, take, drop, Some, Ok, codes, decimal, sym, refl, ap, ◌∙◌, subst, arith}
use Rattle.std.proofs.lemmas.List.{map-append, take-append-drop, drop-drop, take_at, drop_at}
use Rattle.text.specs.Lines.{Numbered}
use Rattle.text.specs.Words.{meaning, name_said}
use Rattle.grammar.specs.declared.CountState.TheVariants as count
use Rattle.grammar.specs.declared.Wrong.TheVariants as wrong
use Rattle.grammar.specs.Counts.{count_next, count_done}
use Rattle.grammar.specs.Verdicts.{Counts, count_read, contents_read}
use Rattle.written.specs.Sheets.{Sheet}
use Rattle.written.specs.Writing.{Word}
use Rattle.written.proofs.Results.{no_way, onward_ok, onward_from}
use Rattle.written.proofs.Runs.{run, line_runs, runs_line}
use Rattle.written.proofs.Heads.{count_told, count_tells}
use Rattle.written.proofs.Rows.{words}

-- how many of each a sheet has
abbrev pub counts_of : Sheet → Counts
counts_of sheet = record {
  marks = length sheet.names;
  loads = length sheet.loads;
  rules = length sheet.rules;
  relays = length sheet.relays;
}

-- the lines that say so
abbrev pub count_lines : Counts → List (List Word)
count_lines c =
    (codes "marks" ∷ decimal c.marks ∷ []) ∷ (codes "loads" ∷ decimal c.loads ∷ [])
    ∷ (codes "rules" ∷ decimal c.rules ∷ []) ∷ (codes "relays" ∷ decimal c.relays ∷ []) ∷ []

-- numbers that the contents may have
pub record Counted (c : Counts) : Type 0 where
  pub some_marks : 1 ≤ c.marks
  pub few_marks : c.marks ≤ 64
  pub few_loads : c.loads ≤ 32
  pub few_rules : c.rules ≤ 128
  pub few_relays : c.relays ≤ 64

module _ (word : Word) (low high number : ℕ) where
  one_told : (lines : List Numbered) (n : ℕ) → count_read word low high number lines ≡ Ok n → (((word ∷ decimal n ∷ []) ∷ []) ≡ map words (take 1 lines)) × (low ≤ n) × (n ≤ high)
  one_told [] n e = no_way (cc)
  one_told (line ∷ lines) n e =
      let told = count_told word low high (words line) n (line_runs (count_next word low high) count_done wrong.Contents count.Start line n e) in
      (ap (λ l. l ∷ []) told.0, told.1, told.2)

  one_tells : (line : Numbered) (lines : List Numbered) (n : ℕ) → name_said (meaning word) ≡ Some word → high ≤ 1000000 → (word ∷ decimal n ∷ []) ≡ words line → low ≤ n → n ≤ high → count_read word low high number (line ∷ lines) ≡ Ok n
  one_tells line lines n said few e l u =
      runs_line (count_next word low high) count_done wrong.Contents count.Start line n (ap (run (count_next word low high) count_done count.Start) (sym e) ∙ count_tells word low high n said few l u)

take_four : {A : Type 0} (xs : List A) → take 1 xs ++ (take 1 (drop 1 xs) ++ (take 1 (drop 2 xs) ++ take 1 (drop 3 xs))) ≡ take 4 xs
take_four [] = refl
take_four (a ∷ []) = refl
take_four (a ∷ b ∷ []) = refl
take_four (a ∷ b ∷ c ∷ []) = refl
take_four (a ∷ b ∷ c ∷ d ∷ xs) = refl

map_four : {A B : Type 0} (f : A → B) (a b c d : List A) → map f a ++ (map f b ++ (map f c ++ map f d)) ≡ map f (a ++ (b ++ (c ++ d)))
map_four f a b c d = simp map-append

-- contents that were read are the first four lines
pub contents_told : (lines : List Numbered) (c : Counts) → contents_read lines ≡ Ok c → (count_lines c ≡ map words (take 4 lines)) × Counted c
contents_told lines c e =
    let marks = onward_ok (count_read (codes "marks") 1 64 1 lines) _ c e in
    let loads = onward_ok (count_read (codes "loads") 0 32 2 (drop 1 lines)) _ c marks.2 in
    let rules = onward_ok (count_read (codes "rules") 0 128 3 (drop 2 lines)) _ c loads.2 in
    let relays = onward_ok (count_read (codes "relays") 0 64 4 (drop 3 lines)) _ c rules.2 in
    let found : Counts = record { marks = marks.0; loads = loads.0; rules = rules.0; relays = relays.0 } in
    let a = one_told (codes "marks") 1 64 1 lines marks.0 marks.1 in
    let b = one_told (codes "loads") 0 32 2 (drop 1 lines) loads.0 loads.1 in
    let d = one_told (codes "rules") 0 128 3 (drop 2 lines) rules.0 rules.1 in
    let f = one_told (codes "relays") 0 64 4 (drop 3 lines) relays.0 relays.1 in
    let same : found ≡ c = cc relays.2 in
    let spelt : count_lines found ≡ map words (take 4 lines) = (λ i. a.0 i ++ (b.0 i ++ (d.0 i ++ f.0 i))) ∙ map_four words (take 1 lines) (take 1 (drop 1 lines)) (take 1 (drop 2 lines)) (take 1 (drop 3 lines)) ∙ ap (map words) (take_four lines) in
    let P : Counts → Type 0 = λ k. (count_lines k ≡ map words (take 4 lines)) × Counted k in
    subst P same (spelt, record { some_marks = a.1; few_marks = a.2; few_loads = b.2; few_rules = d.2; few_relays = f.2 })

-- and such contents are read
pub contents_tell : (lines : List Numbered) (c : Counts) → count_lines c ≡ map words (take 4 lines) → Counted c → contents_read lines ≡ Ok c
contents_tell [] c e h = no_way (cc)
contents_tell (w ∷ []) c e h = no_way (cc)
contents_tell (w ∷ x ∷ []) c e h = no_way (cc)
contents_tell (w ∷ x ∷ y ∷ []) c e h = no_way (cc)
contents_tell (w ∷ x ∷ y ∷ z ∷ lines) c e h =
    let first : (codes "marks" ∷ decimal c.marks ∷ []) ≡ words w = cc in
    let second : (codes "loads" ∷ decimal c.loads ∷ []) ≡ words x = cc in
    let third : (codes "rules" ∷ decimal c.rules ∷ []) ≡ words y = cc in
    let fourth : (codes "relays" ∷ decimal c.relays ∷ []) ≡ words z = cc in
    onward_from _ c.marks _ (one_tells (codes "marks") 1 64 1 w (x ∷ y ∷ z ∷ lines) c.marks refl (omega arith) first h.some_marks h.few_marks)
    ∙ onward_from _ c.loads _ (one_tells (codes "loads") 0 32 2 x (y ∷ z ∷ lines) c.loads refl (omega arith) second (omega arith) h.few_loads)
    ∙ onward_from _ c.rules _ (one_tells (codes "rules") 0 128 3 y (z ∷ lines) c.rules refl (omega arith) third (omega arith) h.few_rules)
    ∙ onward_from _ c.relays _ (one_tells (codes "relays") 0 64 4 z lines c.relays refl (omega arith) fourth (omega arith) h.few_relays)

-- ---- a list cut in five: four, m, l and r of its items, and those that are left

module _ {A : Type 0} (m l r : ℕ) where
  abbrev pub below : List A → List A
  below xs = drop (4 + m) xs

  -- the parts are the whole
  pub parts_whole : (xs : List A) → take 4 xs ++ (take m (drop 4 xs) ++ (take l (below xs) ++ (take r (drop l (below xs)) ++ drop (l + r) (below xs)))) ≡ xs
  parts_whole xs =
      ap (λ t. take 4 xs ++ (take m (drop 4 xs) ++ (take l (below xs) ++ t))) (ap (λ t. take r (drop l (below xs)) ++ t) (sym (drop-drop r l (below xs))) ∙ take-append-drop r (drop l (below xs)))
      ∙ ap (λ t. take 4 xs ++ (take m (drop 4 xs) ++ t)) (take-append-drop l (below xs) ∙ sym (drop-drop m 4 xs))
      ∙ ap (λ t. take 4 xs ++ t) (take-append-drop m (drop 4 xs)) ∙ take-append-drop 4 xs

  -- the parts behind the first four
  pub record Parts (xs b c d e : List A) : Type 0 where
    pub second : take m (drop 4 xs) ≡ b
    pub third : take l (below xs) ≡ c
    pub fourth : take r (drop l (below xs)) ≡ d
    pub fifth : drop (l + r) (below xs) ≡ e

  -- what is put together has these parts
  pub parts_of : (a b c d e : List A) → length a ≡ 4 → length b ≡ m → length c ≡ l → length d ≡ r → Parts (a ++ (b ++ (c ++ (d ++ e)))) b c d e
  parts_of a b c d e four bs cs ds =
      let whole : List A = a ++ (b ++ (c ++ (d ++ e))) in
      let rest : below whole ≡ c ++ (d ++ e) = sym (drop-drop m 4 whole) ∙ ap (drop m) (drop_at a _ 4 four) ∙ drop_at b _ m bs in
      record {
        second = ap (take m) (drop_at a _ 4 four) ∙ take_at b _ m bs;
        third = ap (take l) rest ∙ take_at c _ l cs;
        fourth = ap (λ t. take r (drop l t)) rest ∙ ap (take r) (drop_at c _ l cs) ∙ take_at d _ r ds;
        fifth = ap (drop (l + r)) rest ∙ sym (drop-drop r l (c ++ (d ++ e))) ∙ ap (drop r) (drop_at c _ l cs) ∙ drop_at d e r ds;
      }
