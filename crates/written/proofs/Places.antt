-- The name lines: where the names stand in the text.
use Rattle.std.proofs.Common.{◌≡◌, ℕ, ◌+◌, ◌-◌, ◌<◌, ◌≤◌, min, List, [], ◌∷◌, ◌++◌, map, length, take, drop, Ok, Result, sym, refl, ap, ◌∙◌, arith}
use Rattle.std.specs.List.{AllByRecursion}
use Rattle.std.proofs.lemmas.List.{append-nil, append_assoc, length-append, length-drop, length_push, drop-drop, drop_at, take_at, take_all, map_push}
use Rattle.std.proofs.lemmas.Bool.{cond-true, le-leb}
use Rattle.tables.specs.declared.table.Place.{Place}
use Rattle.faults.specs.declared.SheetFault.{SheetFault}
use Rattle.text.specs.Lines.{Numbered}
use Rattle.text.specs.Names.{part_of, names_of}
use Rattle.grammar.specs.declared.NameState.TheVariants as name
use Rattle.grammar.specs.declared.Wrong.TheVariants as wrong
use Rattle.grammar.specs.Names.{place_at, name_next, name_done}
use Rattle.grammar.specs.Lines.{line_read}
use Rattle.grammar.specs.Verdicts.{onward, names_read}
use Rattle.written.specs.Sheets.{LawfulName}
use Rattle.written.specs.Writing.{Word, spaced, ended, places_from}
use Rattle.written.proofs.Results.{no_way, onward_ok}
use Rattle.written.proofs.Runs.{run, line_runs, runs_line}
use Rattle.written.proofs.Heads.{NameOf, name_line_told, name_line_tells}
use Rattle.written.proofs.Rows.{words, Follow, New}

-- the bytes of a line
abbrev pub bytes_of : Numbered → List ℕ
bytes_of line = line.bytes

-- a line is its words with spaces between them
abbrev pub Spaced : Numbered → Type 0
Spaced line = spaced (words line) ≡ line.bytes

-- a name line has one word
abbrev pub single : Word → List Word
single name = name ∷ []

abbrev pub NewName : List Word → Word → Type 0
NewName before n = New LawfulName (λ x. x) before n

-- a lawful name is short enough for its place to tell its whole length
place_is : (from : ℕ) (n : List ℕ) → length n ≤ 16 → place_at from n ≡ record { from = from; len = length n }
place_is from n short = let whole : min 255 (length n) ≡ length n = omega arith in ap (λ (k : ℕ). record { from = from; len = k }) whole

module _ (text : List ℕ) where
  -- a name that stands at a position is the part of the text there
  part_here : (from : ℕ) (name rest : List ℕ) → 0 < length name → drop from text ≡ name ++ rest → part_of text (record { from = from; len = length name }) ≡ name
  part_here from name rest some e =
      let size : length text - from ≡ length name + length rest = sym (length-drop from text) ∙ ap length e ∙ length-append name rest in
      cond-true _ _ _ (le-leb (from + length name) (length text) (omega arith)) ∙ ap (take (length name)) e ∙ take_at name rest (length name) refl

  -- past a line the next ones stand
  past_line : (from : ℕ) (line rest : List ℕ) → drop from text ≡ (line ++ 10 ∷ []) ++ rest → drop (from + (length line + 1)) text ≡ rest
  past_line from line rest e = sym (drop-drop (length line + 1) from text) ∙ ap (drop (length line + 1)) e ∙ drop_at (line ++ 10 ∷ []) rest (length line + 1) (length_push line 10)

  -- names that stand one to a line are those at their places
  pub names_at : (from : ℕ) (names : List Word) (rest : List ℕ) → AllByRecursion LawfulName names → drop from text ≡ ended 10 names ++ rest → names_of text (places_from from names) ≡ names
  names_at from [] rest lawful e = refl
  names_at from (n ∷ names) rest lawful e =
      let here : drop from text ≡ (n ++ 10 ∷ []) ++ (ended 10 names ++ rest) = e ∙ append_assoc (n ++ 10 ∷ []) (ended 10 names) rest in
      (λ i. part_here from n (10 ∷ (ended 10 names ++ rest)) lawful.0.some (here ∙ append_assoc n (10 ∷ []) (ended 10 names ++ rest)) i
      ∷ names_at (from + (length n + 1)) names rest lawful.1 (past_line from n (ended 10 names ++ rest) here) i)

  -- the lines that are left, and the names so far
  pub record Before (from : ℕ) (before : List Word) (places : List Place) (lines : List Numbered) (rest : List ℕ) : Type 0 where
    pub named : names_of text places ≡ before
    pub few : length places + length lines ≤ 64
    pub left : drop from text ≡ ended 10 (map bytes_of lines) ++ rest
    pub spaces : AllByRecursion Spaced lines

  module _ (from : ℕ) (before : List Word) (places : List Place) (line : Numbered) (lines : List Numbered) (rest : List ℕ) (so : Before from before places (line ∷ lines) rest) where
    known : names_of text (take 64 places) ≡ before
    known = ap (names_of text) (take_all 64 places (omega (arith, so.few))) ∙ so.named

    here : drop from text ≡ (line.bytes ++ 10 ∷ []) ++ (ended 10 (map bytes_of lines) ++ rest)
    here = so.left ∙ append_assoc (line.bytes ++ 10 ∷ []) (ended 10 (map bytes_of lines)) rest

    module _ (n : Word) (is : n ≡ line.bytes) (lawful : LawfulName n) where
      next : Before (from + (length line.bytes + 1)) (before ++ n ∷ []) (places ++ place_at from n ∷ []) lines rest
      next = record {
        named = map_push (part_of text) places (place_at from n)
            ∙ (λ i. so.named i ++ (ap (part_of text) (place_is from n lawful.short) ∙ part_here from n (10 ∷ (ended 10 (map bytes_of lines) ++ rest)) lawful.some (here ∙ ap (λ b. (b ++ 10 ∷ []) ++ (ended 10 (map bytes_of lines) ++ rest)) (sym is) ∙ append_assoc n (10 ∷ []) (ended 10 (map bytes_of lines) ++ rest))) i ∷ []);
        few = omega (arith, so.few, length_push places (place_at from n));
        left = past_line from line.bytes (ended 10 (map bytes_of lines) ++ rest) here;
        spaces = so.spaces.1;
      }

      step_places : (more : List Word) → places ++ places_from from (n ∷ more) ≡ (places ++ place_at from n ∷ []) ++ places_from (from + (length line.bytes + 1)) more
      step_places more = ap (λ p. places ++ p ∷ places_from (from + (length n + 1)) more) (sym (place_is from n lawful.short)) ∙ ap (λ b. places ++ place_at from n ∷ places_from (from + (length b + 1)) more) is ∙ sym (append_assoc places (place_at from n ∷ []) _)

  -- lawful new names with the words of lines, and their places
  pub record NamesOf (from : ℕ) (before : List Word) (places : List Place) (lines : List Numbered) (out : List Place) : Type 0 where
    pub made : List Word
    pub spelt : map single made ≡ map words lines
    pub lawful : Follow NewName before made
    pub placed : places ++ places_from from made ≡ out

  abbrev one_name : ℕ → List Word → Numbered → Result Place SheetFault
  one_name from names line = line_read (name_next names from) name_done wrong.Misplaced name.Start line

  told_more : (from : ℕ) (before : List Word) (places : List Place) (line : Numbered) (lines : List Numbered) (rest : List ℕ) (so : Before from before places (line ∷ lines) rest) (p : Place) (out : List Place)
      (x : NameOf before from (words line) p) → x.line ≡ line.bytes → NamesOf (from + (length line.bytes + 1)) (before ++ x.line ∷ []) (places ++ place_at from x.line ∷ []) lines out → NamesOf from before places (line ∷ lines) out
  told_more from before places line lines rest so p out x is more = record {
    made = x.line ∷ more.made;
    spelt = (λ i. x.spelt i ∷ more.spelt i);
    lawful = ((x.lawful, x.first), more.lawful);
    placed = step_places from before places line lines rest so x.line is x.lawful more.made ∙ more.placed;
  }

  pub names_told : (from : ℕ) (before : List Word) (places : List Place) (lines : List Numbered) (rest : List ℕ) (out : List Place) → Before from before places lines rest → names_read text from places lines ≡ Ok out → NamesOf from before places lines out
  names_told from before places [] rest out so e = record { made = []; spelt = refl; lawful = tt; placed = append-nil places ∙ (let same : places ≡ out = cc in same) }
  names_told from before places (line ∷ lines) rest out so e =
      let read = onward_ok (one_name from (names_of text (take 64 places)) line) _ out e in
      let again : one_name from before line ≡ Ok read.0 = ap (λ ns. one_name from ns line) (sym (known from before places line lines rest so)) ∙ read.1 in
      let x = name_line_told before from (words line) read.0 (line_runs (name_next before from) name_done wrong.Misplaced name.Start line read.0 again) in
      let is : x.line ≡ line.bytes = ap spaced x.spelt ∙ so.spaces.0 in
      let more = names_told (from + (length line.bytes + 1)) (before ++ x.line ∷ []) (places ++ place_at from x.line ∷ []) lines rest out
      (next from before places line lines rest so x.line is x.lawful)
      (ap (λ p. names_read text (from + (length line.bytes + 1)) (places ++ p ∷ []) lines) x.placed ∙ read.2) in
      told_more from before places line lines rest so read.0 out x is more

  pub names_tell : (from : ℕ) (before : List Word) (places : List Place) (names : List Word) (lines : List Numbered) (rest : List ℕ) → Before from before places lines rest → map single names ≡ map words lines → Follow NewName before names → names_read text from places lines ≡ Ok (places ++ places_from from names)
  names_tell from before places [] [] rest so e lawful = ap Ok (sym (append-nil places))
  names_tell from before places [] (line ∷ lines) rest so e lawful = no_way (cc)
  names_tell from before places (n ∷ names) [] rest so e lawful = no_way (cc)
  names_tell from before places (n ∷ names) (line ∷ lines) rest so e lawful =
      let head : single n ≡ words line = cc in
      let tail : map single names ≡ map words lines = cc in
      let is : n ≡ line.bytes = ap spaced head ∙ so.spaces.0 in
      let runs = ap (run (name_next before from) name_done name.Start) (sym head) ∙ name_line_tells before from n lawful.0.0 lawful.0.1 in
      ap (λ ns. onward (one_name from ns line) (λ p. names_read text (from + (length line.bytes + 1)) (places ++ p ∷ []) lines)) (known from before places line lines rest so)
      ∙ ap (λ o. onward o (λ p. names_read text (from + (length line.bytes + 1)) (places ++ p ∷ []) lines)) (runs_line (name_next before from) name_done wrong.Misplaced name.Start line (place_at from n) runs)
      ∙ names_tell (from + (length line.bytes + 1)) (before ++ n ∷ []) (places ++ place_at from n ∷ []) names lines rest (next from before places line lines rest so n is lawful.0.0) tail lawful.1
      ∙ ap Ok (sym (step_places from before places line lines rest so n is lawful.0.0 names))
