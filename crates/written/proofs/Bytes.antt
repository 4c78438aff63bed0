-- A text that keeps the laws of bytes and spaces is made of lines and words, and a text of good lines keeps them.
use Rattle.std.proofs.Common.{◌≡◌, ℕ, ◌<◌, ◌≤◌, Bool, true, false, cond, eqb, List, [], ◌∷◌, ◌++◌, map, length, get_or, Ok, sym, refl, ap, ◌∙◌, subst, arith}
use Rattle.std.specs.Int.{IsInRange}
use Rattle.std.specs.List.{AllByRecursion}
use Rattle.std.proofs.ByRecursion.{All-weaker}
use Rattle.std.proofs.lemmas.List.{append_assoc, append-nil, length-map}
use Rattle.std.proofs.lemmas.Bool.{eqb-true}
use Rattle.std.proofs.lemmas.Bool.Decides.{nat_tests}
use Rattle.text.specs.Text.{bad_byte, bad_spacing, text_verdict}
use Rattle.text.specs.Lines.{onto, pieces}
use Rattle.text.proofs.Kept.{Kept, Passes, passed_keeps, kept_passes}
use Rattle.written.specs.Writing.{Word, spaced, ended, text_of}
use Rattle.written.proofs.Pieces.{Trim, GoodWord, GoodLine, ended_pieces, spaced_pieces}

-- ---- what passed is made of lines, and each line of words

-- the first piece, where the text goes on after a byte
abbrev Head : ℕ → List ℕ → List ℕ → Type 0
Head before text [] = (get_or text 0 10 ≡ 10) × (before ≡ 10 → ⊥)
Head before text (b ∷ bs) = Trim 32 (b ∷ bs)

abbrev Trimmed : ℕ → List ℕ → List (List ℕ) → Type 0
Trimmed before text [] = get_or text 0 10 ≡ 10
Trimmed before text (p ∷ ps) = Head before text p × AllByRecursion (Trim 32) ps

trim_all : (text : List ℕ) (ps : List (List ℕ)) → Trimmed 10 text ps → AllByRecursion (Trim 32) ps
trim_all text [] h = tt
trim_all text ([] ∷ ps) h = absurd (h.0.1 refl)
trim_all text ((b ∷ bs) ∷ ps) h = h

not_last : (before b after : ℕ) → bad_spacing before b after ≡ false → after ≡ 10 → b ≡ 32 → ⊥
not_last before b after h e f = grind (arith, nat_tests)

not_second : (before b after : ℕ) → bad_spacing before b after ≡ false → b ≡ 10 → before ≡ 10 → ⊥
not_second before b after h e f = grind (arith, nat_tests)

trimmed_onto : (before b : ℕ) (bs : List ℕ) (ps : List (List ℕ)) → bad_spacing before b (get_or bs 0 10) ≡ false → Trimmed b bs ps → Trimmed before (b ∷ bs) (onto b ps)
trimmed_onto before b bs [] h t = (not_last before b (get_or bs 0 10) h t, tt)
trimmed_onto before b bs ([] ∷ ps) h t = (not_last before b (get_or bs 0 10) h t.0.0, t.1)
trimmed_onto before b bs ((c ∷ cs) ∷ ps) h t = (t.0, t.1)

lines_trimmed : (before : ℕ) (text : List ℕ) → Kept bad_spacing before text → Trimmed before text (pieces 10 text)
lines_trimmed before [] c = refl
lines_trimmed before (b ∷ bs) c =
    elim (eqb b 10) as (λ t. eqb b 10 ≡ t → Trimmed before (b ∷ bs) (cond t ([] ∷ pieces 10 bs) (onto b (pieces 10 bs)))) [
      | true ↦ λ e.
          let newline : b ≡ 10 = eqb-true b 10 e in
          let P : ℕ → Type 0 = λ n. Trimmed n bs (pieces 10 bs) in
          ((newline, not_second before b (get_or bs 0 10) c.0 newline), trim_all bs (pieces 10 bs) (subst P newline (lines_trimmed b bs c.1)))
      | false ↦ λ e. trimmed_onto before b bs (pieces 10 bs) c.0 (lines_trimmed b bs c.1)
    ] refl

module _ (text : List ℕ) (u : Unit {0}) (passed : text_verdict text ≡ Ok u) where
  abbrev kept : Passes text
  kept = passed_keeps text u passed

  -- a text that passed is its lines, each ended by a newline
  pub passed_ended : ended 10 (pieces 10 text) ≡ text
  passed_ended = ap (λ t. ended 10 (pieces 10 t)) (sym kept.ends) ∙ ended_pieces 10 kept.front ∙ kept.ends

  -- and each line is its words with spaces between them
  pub passed_spaced : AllByRecursion (λ line. spaced (pieces 32 line) ≡ line) (pieces 10 text)
  passed_spaced = All-weaker (Trim 32) (λ line. spaced (pieces 32 line) ≡ line) spaced_pieces (pieces 10 text) (trim_all text (pieces 10 text) (lines_trimmed 10 text kept.spaces))

-- ---- a text of good lines passes

-- a law that lets stand each byte that can be seen, a space between two such, and a newline after one
record Lets (bad : ℕ → ℕ → ℕ → Bool) : Type 0 where
  byte : (before b after : ℕ) → IsInRange 33 126 b → bad before b after ≡ false
  space : (before after : ℕ) → IsInRange 33 126 before → IsInRange 33 126 after → bad before 32 after ≡ false
  newline : (before after : ℕ) → IsInRange 33 126 before → bad before 10 after ≡ false

lets_bytes : Lets bad_byte
lets_bytes = record {
  byte = λ before b after i. grind (arith, nat_tests);
  space = λ before after i j. refl;
  newline = λ before after i. refl;
}

lets_spaces : Lets bad_spacing
lets_spaces = record {
  byte = λ before b after i. grind (arith, nat_tests);
  space = λ before after i j. grind (arith, nat_tests);
  newline = λ before after i. grind (arith, nat_tests);
}

seen_first : (w rest : List ℕ) → GoodWord w → IsInRange 33 126 (get_or (w ++ rest) 0 10)
seen_first [] rest g = absurd (omega (arith, g.0))
seen_first (b ∷ bs) rest g = g.1.0

seen_spaced : (ws : List Word) (rest : List ℕ) → GoodLine ws → IsInRange 33 126 (get_or (spaced ws ++ rest) 0 10)
seen_spaced [] rest g = absurd (omega (arith, g.0))
seen_spaced (w ∷ []) rest g = seen_first w rest g.1.0
seen_spaced (w ∷ v ∷ vs) rest g = rw (append_assoc w (32 ∷ spaced (v ∷ vs)) rest) (seen_first w _ g.1.0)

module _ (bad : ℕ → ℕ → ℕ → Bool) (lets : Lets bad) where
  -- the law is kept after any byte that can be seen
  abbrev Goes : List ℕ → Type 0
  Goes rest = (b : ℕ) → IsInRange 33 126 b → Kept bad b rest

  keeps_word : (before : ℕ) (w rest : List ℕ) → GoodWord w → Goes rest → Kept bad before (w ++ rest)
  keeps_word before [] rest g go = absurd (omega (arith, g.0))
  keeps_word before (b ∷ []) rest g go = (lets.byte before b _ g.1.0, go b g.1.0)
  keeps_word before (b ∷ c ∷ cs) rest g go = (lets.byte before b _ g.1.0, keeps_word b (c ∷ cs) rest (omega arith, g.1.1) go)

  keeps_line : (before : ℕ) (ws : List Word) (rest : List ℕ) → GoodLine ws → Goes rest → Kept bad before (spaced ws ++ rest)
  keeps_line before [] rest g go = absurd (omega (arith, g.0))
  keeps_line before (w ∷ []) rest g go = keeps_word before w rest g.1.0 go
  keeps_line before (w ∷ v ∷ vs) rest g go =
      let more : GoodLine (v ∷ vs) = (omega arith, g.1.1) in
      rw (append_assoc w (32 ∷ spaced (v ∷ vs)) rest)
      (keeps_word before w (32 ∷ (spaced (v ∷ vs) ++ rest)) g.1.0 (λ b i. (lets.space b _ i (seen_spaced (v ∷ vs) rest more), keeps_line 32 (v ∷ vs) rest more go)))

  keeps_text : (lines : List (List Word)) → AllByRecursion GoodLine lines → Kept bad 10 (text_of lines)
  keeps_text [] g = tt
  keeps_text (line ∷ lines) g =
      rw (append_assoc (spaced line) (10 ∷ []) (text_of lines))
      (keeps_line 10 line (10 ∷ text_of lines) g.0 (λ b i. (lets.newline b _ i, keeps_text lines g.1)))

-- the last byte of some lines is a newline
last_ended : (ps : List (List ℕ)) → 0 < length ps → (front : List ℕ) × (front ++ 10 ∷ [] ≡ ended 10 ps)
last_ended [] h = absurd (omega arith)
last_ended (p ∷ []) h = (p, sym (append-nil (p ++ 10 ∷ [])))
last_ended (p ∷ q ∷ qs) h =
    let more = last_ended (q ∷ qs) (omega arith) in
    ((p ++ 10 ∷ []) ++ more.0, append_assoc (p ++ 10 ∷ []) more.0 (10 ∷ []) ∙ ap (λ l. (p ++ 10 ∷ []) ++ l) more.1)

-- a text of some good lines that is not too long passes
pub good_passes : (lines : List (List Word)) → 0 < length lines → AllByRecursion GoodLine lines → length (text_of lines) ≤ 16384 → text_verdict (text_of lines) ≡ Ok tt
good_passes lines some g short =
    let end = last_ended (map spaced lines) (simp length-map some) in
    kept_passes (text_of lines) short (record {
      front = end.0;
      ends = end.1;
      bytes = keeps_text bad_byte lets_bytes lines g;
      spaces = keeps_text bad_spacing lets_spaces lines g;
    })
