-- Pieces that are put together again, and the pieces of what was put together.
use Rattle.std.proofs.Common.{◌≡◌, ℕ, ◌<◌, true, false, cond, eqb, List, [], ◌∷◌, ◌++◌, map, length, sym, refl, ap, ◌∙◌, arith}
use Rattle.std.specs.Int.{IsInRange}
use Rattle.std.specs.List.{AllByRecursion}
use Rattle.std.proofs.ByRecursion.{All-weaker, All-append}
use Rattle.std.proofs.lemmas.List.{append-nil, append_assoc, append_cancel_right, length-append}
use Rattle.std.proofs.lemmas.Bool.{cond-true, cond-false, eq-eqb, ne_eqb, eqb-true}
use Rattle.text.specs.Lines.{onto, pieces}
use Rattle.written.specs.Writing.{Word, spaced, ended, text_of}

-- bytes without the stop
abbrev pub Free : ℕ → List ℕ → Type 0
Free stop bytes = AllByRecursion (λ byte. byte ≡ stop → ⊥) bytes

-- there is a last byte, and it is not the stop
abbrev pub Trim : ℕ → List ℕ → Type 0
Trim stop [] = ⊥
Trim stop (byte ∷ []) = byte ≡ stop → ⊥
Trim stop (byte ∷ next ∷ bytes) = Trim stop (next ∷ bytes)

module _ (stop : ℕ) where
  onto_ended : (b : ℕ) (ps : List (List ℕ)) (bytes : List ℕ) → 0 < length bytes → ended stop ps ≡ bytes → ended stop (onto b ps) ≡ b ∷ bytes
  onto_ended b [] bytes h e = absurd (omega (arith, ap length e))
  onto_ended b (p ∷ ps) bytes h e = ap (λ l. b ∷ l) e

  -- bytes that end with the stop are their pieces, each ended by it
  pub ended_pieces : (front : List ℕ) → ended stop (pieces stop (front ++ stop ∷ [])) ≡ front ++ stop ∷ []
  ended_pieces [] = ap (ended stop) (cond-true (eqb stop stop) _ _ (eq-eqb stop stop refl))
  ended_pieces (b ∷ front) =
      elim (eqb b stop) as (λ t. eqb b stop ≡ t → ended stop (cond t ([] ∷ pieces stop (front ++ stop ∷ [])) (onto b (pieces stop (front ++ stop ∷ [])))) ≡ b ∷ (front ++ stop ∷ [])) [
        | true ↦ λ e. ap (λ l. stop ∷ l) (ended_pieces front) ∙ ap (λ c. c ∷ (front ++ stop ∷ [])) (sym (eqb-true b stop e))
        | false ↦ λ e. onto_ended b _ _ (simp length-append (omega arith)) (ended_pieces front)
      ] refl

  pieces_front : (p rest : List ℕ) → Free stop p → pieces stop (p ++ stop ∷ rest) ≡ p ∷ pieces stop rest
  pieces_front [] rest free = cond-true _ _ _ (eq-eqb stop stop refl)
  pieces_front (b ∷ p) rest free = cond-false _ _ _ (ne_eqb b stop free.0) ∙ ap (onto b) (pieces_front p rest free.1)

  -- the pieces of pieces, each ended by the stop, are those pieces
  pub pieces_ended : (ps : List (List ℕ)) → AllByRecursion (Free stop) ps → pieces stop (ended stop ps) ≡ ps
  pieces_ended [] free = refl
  pieces_ended (p ∷ ps) free =
      ap (pieces stop) (append_assoc p (stop ∷ []) (ended stop ps)) ∙ pieces_front p (ended stop ps) free.0 ∙ ap (λ l. p ∷ l) (pieces_ended ps free.1)

  -- a stop at the very end makes no piece more
  pub pieces_closed : (bytes : List ℕ) → Trim stop bytes → pieces stop (bytes ++ stop ∷ []) ≡ pieces stop bytes
  pieces_closed [] h = absurd h
  pieces_closed (b ∷ []) h =
      cond-false _ _ _ (ne_eqb b stop h) ∙ ap (onto b) (cond-true _ _ _ (eq-eqb stop stop refl)) ∙ sym (cond-false (eqb b stop) ([] ∷ []) ((b ∷ []) ∷ []) (ne_eqb b stop h))
  pieces_closed (b ∷ c ∷ cs) h = ap (λ ps. cond (eqb b stop) ([] ∷ ps) (onto b ps)) (pieces_closed (c ∷ cs) h)

  trim_onto : (b : ℕ) (bytes : List ℕ) → Trim stop bytes → Trim stop (b ∷ bytes)
  trim_onto b [] h = absurd h
  trim_onto b (c ∷ cs) h = h

  trim_append : (xs ys : List ℕ) → Trim stop ys → Trim stop (xs ++ ys)
  trim_append [] ys h = h
  trim_append (x ∷ xs) ys h = trim_onto x (xs ++ ys) (trim_append xs ys h)

  trim_free : (bytes : List ℕ) → 0 < length bytes → Free stop bytes → Trim stop bytes
  trim_free [] h free = absurd (omega arith)
  trim_free (b ∷ []) h free = free.0
  trim_free (b ∷ c ∷ cs) h free = trim_free (c ∷ cs) (omega arith) free.1

-- a word has a byte, and each of its bytes can be seen
abbrev pub GoodWord : Word → Type 0
GoodWord word = (0 < length word) × AllByRecursion (IsInRange 33 126) word

-- a line has a word, and good words alone
abbrev pub GoodLine : List Word → Type 0
GoodLine words = (0 < length words) × AllByRecursion GoodWord words

seen_free : (stop : ℕ) → stop < 33 → (bytes : List ℕ) → AllByRecursion (IsInRange 33 126) bytes → Free stop bytes
seen_free stop h bytes good = All-weaker (IsInRange 33 126) (λ b. b ≡ stop → ⊥) (λ b i e. omega arith) bytes good

-- words with spaces between them, and a space behind them, are words that a space ends
spaced_ended : (w : Word) (ws : List Word) → spaced (w ∷ ws) ++ 32 ∷ [] ≡ ended 32 (w ∷ ws)
spaced_ended w [] = sym (append-nil (w ++ 32 ∷ []))
spaced_ended w (v ∷ vs) =
    append_assoc w (32 ∷ spaced (v ∷ vs)) (32 ∷ []) ∙ ap (λ l. w ++ 32 ∷ l) (spaced_ended v vs) ∙ sym (append_assoc w (32 ∷ []) (ended 32 (v ∷ vs)))

spaced_from_ended : (ws : List Word) (line : List ℕ) → ended 32 ws ≡ line ++ 32 ∷ [] → spaced ws ≡ line
spaced_from_ended [] line e = absurd (omega (arith, simp length-append at (ap length e)))
spaced_from_ended (w ∷ ws) line e = append_cancel_right _ _ (32 ∷ []) (spaced_ended w ws ∙ e)

-- a line that does not end in a space is its words with spaces between them
pub spaced_pieces : (line : List ℕ) → Trim 32 line → spaced (pieces 32 line) ≡ line
spaced_pieces line h = spaced_from_ended (pieces 32 line) line (ap (ended 32) (sym (pieces_closed 32 line h)) ∙ ended_pieces 32 line)

trim_spaced : (ws : List Word) → GoodLine ws → Trim 32 (spaced ws)
trim_spaced [] g = absurd (omega (arith, g.0))
trim_spaced (w ∷ []) g = trim_free 32 w g.1.0.0 (seen_free 32 (omega arith) w g.1.0.1)
trim_spaced (w ∷ v ∷ vs) g = trim_append 32 w _ (trim_onto 32 32 (spaced (v ∷ vs)) (trim_spaced (v ∷ vs) (omega arith, g.1.1)))

closed_spaced : (ws : List Word) → GoodLine ws → spaced ws ++ 32 ∷ [] ≡ ended 32 ws
closed_spaced [] g = absurd (omega (arith, g.0))
closed_spaced (w ∷ ws) g = spaced_ended w ws

-- and the words of good words with spaces between them are those words
pub pieces_spaced : (ws : List Word) → GoodLine ws → pieces 32 (spaced ws) ≡ ws
pieces_spaced ws g =
    sym (pieces_closed 32 (spaced ws) (trim_spaced ws g)) ∙ ap (pieces 32) (closed_spaced ws g)
    ∙ pieces_ended 32 ws (All-weaker GoodWord (Free 32) (λ w h. seen_free 32 (omega arith) w h.1) ws g.1)

free_spaced : (ws : List Word) → AllByRecursion GoodWord ws → Free 10 (spaced ws)
free_spaced [] g = tt
free_spaced (w ∷ []) g = seen_free 10 (omega arith) w g.0.1
free_spaced (w ∷ v ∷ vs) g =
    All-append (λ b. b ≡ 10 → ⊥) w _ (seen_free 10 (omega arith) w g.0.1) ((λ e. omega arith), free_spaced (v ∷ vs) g.1)

free_lines : (lines : List (List Word)) → AllByRecursion GoodLine lines → AllByRecursion (Free 10) (map spaced lines)
free_lines [] g = tt
free_lines (line ∷ lines) g = (free_spaced line g.0.1, free_lines lines g.1)

respaced : (lines : List (List Word)) → AllByRecursion GoodLine lines → map (pieces 32) (map spaced lines) ≡ lines
respaced [] g = refl
respaced (line ∷ lines) g = (λ i. pieces_spaced line g.0 i ∷ respaced lines g.1 i)

-- the lines of the text of good lines are those lines
pieces_text : (lines : List (List Word)) → AllByRecursion GoodLine lines → pieces 10 (text_of lines) ≡ map spaced lines
pieces_text lines g = pieces_ended 10 (map spaced lines) (free_lines lines g)

pub words_text : (lines : List (List Word)) → AllByRecursion GoodLine lines → map (pieces 32) (pieces 10 (text_of lines)) ≡ lines
words_text lines g = ap (map (pieces 32)) (pieces_text lines g) ∙ respaced lines g
