-- A line by its words, for any kind of line: what is read says which words stand, and the other way round.
use Rattle.std.proofs.Common.{◌≡◌, ◌⊎◌, List, [], ◌∷◌, ◌++◌, Some, None, Ok, Err, Option, Result, sym, refl, ap, ◌∙◌, inl, inr, ⊎_elim}
use Rattle.std.proofs.lemmas.List.{append-nil}
use Rattle.faults.specs.declared.Spot.{Spot}
use Rattle.faults.specs.declared.SheetFault.{SheetFault}
use Rattle.text.specs.Lines.{Placed}
use Rattle.text.specs.Words.{Meaning, meaning}
use Rattle.grammar.specs.declared.wrong.Wrong.{Wrong}
use Rattle.grammar.specs.Wrongs.{fault_at}
use Rattle.grammar.specs.Lines.{finished, moved, reading}
use Rattle.refusals.specs.Words.{Stands, no_word, one_word, WordsFaulty, wrong_word, missing_word, WordsLawful}
use Rattle.refusals.proofs.Telling.{Tells, not_both}

-- the end of a line
module _ {R : Type 0} where
  finished_ok : (o : Option R) (f : SheetFault) (row : R) → finished o f ≡ Ok row → o ≡ Some row
  finished_ok None f row e = cc
  finished_ok (Some r) f row e = cc

  finished_err : (o : Option R) (f g : SheetFault) → finished o f ≡ Err g → (o ≡ None) × (g ≡ f)
  finished_err None f g e = (refl, cc)
  finished_err (Some r) f g e = absurd (not_both e)

-- a word of a line
module _ {S R : Type 0} where
  moved_ok : (r : Result S Wrong) (spot : Spot) (go : S → Result R SheetFault) (row : R) → moved r spot go ≡ Ok row → (t : S) × (r ≡ Ok t) × (go t ≡ Ok row)
  moved_ok (Ok t) spot go row e = (t, refl, e)
  moved_ok (Err k) spot go row e = absurd (not_both (sym e))

  moved_err : (r : Result S Wrong) (spot : Spot) (go : S → Result R SheetFault) (f : SheetFault) → moved r spot go ≡ Err f
      → ((k : Wrong) × (r ≡ Err k) × (f ≡ fault_at k spot)) ⊎ ((t : S) × (r ≡ Ok t) × (go t ≡ Err f))
  moved_err (Ok t) spot go f e = inr (t, refl, e)
  moved_err (Err k) spot go f e = inl (k, refl, cc)

module _ {S R : Type 0} (next : S → Meaning → Result S Wrong) (done : S → Option R) (missing : Wrong) (end : Spot) where
  -- a word that stands, in front of words of which this is known
  lawful_more : {s t : S} {w : Placed} {ws : List Placed} {row : R} → next s (meaning w.bytes) ≡ Ok t → WordsLawful next done t ws row → WordsLawful next done s (w ∷ ws) row
  lawful_more e l = record { last = l.last; stand = one_word e l.stand; ends = l.ends }

  faulty_more : {s t : S} {w : Placed} {ws : List Placed} {f : SheetFault} → next s (meaning w.bytes) ≡ Ok t
      → WordsFaulty next done missing end t ws f → WordsFaulty next done missing end s (w ∷ ws) f
  faulty_more {w = w} e (wrong_word left right v u k split st bad is) = wrong_word (w ∷ left) right v u k (ap (λ vs. w ∷ vs) split) (one_word e st) bad is
  faulty_more e (missing_word u st open_end is) = missing_word u (one_word e st) open_end is

  lawful_from_read : (s : S) (ws : List Placed) (row : R) → reading next done missing end s ws ≡ Ok row → WordsLawful next done s ws row
  lawful_from_read s [] row e = record { last = s; stand = no_word; ends = finished_ok (done s) _ row e }
  lawful_from_read s (w ∷ ws) row e =
      let m = moved_ok (next s (meaning w.bytes)) w.at (λ t. reading next done missing end t ws) row e in
      lawful_more m.1 (lawful_from_read m.0 ws row m.2)

  faulty_from_read : (s : S) (ws : List Placed) (f : SheetFault) → reading next done missing end s ws ≡ Err f → WordsFaulty next done missing end s ws f
  faulty_from_read s [] f e = let p = finished_err (done s) _ f e in missing_word s no_word p.0 p.1
  faulty_from_read s (w ∷ ws) f e =
      ⊎_elim (λ p. wrong_word [] ws w s p.0 refl no_word p.1 p.2)
      (λ p. faulty_more p.1 (faulty_from_read p.0 ws f p.2))
      (moved_err (next s (meaning w.bytes)) w.at (λ t. reading next done missing end t ws) f e)

  -- words that stand are read past
  past_words : {s t : S} {left : List Placed} → Stands next s left t → (right : List Placed) → reading next done missing end s (left ++ right) ≡ reading next done missing end t right
  past_words no_word right = refl
  past_words (one_word {w = w} {ws = ws} e st) right = ap (λ r. moved r w.at (λ t. reading next done missing end t (ws ++ right))) e ∙ past_words st right

  at_the_end : {s t : S} (ws : List Placed) → Stands next s ws t → reading next done missing end s ws ≡ finished (done t) (fault_at missing end)
  at_the_end {s} ws st = ap (reading next done missing end s) (sym (append-nil ws)) ∙ past_words st []

  read_from_lawful : (s : S) (ws : List Placed) (row : R) → WordsLawful next done s ws row → reading next done missing end s ws ≡ Ok row
  read_from_lawful s ws row l = at_the_end ws l.stand ∙ ap (λ o. finished o (fault_at missing end)) l.ends

  read_from_faulty : (s : S) (ws : List Placed) (f : SheetFault) → WordsFaulty next done missing end s ws f → reading next done missing end s ws ≡ Err f
  read_from_faulty s ws f (wrong_word left right w u k split st bad is) =
      ap (reading next done missing end s) split ∙ past_words st (w ∷ right)
      ∙ ap (λ r. moved r w.at (λ t. reading next done missing end t right)) bad ∙ ap Err (sym is)
  read_from_faulty s ws f (missing_word u st open_end is) = at_the_end ws st ∙ ap (λ o. finished o (fault_at missing end)) open_end ∙ ap Err (sym is)

  -- what is read of words tells whether they are lawful or faulty
  pub words_tell : (s : S) (ws : List Placed) → Tells (reading next done missing end s ws) (WordsLawful next done s ws) (WordsFaulty next done missing end s ws)
  words_tell s ws = record { lawful = lawful_from_read s ws; granted = read_from_lawful s ws; faulty = faulty_from_read s ws; refused = read_from_faulty s ws }
