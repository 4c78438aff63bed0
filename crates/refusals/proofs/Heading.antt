-- The contents: what is read of the four lines tells whether they are lawful, and which is the first that is missing or wrong.
use Rattle.std.proofs.Common.{◌≡◌, ℕ, ◌⊎◌, List, [], ◌∷◌, drop, Ok, Err, Result, sym, refl, ap, ◌∙◌, subst, inl, inr}
use Rattle.faults.specs.declared.SheetFault.{SheetFault}
use Rattle.text.specs.Lines.{Numbered, words_of, end_of}
use Rattle.grammar.specs.declared.count.CountState.TheVariants as count
use Rattle.grammar.specs.declared.wrong.Wrong.TheVariants as wrong
use Rattle.grammar.specs.Counts.{count_next, count_done}
use Rattle.grammar.specs.Lines.{line_read}
use Rattle.grammar.specs.Verdicts.{Counts, count_read, contents_read}
use Rattle.refusals.specs.Words.{LineLawful, LineFaulty}
use Rattle.refusals.specs.Contents.{Heading, marks, loads, rules, relays, Headed, Misheaded, line_missing, line_wrong, ContentsLawful, ContentsFaulty, at_marks, at_loads, at_rules, at_relays}
use Rattle.refusals.proofs.Telling.{Tells, tells_like, tells_ok, tells_onward, not_both}
use Rattle.refusals.proofs.Standing.{words_tell}

-- one heading
module _ (h : Heading) where
  abbrev head_read : List Numbered → Result ℕ SheetFault
  head_read lines = count_read h.word h.lowest h.highest h.number lines

  line_tells : (line : Numbered) → Tells (line_read (count_next h.word h.lowest h.highest) count_done wrong.Contents count.Start line)
      (LineLawful (count_next h.word h.lowest h.highest) count_done count.Start line)
      (LineFaulty (count_next h.word h.lowest h.highest) count_done wrong.Contents count.Start line)
  line_tells line = words_tell (count_next h.word h.lowest h.highest) count_done wrong.Contents (end_of line) count.Start (words_of line)

  headed_from_read : (lines : List Numbered) (n : ℕ) → head_read lines ≡ Ok n → Headed h lines n
  headed_from_read [] n e = absurd (not_both (sym e))
  headed_from_read (line ∷ lines) n e = record { line = line; below = lines; split = refl; lawful = (line_tells line).lawful n e }

  misheaded_from_read : (lines : List Numbered) (f : SheetFault) → head_read lines ≡ Err f → Misheaded h lines f
  misheaded_from_read [] f e = line_missing refl (cc)
  misheaded_from_read (line ∷ lines) f e = line_wrong line lines refl ((line_tells line).faulty f e)

  read_from_misheaded : (lines : List Numbered) (f : SheetFault) → Misheaded h lines f → head_read lines ≡ Err f
  read_from_misheaded lines f (line_missing split is) = ap head_read split ∙ ap Err (sym is)
  read_from_misheaded lines f (line_wrong line below split bad) = ap head_read split ∙ (line_tells line).refused f bad

  head_tells : (lines : List Numbered) → Tells (head_read lines) (Headed h lines) (Misheaded h lines)
  head_tells lines = record {
    lawful = headed_from_read lines;
    granted = λ n head. ap head_read head.split ∙ (line_tells head.line).granted n head.lawful;
    faulty = misheaded_from_read lines;
    refused = read_from_misheaded lines;
  }

-- the four lines in turn
module _ (lines : List Numbered) where
  abbrev InTurn : SheetFault → Type 0
  InTurn f =
      Misheaded marks lines f ⊎ ((m : ℕ) × Headed marks lines m
      × (Misheaded loads (drop 1 lines) f ⊎ ((l : ℕ) × Headed loads (drop 1 lines) l
      × (Misheaded rules (drop 2 lines) f ⊎ ((r : ℕ) × Headed rules (drop 2 lines) r
      × (Misheaded relays (drop 3 lines) f ⊎ ((n : ℕ) × Headed relays (drop 3 lines) n × ⊥)))))))

  faulty_in_turn : (f : SheetFault) → InTurn f → ContentsFaulty lines f
  faulty_in_turn f (inl b) = at_marks b
  faulty_in_turn f (inr (m, hm, inl b)) = at_loads m hm b
  faulty_in_turn f (inr (m, hm, inr (l, hl, inl b))) = at_rules m l hm hl b
  faulty_in_turn f (inr (m, hm, inr (l, hl, inr (r, hr, inl b)))) = at_relays m l r hm hl hr b
  faulty_in_turn f (inr (m, hm, inr (l, hl, inr (r, hr, inr (n, hn, z))))) = absurd z

  in_turn : (f : SheetFault) → ContentsFaulty lines f → InTurn f
  in_turn f (at_marks b) = inl b
  in_turn f (at_loads m hm b) = inr (m, hm, inl b)
  in_turn f (at_rules m l hm hl b) = inr (m, hm, inr (l, hl, inl b))
  in_turn f (at_relays m l r hm hl hr b) = inr (m, hm, inr (l, hl, inr (r, hr, inl b)))

  abbrev AllFour : Counts → Type 0
  AllFour c =
      (m : ℕ) × Headed marks lines m × ((l : ℕ) × Headed loads (drop 1 lines) l × ((r : ℕ) × Headed rules (drop 2 lines) r × ((n : ℕ) × Headed relays (drop 3 lines) n
      × (◌≡◌ {A = Counts} (record { marks = m; loads = l; rules = r; relays = n }) c))))

  lawful_all_four : (c : Counts) → AllFour c → ContentsLawful lines c
  lawful_all_four c (m, hm, (l, hl, (r, hr, (n, hn, is)))) = subst (ContentsLawful lines) is (record { marks_line = hm; loads_line = hl; rules_line = hr; relays_line = hn })

  all_four : (c : Counts) → ContentsLawful lines c → AllFour c
  all_four c k = (c.marks, k.marks_line, (c.loads, k.loads_line, (c.rules, k.rules_line, (c.relays, k.relays_line, refl))))

  pub contents_tell : Tells (contents_read lines) (ContentsLawful lines) (ContentsFaulty lines)
  contents_tell =
      tells_like (tells_onward (head_read marks lines) _ (head_tells marks lines) (λ m.
      tells_onward (head_read loads (drop 1 lines)) _ (head_tells loads (drop 1 lines)) (λ l.
      tells_onward (head_read rules (drop 2 lines)) _ (head_tells rules (drop 2 lines)) (λ r.
      tells_onward (head_read relays (drop 3 lines)) _ (head_tells relays (drop 3 lines)) (λ n.
      tells_ok (record { marks = m; loads = l; rules = r; relays = n }))))))
      lawful_all_four all_four faulty_in_turn in_turn
