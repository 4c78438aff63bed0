-- The lines of a text: what is read of them tells which check fails first, and which line is the topmost bad one.
use Rattle.std.proofs.Common.{◌≡◌, ℕ, ◌+◌, eqb, ◌⊎◌, List, [], length, take, drop, Ok, Result, sym, refl, ap, ◌∙◌, subst, ap₂, inl, inr, add_assoc}
use Rattle.std.proofs.lemmas.List.{drop-drop}
use Rattle.std.proofs.lemmas.Bool.{eqb-true, eqb-false, eq-eqb, ne_eqb}
use Rattle.faults.specs.declared.SheetFault.{SheetFault}
use Rattle.faults.specs.declared.SheetFault.TheVariants as fault
use Rattle.tables.specs.declared.table.Place.{Place}
use Rattle.tables.specs.declared.table.Aggregate.{Aggregate}
use Rattle.tables.specs.declared.table.Rule.{Rule}
use Rattle.tables.specs.declared.table.RelayLine.{RelayLine}
use Rattle.tables.specs.declared.table.Table.{Table}
use Rattle.tables.specs.Tables.{table_of}
use Rattle.text.specs.Lines.{Numbered}
use Rattle.grammar.specs.Verdicts.{Counts, announced, onward, rows_read, names_read, load_read, rule_read, relay_read, rest_read, lines_read}
use Rattle.refusals.specs.Rows.{Rows, Topmost}
use Rattle.refusals.specs.Contents.{ContentsLawful, ContentsFaulty}
use Rattle.refusals.specs.Sheets.{Named, names_at, name_lines, load_lines, rule_lines, relay_lines, names_part, loads_part, rules_part, relays_part, no_names, Counted, SheetFaulty, in_contents, in_count, in_names, in_loads, in_rules, in_relays}
use Rattle.refusals.proofs.Telling.{Tells, Parts, tells_like, tells_ok, tells_err, tells_cond, tells_onward}
use Rattle.refusals.proofs.Stacking.{rows_tell, same_rows_tell}
use Rattle.refusals.proofs.Heading.{contents_tell}

-- the lines below the names, by the places of the names
module _ (text : List ℕ) (lines : List Numbered) (c : Counts) (places : List Place) where
  abbrev names : List (List ℕ)
  names = names_at text places

  -- the three parts, which the reader finds one behind another
  abbrev parts_read : List Numbered → List Numbered → Result Table SheetFault
  parts_read third fourth =
      onward (rows_read (load_read names) [] (loads_part c lines)) (λ ls.
      onward (rows_read (rule_read names c.loads) [] (take c.rules third)) (λ rs.
      onward (rows_read (relay_read names) [] fourth) (λ ys.
      Ok (table_of c.marks places ls rs ys))))

  parts_found : parts_read (drop (4 + c.marks + c.loads) lines) (relays_part c lines) ≡ rest_read text c places (drop (4 + c.marks) lines)
  parts_found = sym (ap₂ parts_read (drop-drop c.loads (4 + c.marks) lines)
      (drop-drop (c.loads + c.rules) (4 + c.marks) lines ∙ ap (λ k. drop k lines) (sym (add_assoc (4 + c.marks) c.loads c.rules))))

  abbrev RestFaulty : SheetFault → Type 0
  RestFaulty f =
      Topmost (load_lines names) [] (loads_part c lines) f ⊎ ((ls : List Aggregate) × Rows (load_lines names) [] (loads_part c lines) ls
      × (Topmost (rule_lines names c.loads) [] (rules_part c lines) f ⊎ ((rs : List Rule) × Rows (rule_lines names c.loads) [] (rules_part c lines) rs
      × (Topmost (relay_lines names) [] (relays_part c lines) f ⊎ ((ys : List RelayLine) × Rows (relay_lines names) [] (relays_part c lines) ys × ⊥)))))

  abbrev RestLawful : Table → Type 0
  RestLawful table =
      (ls : List Aggregate) × Rows (load_lines names) [] (loads_part c lines) ls
      × ((rs : List Rule) × Rows (rule_lines names c.loads) [] (rules_part c lines) rs
      × ((ys : List RelayLine) × Rows (relay_lines names) [] (relays_part c lines) ys × (table_of c.marks places ls rs ys ≡ table)))

  rest_tells : Tells (rest_read text c places (drop (4 + c.marks) lines)) RestLawful RestFaulty
  rest_tells = subst (λ r. Tells r RestLawful RestFaulty) parts_found
      (tells_onward _ _ (same_rows_tell (load_lines names) (rows_read (load_read names)) (λ x. refl) (λ x l ls. refl) [] (loads_part c lines)) (λ ls.
      tells_onward _ _ (same_rows_tell (rule_lines names c.loads) (rows_read (rule_read names c.loads)) (λ x. refl) (λ x l ls. refl) [] (rules_part c lines)) (λ rs.
      tells_onward _ _ (same_rows_tell (relay_lines names) (rows_read (relay_read names)) (λ x. refl) (λ x l ls. refl) [] (relays_part c lines)) (λ ys.
      tells_ok (table_of c.marks places ls rs ys)))))

-- a test of two numbers, by what it says
same_number : (a b : ℕ) → Parts (eqb a b) (a ≡ b) (a ≡ b → ⊥)
same_number a b = record { then = eqb-true a b; true_by = eq-eqb a b; else = eqb-false a b; false_by = ne_eqb a b }

-- all lines, in turn
module _ (text : List ℕ) (lines : List Numbered) where
  abbrev Naming : Counts → Named → Type 0
  Naming c n = Rows (name_lines text) (no_names lines) (names_part c lines) n

  abbrev InTurn : SheetFault → Type 0
  InTurn f =
      ContentsFaulty lines f ⊎ ((c : Counts) × ContentsLawful lines c
      × (((length lines ≡ announced c) × (Topmost (name_lines text) (no_names lines) (names_part c lines) f
      ⊎ ((places : List Place) × ((n : Named) × Naming c n × (n.places ≡ places)) × RestFaulty text lines c places f)))
      ⊎ ((length lines ≡ announced c → ⊥) × (f ≡ fault.LineCount (length lines)))))

  faulty_in_rest : (f : SheetFault) (c : Counts) (n : Named) → Counted lines c → Naming c n → RestFaulty text lines c n.places f → SheetFaulty text lines f
  faulty_in_rest f c n k ns (inl top) = in_loads c n k ns top
  faulty_in_rest f c n k ns (inr (ls, loads, inl top)) = in_rules c n ls k ns loads top
  faulty_in_rest f c n k ns (inr (ls, loads, inr (rs, rules, inl top))) = in_relays c n ls rs k ns loads rules top
  faulty_in_rest f c n k ns (inr (ls, loads, inr (rs, rules, inr (ys, relays, z)))) = absurd z

  faulty_in_turn : (f : SheetFault) → InTurn f → SheetFaulty text lines f
  faulty_in_turn f (inl b) = in_contents b
  faulty_in_turn f (inr (c, k, inl (e, inl top))) = in_names c (record { contents = k; count = e }) top
  faulty_in_turn f (inr (c, k, inl (e, inr (places, (n, ns, is), rest)))) =
      faulty_in_rest f c n (record { contents = k; count = e }) ns (subst (λ p. RestFaulty text lines c p f) (sym is) rest)
  faulty_in_turn f (inr (c, k, inr (differ, is))) = in_count c k differ is

  counted_in_turn : (f : SheetFault) (c : Counts) (n : Named) → Counted lines c → Naming c n → RestFaulty text lines c n.places f → InTurn f
  counted_in_turn f c n k ns rest = inr (c, k.contents, inl (k.count, inr (n.places, (n, ns, refl), rest)))

  in_turn : (f : SheetFault) → SheetFaulty text lines f → InTurn f
  in_turn f (in_contents b) = inl b
  in_turn f (in_count c k differ is) = inr (c, k, inr (differ, is))
  in_turn f (in_names c k top) = inr (c, k.contents, inl (k.count, inl top))
  in_turn f (in_loads c n k ns top) = counted_in_turn f c n k ns (inl top)
  in_turn f (in_rules c n ls k ns loads top) = counted_in_turn f c n k ns (inr (ls, loads, inl top))
  in_turn f (in_relays c n ls rs k ns loads rules top) = counted_in_turn f c n k ns (inr (ls, loads, inr (rs, rules, inl top)))

  abbrev LinesLawful : Table → Type 0
  LinesLawful table =
      (c : Counts) × ContentsLawful lines c
      × (((length lines ≡ announced c) × ((places : List Place) × ((n : Named) × Naming c n × (n.places ≡ places)) × RestLawful text lines c places table))
      ⊎ ((length lines ≡ announced c → ⊥) × ⊥))

  pub lines_tell : Tells (lines_read text lines) LinesLawful (SheetFaulty text lines)
  lines_tell =
      tells_like (tells_onward _ _ (contents_tell lines) (λ c.
      tells_cond (eqb (length lines) (announced c)) (same_number (length lines) (announced c))
      (λ _. tells_onward _ _ (rows_tell (name_lines text) (λ n. n.places) (λ n ls. names_read text n.from n.places ls) (λ x. refl) (λ x l ls. refl) (no_names lines) (names_part c lines)) (rest_tells text lines c))
      (λ _. tells_err (fault.LineCount (length lines)))))
      (λ x l. l) (λ x l. l) faulty_in_turn in_turn
