-- The lines of a text are read into a table just where they are those of a lawful sheet that has this table.
use Rattle.std.proofs.Common.{◌≡◌, ℕ, suc, ◌+◌, ◌≤◌, eqb, List, [], ◌∷◌, ◌++◌, map, length, take, drop, Ok, Result, sym, refl, ap, ◌∙◌, subst, add-zero, arith}
use Rattle.std.specs.List.{AllByRecursion}
use Rattle.std.proofs.ByRecursion.{All-take, All-drop}
use Rattle.std.proofs.lemmas.List.{map-append, map-id, append_assoc, length-append, length-map, length-take, length-drop, length_push, take-append-drop, take_all, take-map, drop-map, drop_at}
use Rattle.std.proofs.lemmas.Bool.{cond-true, eq-eqb, eqb-true}
use Rattle.faults.specs.declared.SheetFault.{SheetFault}
use Rattle.faults.specs.declared.SheetFault.TheVariants as fault
use Rattle.tables.specs.declared.table.Place.{Place}
use Rattle.tables.specs.declared.table.Table.{Table}
use Rattle.tables.specs.Tables.{table_of}
use Rattle.text.specs.Lines.{Numbered}
use Rattle.text.specs.Names.{names_of}
use Rattle.grammar.specs.Verdicts.{Counts, announced, onward, rows_read, load_read, rule_read, relay_read, past_lines, names_read, rest_read, bodies_read, contents_read, lines_read}
use Rattle.written.specs.Sheets.{Sheet, LoadLine, RuleLine, RelayRow, LawfulName, LawfulLoad, LawfulRule, LawfulRelay, LawfulSheet, NoneTwice}
use Rattle.written.specs.Writing.{Word, spaced, ended, text_of, places_from, load_words, rule_words, relay_words, load_row, rule_row, relay_row, contents_words, sheet_lines, table_for}
use Rattle.written.proofs.Results.{onward_ok, onward_from, cond_ok}
use Rattle.written.proofs.Rows.{words, once_of_follow, follow_of_once}
use Rattle.written.proofs.Sections.{loads_told, rules_told, relays_told, loads_tell, rules_tell, relays_tell}
use Rattle.written.proofs.Places.{bytes_of, Spaced, single, Before, names_at, names_told, names_tell}
use Rattle.written.proofs.Contents.{counts_of, count_lines, Counted, contents_told, contents_tell, parts_whole, Parts, parts_of}

-- ---- lines, their words and their bytes

ended_append : (stop : ℕ) (xs ys : List (List ℕ)) → ended stop (xs ++ ys) ≡ ended stop xs ++ ended stop ys
ended_append stop [] ys = refl
ended_append stop (x ∷ xs) ys = ap (λ l. (x ++ stop ∷ []) ++ l) (ended_append stop xs ys) ∙ sym (append_assoc (x ++ stop ∷ []) (ended stop xs) (ended stop ys))

past_length : (from : ℕ) (lines : List Numbered) → past_lines from lines ≡ from + length (ended 10 (map bytes_of lines))
past_length from [] = sym (add-zero from)
past_length from (line ∷ lines) =
    past_length (from + (length line.bytes + 1)) lines
    ∙ omega (arith, length-append (line.bytes ++ 10 ∷ []) (ended 10 (map bytes_of lines)), length_push line.bytes 10)

pub spaced_bytes : (lines : List Numbered) → AllByRecursion Spaced lines → map spaced (map words lines) ≡ map bytes_of lines
spaced_bytes [] h = refl
spaced_bytes (line ∷ lines) h = (λ i. h.0 i ∷ spaced_bytes lines h.1 i)

pub spaced_single : (names : List Word) → map spaced (map single names) ≡ names
spaced_single [] = refl
spaced_single (n ∷ names) = ap (λ l. n ∷ l) (spaced_single names)

length_places : (from : ℕ) (names : List Word) → length (places_from from names) ≡ length names
length_places from [] = refl
length_places from (n ∷ names) = ap suc (length_places (from + (length n + 1)) names)

map_parts : {A B : Type 0} (f : A → B) (a b c d e : List A) → map f a ++ (map f b ++ (map f c ++ (map f d ++ map f e))) ≡ map f (a ++ (b ++ (c ++ (d ++ e))))
map_parts f a b c d e = simp map-append

same_length : {X : Type 0} (spell : X → List Word) (xs : List X) (lines : List Numbered) → map spell xs ≡ map words lines → length xs ≡ length lines
same_length spell xs lines e = sym (length-map xs spell) ∙ ap length e ∙ length-map lines words

-- ---- what stands below the names, by the names

abbrev rest_by : List Word → Counts → List Place → List Numbered → Result Table SheetFault
rest_by names c places lines =
    onward (rows_read (load_read names) [] (take c.loads lines)) (λ loads.
    onward (rows_read (rule_read names c.loads) [] (take c.rules (drop c.loads lines))) (λ rules.
    onward (rows_read (relay_read names) [] (drop (c.loads + c.rules) lines)) (λ relays.
    Ok (table_of c.marks places loads rules relays))))

record RestOf (names : List Word) (c : Counts) (places : List Place) (lines : List Numbered) (t : Table) : Type 0 where
  loads : List LoadLine
  rules : List RuleLine
  relays : List RelayRow
  loads_spelt : map (load_words names) loads ≡ map words (take c.loads lines)
  rules_spelt : map (rule_words names) rules ≡ map words (take c.rules (drop c.loads lines))
  relays_spelt : map (relay_words names) relays ≡ map words (drop (c.loads + c.rules) lines)
  loads_lawful : AllByRecursion (LawfulLoad (length names)) loads
  rules_lawful : AllByRecursion (LawfulRule (length names) c.loads) rules
  relays_lawful : AllByRecursion (LawfulRelay (length names)) relays
  relays_differ : NoneTwice (map (λ x. x.atom) relays)
  filled : table_of c.marks places (map load_row loads) (map rule_row rules) (map relay_row relays) ≡ t

rest_told : (names : List Word) (c : Counts) (places : List Place) (lines : List Numbered) (t : Table) → rest_by names c places lines ≡ Ok t → RestOf names c places lines t
rest_told names c places lines t e =
    let l = onward_ok (rows_read (load_read names) [] (take c.loads lines)) _ t e in
    let r = onward_ok (rows_read (rule_read names c.loads) [] (take c.rules (drop c.loads lines))) _ t l.2 in
    let y = onward_ok (rows_read (relay_read names) [] (drop (c.loads + c.rules) lines)) _ t r.2 in
    let loads = loads_told names (take c.loads lines) l.0 l.1 in
    let rules = rules_told names c.loads (take c.rules (drop c.loads lines)) r.0 r.1 in
    let relays = relays_told names (drop (c.loads + c.rules) lines) y.0 y.1 in
    record {
      loads = loads.0;
      rules = rules.0;
      relays = relays.0;
      loads_spelt = loads.1;
      rules_spelt = rules.1;
      relays_spelt = relays.1;
      loads_lawful = loads.2;
      rules_lawful = rules.2;
      relays_lawful = relays.2;
      relays_differ = relays.3;
      filled = (λ i. table_of c.marks places (loads.3 i) (rules.3 i) (relays.4 i)) ∙ cc y.2;
    }

-- a lawful sheet that has the words of lines and fills a table
pub record SheetOf (lines : List Numbered) (t : Table) : Type 0 where
  pub sheet : Sheet
  pub lawful : LawfulSheet sheet
  pub spelt : sheet_lines sheet ≡ map words lines
  pub filled : table_for sheet ≡ t

module _ (text : List ℕ) (lines : List Numbered) (laid : ended 10 (map bytes_of lines) ≡ text) (spaces : AllByRecursion Spaced lines) where
  -- where the names begin
  abbrev begin : ℕ
  begin = past_lines 0 (take 4 lines)

  begin_length : (heads : List (List Word)) → heads ≡ map words (take 4 lines) → length (text_of heads) ≡ begin
  begin_length heads e =
      ap (λ h. length (ended 10 h)) (ap (map spaced) e ∙ spaced_bytes (take 4 lines) (All-take Spaced 4 lines spaces))
      ∙ sym (past_length 0 (take 4 lines) ∙ omega arith)

  module _ (m : ℕ) where
    abbrev name_lines : List Numbered
    name_lines = take m (drop 4 lines)

    abbrev after_names : List ℕ
    after_names = ended 10 (map bytes_of (drop m (drop 4 lines)))

    cut : (n : ℕ) (ls : List Numbered) → ended 10 (map bytes_of ls) ≡ ended 10 (map bytes_of (take n ls)) ++ ended 10 (map bytes_of (drop n ls))
    cut n ls =
        ap (λ l. ended 10 (map bytes_of l)) (sym (take-append-drop n ls)) ∙ ap (ended 10) (map-append bytes_of (take n ls) (drop n ls))
        ∙ ended_append 10 (map bytes_of (take n ls)) (map bytes_of (drop n ls))

    names_begin : drop begin text ≡ ended 10 (map bytes_of name_lines) ++ after_names
    names_begin =
        ap (drop begin) (sym laid ∙ cut 4 lines)
        ∙ drop_at (ended 10 (map bytes_of (take 4 lines))) _ begin (sym (past_length 0 (take 4 lines) ∙ omega arith))
        ∙ cut m (drop 4 lines)

    first_names : m ≤ 64 → Before text begin [] [] name_lines after_names
    first_names few = record {
      named = refl;
      few = omega (arith, length-take m (drop 4 lines));
      left = names_begin;
      spaces = All-take Spaced m (drop 4 lines) (All-drop Spaced 4 lines spaces);
    }

    -- the names at their places are the names that the lines write
    names_known : (names : List Word) → map single names ≡ map words name_lines → AllByRecursion LawfulName names → m ≤ 64 → names_of text (take 64 (places_from begin names)) ≡ names
    names_known names e lawful few =
        let here : map bytes_of name_lines ≡ names = sym (spaced_bytes name_lines (All-take Spaced m (drop 4 lines) (All-drop Spaced 4 lines spaces))) ∙ ap (map spaced) (sym e) ∙ spaced_single names in
        let short : length names ≤ 64 = omega (arith, same_length single names name_lines e, length-take m (drop 4 lines)) in
        ap (names_of text) (take_all 64 (places_from begin names) (omega (arith, length_places begin names)))
        ∙ names_at text begin names after_names lawful (names_begin ∙ ap (λ l. ended 10 l ++ after_names) here)

  -- ---- from lines to a sheet

  module _ (t : Table) (c : Counts) (heads : count_lines c ≡ map words (take 4 lines)) (h : Counted c) (size : length lines ≡ announced c) where
    abbrev rest : List Numbered
    rest = drop (4 + c.marks) lines

    assembled : (names : List Word) → map single names ≡ map words (name_lines c.marks) → AllByRecursion LawfulName names → NoneTwice names → RestOf names c (places_from begin names) rest t → SheetOf lines t
    assembled names spelt lawful once below =
        let marks : length names ≡ c.marks = same_length single names _ spelt ∙ length-take c.marks (drop 4 lines) ∙ omega (arith, length-drop 4 lines) in
        let left : length rest ≡ c.loads + c.rules + c.relays = length-drop (4 + c.marks) lines ∙ omega arith in
        let loads : length below.loads ≡ c.loads = same_length (load_words names) _ _ below.loads_spelt ∙ length-take c.loads rest ∙ omega arith in
        let rules : length below.rules ≡ c.rules = same_length (rule_words names) _ _ below.rules_spelt ∙ length-take c.rules (drop c.loads rest) ∙ omega (arith, length-drop c.loads rest) in
        let relays : length below.relays ≡ c.relays = same_length (relay_words names) _ _ below.relays_spelt ∙ length-drop (c.loads + c.rules) rest ∙ omega arith in
        let sheet : Sheet = record { names = names; loads = below.loads; rules = below.rules; relays = below.relays } in
        let same : counts_of sheet ≡ c = (λ i. record { marks = marks i; loads = loads i; rules = rules i; relays = relays i }) in
        let contents : contents_words sheet ≡ map words (take 4 lines) = ap count_lines same ∙ heads in
        let R : ℕ → Type 0 = λ n. AllByRecursion (LawfulRule (length names) n) below.rules in
        record {
          sheet = sheet;
          lawful = record {
            some_names = omega (arith, h.some_marks);
            few_names = omega (arith, h.few_marks);
            names = lawful;
            names_differ = once;
            few_loads = omega (arith, h.few_loads);
            loads = below.loads_lawful;
            few_rules = omega (arith, h.few_rules);
            rules = subst R (sym loads) below.rules_lawful;
            few_relays = omega (arith, h.few_relays);
            relays = below.relays_lawful;
            relays_differ = below.relays_differ;
          };
          spelt =
              (λ i. contents i ++ (spelt i ++ (below.loads_spelt i ++ (below.rules_spelt i ++ below.relays_spelt i))))
              ∙ map_parts words (take 4 lines) (name_lines c.marks) (take c.loads rest) (take c.rules (drop c.loads rest)) (drop (c.loads + c.rules) rest)
              ∙ ap (map words) (parts_whole c.marks c.loads c.rules lines);
          filled =
              (λ i. table_of (marks i) (places_from (begin_length (contents_words sheet) contents i) names) (map load_row below.loads) (map rule_row below.rules) (map relay_row below.relays))
              ∙ below.filled;
        }

    bodies_told : bodies_read text c lines ≡ Ok t → SheetOf lines t
    bodies_told e =
        let read = onward_ok (names_read text begin [] (name_lines c.marks)) _ t e in
        let all = names_told text begin [] [] (name_lines c.marks) (after_names c.marks) read.0 (first_names c.marks h.few_marks) read.1 in
        let once = once_of_follow LawfulName (λ x. x) all.made all.lawful in
        let known = names_known c.marks all.made all.spelt once.0 h.few_marks in
        let below : rest_by all.made c (places_from begin all.made) rest ≡ Ok t =
        ap (λ ns. rest_by ns c (places_from begin all.made) rest) (sym known)
        ∙ ap (λ places. rest_read text c places rest) all.placed ∙ read.2 in
        assembled all.made all.spelt once.0 (rw map-id at once.1) (rest_told all.made c (places_from begin all.made) rest t below)

  -- lines that are read are those of a lawful sheet
  pub lines_told : (t : Table) → lines_read text lines ≡ Ok t → SheetOf lines t
  lines_told t e =
      let read = onward_ok (contents_read lines) _ t e in
      let heads = contents_told lines read.0 read.1 in
      let sized = cond_ok (eqb (length lines) (announced read.0)) _ (fault.LineCount (length lines)) t read.2 in
      bodies_told t read.0 heads.0 heads.1 (eqb-true (length lines) (announced read.0) sized.0) sized.1

  -- ---- from a sheet to lines

  module _ (sheet : Sheet) (h : LawfulSheet sheet) (spelt : sheet_lines sheet ≡ map words lines) where
    abbrev names : List Word
    names = sheet.names

    abbrev marks : ℕ
    marks = length names

    abbrev below : List Numbered
    below = drop (4 + marks) lines

    heads : contents_words sheet ≡ map words (take 4 lines)
    heads = ap (take 4) spelt ∙ take-map words 4 lines

    counted : Counted (counts_of sheet)
    counted = record { some_marks = h.some_names; few_marks = h.few_names; few_loads = h.few_loads; few_rules = h.few_rules; few_relays = h.few_relays }

    size_of : length lines ≡ announced (counts_of sheet)
    size_of = sym (length-map lines words) ∙ ap length (sym spelt) ∙ simp (length-append, length-map) (omega arith)

    abbrev load_lines : List (List Word)
    load_lines = map (load_words names) sheet.loads

    abbrev rule_lines : List (List Word)
    rule_lines = map (rule_words names) sheet.rules

    abbrev relay_lines : List (List Word)
    relay_lines = map (relay_words names) sheet.relays

    abbrev loads : ℕ
    loads = length sheet.loads

    abbrev rules : ℕ
    rules = length sheet.rules

    parts : Parts marks loads rules (sheet_lines sheet) (map single names) load_lines rule_lines relay_lines
    parts = parts_of marks loads rules (contents_words sheet) (map single names) load_lines rule_lines relay_lines refl (length-map names single) (length-map sheet.loads (load_words names)) (length-map sheet.rules (rule_words names))

    name_words : map single names ≡ map words (name_lines marks)
    name_words =
        sym parts.second
        ∙ ap (λ l. take marks (drop 4 l)) spelt ∙ ap (take marks) (drop-map words 4 lines) ∙ take-map words marks (drop 4 lines)

    loads_words : load_lines ≡ map words (take loads below)
    loads_words =
        sym parts.third
        ∙ ap (λ l. take loads (drop (4 + marks) l)) spelt ∙ ap (take loads) (drop-map words (4 + marks) lines) ∙ take-map words loads below

    rules_words : rule_lines ≡ map words (take rules (drop loads below))
    rules_words =
        sym parts.fourth
        ∙ ap (λ l. take rules (drop loads (drop (4 + marks) l))) spelt ∙ ap (λ l. take rules (drop loads l)) (drop-map words (4 + marks) lines)
        ∙ ap (take rules) (drop-map words loads below) ∙ take-map words rules (drop loads below)

    relays_words : relay_lines ≡ map words (drop (loads + rules) below)
    relays_words =
        sym parts.fifth
        ∙ ap (λ l. drop (loads + rules) (drop (4 + marks) l)) spelt ∙ ap (drop (loads + rules)) (drop-map words (4 + marks) lines) ∙ drop-map words (loads + rules) below

    -- the lines of a lawful sheet are read into its table
    pub lines_tell : lines_read text lines ≡ Ok (table_for sheet)
    lines_tell =
        onward_from _ (counts_of sheet) _ (contents_tell lines (counts_of sheet) heads counted)
        ∙ cond-true _ _ _ (eq-eqb (length lines) (announced (counts_of sheet)) size_of)
        ∙ onward_from _ (places_from begin names) _ (names_tell text begin [] [] names (name_lines marks) (after_names marks) (first_names marks h.few_names) name_words (follow_of_once LawfulName (λ x. x) names h.names (rw map-id h.names_differ)))
        ∙ ap (λ ns. rest_by ns (counts_of sheet) (places_from begin names) below) (names_known marks names name_words h.names h.few_names)
        ∙ onward_from _ (map load_row sheet.loads) _ (loads_tell names h.names h.names_differ sheet.loads (take loads below) loads_words h.loads)
        ∙ onward_from _ (map rule_row sheet.rules) _ (rules_tell names h.names h.names_differ loads (omega (arith, h.few_loads)) sheet.rules (take rules (drop loads below)) rules_words h.rules)
        ∙ onward_from _ (map relay_row sheet.relays) _ (relays_tell names h.names h.names_differ sheet.relays (drop (loads + rules) below) relays_words h.relays h.relays_differ)
        ∙ ap (λ from. Ok (table_of marks (places_from from names) (map load_row sheet.loads) (map rule_row sheet.rules) (map relay_row sheet.relays))) (sym (begin_length (contents_words sheet) heads))
