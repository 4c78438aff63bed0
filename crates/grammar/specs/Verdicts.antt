-- The verdict on a text: the table that it fills, or its first fault.
use Rattle.std.specs.Prelude.{ℕ, ◌+◌, cond, List, [], ◌∷◌, ◌++◌, length, take, drop, Ok, Err, codes, Result, ◌==◌}
use Rattle.faults.specs.declared.SheetFault.{SheetFault}
use Rattle.faults.specs.declared.SheetFault.TheVariants as fault
use Rattle.faults.specs.declared.TextFault.{TextFault}
use Rattle.faults.specs.Faults.{at}
use Rattle.tables.specs.declared.table.Place.{Place}
use Rattle.tables.specs.declared.table.Aggregate.{Aggregate}
use Rattle.tables.specs.declared.table.Rule.{Rule}
use Rattle.tables.specs.declared.table.RelayLine.{RelayLine}
use Rattle.tables.specs.declared.table.Table.{Table}
use Rattle.tables.specs.Tables.{table_of}
use Rattle.text.specs.Lines.{Numbered, lines_of}
use Rattle.text.specs.Names.{names_of}
use Rattle.text.specs.Text.{text_verdict}
use Rattle.grammar.specs.declared.count.CountState.TheVariants as count
use Rattle.grammar.specs.declared.name.NameState.TheVariants as name
use Rattle.grammar.specs.declared.load.LoadState.TheVariants as load
use Rattle.grammar.specs.declared.rule.RuleState.TheVariants as rule
use Rattle.grammar.specs.declared.relay.RelayState.TheVariants as relay
use Rattle.grammar.specs.declared.wrong.Wrong.TheVariants as wrong
use Rattle.grammar.specs.Counts.{count_next, count_done}
use Rattle.grammar.specs.Names.{name_next, name_done}
use Rattle.grammar.specs.Loads.{load_next, load_done}
use Rattle.grammar.specs.Rules.{rule_next, rule_done}
use Rattle.grammar.specs.Relays.{relay_next, relay_done}
use Rattle.grammar.specs.Lines.{line_read}

-- What is read goes on to the next part, and a fault stays.
abbrev pub onward : {X Y : Type 0} → Result X SheetFault → (X → Result Y SheetFault) → Result Y SheetFault
onward (Ok x) go = go x
onward (Err f) go = Err f

-- Rows that lines write one after another, each read by what those before it gave.
abbrev pub rows_read : {R : Type 0} → (List R → Numbered → Result R SheetFault) → List R → List Numbered → Result (List R) SheetFault
rows_read one rows [] = Ok rows
rows_read one rows (line ∷ lines) = onward (one rows line) (λ row. rows_read one (rows ++ row ∷ []) lines)

-- How many of each there are.
pub record Counts : Type 0 where
  pub marks : ℕ
  pub loads : ℕ
  pub rules : ℕ
  pub relays : ℕ

-- How many lines the contents announce, their own four among them.
abbrev pub announced : Counts → ℕ
announced c = 4 + c.marks + c.loads + c.rules + c.relays

-- A line of the contents that is to stand first of these lines; one that is missing is a fault in column 0 of its number.
abbrev pub count_read : List ℕ → ℕ → ℕ → ℕ → List Numbered → Result ℕ SheetFault
count_read word low high number [] = Err (fault.Contents (at number 0))
count_read word low high number (line ∷ lines) = line_read (count_next word low high) count_done wrong.Contents count.Start line

-- The contents: `marks` 1 to 64, `loads` 0 to 32, `rules` 0 to 128, `relays` 0 to 64, one line each.
abbrev pub contents_read : List Numbered → Result Counts SheetFault
contents_read lines =
    onward (count_read (codes "marks") 1 64 1 lines) (λ marks.
    onward (count_read (codes "loads") 0 32 2 (drop 1 lines)) (λ loads.
    onward (count_read (codes "rules") 0 128 3 (drop 2 lines)) (λ rules.
    onward (count_read (codes "relays") 0 64 4 (drop 3 lines)) (λ relays.
    Ok (record { marks = marks; loads = loads; rules = rules; relays = relays })))))

-- The position in the text after lines: past their bytes and newlines.
abbrev pub past_lines : ℕ → List Numbered → ℕ
past_lines from [] = from
past_lines from (line ∷ lines) = past_lines (from + (length line.bytes + 1)) lines

-- The places of the names, each line beginning where the one before it ended.
abbrev pub names_read : List ℕ → ℕ → List Place → List Numbered → Result (List Place) SheetFault
names_read text from places [] = Ok places
names_read text from places (line ∷ lines) =
    onward (line_read (name_next (names_of text (take 64 places)) from) name_done wrong.Misplaced name.Start line)
    (λ place. names_read text (from + (length line.bytes + 1)) (places ++ place ∷ []) lines)

-- A load line, a rule line and a relay line, by the names of the atoms.
abbrev pub load_read : List (List ℕ) → List Aggregate → Numbered → Result Aggregate SheetFault
load_read names before line = line_read (load_next names) load_done wrong.Misplaced load.Start line

abbrev pub rule_read : List (List ℕ) → ℕ → List Rule → Numbered → Result Rule SheetFault
rule_read names loads before line = line_read (rule_next names loads) rule_done wrong.Misplaced rule.Start line

abbrev pub relay_read : List (List ℕ) → List RelayLine → Numbered → Result RelayLine SheetFault
relay_read names before line = line_read (relay_next names before) relay_done wrong.Misplaced relay.Start line

-- The lines below the names, by the names: loads, rules and relay lines.
abbrev pub rest_read : List ℕ → Counts → List Place → List Numbered → Result Table SheetFault
rest_read text c places lines =
    onward (rows_read (load_read (names_of text (take 64 places))) [] (take c.loads lines)) (λ loads.
    onward (rows_read (rule_read (names_of text (take 64 places)) c.loads) [] (take c.rules (drop c.loads lines))) (λ rules.
    onward (rows_read (relay_read (names_of text (take 64 places))) [] (drop (c.loads + c.rules) lines)) (λ relays.
    Ok (table_of c.marks places loads rules relays))))

-- The lines below the contents: the names, then the rest.
abbrev pub bodies_read : List ℕ → Counts → List Numbered → Result Table SheetFault
bodies_read text c lines =
    onward (names_read text (past_lines 0 (take 4 lines)) [] (take c.marks (drop 4 lines)))
    (λ places. rest_read text c places (drop (4 + c.marks) lines))

-- As many lines as announced, or the fault of their number.
abbrev pub counted_read : List ℕ → List Numbered → Counts → Result Table SheetFault
counted_read text lines c = cond (length lines == announced c) (bodies_read text c lines) (Err (fault.LineCount (length lines)))

-- The lines of a text that breaks no law of the text.
abbrev pub lines_read : List ℕ → List Numbered → Result Table SheetFault
lines_read text lines = onward (contents_read lines) (counted_read text lines)

-- A fault of the text comes first.
abbrev pub after_text : Result (Unit {0}) TextFault → Result Table SheetFault → Result Table SheetFault
after_text (Ok u) next = next
after_text (Err f) next = Err (fault.Text f)

-- The verdict on a text.
abbrev pub verdict : List ℕ → Result Table SheetFault
verdict text = after_text (text_verdict text) (lines_read text (lines_of text))
