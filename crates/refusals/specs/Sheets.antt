-- What is wrong with the lines of a lawful text: the contents, the number of lines, or the topmost bad line below the contents.
use Rattle.std.specs.Prelude.{◌≡◌, ℕ, ◌+◌, List, [], ◌∷◌, ◌++◌, length, take, drop, ◌≢◌}
use Rattle.faults.specs.declared.SheetFault.{SheetFault}
use Rattle.faults.specs.declared.SheetFault.TheVariants as fault
use Rattle.tables.specs.declared.table.Place.{Place}
use Rattle.tables.specs.declared.table.Aggregate.{Aggregate}
use Rattle.tables.specs.declared.table.Rule.{Rule}
use Rattle.tables.specs.declared.table.RelayLine.{RelayLine}
use Rattle.text.specs.Lines.{Numbered}
use Rattle.text.specs.Names.{names_of}
use Rattle.grammar.specs.declared.name.NameState.{NameState}
use Rattle.grammar.specs.declared.name.NameState.TheVariants as name
use Rattle.grammar.specs.declared.load.LoadState.{LoadState}
use Rattle.grammar.specs.declared.load.LoadState.TheVariants as load
use Rattle.grammar.specs.declared.rule.RuleState.{RuleState}
use Rattle.grammar.specs.declared.rule.RuleState.TheVariants as rule
use Rattle.grammar.specs.declared.relay.RelayState.{RelayState}
use Rattle.grammar.specs.declared.relay.RelayState.TheVariants as relay
use Rattle.grammar.specs.declared.wrong.Wrong.TheVariants as wrong
use Rattle.grammar.specs.Names.{name_next, name_done}
use Rattle.grammar.specs.Loads.{load_next, load_done}
use Rattle.grammar.specs.Rules.{rule_next, rule_done}
use Rattle.grammar.specs.Relays.{relay_next, relay_done}
use Rattle.grammar.specs.Verdicts.{Counts, announced, past_lines}
use Rattle.refusals.specs.Rows.{LineKind, Rows, Topmost}
use Rattle.refusals.specs.Contents.{ContentsLawful, ContentsFaulty}

-- What name lines give: the position in the text where the next line begins, and the places of the names so far.
pub record Named : Type 0 where
  pub from : ℕ
  pub places : List Place

-- The names at places, of which a sheet has no more than 64.
abbrev pub names_at : List ℕ → List Place → List (List ℕ)
names_at text places = names_of text (take 64 places)

-- A name line of a text.
abbrev pub name_lines : List ℕ → LineKind Named NameState Place
name_lines text = record {
  next = λ above. name_next (names_at text above.places) above.from;
  done = name_done;
  missing = wrong.Misplaced;
  start = name.Start;
  more = λ above line place. record { from = above.from + (length line.bytes + 1); places = above.places ++ place ∷ [] };
}

-- A load line, by the names.
abbrev pub load_lines : List (List ℕ) → LineKind (List Aggregate) LoadState Aggregate
load_lines names = record {
  next = λ above. load_next names;
  done = load_done;
  missing = wrong.Misplaced;
  start = load.Start;
  more = λ above line row. above ++ row ∷ [];
}

-- A rule line, by the names and the number of loads.
abbrev pub rule_lines : List (List ℕ) → ℕ → LineKind (List Rule) RuleState Rule
rule_lines names loads = record {
  next = λ above. rule_next names loads;
  done = rule_done;
  missing = wrong.Misplaced;
  start = rule.Start;
  more = λ above line row. above ++ row ∷ [];
}

-- A relay line, by the names and the relay lines above it.
abbrev pub relay_lines : List (List ℕ) → LineKind (List RelayLine) RelayState RelayLine
relay_lines names = record {
  next = λ above. relay_next names above;
  done = relay_done;
  missing = wrong.Misplaced;
  start = relay.Start;
  more = λ above line row. above ++ row ∷ [];
}

-- The name lines stand right below the four lines of the contents.
abbrev pub names_part : Counts → List Numbered → List Numbered
names_part c lines = take c.marks (drop 4 lines)

-- The load lines stand right below the name lines.
abbrev pub loads_part : Counts → List Numbered → List Numbered
loads_part c lines = take c.loads (drop (4 + c.marks) lines)

-- The rule lines stand right below the load lines.
abbrev pub rules_part : Counts → List Numbered → List Numbered
rules_part c lines = take c.rules (drop (4 + c.marks + c.loads) lines)

-- The relay lines are all lines below the rule lines.
abbrev pub relays_part : Counts → List Numbered → List Numbered
relays_part c lines = drop (4 + c.marks + c.loads + c.rules) lines

-- The first name line begins where the four lines of the contents end, and no name is known there.
abbrev pub no_names : List Numbered → Named
no_names lines = record { from = past_lines 0 (take 4 lines); places = [] }

-- The contents are lawful, and there are as many lines as they announce.
pub record Counted (lines : List Numbered) (c : Counts) : Type 0 where
  pub contents : ContentsLawful lines c
  pub count : length lines ≡ announced c

-- What is wrong with the lines of a lawful text: the first that holds of the contents, the number of lines, and the four parts below the contents in their order.
pub data SheetFaulty (text : List ℕ) (lines : List Numbered) (f : SheetFault) : Type 0 where
  in_contents : ContentsFaulty lines f → SheetFaulty text lines f
  in_count : (c : Counts) → ContentsLawful lines c → (length lines ≢ announced c) → f ≡ fault.LineCount (length lines) → SheetFaulty text lines f
  in_names : (c : Counts) → Counted lines c → Topmost (name_lines text) (no_names lines) (names_part c lines) f → SheetFaulty text lines f
  in_loads : (c : Counts) (n : Named) → Counted lines c → Rows (name_lines text) (no_names lines) (names_part c lines) n
      → Topmost (load_lines (names_at text n.places)) [] (loads_part c lines) f → SheetFaulty text lines f
  in_rules : (c : Counts) (n : Named) (ls : List Aggregate) → Counted lines c → Rows (name_lines text) (no_names lines) (names_part c lines) n
      → Rows (load_lines (names_at text n.places)) [] (loads_part c lines) ls
      → Topmost (rule_lines (names_at text n.places) c.loads) [] (rules_part c lines) f → SheetFaulty text lines f
  in_relays : (c : Counts) (n : Named) (ls : List Aggregate) (rs : List Rule) → Counted lines c → Rows (name_lines text) (no_names lines) (names_part c lines) n
      → Rows (load_lines (names_at text n.places)) [] (loads_part c lines) ls
      → Rows (rule_lines (names_at text n.places) c.loads) [] (rules_part c lines) rs
      → Topmost (relay_lines (names_at text n.places)) [] (relays_part c lines) f → SheetFaulty text lines f
