-- The load lines, the rule lines and the relay lines of a sheet.
use Rattle.std.proofs.Common.{◌≡◌, ℕ, ◌≤◌, List, [], map, length, Ok, sym, ap, ◌∙◌}
use Rattle.std.specs.List.{AllByRecursion}
use Rattle.tables.specs.declared.table.Aggregate.{Aggregate}
use Rattle.tables.specs.declared.table.Rule.{Rule}
use Rattle.tables.specs.declared.table.RelayLine.{RelayLine}
use Rattle.text.specs.Lines.{Numbered}
use Rattle.grammar.specs.declared.LoadState.TheVariants as load
use Rattle.grammar.specs.declared.RuleState.TheVariants as rule
use Rattle.grammar.specs.declared.RelayState.TheVariants as relay
use Rattle.grammar.specs.declared.Wrong.TheVariants as wrong
use Rattle.grammar.specs.Loads.{load_next, load_done}
use Rattle.grammar.specs.Rules.{rule_next, rule_done}
use Rattle.grammar.specs.Relays.{relay_next, relay_done}
use Rattle.grammar.specs.Verdicts.{rows_read, load_read, rule_read, relay_read}
use Rattle.written.specs.Sheets.{LoadLine, RuleLine, RelayRow, LawfulName, NoneTwice, LawfulLoad, LawfulRule, LawfulRelay}
use Rattle.written.specs.Writing.{Word, load_words, rule_words, relay_words, load_row, rule_row, relay_row}
use Rattle.written.proofs.Runs.{run, line_runs, runs_line}
use Rattle.written.proofs.Loads.{load_told, load_tells}
use Rattle.written.proofs.Rules.{rule_told, rule_tells}
use Rattle.written.proofs.Relays.{relay_told, relay_tells, no_line_told, tells_no_line}
use Rattle.written.proofs.Rows.{words, OneOf, rows_told, rows_tell, all_of_follow, follow_of_all, New, once_of_follow, follow_of_once}

module _ (names : List Word) where
  -- ---- loads

  abbrev LoadFits : LoadLine → Type 0
  LoadFits x = LawfulLoad (length names) x

  one_load : (before : List LoadLine) (line : Numbered) (r : Aggregate) → load_read names (map load_row before) line ≡ Ok r → OneOf (load_read names) (load_words names) load_row (λ _ x. LoadFits x) before line r
  one_load before line r e =
      let x = load_told names (words line) r (line_runs (load_next names) load_done wrong.Misplaced load.Start line r e) in
      (x.line, x.spelt, x.lawful, x.rowed)

  pub loads_told : (lines : List Numbered) (rows : List Aggregate) → rows_read (load_read names) [] lines ≡ Ok rows → (xs : List LoadLine) × (map (load_words names) xs ≡ map words lines) × AllByRecursion LoadFits xs × (map load_row xs ≡ rows)
  loads_told lines rows e =
      let all = rows_told (load_read names) (load_words names) load_row (λ _ x. LoadFits x) one_load [] lines rows e in
      (all.made, all.spelt, all_of_follow LoadFits all.made all.lawful, all.rowed)

  -- ---- rules

  module _ (loads : ℕ) where
    abbrev RuleFits : RuleLine → Type 0
    RuleFits x = LawfulRule (length names) loads x

    one_rule : (before : List RuleLine) (line : Numbered) (r : Rule) → rule_read names loads (map rule_row before) line ≡ Ok r → OneOf (rule_read names loads) (rule_words names) rule_row (λ _ x. RuleFits x) before line r
    one_rule before line r e =
        let x = rule_told names loads (words line) r (line_runs (rule_next names loads) rule_done wrong.Misplaced rule.Start line r e) in
        (x.line, x.spelt, x.lawful, x.rowed)

    pub rules_told : (lines : List Numbered) (rows : List Rule) → rows_read (rule_read names loads) [] lines ≡ Ok rows → (xs : List RuleLine) × (map (rule_words names) xs ≡ map words lines) × AllByRecursion RuleFits xs × (map rule_row xs ≡ rows)
    rules_told lines rows e =
        let all = rows_told (rule_read names loads) (rule_words names) rule_row (λ _ x. RuleFits x) one_rule [] lines rows e in
        (all.made, all.spelt, all_of_follow RuleFits all.made all.lawful, all.rowed)

  -- ---- relay lines

  abbrev atom_of : RelayRow → ℕ
  atom_of x = x.atom

  abbrev RelayFits : RelayRow → Type 0
  RelayFits x = LawfulRelay (length names) x

  one_relay : (before : List RelayRow) (line : Numbered) (r : RelayLine) → relay_read names (map relay_row before) line ≡ Ok r → OneOf (relay_read names) (relay_words names) relay_row (New RelayFits atom_of) before line r
  one_relay before line r e =
      let x = relay_told names (map relay_row before) (words line) r (line_runs (relay_next names (map relay_row before)) relay_done wrong.Misplaced relay.Start line r e) in
      (x.line, x.spelt, (x.lawful, no_line_told x.line.atom before x.first), x.rowed)

  pub relays_told : (lines : List Numbered) (rows : List RelayLine) → rows_read (relay_read names) [] lines ≡ Ok rows → (xs : List RelayRow) × (map (relay_words names) xs ≡ map words lines) × AllByRecursion RelayFits xs × NoneTwice (map atom_of xs) × (map relay_row xs ≡ rows)
  relays_told lines rows e =
      let all = rows_told (relay_read names) (relay_words names) relay_row (New RelayFits atom_of) one_relay [] lines rows e in
      let once = once_of_follow RelayFits atom_of all.made all.lawful in
      (all.made, all.spelt, once.0, once.1, all.rowed)

  -- ---- and back

  module _ (lawful : AllByRecursion LawfulName names) (once : NoneTwice names) where
    pub loads_tell : (xs : List LoadLine) (lines : List Numbered) → map (load_words names) xs ≡ map words lines → AllByRecursion LoadFits xs → rows_read (load_read names) [] lines ≡ Ok (map load_row xs)
    loads_tell xs lines e each =
        rows_tell (load_read names) (load_words names) load_row (λ _ x. LoadFits x)
        (λ before line x spelt h. runs_line (load_next names) load_done wrong.Misplaced load.Start line (load_row x) (ap (run (load_next names) load_done load.Start) (sym spelt) ∙ load_tells names lawful once x h))
        [] xs lines e (follow_of_all LoadFits [] xs each)

    pub rules_tell : (loads : ℕ) → loads ≤ 1000000 → (xs : List RuleLine) (lines : List Numbered) → map (rule_words names) xs ≡ map words lines → AllByRecursion (RuleFits loads) xs → rows_read (rule_read names loads) [] lines ≡ Ok (map rule_row xs)
    rules_tell loads few xs lines e each =
        rows_tell (rule_read names loads) (rule_words names) rule_row (λ _ x. RuleFits loads x)
        (λ before line x spelt h. runs_line (rule_next names loads) rule_done wrong.Misplaced rule.Start line (rule_row x) (ap (run (rule_next names loads) rule_done rule.Start) (sym spelt) ∙ rule_tells names loads lawful once few x h))
        [] xs lines e (follow_of_all (RuleFits loads) [] xs each)

    pub relays_tell : (xs : List RelayRow) (lines : List Numbered) → map (relay_words names) xs ≡ map words lines → AllByRecursion RelayFits xs → NoneTwice (map atom_of xs) → rows_read (relay_read names) [] lines ≡ Ok (map relay_row xs)
    relays_tell xs lines e each apart =
        rows_tell (relay_read names) (relay_words names) relay_row (New RelayFits atom_of)
        (λ before line x spelt h. runs_line (relay_next names (map relay_row before)) relay_done wrong.Misplaced relay.Start line (relay_row x)
        (ap (run (relay_next names (map relay_row before)) relay_done relay.Start) (sym spelt) ∙ relay_tells names (map relay_row before) lawful once x h.0 (tells_no_line x.atom before h.1)))
        [] xs lines e (follow_of_once RelayFits atom_of xs each apart)
