-- The sections below the names one after another, and the table that they fill.
use Rattle.std.proofs.Common.{◌≡◌, ℕ, ◌+◌, ◌≤◌, List, [], length, take, drop, Ok, Err, Result, Bor, sym, refl, ap, ◌∙◌}
use Rattle.std.proofs.lemmas.List.{take_all, drop-drop}
use Rattle.faults.specs.declared.SheetFault.{SheetFault}
use Rattle.tables.specs.declared.table.Place.{Place}
use Rattle.tables.specs.declared.table.Aggregate.{Aggregate}
use Rattle.tables.specs.declared.table.Rule.{Rule}
use Rattle.tables.specs.declared.table.RelayLine.{RelayLine}
use Rattle.tables.specs.declared.table.Table.{Table}
use Rattle.tables.specs.declared.rows.Rows.{Rows}
use Rattle.tables.specs.Rows.{laid, in_use}
use Rattle.tables.specs.Tables.{zero_place, zero_aggregate, zero_rule, zero_relay, table_of}
use Rattle.text.specs.Lines.{Numbered}
use Rattle.text.specs.Names.{names_of, parts}
use Rattle.grammar.specs.Verdicts.{onward, rows_read, load_read, rule_read, relay_read, rest_read}
use Rattle.sheet.specs.declared.contents.Contents.{Contents}
use Rattle.sheet.specs.Sections.{section_read, counts_in}
use Rattle.sheet.proofs.Reading.{rows_section}

-- the table that holds the rows
pub table_held : (width : ℕ) (names : Rows Place 64) (aggregates : Rows Aggregate 32) (rules : Rows Rule 128) (relays : Rows RelayLine 64)
    → names ≡ laid 64 zero_place (in_use 64 names) → aggregates ≡ laid 32 zero_aggregate (in_use 32 aggregates) → rules ≡ laid 128 zero_rule (in_use 128 rules) → relays ≡ laid 64 zero_relay (in_use 64 relays)
    → record { width = width; names = names; aggregates = aggregates; rules = rules; relays = relays } ≡ table_of width (in_use 64 names) (in_use 32 aggregates) (in_use 128 rules) (in_use 64 relays)
table_held width names aggregates rules relays n a r y = cc

-- a section of rows that are read by the rows above alone, with its lines as they are known
rows_of : {R : Type 0} (one : List R → Numbered → Result R SheetFault) (from : ℕ) (lines known : List Numbered) → lines ≡ known → (r : Result (List R) SheetFault)
    → section_read (λ above _. one above) [] from lines ≡ r → rows_read one [] known ≡ r
rows_of one from lines known e r is = sym (rows_section one [] from lines ∙ ap (rows_read one []) e) ∙ is

-- the names that are cut out, no more than 64
pub cut_held : (text : List ℕ) (slice places : List Place) (names cut : List (Bor (List ℕ))) → slice ≡ places → names ≡ cut → length names ≤ 64 → parts cut ≡ names_of text (take 64 slice)
    → parts (take 64 names) ≡ names_of text (take 64 places)
cut_held text slice places names cut s n few is = ap parts (take_all 64 names few ∙ n) ∙ is ∙ ap (λ (held : List Place). names_of text (take 64 held)) s

module _ (text : List ℕ) (c : Contents) (words : List (List ℕ)) (places : List Place) (w : words ≡ names_of text (take 64 places)) (left : List Numbered) where
  abbrev Loads : Result (List Aggregate) SheetFault
  Loads = rows_read (load_read words) [] (take c.loads left)

  abbrev Rules : Result (List Rule) SheetFault
  Rules = rows_read (rule_read words c.loads) [] (take c.rules (drop c.loads left))

  abbrev Relays : Result (List RelayLine) SheetFault
  Relays = rows_read (relay_read words) [] (drop (c.loads + c.rules) left)

  abbrev Rest : Result Table SheetFault
  Rest = rest_read text (counts_in c) places left

  module _ (p₀ : ℕ) where
    loads_are : (r : Result (List Aggregate) SheetFault) → section_read (λ above _. load_read words above) [] p₀ (take c.loads left) ≡ r → Loads ≡ r
    loads_are = rows_of (load_read words) p₀ (take c.loads left) (take c.loads left) refl

    pub loads_fault : (f : SheetFault) → section_read (λ above _. load_read words above) [] p₀ (take c.loads left) ≡ Err f → Err f ≡ Rest
    loads_fault f a = let l : Loads ≡ Err f = loads_are (Err f) a in rw (← w, l)

    module _ (loads : List Aggregate) (a : section_read (λ above _. load_read words above) [] p₀ (take c.loads left) ≡ Ok loads) (p₁ : ℕ) (left₁ : List Numbered) (d₁ : left₁ ≡ drop c.loads left) where
      rules_are : (r : Result (List Rule) SheetFault) → section_read (λ above _. rule_read words c.loads above) [] p₁ (take c.rules left₁) ≡ r → Rules ≡ r
      rules_are = rows_of (rule_read words c.loads) p₁ (take c.rules left₁) (take c.rules (drop c.loads left)) (ap (take c.rules) d₁)

      pub rules_fault : (f : SheetFault) → section_read (λ above _. rule_read words c.loads above) [] p₁ (take c.rules left₁) ≡ Err f → Err f ≡ Rest
      rules_fault f b = let l : Loads ≡ Ok loads = loads_are (Ok loads) a in let r : Rules ≡ Err f = rules_are (Err f) b in rw (← w, l, r)

      module _ (rules : List Rule) (b : section_read (λ above _. rule_read words c.loads above) [] p₁ (take c.rules left₁) ≡ Ok rules) (p₂ : ℕ) (left₂ : List Numbered) (d₂ : left₂ ≡ drop c.rules left₁)
          (whole : length left₂ ≤ c.relays) where
        -- the relay lines are all that is left
        all_left : take c.relays left₂ ≡ drop (c.loads + c.rules) left
        all_left = take_all c.relays left₂ whole ∙ d₂ ∙ ap (drop c.rules) d₁ ∙ drop-drop c.rules c.loads left

        relays_end : (r : Result (List RelayLine) SheetFault) → section_read (λ above _. relay_read words above) [] p₂ (take c.relays left₂) ≡ r → onward r (λ relays. Ok (table_of c.marks places loads rules relays)) ≡ Rest
        relays_end r e =
            let l : Loads ≡ Ok loads = loads_are (Ok loads) a in
            let m : Rules ≡ Ok rules = rules_are (Ok rules) b in
            let y : Relays ≡ r = rows_of (relay_read words) p₂ (take c.relays left₂) (drop (c.loads + c.rules) left) all_left r e in
            rw (← w, l, m, y)

        pub relays_fault : (f : SheetFault) → section_read (λ above _. relay_read words above) [] p₂ (take c.relays left₂) ≡ Err f → Err f ≡ Rest
        relays_fault f e = relays_end (Err f) e

        pub filled : (relays : List RelayLine) → section_read (λ above _. relay_read words above) [] p₂ (take c.relays left₂) ≡ Ok relays → Ok (table_of c.marks places loads rules relays) ≡ Rest
        filled relays e = relays_end (Ok relays) e
