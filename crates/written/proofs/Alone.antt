-- A text writes at most one lawful sheet: its names are read off the lines, and the rest off the table.
use Rattle.std.proofs.Common.{◌≡◌, ℕ, List, [], ◌∷◌, map, length, take, drop, Ok, sym, refl, ap, ◌∙◌}
use Rattle.std.proofs.lemmas.List.{take_at, length-map}
use Rattle.tables.specs.declared.table.Aggregate.{Aggregate}
use Rattle.tables.specs.declared.table.Rule.{Rule}
use Rattle.tables.specs.declared.table.RelayLine.{RelayLine}
use Rattle.tables.specs.declared.table.Table.{Table}
use Rattle.tables.specs.Rows.{in_use}
use Rattle.tables.specs.Tables.{zero_entry, zero_item, zero_aggregate, zero_rule, zero_relay}
use Rattle.tables.proofs.Laid.{in_use_laid}
use Rattle.text.specs.Lines.{pieces}
use Rattle.grammar.specs.Verdicts.{verdict}
use Rattle.written.specs.Sheets.{Sheet, LoadLine, RuleLine, RelayRow, LawfulSheet}
use Rattle.written.specs.Writing.{Word, spaced, sheet_lines, load_row, rule_row, relay_row, written, table_for}
use Rattle.written.specs.Accepts.{Writes, OneSheet}
use Rattle.written.proofs.Pieces.{words_text}
use Rattle.written.proofs.Places.{single}
use Rattle.written.proofs.Whole.{spaced_single}
use Rattle.written.proofs.Good.{sheet_good}
use Rattle.written.proofs.Accepts.{accepts}

-- a row as the line that it is of
abbrev load_line : Aggregate → LoadLine
load_line a = record { kind = a.kind; comparison = a.comparison; limit = a.limit; entries = in_use 16 a.entries }

abbrev rule_line : Rule → RuleLine
rule_line r = record { head = r.head; items = in_use 16 r.items }

abbrev relay_line : RelayLine → RelayRow
relay_line r = record { atom = r.atom; attackers = in_use 64 r.attackers }

map_back : {X Y : Type 0} (f : X → Y) (g : Y → X) → ((x : X) → g (f x) ≡ x) → (xs : List X) → map g (map f xs) ≡ xs
map_back f g back [] = refl
map_back f g back (x ∷ xs) = (λ i. back x i ∷ map_back f g back xs i)

module _ (sheet : Sheet) where
  loads_held : map load_line (in_use 32 (table_for sheet).aggregates) ≡ sheet.loads
  loads_held =
      ap (map load_line) (in_use_laid 32 zero_aggregate (map load_row sheet.loads))
      ∙ map_back load_row load_line (λ x i. record { kind = x.kind; comparison = x.comparison; limit = x.limit; entries = in_use_laid 16 zero_entry x.entries i }) sheet.loads

  rules_held : map rule_line (in_use 128 (table_for sheet).rules) ≡ sheet.rules
  rules_held =
      ap (map rule_line) (in_use_laid 128 zero_rule (map rule_row sheet.rules))
      ∙ map_back rule_row rule_line (λ x i. record { head = x.head; items = in_use_laid 16 zero_item x.items i }) sheet.rules

  relays_held : map relay_line (in_use 64 (table_for sheet).relays) ≡ sheet.relays
  relays_held =
      ap (map relay_line) (in_use_laid 64 zero_relay (map relay_row sheet.relays))
      ∙ map_back relay_row relay_line (λ x i. record { atom = x.atom; attackers = in_use_laid 64 0 x.attackers i }) sheet.relays

  names_held : map spaced (take (table_for sheet).width (drop 4 (sheet_lines sheet))) ≡ sheet.names
  names_held = ap (map spaced) (take_at (map single sheet.names) _ (length sheet.names) (length-map sheet.names single)) ∙ spaced_single sheet.names

module _ (text : List ℕ) (t u : Table) (one : Writes text t) (other : Writes text u) where
  same_table : table_for one.sheet ≡ table_for other.sheet
  same_table =
      let a : verdict text ≡ Ok t = (accepts text t).1 one in
      let b : verdict text ≡ Ok u = (accepts text u).1 other in
      let same : t ≡ u = cc in
      one.filled ∙ same ∙ sym other.filled

  spelt : (sheet : Sheet) → LawfulSheet sheet → written sheet ≡ text → sheet_lines sheet ≡ map (pieces 32) (pieces 10 text)
  spelt sheet h e = sym (words_text (sheet_lines sheet) (sheet_good sheet h)) ∙ ap (λ l. map (pieces 32) (pieces 10 l)) e

  same_lines : sheet_lines one.sheet ≡ sheet_lines other.sheet
  same_lines = spelt one.sheet one.lawful one.is ∙ sym (spelt other.sheet other.lawful other.is)

  -- what is held in table and lines alike
  held : {X : Type 0} (from : Table → List (List Word) → X) (part : Sheet → X) → ((sheet : Sheet) → from (table_for sheet) (sheet_lines sheet) ≡ part sheet) → part one.sheet ≡ part other.sheet
  held from part is = sym (is one.sheet) ∙ (λ i. from (same_table i) (same_lines i)) ∙ is other.sheet

  same_sheet : one.sheet ≡ other.sheet
  same_sheet =
      (λ i. record {
        names = held (λ t lines. map spaced (take t.width (drop 4 lines))) (λ s. s.names) names_held i;
        loads = held (λ t _. map load_line (in_use 32 t.aggregates)) (λ s. s.loads) loads_held i;
        rules = held (λ t _. map rule_line (in_use 128 t.rules)) (λ s. s.rules) rules_held i;
        relays = held (λ t _. map relay_line (in_use 64 t.relays)) (λ s. s.relays) relays_held i;
      })

pub one_sheet : OneSheet
one_sheet = same_sheet
