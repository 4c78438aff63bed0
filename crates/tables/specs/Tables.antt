-- The record of a sheet, as the lists that it holds.
use Rattle.std.specs.Prelude.{ℕ, false, List, [], ℤ, pos}
use Rattle.tables.specs.declared.table.Place.{Place}
use Rattle.tables.specs.declared.table.Comparison.{Comparison}
use Rattle.tables.specs.declared.table.Comparison.TheVariants as comparison
use Rattle.tables.specs.declared.table.Kind.{Kind}
use Rattle.tables.specs.declared.table.Kind.TheVariants as kind
use Rattle.tables.specs.declared.table.Entry.{Entry}
use Rattle.tables.specs.declared.table.Aggregate.{Aggregate}
use Rattle.tables.specs.declared.table.Item.{Item}
use Rattle.tables.specs.declared.table.Item.TheVariants as item
use Rattle.tables.specs.declared.table.Rule.{Rule}
use Rattle.tables.specs.declared.table.RelayLine.{RelayLine}
use Rattle.tables.specs.declared.table.Table.{Table}
use Rattle.tables.specs.Rows.{laid}

-- A row of names that is not in use.
abbrev pub zero_place : Place
zero_place = record { from = 0; len = 0 }

-- A row of entries that is not in use.
abbrev pub zero_entry : Entry
zero_entry = record { weight = pos 0; atom = 0; negated = false }

-- A row of items that is not in use.
abbrev pub zero_item : Item
zero_item = item.Atom 0

-- An aggregate with these entries, in this order.
abbrev pub aggregate_of : Kind → Comparison → ℤ → List Entry → Aggregate
aggregate_of kind comparison limit entries = record { kind = kind; comparison = comparison; limit = limit; entries = laid 16 zero_entry entries }

-- A rule with these items, in this order.
abbrev pub rule_of : ℕ → List Item → Rule
rule_of head items = record { head = head; items = laid 16 zero_item items }

-- A relay line with these attackers, in this order.
abbrev pub relay_of : ℕ → List ℕ → RelayLine
relay_of atom attackers = record { atom = atom; attackers = laid 64 0 attackers }

-- A row of aggregates that is not in use.
abbrev pub zero_aggregate : Aggregate
zero_aggregate = aggregate_of kind.Sum comparison.AtMost (pos 0) []

-- A row of rules that is not in use.
abbrev pub zero_rule : Rule
zero_rule = rule_of 0 []

-- A row of relay lines that is not in use.
abbrev pub zero_relay : RelayLine
zero_relay = relay_of 0 []

-- The table of a sheet with these names, aggregates, rules and relay lines, each in the sheet's order.
abbrev pub table_of : ℕ → List Place → List Aggregate → List Rule → List RelayLine → Table
table_of width names aggregates rules relays = record {
  width = width;
  names = laid 64 zero_place names;
  aggregates = laid 32 zero_aggregate aggregates;
  rules = laid 128 zero_rule rules;
  relays = laid 64 zero_relay relays;
}
