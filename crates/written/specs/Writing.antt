-- The text that writes a sheet, and the table that the sheet fills.
use Rattle.std.specs.Prelude.{ℕ, ◌+◌, Bool, true, false, List, [], ◌∷◌, ◌++◌, map, length, codes, decimal, slice_index_or}
use Rattle.std.specs.Fmt.{signed_decimal}
use Rattle.std.specs.List.{flat_map}
use Rattle.tables.specs.declared.table.Place.{Place}
use Rattle.tables.specs.declared.table.Comparison.{Comparison}
use Rattle.tables.specs.declared.table.Comparison.TheVariants.{AtMost, AtLeast, Equal, Unequal}
use Rattle.tables.specs.declared.table.Kind.{Kind}
use Rattle.tables.specs.declared.table.Kind.TheVariants.{Sum, Count}
use Rattle.tables.specs.declared.table.Entry.{Entry}
use Rattle.tables.specs.declared.table.Aggregate as a_table
use Rattle.tables.specs.declared.table.Item.{Item}
use Rattle.tables.specs.declared.table.Item.TheVariants.{Atom, NotAtom, Aggregate}
use Rattle.tables.specs.declared.table.Rule.{Rule}
use Rattle.tables.specs.declared.table.RelayLine.{RelayLine}
use Rattle.tables.specs.declared.table.Table.{Table}
use Rattle.tables.specs.Tables.{aggregate_of, rule_of, relay_of, table_of}
use Rattle.written.specs.Sheets.{LoadLine, RuleLine, RelayRow, Sheet}

-- A word is some bytes.
abbrev pub Word : Type 0
Word = List ℕ

-- The name of an atom, by its number.
abbrev pub name_at : List Word → ℕ → Word
name_at names atom = slice_index_or names atom []

-- The word of a kind of load.
abbrev pub kind_word : Kind → Word
kind_word Sum = codes "sum"
kind_word Count = codes "count"

-- The sign of a comparison.
abbrev pub comparison_word : Comparison → Word
comparison_word AtMost = codes "<="
comparison_word AtLeast = codes ">="
comparison_word Equal = codes "="
comparison_word Unequal = codes "!="

-- The weight of an entry is written in a sum, and not in a count.
abbrev pub weight_words : Kind → Entry → List Word
weight_words Sum entry = signed_decimal entry.weight ∷ []
weight_words Count entry = []

-- The name of an atom, or `not` and the name.
abbrev pub condition_words : List Word → Bool → ℕ → List Word
condition_words names true atom = codes "not" ∷ name_at names atom ∷ []
condition_words names false atom = name_at names atom ∷ []

-- An entry of a load: its weight, then its condition.
abbrev pub entry_words : List Word → Kind → Entry → List Word
entry_words names kind entry = weight_words kind entry ++ condition_words names entry.negated entry.atom

-- A load line: kind, comparison, limit, entries.
abbrev pub load_words : List Word → LoadLine → List Word
load_words names load =
    kind_word load.kind ∷ comparison_word load.comparison ∷ signed_decimal load.limit ∷ flat_map (entry_words names load.kind) load.entries

-- An item of a rule: a name, `not` and a name, or `load` and a number.
abbrev pub item_words : List Word → Item → List Word
item_words names (Atom atom) = condition_words names false atom
item_words names (NotAtom atom) = condition_words names true atom
item_words names (Aggregate load) = codes "load" ∷ decimal load ∷ []

-- The conditions of a rule: nothing where there are none, and else `if` and the items.
abbrev pub body_words : List Word → List Item → List Word
body_words names [] = []
body_words names (item ∷ items) = codes "if" ∷ flat_map (item_words names) (item ∷ items)

-- A rule line: the head, then the conditions.
abbrev pub rule_words : List Word → RuleLine → List Word
rule_words names rule = name_at names rule.head ∷ body_words names rule.items

-- A relay line: the atom, `!`, and the attackers.
abbrev pub relay_words : List Word → RelayRow → List Word
relay_words names relay = name_at names relay.atom ∷ codes "!" ∷ map (name_at names) relay.attackers

-- The first four lines say how many there are of each.
abbrev pub contents_words : Sheet → List (List Word)
contents_words sheet =
    (codes "marks" ∷ decimal (length sheet.names) ∷ [])
    ∷ (codes "loads" ∷ decimal (length sheet.loads) ∷ [])
    ∷ (codes "rules" ∷ decimal (length sheet.rules) ∷ [])
    ∷ (codes "relays" ∷ decimal (length sheet.relays) ∷ [])
    ∷ []

-- Below them stand the names, one to a line, then the loads, the rules and the relay lines.
abbrev pub body_lines : Sheet → List (List Word)
body_lines sheet =
    map (λ name. name ∷ []) sheet.names
    ++ (map (load_words sheet.names) sheet.loads
    ++ (map (rule_words sheet.names) sheet.rules
    ++ map (relay_words sheet.names) sheet.relays))

-- The lines of a sheet.
abbrev pub sheet_lines : Sheet → List (List Word)
sheet_lines sheet = contents_words sheet ++ body_lines sheet

-- Words with one space between each two.
abbrev pub spaced : List Word → List ℕ
spaced [] = []
spaced (word ∷ []) = word
spaced (word ∷ next ∷ words) = word ++ 32 ∷ spaced (next ∷ words)

-- Pieces in a row, each followed by the byte `stop`.
abbrev pub ended : ℕ → List (List ℕ) → List ℕ
ended stop pieces = flat_map (λ piece. piece ++ stop ∷ []) pieces

-- A text is its lines, each followed by a newline.
abbrev pub text_of : List (List Word) → List ℕ
text_of lines = ended 10 (map spaced lines)

-- The text that writes a sheet.
abbrev pub written : Sheet → List ℕ
written sheet = text_of (sheet_lines sheet)

-- The places of names that stand one to a line, the first at a position of the text.
abbrev pub places_from : ℕ → List Word → List Place
places_from from [] = []
places_from from (name ∷ names) = record { from = from; len = length name } ∷ places_from (from + (length name + 1)) names

-- The row of a load: what the line says, in the order in which it says it.
abbrev pub load_row : LoadLine → a_table.Aggregate
load_row load = aggregate_of load.kind load.comparison load.limit load.entries

-- The row of a rule.
abbrev pub rule_row : RuleLine → Rule
rule_row rule = rule_of rule.head rule.items

-- The row of a relay line.
abbrev pub relay_row : RelayRow → RelayLine
relay_row relay = relay_of relay.atom relay.attackers

-- The table of a sheet: how many atoms, where their names stand in the text (the first right behind the contents), and a row for each line.
abbrev pub table_for : Sheet → Table
table_for sheet =
    table_of (length sheet.names)
    (places_from (length (text_of (contents_words sheet))) sheet.names)
    (map load_row sheet.loads)
    (map rule_row sheet.rules)
    (map relay_row sheet.relays)
