-- A list of fixed size as the list that it holds.
use Rattle.std.specs.Prelude.{ℕ, ◌+◌, ◌-◌, Bool, cond, ◌&&◌, List, ◌++◌, length, take, replicate, nat_lt, slice_set}
use Rattle.tables.specs.declared.rows.Rows.{Rows}

-- The rows that hold exactly these items, the first ones, and zero in every other row.
unfoldable pub laid : {T : Type 0} (N : ℕ) → T → List T → Rows T N
laid N zero xs = record { count = length xs; items = xs ++ replicate (N - length xs) zero }

-- The items in use are the first ones, as many as are counted.
abbrev pub in_use : {T : Type 0} (N : ℕ) → Rows T N → List T
in_use N rows = take rows.count rows.items

-- There is room for one more where fewer rows are in use than there are (and the count itself has room).
abbrev pub has_room : {T : Type 0} (N : ℕ) → Rows T N → Bool
has_room N rows = nat_lt rows.count N && nat_lt rows.count 255

-- One more item stands in the first row that was not in use.
abbrev pub with_item : {T : Type 0} (N : ℕ) → Rows T N → T → Rows T N
with_item N rows x = record { count = rows.count + 1; items = slice_set rows.items rows.count x }

-- An item is put in where there is room, and else nothing changes.
abbrev pub pushed : {T : Type 0} (N : ℕ) → Rows T N → T → Rows T N
pushed N rows x = cond (has_room N rows) (with_item N rows x) rows
