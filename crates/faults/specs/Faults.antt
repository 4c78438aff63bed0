-- The table of the faults: each one's number, layer and spot.
use Rattle.std.specs.Prelude.{List, ℕ, ◌++◌, codes}
use Rattle.std.specs.Fmt.{decimal}
use Rattle.faults.specs.declared.Spot.{Spot}
use Rattle.faults.specs.declared.Layer.{Layer}
use Rattle.faults.specs.declared.Layer.TheVariants as layer
use Rattle.faults.specs.declared.Told.{Told}
use Rattle.faults.specs.declared.TextFault.{TextFault}
use Rattle.faults.specs.declared.TextFault.TheVariants as text
use Rattle.faults.specs.declared.SheetFault.{SheetFault}
use Rattle.faults.specs.declared.SheetFault.TheVariants as sheet
use Rattle.faults.specs.declared.BenchFault.{BenchFault}
use Rattle.faults.specs.declared.BenchFault.TheVariants as bench

-- A spot is a line and a column.
abbrev pub at : ℕ → ℕ → Spot
at line column = record { line = line; column = column }

-- A fault with a number, a layer and a spot.
abbrev pub telling : ℕ → Layer → Spot → Told
telling number layer spot = record { number = number; layer = layer; spot = spot }

-- Faults 1 to 4 are found in the text, and the first two stand nowhere in it.
abbrev pub text_told : TextFault → Told
text_told text.TooLong = telling 1 layer.Text (at 0 0)
text_told text.NoEnd = telling 2 layer.Text (at 0 0)
text_told (text.BadByte spot) = telling 3 layer.Text spot
text_told (text.Spacing spot) = telling 4 layer.Text spot

-- Faults 5 to 11 are found in the sheet; a wrong number of lines stands at that number; a fault of the text stays what it is.
abbrev pub sheet_told : SheetFault → Told
sheet_told (sheet.Text fault) = text_told fault
sheet_told (sheet.Contents spot) = telling 5 layer.Sheet spot
sheet_told (sheet.LineCount lines) = telling 6 layer.Sheet (at lines 0)
sheet_told (sheet.BadName spot) = telling 7 layer.Sheet spot
sheet_told (sheet.NotAName spot) = telling 8 layer.Sheet spot
sheet_told (sheet.Misplaced spot) = telling 9 layer.Sheet spot
sheet_told (sheet.BadNumber spot) = telling 10 layer.Sheet spot
sheet_told (sheet.SecondLine spot) = telling 11 layer.Sheet spot

-- Faults 13 to 19 are found by the bench; a berth's width, an atom, or how many atoms or pegs there are, is told as a column; a fault of the sheet stays what it is.
abbrev pub bench_told : BenchFault → Told
bench_told (bench.Sheet fault) = sheet_told fault
bench_told (bench.BerthTooWide width) = telling 13 layer.Bench (at 0 width)
bench_told bench.Crossed = telling 14 layer.Bench (at 0 0)
bench_told (bench.TooManyOpen count) = telling 15 layer.Bench (at 0 count)
bench_told (bench.NoSuchAtom atom) = telling 16 layer.Bench (at 0 atom)
bench_told (bench.Pegged atom) = telling 17 layer.Bench (at 0 atom)
bench_told (bench.NotInForce atom) = telling 18 layer.Bench (at 0 atom)
bench_told (bench.PegsInForce count) = telling 19 layer.Bench (at 0 count)

-- Each layer's word, as its bytes.
abbrev pub layer_name : Layer → List ℕ
layer_name layer.Text = codes "text"
layer_name layer.Sheet = codes "sheet"
layer_name layer.Bench = codes "bench"

-- What is printed of a fault: its number, its layer's word, its line and its column, with one space between.
abbrev pub told_text : Told → List ℕ
told_text told =
    decimal told.number ++ codes " " ++ layer_name told.layer ++ codes " " ++ decimal told.spot.line ++ codes " " ++ decimal told.spot.column
