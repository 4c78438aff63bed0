-- The lines that the bench prints.
use Rattle.std.specs.Prelude.{ℕ, cond, List, [], ◌∷◌, ◌++◌, length, codes}
use Rattle.std.specs.Fmt.{decimal}
use Rattle.std.specs.List.{flat_map, range_with_len}
use Rattle.atoms.specs.Sets.{has}
use Rattle.atoms.specs.Bounded.{state_of, state_word}
use Rattle.atoms.specs.declared.bounds.Bounds.{Bounds}
use Rattle.faults.specs.Faults.{bench_told, told_text}
use Rattle.faults.specs.declared.BenchFault.{BenchFault}
use Rattle.tables.specs.declared.table.Table.{Table}
use Rattle.text.specs.Names.{part_of}
use Rattle.sheet.specs.Reads.{place_of}

-- A line ends with a newline.
abbrev pub newline : List ℕ
newline = 10 ∷ []

-- The name of an atom, as the text has it.
abbrev pub name : List ℕ → Table → ℕ → List ℕ
name text t i = part_of text (place_of t i)

-- What f gives of each atom below a width, one after another in the order of the atoms.
abbrev pub for_each : (ℕ → List ℕ) → ℕ → List ℕ
for_each f width = flat_map f (range_with_len 0 width)

-- The line of an atom's state: its name, a space, and `on`, `off` or `open`.
abbrev pub state_line : List ℕ → Table → Bounds → ℕ → List ℕ
state_line text t b i = name text t i ++ (codes " " ++ state_word (state_of b i) ++ newline)

-- The lines of the states of all atoms.
abbrev pub state_lines : List ℕ → Table → Bounds → List ℕ
state_lines text t b = for_each (state_line text t b) t.width

-- What the line of a standing says of an atom: a space and its name where it is on, and else nothing.
abbrev pub name_if_on : List ℕ → Table → ℕ → ℕ → List ℕ
name_if_on text t z i = cond (has z i) (codes " " ++ name text t i) []

-- The line of a standing: `standing`, and the name of each atom that is on.
abbrev pub standing_line : List ℕ → Table → ℕ → List ℕ
standing_line text t z = codes "standing" ++ for_each (name_if_on text t z) t.width ++ newline

-- The line of how many standings there are.
abbrev pub total_line : ℕ → List ℕ
total_line n = codes "total " ++ decimal n ++ newline

-- The lines of some standings, one after another, and of how many they are.
abbrev pub listing_lines : List ℕ → Table → List ℕ → List ℕ
listing_lines text t zs = flat_map (standing_line text t) zs ++ total_line (length zs)

-- The line of a refusal: `refused`, and what is told of the fault.
abbrev pub refusal_line : BenchFault → List ℕ
refusal_line fault = codes "refused " ++ told_text (bench_told fault) ++ newline
