-- A name line: one name, lawful and not given before.
use Rattle.std.specs.Prelude.{ℕ, min, List, length, take, Some, None, Ok, Err, Option, Result}
use Rattle.tables.specs.declared.table.Place.{Place}
use Rattle.text.specs.Names.{parts, atom_among}
use Rattle.text.specs.Words.{Meaning, name_said}
use Rattle.grammar.specs.declared.names.Names.{Names}
use Rattle.grammar.specs.declared.name.NameState.{NameState}
use Rattle.grammar.specs.declared.name.NameState.TheVariants as name
use Rattle.grammar.specs.declared.wrong.Wrong.{Wrong}
use Rattle.grammar.specs.declared.wrong.Wrong.TheVariants as wrong

-- The names of the atoms: the first 64 that were cut out of a text.
unfoldable pub known : Names → List (List ℕ)
known names = parts (take 64 names.names.now)

-- The place of a name that begins at a position of the text; a name has at most 16 bytes, and a place can tell up to 255.
abbrev pub place_at : ℕ → List ℕ → Place
place_at from name = record { from = from; len = min 255 (length name) }

-- A name that no atom has yet gets its place.
abbrev pub new_name : ℕ → List ℕ → Option ℕ → Result NameState Wrong
new_name from bytes None = Ok (name.Named (place_at from bytes))
new_name from bytes (Some atom) = Err wrong.BadName

-- A word where a name must stand.
abbrev pub named : List (List ℕ) → ℕ → Option (List ℕ) → Result NameState Wrong
named names from None = Err wrong.BadName
named names from (Some bytes) = new_name from bytes (atom_among 0 names bytes)

-- First a new name, then nothing; the line begins at a position of the text.
abbrev pub name_next : List (List ℕ) → ℕ → NameState → Meaning → Result NameState Wrong
name_next names from name.Start m = named names from (name_said m)
name_next names from (name.Named place) m = Err wrong.Misplaced

-- The line may end after the name.
abbrev pub name_done : NameState → Option Place
name_done name.Start = None
name_done (name.Named place) = Some place
