-- A relay line: an atom that has none yet, `!`, and its attackers.
use Rattle.std.specs.Prelude.{ℕ, Bool, false, cond, ◌||◌, List, [], ◌∷◌, Some, None, Ok, Err, Option, Result, ◌==◌}
use Rattle.tables.specs.declared.table.RelayLine.{RelayLine}
use Rattle.tables.specs.Rows.{has_room, pushed}
use Rattle.tables.specs.Tables.{relay_of}
use Rattle.text.specs.Words.{Meaning, key_said}
use Rattle.grammar.specs.declared.relay.RelayState.{RelayState}
use Rattle.grammar.specs.declared.relay.RelayState.TheVariants as relay
use Rattle.grammar.specs.declared.wrong.Wrong.{Wrong}
use Rattle.grammar.specs.declared.wrong.Wrong.TheVariants as wrong
use Rattle.grammar.specs.Said.{atom_said, is_bang}
use Rattle.grammar.specs.Wrongs.{or_wrong}

-- Whether an atom has one of these lines.
abbrev pub has_line : ℕ → List RelayLine → Bool
has_line atom [] = false
has_line atom (line ∷ lines) = line.atom == atom || has_line atom lines

-- An atom whose line this is to be.
abbrev pub first_line : List RelayLine → Option ℕ → Result RelayState Wrong
first_line lines None = Err wrong.NotAName
first_line lines (Some atom) = cond (has_line atom lines) (Err wrong.SecondLine) (Ok (relay.Named atom))

-- The relay line with one attacker more.
abbrev pub with_attacker : RelayLine → ℕ → RelayLine
with_attacker r atom = record { atom = r.atom; attackers = pushed 64 r.attackers atom }

-- First an atom with no line yet, then `!`, then up to 64 attackers.
abbrev pub relay_next : List (List ℕ) → List RelayLine → RelayState → Meaning → Result RelayState Wrong
relay_next names lines relay.Start m = first_line lines (atom_said names m)
relay_next names lines (relay.Named atom) m = cond (is_bang (key_said m)) (Ok (relay.Attackers (relay_of atom []))) (Err wrong.Misplaced)
relay_next names lines (relay.Attackers r) m = cond (has_room 64 r.attackers) (or_wrong (atom_said names m) wrong.NotAName (λ atom. relay.Attackers (with_attacker r atom))) (Err wrong.Misplaced)

-- The line may end after `!` and after each attacker.
abbrev pub relay_done : RelayState → Option RelayLine
relay_done relay.Start = None
relay_done (relay.Named atom) = None
relay_done (relay.Attackers r) = Some r
