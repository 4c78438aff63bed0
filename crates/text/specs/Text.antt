-- Which bytes are a sheet's text, and what is wrong with any other.
use Rattle.std.specs.Prelude.{◌≡◌, ℕ, ◌+◌, ◌-◌, Bool, cond, not, ◌&&◌, ◌||◌, List, [], ◌∷◌, length, Some, None, Ok, Err, Option, Result, ◌==◌, nat_lt, slice_index, slice_index_or}
use Rattle.std.specs.Fn.{Shared}
use Rattle.faults.specs.declared.Spot.{Spot}
use Rattle.faults.specs.declared.TextFault.{TextFault}
use Rattle.faults.specs.declared.TextFault.TheVariants.{TooLong, NoEnd, BadByte, Spacing}
use Rattle.faults.specs.Faults.{at}

-- A text begins at line 1, column 1.
abbrev pub start : Spot
start = at 1 1

-- After a newline comes the next line's first column, and after any other byte the next column.
abbrev pub past : Spot → ℕ → Spot
past spot byte = cond (byte == 10) (at (spot.line + 1) 1) (at spot.line (spot.column + 1))

-- A bad byte is neither a newline nor from 32 to 126, whatever stands before and after it.
abbrev pub bad_byte : ℕ → ℕ → ℕ → Bool
bad_byte before byte after = not (byte == 10) && (nat_lt byte 32 || nat_lt 126 byte)

-- A badly placed byte is a newline right after a newline, or a space that is a line's first or last or follows a space.
abbrev pub bad_spacing : ℕ → ℕ → ℕ → Bool
bad_spacing before byte after = (byte == 10 && before == 10) || (byte == 32 && (before == 10 || (before == 32 || after == 10)))

-- A function of three bytes answers what a test of them says.
abbrev pub Tests : {F : Type 0} → Shared F (ℕ × (ℕ × (ℕ × Unit {0}))) Bool → F → (ℕ → ℕ → ℕ → Bool) → Type 0
Tests g f bad = (before byte after : ℕ) (answer : Bool) → g.post f (before, (byte, (after, tt))) answer → answer ≡ bad before byte after

-- The spot of the first byte that a test calls bad, where a text goes on at a spot, after a byte, with these bytes; past the end stands a newline.
abbrev pub first_broken : (ℕ → ℕ → ℕ → Bool) → Spot → ℕ → List ℕ → Option Spot
first_broken bad spot before [] = None
first_broken bad spot before (byte ∷ bytes) = cond (bad before byte (slice_index_or bytes 0 10)) (Some spot) (first_broken bad (past spot byte) byte bytes)

-- A fault at the spot, if there is one, and else the next verdict.
abbrev pub fault_or : Option Spot → (Spot → TextFault) → Result (Unit {0}) TextFault → Result (Unit {0}) TextFault
fault_or (Some spot) fault next = Err (fault spot)
fault_or None fault next = next

-- A text has at most 16384 bytes, ends with a newline, and has no bad byte and no badly placed one; these are looked for over the whole text in turn.
abbrev pub text_verdict : List ℕ → Result (Unit {0}) TextFault
text_verdict text =
    cond (nat_lt 16384 (length text)) (Err TooLong)
    (cond (length text == 0 || not (slice_index text (length text - 1) == 10)) (Err NoEnd)
    (fault_or (first_broken bad_byte start 10 text) BadByte
    (fault_or (first_broken bad_spacing start 10 text) Spacing (Ok tt))))
