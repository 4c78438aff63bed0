-- What is wrong with a text, whatever its words say.
use Rattle.std.specs.Prelude.{◌≡◌, ℕ, ◌+◌, ◌-◌, ◌<◌, ◌≤◌, cond, ◌⊎◌, List, [], ◌∷◌, length, take, ◌==◌, ◌≢◌, slice_index, slice_index_or}
use Rattle.faults.specs.declared.Spot.{Spot}
use Rattle.faults.specs.declared.TextFault.{TextFault}
use Rattle.faults.specs.declared.TextFault.TheVariants.{TooLong, NoEnd, BadByte, Spacing}
use Rattle.faults.specs.Faults.{at}

-- How many of some bytes are newlines.
abbrev pub newlines : List ℕ → ℕ
newlines [] = 0
newlines (byte ∷ bytes) = cond (byte == 10) (newlines bytes + 1) (newlines bytes)

-- How many of some bytes stand after the last newline among them: all of them where none is a newline.
abbrev pub since_newline : List ℕ → ℕ
since_newline [] = 0
since_newline (byte ∷ bytes) = cond (newlines (byte ∷ bytes) == 0) (length bytes + 1) (since_newline bytes)

-- The spot just past the first bytes of a text: 1 line more than there are newlines, and 1 column more than there are bytes since the last newline.
abbrev pub spot_past : List ℕ → Spot
spot_past bytes = at (newlines bytes + 1) (since_newline bytes + 1)

-- The spot of a position of a text, counted from 0.
abbrev pub spot_of : List ℕ → ℕ → Spot
spot_of text k = spot_past (take k text)

-- A byte stands at a position of a text.
abbrev pub Holds : List ℕ → ℕ → ℕ → Type 0
Holds text k byte = (k < length text) × (slice_index text k ≡ byte)

-- A byte stands right before a position of a text.
abbrev pub Follows : List ℕ → ℕ → ℕ → Type 0
Follows text k byte = (j : ℕ) × (k ≡ j + 1) × (slice_index text j ≡ byte)

-- A line begins where the text begins, and right after a newline.
abbrev pub LineBegins : List ℕ → ℕ → Type 0
LineBegins text k = (k ≡ 0) ⊎ Follows text k 10

-- A bad byte: neither a newline nor from 32 to 126.
pub record BadByteAt (text : List ℕ) (k : ℕ) : Type 0 where
  pub inside : k < length text
  pub no_newline : slice_index_or text k 0 ≡ 10 → ⊥
  pub no_sign : (slice_index text k < 32) ⊎ (126 < slice_index text k)

-- A byte that breaks the law of spaces: a newline where a line begins, or a space that is the first of its line, follows a space, or is the last of its line.
pub data BadSpacingAt (text : List ℕ) (k : ℕ) : Type 0 where
  empty_line : Holds text k 10 → LineBegins text k → BadSpacingAt text k
  space_first : Holds text k 32 → LineBegins text k → BadSpacingAt text k
  space_doubled : Holds text k 32 → Follows text k 32 → BadSpacingAt text k
  space_last : Holds text k 32 → Holds text (k + 1) 10 → BadSpacingAt text k

-- A position is the first of its kind.
abbrev pub First : (ℕ → Type 0) → ℕ → Type 0
First P k = P k × ((j : ℕ) → j < k → P j → ⊥)

-- No position is of a kind.
abbrev pub Nowhere : (ℕ → Type 0) → Type 0
Nowhere P = (k : ℕ) → P k → ⊥

-- A text is short with at most 16384 bytes.
abbrev pub Short : List ℕ → Type 0
Short text = length text ≤ 16384

-- A text is ended by a newline, its last byte.
abbrev pub Ended : List ℕ → Type 0
Ended text = (0 < length text) × (slice_index text (length text - 1) ≡ 10)

-- A text is not ended when it is empty, and when its last byte is no newline.
abbrev pub Unended : List ℕ → Type 0
Unended text = (length text ≡ 0) ⊎ (slice_index text (length text - 1) ≢ 10)

-- A lawful text is short and ended, with no bad byte and no bad spacing.
pub record TextLawful (text : List ℕ) : Type 0 where
  pub short : Short text
  pub ended : Ended text
  pub bytes : Nowhere (BadByteAt text)
  pub spaces : Nowhere (BadSpacingAt text)

-- What is wrong with a text: the first that holds of its length, its end, its first bad byte and its first bad spacing.
pub data TextFaulty (text : List ℕ) (f : TextFault) : Type 0 where
  too_long : 16384 < length text → f ≡ TooLong → TextFaulty text f
  no_end : Short text → Unended text → f ≡ NoEnd → TextFaulty text f
  bad_byte : Short text → Ended text → (k : ℕ) → First (BadByteAt text) k → f ≡ BadByte (spot_of text k) → TextFaulty text f
  bad_spacing : Short text → Ended text → Nowhere (BadByteAt text) → (k : ℕ) → First (BadSpacingAt text) k → f ≡ Spacing (spot_of text k) → TextFaulty text f
