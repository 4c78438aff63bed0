-- A line of the contents: a word and a number.
use Rattle.std.specs.Prelude.{ℕ, cond, List, Some, None, Ok, Err, Option, Result}
use Rattle.std.specs.Str.{bytes_eq}
use Rattle.text.specs.Words.{Meaning, name_said}
use Rattle.grammar.specs.declared.count.CountState.{CountState}
use Rattle.grammar.specs.declared.count.CountState.TheVariants as count
use Rattle.grammar.specs.declared.wrong.Wrong.{Wrong}
use Rattle.grammar.specs.declared.wrong.Wrong.TheVariants as wrong
use Rattle.grammar.specs.Said.{natural_said}
use Rattle.grammar.specs.Wrongs.{or_wrong}

-- The word of a line, where a word can be.
abbrev pub worded : List ℕ → Option (List ℕ) → Result CountState Wrong
worded word None = Err wrong.Contents
worded word (Some bytes) = cond (bytes_eq bytes word) (Ok count.Worded) (Err wrong.Contents)

-- First the word, then the number, then nothing; anything else is wrong contents.
abbrev pub count_next : List ℕ → ℕ → ℕ → CountState → Meaning → Result CountState Wrong
count_next word low high count.Start m = worded word (name_said m)
count_next word low high count.Worded m = or_wrong (natural_said low high m) wrong.Contents count.Counted
count_next word low high (count.Counted n) m = Err wrong.Contents

-- The line may end after the number.
abbrev pub count_done : CountState → Option ℕ
count_done count.Start = None
count_done count.Worded = None
count_done (count.Counted n) = Some n
