-- The text of each command, what a line says, and what is told of a line that says none.
use Rattle.std.specs.Prelude.{◌≡◌, ◌≢◌, ℕ, ◌<◌, ⊤, Bool, true, false, if◌then◌else◌, ◌==◌, List, [], ◌∷◌, ◌++◌, length, slice_index, Option, Some, None, codes}
use Rattle.std.specs.List.{before_first}
use Rattle.std.specs.Str.{bytes_eq}
use Rattle.engine.specs.declared.pegs.Sense.{Sense}
use Rattle.keeper.specs.Texts.{side_word}
use Rattle.keeper.specs.declared.command.Command.{Command}
use Rattle.keeper.specs.declared.command.Command.TheVariants as command
use Rattle.keeper.specs.declared.command.Misread.{Misread}
use Rattle.keeper.specs.declared.command.Misread.TheVariants as misread

-- a name and a side
abbrev pub named_text : List ℕ → Sense → List ℕ
named_text name s = name ++ codes " " ++ side_word s

-- the line that says a command
abbrev pub command_text : Command → List ℕ
command_text command.Next = codes "next"
command_text (command.Peg name s) = codes "peg " ++ named_text name.now s
command_text (command.Pull name s) = codes "pull " ++ named_text name.now s
command_text command.Rewind = codes "rewind"
command_text command.Tally = codes "tally"
command_text command.Marks = codes "marks"
command_text command.Close = codes "close"

-- a name of one word has no space
abbrev pub IsOneWord : List ℕ → Type 0
IsOneWord name = (i : ℕ) → i < length name → slice_index name i ≢ 32

-- the commands that name a mark: `peg` and `pull`
abbrev pub names_a_mark : Command → Bool
names_a_mark (command.Peg name s) = true
names_a_mark (command.Pull name s) = true
names_a_mark c = false

-- the name that a command names, if it names one, is one word
abbrev pub NamesOneWord : Command → Type 0
NamesOneWord (command.Peg name s) = IsOneWord name.now
NamesOneWord (command.Pull name s) = IsOneWord name.now
NamesOneWord c = ⊤

-- a line says a command that is written like that; a name with a space in it can be said by none
pub record Says (line : List ℕ) (c : Command) : Type 0 where
  pub text : line ≡ command_text c
  pub word : NamesOneWord c

-- the words of a command: its verb, and the name and the word of the side that it names; commands of the same words differ at most in where their name is borrowed
abbrev pub words_of : Command → List (List ℕ)
words_of command.Next = codes "next" ∷ []
words_of (command.Peg name s) = codes "peg" ∷ name.now ∷ side_word s ∷ []
words_of (command.Pull name s) = codes "pull" ∷ name.now ∷ side_word s ∷ []
words_of command.Rewind = codes "rewind" ∷ []
words_of command.Tally = codes "tally" ∷ []
words_of command.Marks = codes "marks" ∷ []
words_of command.Close = codes "close" ∷ []

-- a line says one command only
abbrev pub SaysOne : List ℕ → Type 0
SaysOne line = (c d : Command) → Says line c → Says line d → words_of c ≡ words_of d

-- the first word of a line ends before the first space
abbrev pub first_word : List ℕ → List ℕ
first_word line = before_first (λ byte. byte == 32) line

-- how the command of a first word is said, if there is one
abbrev pub form_of : List ℕ → Option (List ℕ)
form_of verb =
    if bytes_eq verb (codes "next") then Some (codes "next")
    else (if bytes_eq verb (codes "peg") then Some (codes "peg NAME on|off")
    else (if bytes_eq verb (codes "pull") then Some (codes "pull NAME on|off")
    else (if bytes_eq verb (codes "rewind") then Some (codes "rewind")
    else (if bytes_eq verb (codes "tally") then Some (codes "tally")
    else (if bytes_eq verb (codes "marks") then Some (codes "marks")
    else (if bytes_eq verb (codes "close") then Some (codes "close")
    else None))))))

-- a first word that is of no command is told, and any other by how its command is said
abbrev pub IsReason : Option (List ℕ) → List ℕ → Misread → Type 0
IsReason None verb (misread.NoSuch word) = word.now ≡ verb
IsReason (Some f) verb (misread.Say form) = form.now ≡ f
IsReason o verb m = ⊥

-- a line that says no command, and why
pub record SaysNone (line : List ℕ) (why : Misread) : Type 0 where
  pub none : (c : Command) → ¬ Says line c
  pub reason : IsReason (form_of (first_word line)) (first_word line) why
