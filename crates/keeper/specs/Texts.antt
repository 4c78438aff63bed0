-- What is printed of each reply.
use Rattle.std.specs.Prelude.{ℕ, ◌+◌, Bool, true, false, cond, List, [], ◌∷◌, ◌++◌, codes}
use Rattle.std.specs.Fmt.{decimal}
use Rattle.std.specs.Borrow.{Bor}
use Rattle.atoms.specs.Sets.{has}
use Rattle.atoms.specs.Bounded.{state_of, state_word}
use Rattle.atoms.specs.declared.bounds.Bounds.{Bounds}
use Rattle.atoms.specs.declared.bounds.State.{State}
use Rattle.faults.specs.Faults.{bench_told, told_text}
use Rattle.faults.specs.declared.BenchFault.{BenchFault}
use Rattle.faults.specs.declared.BenchFault.TheVariants as fault
use Rattle.engine.specs.declared.pegs.Sense.{Sense}
use Rattle.engine.specs.declared.pegs.Sense.TheVariants as sense
use Rattle.keeper.specs.declared.command.Misread.{Misread}
use Rattle.keeper.specs.declared.command.Misread.TheVariants as misread
use Rattle.keeper.specs.declared.reply.Reply.{Reply}
use Rattle.keeper.specs.declared.reply.Reply.TheVariants as reply

-- what is told of each name, one after another; the names are numbered from a number on
abbrev pub told_from : (ℕ → List ℕ → List ℕ) → ℕ → List (Bor (List ℕ)) → List ℕ
told_from f i [] = []
told_from f i (name ∷ names) = f i name.now ++ told_from f (i + 1) names

-- a name and its state, as in ' main open;'
abbrev pub mark_text : State → List ℕ → List ℕ
mark_text state name = codes " " ++ name ++ codes " " ++ state_word state ++ codes ";"

-- the names with what the bounds say of each
abbrev pub marks_text : Bounds → List (Bor (List ℕ)) → List ℕ
marks_text b names = codes "marks:" ++ told_from (λ i. mark_text (state_of b i)) 0 names

-- the name with a space before it, where it is told
abbrev pub lit_text : Bool → List ℕ → List ℕ
lit_text on name = cond on (codes " " ++ name) []

-- the names whose atoms are in the set
abbrev pub standing_text : ℕ → List (Bor (List ℕ)) → List ℕ
standing_text z names = codes "standing" ++ told_from (λ i. lit_text (has z i)) 0 names

-- the word of a side
abbrev pub side_word : Sense → List ℕ
side_word sense.On = codes "on"
side_word sense.Off = codes "off"

-- a refusal's number and meaning
abbrev pub refused_text : BenchFault → List ℕ → List ℕ
refused_text (fault.NoSuchAtom i) name = codes "refused " ++ decimal (bench_told (fault.NoSuchAtom i)).number ++ codes ": there is no mark '" ++ name ++ codes "'"
refused_text (fault.Pegged i) name = codes "refused " ++ decimal (bench_told (fault.Pegged i)).number ++ codes ": " ++ name ++ codes " has a peg already"
refused_text (fault.NotInForce i) name = codes "refused " ++ decimal (bench_told (fault.NotInForce i)).number ++ codes ": no such peg of " ++ name ++ codes " is in force"
refused_text (fault.PegsInForce n) name = codes "refused " ++ decimal (bench_told (fault.PegsInForce n)).number ++ codes ": pegs are in force, " ++ decimal n ++ codes " of them"
refused_text (fault.Sheet f) name = codes "refused " ++ told_text (bench_told (fault.Sheet f))
refused_text (fault.BerthTooWide w) name = codes "refused " ++ told_text (bench_told (fault.BerthTooWide w))
refused_text fault.Crossed name = codes "refused " ++ told_text (bench_told fault.Crossed)
refused_text (fault.TooManyOpen n) name = codes "refused " ++ told_text (bench_told (fault.TooManyOpen n))

-- why a line is no command
abbrev pub misread_text : Misread → List ℕ
misread_text (misread.NoSuch word) = codes "there is no command '" ++ word.now ++ codes "'"
misread_text (misread.Say form) = codes "say: " ++ form.now

-- the line that is printed of a reply
abbrev pub reply_text : Reply → List ℕ
reply_text (reply.Standing s) = standing_text s.on s.marks.names.now
reply_text reply.NoMore = codes "no more"
reply_text (reply.Pegged name s) = name.now ++ codes " is pegged " ++ side_word s
reply_text (reply.Pulled name s) = name.now ++ codes " is no longer pegged " ++ side_word s
reply_text reply.Rewound = codes "begun anew"
reply_text (reply.Total n) = codes "total " ++ decimal n
reply_text (reply.States m) = marks_text m.bounds m.names.now
reply_text reply.Closed = codes "closed"
reply_text (reply.Ended n) = codes "the input is over: pegs pulled " ++ decimal n ++ codes ", closed"
reply_text (reply.Refused f name) = refused_text f name.now
reply_text reply.NoMemory = codes "memory is short, and nothing has changed"
reply_text (reply.Misread m) = misread_text m

-- nothing is asked after `closed`, and after nothing else
abbrev pub is_last : Reply → Bool
is_last reply.Closed = true
is_last r = false
