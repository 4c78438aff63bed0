-- What a reply tells of the calls that were made: the history h behind the listing becomes k.
use Rattle.std.specs.Prelude.{◌≡◌, ℕ, ◌<◌, List, ◌∷◌, Some, None, Ok, Err, Option, ◌⊎◌}
use Rattle.faults.specs.declared.BenchFault.TheVariants as fault
use Rattle.approx.specs.declared.approximator.Approximator.{Ghosts}
use Rattle.engine.specs.Standing.{pegs_count}
use Rattle.engine.specs.Histories.{History}
use Rattle.engine.specs.Listings.{Ran}
use Rattle.engine.specs.declared.listing.Listing.{Listing}
use Rattle.engine.specs.declared.pegs.Sense.{Sense}
use Rattle.engine.specs.declared.pegs.Pegs.{Pegs}
use Rattle.engine.specs.declared.runs.Event.TheVariants as event
use Rattle.keeper.specs.Names.{named}
use Rattle.keeper.specs.Commands.{Says, SaysNone}
use Rattle.keeper.specs.declared.command.Misread.{Misread}
use Rattle.keeper.specs.declared.command.Command.{Command}
use Rattle.keeper.specs.declared.command.Command.TheVariants as command
use Rattle.keeper.specs.declared.marks.Marks.{Marks}
use Rattle.keeper.specs.declared.reply.Reply.{Reply}
use Rattle.keeper.specs.declared.reply.Reply.TheVariants as reply

-- a peg of a name's atom is granted or refused, or memory was short; without such a mark there is no call
abbrev pub PegTold : Option ℕ → List ℕ → Sense → Reply → History → History → Type 0
PegTold None name s (reply.Refused (fault.NoSuchAtom i) n) h k = (n.now ≡ name) × (k ≡ h)
PegTold (Some i) name s (reply.Pegged n t) h k = (n.now ≡ name) × (t ≡ s) × (k ≡ event.Peg i s (Ok tt) ∷ h)
PegTold (Some i) name s (reply.Refused f n) h k = (n.now ≡ name) × (k ≡ event.Peg i s (Err f) ∷ h)
PegTold (Some i) name s reply.NoMemory h k = k ≡ h
PegTold i name s r h k = ⊥

-- a pull of a name's atom is granted or refused; without such a mark there is no call
abbrev pub PullTold : Option ℕ → List ℕ → Sense → Reply → History → History → Type 0
PullTold None name s (reply.Refused (fault.NoSuchAtom i) n) h k = (n.now ≡ name) × (k ≡ h)
PullTold (Some i) name s (reply.Pulled n t) h k = (n.now ≡ name) × (t ≡ s) × (k ≡ event.Pull i s (Ok tt) ∷ h)
PullTold (Some i) name s (reply.Refused f n) h k = (n.now ≡ name) × (k ≡ event.Pull i s (Err f) ∷ h)
PullTold i name s r h k = ⊥

-- each command is answered by a reply of its own, and what it tells is the event of its call; closing is refused while pegs are in force
abbrev pub Told : Marks → Pegs → Command → Reply → History → History → Type 0
Told m pegs command.Next (reply.Standing s) h k = (s.marks ≡ m) × (k ≡ event.Next (Some s.on) ∷ h)
Told m pegs command.Next reply.NoMore h k = k ≡ event.Next None ∷ h
Told m pegs (command.Peg name s) r h k = PegTold (named m.names.now name.now) name.now s r h k
Told m pegs (command.Pull name s) r h k = PullTold (named m.names.now name.now) name.now s r h k
Told m pegs command.Rewind reply.Rewound h k = k ≡ event.Rewind ∷ h
Told m pegs command.Tally (reply.Total n) h k = k ≡ event.Tally n ∷ h
Told m pegs command.Marks (reply.States n) h k = (n ≡ m) × (k ≡ h)
Told m pegs command.Close reply.Closed h k = (pegs_count pegs ≡ 0) × (k ≡ h)
Told m pegs command.Close (reply.Refused (fault.PegsInForce n) name) h k = (n ≡ pegs_count pegs) × (0 < n) × (k ≡ h)
Told m pegs c r h k = ⊥

-- a line that says a command is answered by what that comes to; any other by why it says none, and nothing is done
abbrev pub Replied : Marks → Pegs → List ℕ → Reply → History → History → Type 0
Replied m pegs line r h k = ((c : Command) × Says line c × Told m pegs c r h k) ⊎ ((why : Misread) × SaysNone line why × (r ≡ reply.Misread why) × (k ≡ h))

-- a reply is the answer to a line where the listing goes on from old to new: whatever history lies behind the one, one that the reply tells lies behind the other
abbrev pub AnswersLine : {X : Type 0} → Ghosts X → Marks → List ℕ → Listing X → Listing X → Reply → Type 0
AnswersLine G m line old new r = (h : History) → Ran G h old → (k : History) × Replied m old.pegs line r h k × Ran G k new
