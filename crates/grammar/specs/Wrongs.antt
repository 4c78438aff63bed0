-- What can be wrong with a word where it stands.
use Rattle.std.specs.Prelude.{Some, None, Ok, Err, Option, Result}
use Rattle.faults.specs.declared.Spot.{Spot}
use Rattle.faults.specs.declared.SheetFault.{SheetFault}
use Rattle.faults.specs.declared.SheetFault.TheVariants as fault
use Rattle.grammar.specs.declared.wrong.Wrong.{Wrong}
use Rattle.grammar.specs.declared.wrong.Wrong.TheVariants as wrong

-- What is wrong, at the spot where it is.
abbrev pub fault_at : Wrong → Spot → SheetFault
fault_at wrong.Contents spot = fault.Contents spot
fault_at wrong.BadName spot = fault.BadName spot
fault_at wrong.NotAName spot = fault.NotAName spot
fault_at wrong.Misplaced spot = fault.Misplaced spot
fault_at wrong.BadNumber spot = fault.BadNumber spot
fault_at wrong.SecondLine spot = fault.SecondLine spot

-- A word that says what is looked for leads on, and any other is wrong.
abbrev pub or_wrong : {X S : Type 0} → Option X → Wrong → (X → S) → Result S Wrong
or_wrong None wrong next = Err wrong
or_wrong (Some x) wrong next = Ok (next x)
