-- What the calls of a listing give and leave behind.
use Rattle.std.specs.Prelude.{◌≡◌, ℕ, ◌≤◌, cond, Some, None, Ok, Err, Option, Result, ◌==◌, nat_lt}
use Rattle.atoms.specs.Bounded.{open_count}
use Rattle.approx.specs.Meanings.{meaning}
use Rattle.approx.specs.Settling.{Settles}
use Rattle.approx.specs.declared.approximator.Approximator.{Ghosts}
use Rattle.solver.specs.Fronts.{Front}
use Rattle.solver.specs.Pegs.{Wanted}
use Rattle.faults.specs.declared.BenchFault.{BenchFault}
use Rattle.faults.specs.declared.BenchFault.TheVariants.{TooManyOpen, PegsInForce}
use Rattle.faults.specs.declared.Refused.{Refused}
use Rattle.engine.specs.Standing.{standing, no_pegs, with_peg, without_peg, pegs_count}
use Rattle.engine.specs.Histories.{History, in_force, handed, Agreeing, Lawful}
use Rattle.engine.specs.declared.board.Settled.{Settled}
use Rattle.engine.specs.declared.pegs.Sense.{Sense}
use Rattle.engine.specs.declared.pegs.Pegs.{Pegs}
use Rattle.engine.specs.declared.listing.Listing.{Listing}
use Rattle.engine.specs.declared.listing.Token.{Token}
use Rattle.engine.specs.declared.runs.Event.{Event}
use Rattle.engine.specs.declared.runs.Event.TheVariants as event

module _ {X : Type 0} where
  -- ---- beginning and closing
  -- a listing of a settled board, without pegs and with nothing handed out
  abbrev pub fresh : Settled X → Listing X
  fresh s = record { pile = s.pile; bounds = s.bounds; pegs = no_pegs; last = None }

  -- more than 16 open atoms are refused, and the settled board comes back
  abbrev pub list_gives : Settled X → Result (Listing X) (Refused (Settled X))
  list_gives s = cond (nat_lt 16 (open_count s.bounds)) (Err (record { fault = TooManyOpen (open_count s.bounds); back = s })) (Ok (fresh s))

  -- pegs in force are refused, and the listing comes back; without any, the settled board does
  abbrev pub close_gives : Listing X → Result (Settled X) (Refused (Listing X))
  close_gives x = cond (pegs_count x.pegs == 0) (Ok (record { pile = x.pile; bounds = x.bounds })) (Err (record { fault = PegsInForce (pegs_count x.pegs); back = x }))

  -- ---- what is left behind
  -- the listing begun anew, with these pegs
  abbrev pub begun : Listing X → Pegs → Listing X
  begun x p = record { pile = x.pile; bounds = x.bounds; pegs = p; last = None }

  -- the listing with the answer as the last that was handed out; 'no more' leaves it as it is
  abbrev pub moved_on : Listing X → Option ℕ → Listing X
  moved_on x None = x
  moved_on x (Some y) = record { pile = x.pile; bounds = x.bounds; pegs = x.pegs; last = Some y }

  -- a granted peg is put in and the listing begins anew; a refused one leaves all as it is
  abbrev pub peg_leaves : Option BenchFault → Listing X → ℕ → Sense → Listing X
  peg_leaves None x i s = begun x (with_peg x.pegs i s)
  peg_leaves (Some f) x i s = x

  -- a granted pull takes the peg out and the listing begins anew; a refused one leaves all as it is
  abbrev pub pull_leaves : Option BenchFault → Listing X → Token → Listing X
  pull_leaves None x t = begun x (without_peg x.pegs t.atom t.sense)
  pull_leaves (Some f) x t = x

-- ---- what is given
-- a granted peg gives a token of its atom and sense
abbrev pub peg_gives : Option BenchFault → ℕ → Sense → Result Token BenchFault
peg_gives None i s = Ok (record { atom = i; sense = s })
peg_gives (Some f) i s = Err f

-- a granted pull gives nothing, and a refused one gives the token back
abbrev pub pull_gives : Option BenchFault → Token → Result (Unit {0}) (Refused Token)
pull_gives None t = Ok tt
pull_gives (Some f) t = Err (record { fault = f; back = t })

-- ---- the event that a call is, by what it gave
-- a peg of an atom and a sense is granted, or refused with a fault
abbrev pub peg_event : ℕ → Sense → Result Token BenchFault → Event
peg_event i s (Ok t) = event.Peg i s (Ok tt)
peg_event i s (Err f) = event.Peg i s (Err f)

-- a pull with a token is granted, or refused with a fault
abbrev pub pull_event : Token → Result (Unit {0}) (Refused Token) → Event
pull_event t (Ok u) = event.Pull t.atom t.sense (Ok tt)
pull_event t (Err e) = event.Pull t.atom t.sense (Err e.fault)

-- ---- the listing and its history
-- what the listing may hand out: the stable interpretations of its pile that agree with its pegs
abbrev pub WantedOf : {X : Type 0} → Ghosts X → Listing X → ℕ → Type 0
WantedOf G x = Wanted (meaning G x.pile) x.pegs.on x.pegs.off

-- the kept bounds are the pile's settled ones, with at most 16 atoms open between them
pub record Listable {X : Type 0} (G : Ghosts X) (x : Listing X) : Type 0 where
  pub settled : Settles (meaning G x.pile) x.bounds
  pub few : open_count x.bounds ≤ 16

-- the history h lies behind the listing: all of it keeps the law, its pegs in force are the listing's, and so is what was handed out last
pub record Ran {X : Type 0} (G : Ghosts X) (h : History) (x : Listing X) : Type 0 where
  pub listable : Listable G x
  pub lawful : Lawful (meaning G x.pile) h
  pub pegs : (i : ℕ) (s : Sense) → standing x.pegs i s ≡ in_force h i s
  pub front : Front (Agreeing (meaning G x.pile) (in_force h)) x.last (handed h)
