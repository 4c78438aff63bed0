-- Scripts: what answers a command, what becomes of the pool of tokens, and the law of whole runs.
use Rattle.std.specs.Prelude.{◌≡◌, ℕ, ◌+◌, ◌<◌, ◌≤◌, List, [], ◌∷◌, ◌++◌, length, take, Some, None, Ok, Err, Option, Result, slice_index_or}
use Rattle.std.specs.List.{remove}
use Rattle.atoms.specs.Bounded.{Between, open_count}
use Rattle.approx.specs.Meanings.{meaning}
use Rattle.approx.specs.Stability.{Stable}
use Rattle.approx.specs.Settling.{Settles}
use Rattle.approx.specs.declared.approximator.Approximator.{Ghosts}
use Rattle.faults.specs.declared.BenchFault.{BenchFault}
use Rattle.faults.specs.declared.BenchFault.TheVariants.{TooManyOpen}
use Rattle.faults.specs.declared.Refused.{Refused}
use Rattle.engine.specs.Boards.{Granted, Denied}
use Rattle.engine.specs.Histories.{History, Lawful}
use Rattle.engine.specs.Listings.{peg_event, pull_event, peg_gives, pull_gives, Ran}
use Rattle.engine.specs.declared.board.Board.{Board}
use Rattle.engine.specs.declared.board.Settled.{Settled}
use Rattle.engine.specs.declared.pegs.Sense.{Sense}
use Rattle.engine.specs.declared.listing.Listing.{Listing}
use Rattle.engine.specs.declared.listing.Token.{Token}
use Rattle.engine.specs.declared.runs.Event.{Event}
use Rattle.engine.specs.declared.runs.Event.TheVariants as event
use Rattle.engine.specs.declared.runs.Command.{Command}
use Rattle.engine.specs.declared.runs.Command.TheVariants.{Next, Peg, Pull, Rewind, Tally}
use Rattle.engine.specs.declared.runs.Unfinished.{Unfinished}
use Rattle.engine.specs.declared.runs.Unfinished.TheVariants.{Short, NotListed, NotSettled}

-- ---- the log
-- the history h with the events of a log after it, the earliest of the log first
abbrev pub since : List Event → History → History
since [] h = h
since (e ∷ es) h = since es (e ∷ h)

-- the events that an answer is: one, or none where there was no call
abbrev pub events : Option Event → List Event
events None = []
events (Some e) = e ∷ []

-- ---- the pool
-- the pool after a peg: a token of its atom and sense more, where it was granted
abbrev pub pool_pegged : Option BenchFault → List Token → ℕ → Sense → List Token
pool_pegged None p i s = p ++ record { atom = i; sense = s } ∷ []
pool_pegged (Some f) p i s = p

-- the pool after a pull with the token t at a place: that token is spent, or comes back at the end where the pull was refused
abbrev pub pool_pulled : Option BenchFault → List Token → ℕ → Token → List Token
pool_pulled None p k t = remove p k
pool_pulled (Some f) p k t = remove p k ++ t ∷ []

-- a pool or a log with `len` of `cap` places taken has at most one more taken afterwards, and no fewer places
pub record OneMore (len cap len' cap' : ℕ) : Type 0 where
  pub taken : len' ≤ len + 1
  pub places : cap ≤ cap'

-- ---- what answers a command
-- one pull was made, with the token that lay at the place
pub record PullsAt (p q : List Token) (k : ℕ) (es : List Event) : Type 0 where
  pub token : Token
  pub there : token ≡ slice_index_or p k token
  pub fault : Option BenchFault
  pub event : es ≡ pull_event token (pull_gives fault token) ∷ []
  pub pool : q ≡ pool_pulled fault p k token

-- the events answer the command and the pool p becomes q: one event for each call, with what it gave; a pull at an empty place is no call
abbrev pub Answer : List Token → List Token → Command → List Event → Type 0
Answer p q Next es = (r : Option ℕ) × (es ≡ event.Next r ∷ []) × (q ≡ p)
Answer p q (Peg i s) es = (f : Option BenchFault) × (es ≡ peg_event i s (peg_gives f i s) ∷ []) × (q ≡ pool_pegged f p i s)
Answer p q (Pull k) es = (k < length p → PullsAt p q k es) × (length p ≤ k → (es ≡ []) × (q ≡ p))
Answer p q Rewind es = (es ≡ event.Rewind ∷ []) × (q ≡ p)
Answer p q Tally es = (n : ℕ) × (es ≡ event.Tally n ∷ []) × (q ≡ p)

-- the events answer the commands of the script one by one, in order
abbrev pub Answers : List Token → List Token → List Command → List Event → Type 0
Answers p q [] es = (es ≡ []) × (q ≡ p)
Answers p q (c ∷ cs) es = (a : List Event) × ((b : List Event) × ((mid : List Token) × (es ≡ a ++ b) × Answer p mid c a × Answers mid q cs b))

-- ---- the listing
module _ {X : Type 0} (G : Ghosts X) where
  -- one command turns the listing x into y: the events answer it, and whatever history lay behind x, with the events after it lies behind y
  pub record Acts (c : Command) (p q : List Token) (x y : Listing X) (es : List Event) : Type 0 where
    pub pile : y.pile ≡ x.pile
    pub answers : Answer p q c es
    pub law : (h : History) → Ran G h x → Ran G (since es h) y

  -- the same, and the log gains the events
  pub record Performs (c : Command) (p q : List Token) (log after : List Event) (x y : Listing X) : Type 0 where
    pub new : List Event
    pub logged : after ≡ log ++ new
    pub acts : Acts c p q x y new

  -- a script turns the listing x into y, and the log gains what answers it
  pub record Plays (script : List Command) (p q : List Token) (log after : List Event) (x y : Listing X) : Type 0 where
    pub new : List Event
    pub logged : after ≡ log ++ new
    pub pile : y.pile ≡ x.pile
    pub answers : Answers p q script new
    pub law : (h : History) → Ran G h x → Ran G (since new h) y

  -- only a front of the script was performed
  abbrev pub PlaysFront : List Command → List Token → List Token → List Event → List Event → Listing X → Listing X → Type 0
  PlaysFront script p q log after x y = (count : ℕ) × (count < length script) × Plays (take count script) p q log after x y

  -- ---- whole runs
  -- the law of a run: the board settles, a listing of it is begun and meets the script; the log gains what answers the script, and all of
  -- that keeps the law of listings; every stable interpretation lies within the settled bounds
  pub record Runs (board : Board X) (script : List Command) (p q : List Token) (log after : List Event) (x : Listing X) : Type 0 where
    pub new : List Event
    pub logged : after ≡ log ++ new
    pub answers : Answers p q script new
    pub lawful : Lawful (meaning G board.pile) (since new [])
    pub pile : x.pile ≡ board.pile
    pub settled : Settles (meaning G board.pile) x.bounds
    pub few : open_count x.bounds ≤ 16
    pub stable_within : (z : ℕ) → Stable (meaning G board.pile) z → Between x.bounds z
    pub ran : Ran G (since new []) x

  -- no listing was begun: more than 16 atoms are open in the settled board, which comes back
  pub record RunsUnlisted (board : Board X) (u : Refused (Settled X)) : Type 0 where
    pub granted : Granted G board u.back
    pub many : 16 < open_count u.back.bounds
    pub fault : u.fault ≡ TooManyOpen (open_count u.back.bounds)

  -- how a run ends: with the whole script, with a front of it where memory ran short, or with a refusal that leaves pool and log as they were
  abbrev pub RunLaw : Board X → List Command → List Token → List Token → List Event → List Event → Result (Listing X) (Unfinished X) → Type 0
  RunLaw board script p q log after (Ok x) = Runs board script p q log after x
  RunLaw board script p q log after (Err (Short x)) = (count : ℕ) × (count < length script) × Runs board (take count script) p q log after x
  RunLaw board script p q log after (Err (NotListed u)) = RunsUnlisted board u × (q ≡ p) × (after ≡ log)
  RunLaw board script p q log after (Err (NotSettled r)) = Denied G board r × (q ≡ p) × (after ≡ log)

-- the script was not cut short
abbrev pub InFull : {X : Type 0} → Result (Listing X) (Unfinished X) → Type 0
InFull (Ok x) = Unit {0}
InFull (Err (Short x)) = ⊥
InFull (Err (NotListed u)) = Unit {0}
InFull (Err (NotSettled r)) = Unit {0}
