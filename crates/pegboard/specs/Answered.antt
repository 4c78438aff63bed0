-- What a pegboard answers, and what is left of its listing, in the listing's own words.
use Rattle.std.specs.Prelude.{◌≡◌, ℕ, ◌∷◌, Some, None, Ok, Err, Option, Result}
use Rattle.faults.specs.declared.BenchFault.{BenchFault}
use Rattle.engine.specs.Histories.{History}
use Rattle.engine.specs.Listings.{peg_leaves}
use Rattle.engine.specs.declared.board.Settled.{Settled}
use Rattle.engine.specs.declared.pegs.Sense.{Sense}
use Rattle.engine.specs.declared.listing.Listing.{Listing}
use Rattle.engine.specs.declared.runs.Event.TheVariants.{Peg}
use Rattle.pegboard.specs.declared.fault.PegFault.{PegFault}
use Rattle.pegboard.specs.declared.fault.PegFault.TheVariants.{Bench, Memory}

module _ {X : Type 0} where
  -- a peg is granted or refused as the rule says, and the listing x becomes what the rule leaves; where memory is short, x stays
  abbrev pub PegAnswer : Option BenchFault → Listing X → Listing X → ℕ → Sense → Result (Unit {0}) PegFault → Type 0
  PegAnswer rule x y i s (Ok u) = (rule ≡ None) × (y ≡ peg_leaves rule x i s)
  PegAnswer rule x y i s (Err (Bench f)) = (rule ≡ Some f) × (y ≡ peg_leaves rule x i s)
  PegAnswer rule x y i s (Err Memory) = y ≡ x

  -- the settled board that is listed
  abbrev pub unlisted : Listing X → Settled X
  unlisted x = record { pile = x.pile; bounds = x.bounds }

-- the history after a peg: one event more, or none where memory was short
abbrev pub after_peg : ℕ → Sense → Result (Unit {0}) PegFault → History → History
after_peg i s (Ok u) h = Peg i s (Ok tt) ∷ h
after_peg i s (Err (Bench f)) h = Peg i s (Err f) ∷ h
after_peg i s (Err Memory) h = h

-- a pull is granted or refused as the rule says
abbrev pub pull_told : Option BenchFault → Result (Unit {0}) BenchFault
pull_told None = Ok tt
pull_told (Some f) = Err f
