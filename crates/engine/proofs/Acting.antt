-- What one command does: the calls, told as acts.
use Rattle.std.proofs.Common.{◌≡◌, ℕ, ◌<◌, List, [], ◌∷◌, ◌++◌, length, get_or, Some, None, Err, Option, sym, refl, ap, ◌∙◌, subst, ap₂, arith}
use Rattle.std.specs.List.{remove}
use Rattle.approx.specs.declared.approximator.Approximator.{Ghosts}
use Rattle.faults.specs.declared.BenchFault.{BenchFault}
use Rattle.faults.specs.declared.Refused.{Refused}
use Rattle.engine.specs.Histories.{History}
use Rattle.engine.specs.Listings.{peg_leaves, pull_leaves, pull_gives, pull_event, Ran}
use Rattle.engine.specs.Scripts.{Acts}
use Rattle.engine.specs.declared.pegs.Sense.{Sense}
use Rattle.engine.specs.declared.listing.Listing.{Listing}
use Rattle.engine.specs.declared.listing.Token.{Token}
use Rattle.engine.specs.declared.runs.Event.{Event}
use Rattle.engine.specs.declared.runs.Event.TheVariants as event
use Rattle.engine.specs.declared.runs.Command.TheVariants.{Pull}

-- ---- the pile stays
pub peg_pile : {X : Type 0} (f : Option BenchFault) (x : Listing X) (i : ℕ) (s : Sense) → (peg_leaves f x i s).pile ≡ x.pile
peg_pile None x i s = refl
peg_pile (Some f) x i s = refl

pub pull_pile : {X : Type 0} (f : Option BenchFault) (x : Listing X) (t : Token) → (pull_leaves f x t).pile ≡ x.pile
pull_pile None x t = refl
pull_pile (Some f) x t = refl

-- ---- a pull that was refused
pub token_back : (f : Option BenchFault) (t : Token) (b : Refused Token) → Err b ≡ pull_gives f t → b.back ≡ t
token_back None t b e = cc
token_back (Some f) t b e = cc

-- `i` and `s` are the token's atom and sense as the code has them
pub refused_acts : {X : Type 0} (G : Ghosts X) {x y : Listing X} {p q : List Token} {k i : ℕ} {s : Sense} (t : Token) (b : Refused Token) → i ≡ t.atom → s ≡ t.sense → k < length p → t ≡ get_or p k t → b.back ≡ t → q ≡ remove p k ++ b.back ∷ [] → y.pile ≡ x.pile → ((h : History) → Ran G h x → Ran G (pull_event t (Err b) ∷ h) y) → Acts G (Pull k) p q x y (event.Pull i s (Err b.fault) ∷ [])
refused_acts G {x} {y} {p} {q} {k} {i} {s} t b ei es l there back pool pile law =
    let e : event.Pull t.atom t.sense (Err b.fault) ≡ event.Pull i s (Err b.fault) = ap₂ (λ (j : ℕ) (u : Sense). event.Pull j u (Err b.fault)) (sym ei) (sym es) in
    record {
      pile = pile;
      answers = (λ _. record { token = t; there = there; fault = Some b.fault; event = ap (λ (v : Event). v ∷ []) (sym e); pool = pool ∙ ap (λ (u : Token). remove p k ++ u ∷ []) back }, λ out. absurd (omega arith));
      law = λ h ran. subst (λ (v : Event). Ran G (v ∷ h) y) e (law h ran);
    }
