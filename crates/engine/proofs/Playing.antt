-- One command after another, and what a whole run comes to.
use Rattle.std.proofs.Common.{◌≡◌, Bool, true, false, cond, ltb, List, [], ◌∷◌, ◌++◌, Ok, Err, sym, refl, ap, ◌∙◌, subst, append_assoc, append-nil}
use Rattle.atoms.specs.Bounded.{Between, open_count}
use Rattle.atoms.specs.declared.bounds.Bounds.{Bounds}
use Rattle.approx.specs.Meanings.{meaning}
use Rattle.approx.specs.Settling.{Settles}
use Rattle.approx.specs.declared.approximator.Approximator.{Ghosts}
use Rattle.faults.specs.declared.BenchFault.TheVariants.{TooManyOpen}
use Rattle.faults.specs.declared.Refused.{Refused}
use Rattle.engine.specs.Boards.{Granted}
use Rattle.engine.specs.Histories.{History, Lawful}
use Rattle.engine.specs.Listings.{fresh, list_gives, Ran}
use Rattle.engine.specs.Scripts.{since, Answer, Answers, Performs, Plays, Runs}
use Rattle.engine.specs.declared.board.Board.{Board}
use Rattle.engine.specs.declared.board.Settled.{Settled}
use Rattle.engine.specs.declared.listing.Listing.{Listing}
use Rattle.engine.specs.declared.listing.Token.{Token}
use Rattle.engine.specs.declared.runs.Event.{Event}
use Rattle.engine.specs.declared.runs.Command.{Command}

-- ---- one command more
since_append : (a b : List Event) (h : History) → since (a ++ b) h ≡ since b (since a h)
since_append [] b h = refl
since_append (e ∷ a) b h = since_append a b (e ∷ h)

answers_more : (p q r : List Token) (cs : List Command) (c : Command) (es a : List Event) → Answers p q cs es → Answer q r c a → Answers p r (cs ++ c ∷ []) (es ++ a)
answers_more p q r [] c es a d h = (a, ([], (r, ap (λ l. l ++ a) d.0 ∙ sym (append-nil a), subst (λ l. Answer l r c a) d.1 h, (refl, refl))))
answers_more p q r (b ∷ cs) c es a d h =
    let first = d.0 in
    let rest = d.1.0 in
    let then = d.1.1 in
    (first, (rest ++ a, (then.0, ap (λ l. l ++ a) then.1 ∙ append_assoc first rest a, then.2, answers_more then.0 q r cs c rest a then.3 h)))

module _ {X : Type 0} (G : Ghosts X) where
  pub plays_none : (p : List Token) (log : List Event) (x : Listing X) → Plays G [] p p log log x x
  plays_none p log x = record { new = []; logged = sym (append-nil log); pile = refl; answers = (refl, refl); law = λ h ran. ran }

  module _ {cs : List Command} {p q : List Token} {log after : List Event} {x y : Listing X} (played : Plays G cs p q log after x y) where
    pub plays_more : {c : Command} {r : List Token} {last : List Event} {z : Listing X} → Performs G c q r after last y z → Plays G (cs ++ c ∷ []) p r log last x z
    plays_more {c} {r} {last} {z} one = record {
      new = played.new ++ one.new;
      logged = one.logged ∙ ap (λ l. l ++ one.new) played.logged ∙ append_assoc log played.new one.new;
      pile = one.acts.pile ∙ played.pile;
      answers = answers_more p q r cs c played.new one.new played.answers one.acts.answers;
      law = λ h ran. subst (λ (k : History). Ran G k z) (sym (since_append played.new one.new h)) (one.acts.law (since played.new h) (played.law h ran));
    }

    -- where the last command came to nothing
    pub plays_same : {r : List Token} {last : List Event} {z : Listing X} → r ≡ q → last ≡ after → z ≡ y → Plays G cs p r log last x z
    plays_same {r} {last} {z} er el ez = record {
      new = played.new;
      logged = el ∙ played.logged;
      pile = ap (λ (v : Listing X). v.pile) ez ∙ played.pile;
      answers = subst (λ (v : List Token). Answers p v cs played.new) (sym er) played.answers;
      law = λ h ran. subst (λ (v : Listing X). Ran G (since played.new h) v) (sym ez) (played.law h ran);
    }

  -- ---- whole runs
  listed_is : (b : Bool) (u : Refused (Settled X)) (x y : Listing X) → Ok x ≡ cond b (Err u) (Ok y) → x ≡ y
  listed_is true u x y e = cc
  listed_is false u x y e = cc

  module _ {board : Board X} {s : Settled X} (granted : Granted G board s) where
    -- the refusal, if more than 16 atoms are open
    abbrev too_many : Refused (Settled X)
    too_many = record { fault = TooManyOpen (open_count s.bounds); back = s }

    settled_pile : Settles (meaning G s.pile) s.bounds
    settled_pile = subst (λ (a : X). Settles (meaning G a) s.bounds) (sym granted.pile) granted.settled

    pub runs_from : {script : List Command} {p q : List Token} {log after : List Event} {x y : Listing X} → Ok x ≡ list_gives s → (Settles (meaning G s.pile) s.bounds → Ran G [] x) → Plays G script p q log after x y → Runs G board script p q log after y
    runs_from {x = x} {y = y} e begins played =
        let ran = played.law [] (begins settled_pile) in
        let same : y.pile ≡ board.pile = played.pile ∙ ap (λ (v : Listing X). v.pile) (listed_is (ltb 16 (open_count s.bounds)) too_many x (fresh s) e) ∙ granted.pile in
        let settled : Settles (meaning G board.pile) y.bounds = subst (λ (a : X). Settles (meaning G a) y.bounds) same ran.listable.settled in
        record {
          new = played.new;
          logged = played.logged;
          answers = played.answers;
          lawful = subst (λ (a : X). Lawful (meaning G a) (since played.new [])) same ran.lawful;
          pile = same;
          settled = settled;
          few = ran.listable.few;
          stable_within = λ z t. subst (λ (b : Bounds). Between b z) (sym (granted.only y.bounds settled)) (granted.stable_within z t);
          ran = ran;
        }
