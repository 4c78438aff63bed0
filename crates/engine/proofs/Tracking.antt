-- What each call does to the history behind a listing.
use Rattle.std.proofs.Common.{◌≡◌, ℕ, ◌≤◌, Bool, true, false, cond, ◌||◌, ltb, List, [], ◌∷◌, Some, None, Ok, Err, Option, sym, ap, ◌∙◌, ap₂}
use Rattle.std.proofs.lemmas.Bool.{ne_eqb}
use Rattle.atoms.specs.Sets.{digit, has}
use Rattle.atoms.specs.Bounded.{Between, open_count}
use Rattle.atoms.proofs.Digits.{digit_of_zero, lacks_not}
use Rattle.approx.specs.Meanings.{meaning}
use Rattle.approx.specs.Stability.{Stable}
use Rattle.approx.specs.Settling.{Settles}
use Rattle.approx.specs.declared.approximator.Approximator.{Ghosts}
use Rattle.approx.proofs.Laws.{Lawful as KeepsLaws}
use Rattle.approx.proofs.Steadiness.{stable_between}
use Rattle.solver.specs.Lists.{Counted, Gathered}
use Rattle.solver.specs.Pegs.{Wanted}
use Rattle.solver.specs.Search.{FirstAfter, Sought}
use Rattle.solver.specs.Fronts.{Front}
use Rattle.solver.proofs.Alikeness.{Alike, none_alike, first_alike, counted_alike, gathered_alike}
use Rattle.solver.proofs.Handing.{front_begins, front_hands, front_short, front_whole}
use Rattle.faults.specs.declared.BenchFault.{BenchFault}
use Rattle.faults.specs.declared.BenchFault.TheVariants as fault
use Rattle.engine.specs.Standing.{Standing, standing, same_peg, no_pegs, Turned}
use Rattle.engine.specs.Rules.{peg_fault, pull_fault}
use Rattle.engine.specs.Histories.{History, in_force, handed, Agreeing, Rightly}
use Rattle.engine.specs.Listings.{fresh, begun, moved_on, Listable, Ran}
use Rattle.engine.specs.declared.board.Settled.{Settled}
use Rattle.engine.specs.declared.pegs.Sense.{Sense}
use Rattle.engine.specs.declared.pegs.Sense.TheVariants.{On, Off}
use Rattle.engine.specs.declared.pegs.Pegs.{Pegs}
use Rattle.engine.specs.declared.listing.Listing.{Listing}
use Rattle.engine.specs.declared.runs.Event.{Event}
use Rattle.engine.specs.declared.runs.Event.TheVariants.{Next, Peg, Pull, Rewind, Tally}
use Rattle.engine.proofs.Agreement.{wanted_agreeing, first_so_many}

-- ---- the same pegs give the same faults
module _ (f g : Standing) (same : (i : ℕ) (s : Sense) → f i s ≡ g i s) where
  peg_same : (width i : ℕ) → peg_fault width g i ≡ peg_fault width f i
  peg_same width i = ap₂ (λ (a b : Bool). cond (ltb i width) (cond (a || b) (Some (fault.Pegged i)) None) (Some (fault.NoSuchAtom i))) (sym (same i On)) (sym (same i Off))

  pull_same : (i : ℕ) (s : Sense) → pull_fault g i s ≡ pull_fault f i s
  pull_same i s = ap (λ (a : Bool). cond a None (Some (fault.NotInForce i))) (sym (same i s))

  turned_same : (i : ℕ) (s : Sense) (b : Bool) (h : Standing) → Turned f i s b h → Turned g i s b h
  turned_same i s b h t j u = t j u ∙ ap (λ (a : Bool). cond (same_peg i s j u) b a) (same j u)

lacks_test : (i : ℕ) → has 0 i ≡ false
lacks_test i = ne_eqb (digit 0 i) 1 (λ h. lacks_not 0 i (digit_of_zero i) h)

no_pegs_stand : (i : ℕ) (s : Sense) → standing no_pegs i s ≡ in_force [] i s
no_pegs_stand i On = lacks_test i
no_pegs_stand i Off = lacks_test i

module _ {X : Type 0} (G : Ghosts X) where
  -- ---- beginning
  pub fresh_ran : (s : Settled X) → KeepsLaws (meaning G s.pile) → Settles (meaning G s.pile) s.bounds → open_count s.bounds ≤ 16 → Ran G [] (fresh s)
  fresh_ran s laws settles few =
      let front : Front (Agreeing (meaning G s.pile) (in_force [])) None [] = front_begins (Agreeing (meaning G s.pile) (in_force [])) in
      record { listable = record { settled = settles; few = few }; lawful = first_so_many no_pegs (in_force []) no_pegs_stand laws front; pegs = no_pegs_stand; front = front }

  module _ (x : Listing X) (laws : KeepsLaws (meaning G x.pile)) where
    pub stable_inside : Listable G x → (z : ℕ) → Stable (meaning G x.pile) z → Between x.bounds z
    stable_inside l z t = stable_between laws t l.settled.reached

    module _ (h : History) (ran : Ran G h x) where
      -- one event more
      step : (e : Event) (p : Pegs) (last : Option ℕ) → Rightly (meaning G x.pile) h e → ((i : ℕ) (s : Sense) → standing p i s ≡ in_force (e ∷ h) i s) → Front (Agreeing (meaning G x.pile) (in_force (e ∷ h))) last (handed (e ∷ h)) → Ran G (e ∷ h) (record { pile = x.pile; bounds = x.bounds; pegs = p; last = last })
      step e p last right same front = record {
        listable = record { settled = ran.listable.settled; few = ran.listable.few };
        lawful = (ran.lawful, right, first_so_many p (in_force (e ∷ h)) same laws front);
        pegs = same;
        front = front;
      }

      alike : Alike (Wanted (meaning G x.pile) x.pegs.on x.pegs.off) (Agreeing (meaning G x.pile) (in_force h))
      alike = wanted_agreeing x.pegs (in_force h) ran.pegs

      pub next_ran : (r : Option ℕ) → Sought (Wanted (meaning G x.pile) x.pegs.on x.pegs.off) x.last r → Ran G (Next r ∷ h) (moved_on x r)
      next_ran None none = step (Next None) x.pegs x.last (front_whole ran.front (none_alike alike x.last none)) ran.pegs ran.front
      next_ran (Some y) first =
          let follows : FirstAfter (Agreeing (meaning G x.pile) (in_force h)) x.last y = first_alike alike x.last first in
          step (Next (Some y)) x.pegs (Some y) (λ all. front_short ran.front follows all) ran.pegs (front_hands ran.front follows)

      pub tally_ran : (n : ℕ) → Counted (Wanted (meaning G x.pile) x.pegs.on x.pegs.off) n → Ran G (Tally n ∷ h) x
      tally_ran n counted = step (Tally n) x.pegs x.last (counted_alike alike counted) ran.pegs ran.front

      pub standings_ran : {old new : List ℕ} → Gathered (Wanted (meaning G x.pile) x.pegs.on x.pegs.off) old new → Gathered (Agreeing (meaning G x.pile) (in_force h)) old new
      standings_ran gathered = gathered_alike alike gathered

      pub rewind_ran : Ran G (Rewind ∷ h) (begun x x.pegs)
      rewind_ran = step Rewind x.pegs None tt ran.pegs (front_begins (Agreeing (meaning G x.pile) (in_force h)))

      module _ (i : ℕ) (s : Sense) where
        pub peg_refused : (f : BenchFault) → peg_fault (G.width x.pile) (standing x.pegs) i ≡ Some f → Ran G (Peg i s (Err f) ∷ h) x
        peg_refused f e = step (Peg i s (Err f)) x.pegs x.last (peg_same (standing x.pegs) (in_force h) ran.pegs (G.width x.pile) i ∙ e) ran.pegs ran.front

        pub peg_granted : (p : Pegs) → peg_fault (G.width x.pile) (standing x.pegs) i ≡ None → Turned (standing x.pegs) i s true (standing p) → Ran G (Peg i s (Ok tt) ∷ h) (begun x p)
        peg_granted p e turned =
            step (Peg i s (Ok tt)) p None (peg_same (standing x.pegs) (in_force h) ran.pegs (G.width x.pile) i ∙ e)
            (turned_same (standing x.pegs) (in_force h) ran.pegs i s true (standing p) turned) (front_begins (Agreeing (meaning G x.pile) (in_force (Peg i s (Ok tt) ∷ h))))

        pub pull_refused : (f : BenchFault) → pull_fault (standing x.pegs) i s ≡ Some f → Ran G (Pull i s (Err f) ∷ h) x
        pull_refused f e = step (Pull i s (Err f)) x.pegs x.last (pull_same (standing x.pegs) (in_force h) ran.pegs i s ∙ e) ran.pegs ran.front

        pub pull_granted : (p : Pegs) → pull_fault (standing x.pegs) i s ≡ None → Turned (standing x.pegs) i s false (standing p) → Ran G (Pull i s (Ok tt) ∷ h) (begun x p)
        pull_granted p e turned =
            step (Pull i s (Ok tt)) p None (pull_same (standing x.pegs) (in_force h) ran.pegs i s ∙ e)
            (turned_same (standing x.pegs) (in_force h) ran.pegs i s false (standing p) turned) (front_begins (Agreeing (meaning G x.pile) (in_force (Pull i s (Ok tt) ∷ h))))
