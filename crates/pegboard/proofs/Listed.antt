-- What the calls of a listing do to its pegs and tokens.
use Rattle.std.proofs.Common.{◌≡◌, ℕ, suc, ◌+◌, ◌<◌, ◌≤◌, Bool, true, false, cond, not, ltb, List, [], ◌∷◌, ◌++◌, length, get_or, Some, None, Ok, Err, Option, sym, refl, ap, ◌∙◌, subst, arith}
use Rattle.std.specs.List.{position, position_or_len, count_by}
use Rattle.std.proofs.lemmas.Bool.{eqb-true, both_ways, ltb-false}
use Rattle.std.proofs.lemmas.List.Quantifiers.{position-Some}
use Rattle.std.proofs.lemmas.List.Sums.{sum_by-cons}
use Rattle.atoms.specs.Bounded.{open_count}
use Rattle.approx.specs.declared.approximator.Approximator.{Ghosts}
use Rattle.faults.specs.declared.BenchFault.{BenchFault}
use Rattle.faults.specs.declared.BenchFault.TheVariants as fault
use Rattle.engine.specs.Standing.{standing, same_peg, no_pegs, with_peg, without_peg}
use Rattle.engine.specs.Rules.{peg_fault, pull_fault}
use Rattle.engine.specs.Histories.{History}
use Rattle.engine.specs.Listings.{fresh, list_gives, begun, peg_gives, peg_leaves, pull_leaves, Ran}
use Rattle.engine.specs.declared.runs.Event.TheVariants.{Pull}
use Rattle.engine.specs.declared.board.Settled.{Settled}
use Rattle.engine.specs.declared.pegs.Sense.{Sense}
use Rattle.engine.specs.declared.pegs.Sense.TheVariants.{On, Off}
use Rattle.engine.specs.declared.pegs.Pegs.{Pegs}
use Rattle.engine.specs.declared.listing.Listing.{Listing}
use Rattle.engine.specs.declared.listing.Token.{Token}
use Rattle.pegboard.specs.Kept.{is_of, Kept}
use Rattle.pegboard.specs.Answered.{pull_told}
use Rattle.pegboard.proofs.Counting.{one_if}
use Rattle.pegboard.proofs.Keeping.{peg_free, kept_pegged, fails_if}

-- ---- beginning
which : {X Y : Type 0} (b : Bool) (e : Y) (f x : X) → Ok x ≡ cond b (Err e) (Ok f) → x ≡ f
which true e f x h = absurd cc
which false e f x h = cc

pub listed_bare : {X : Type 0} (s : Settled X) (x : Listing X) → Ok x ≡ list_gives s → x.pegs ≡ no_pegs
listed_bare {X} s x h = ap (λ (y : Listing X). y.pegs) (which (ltb 16 (open_count s.bounds)) (record { fault = fault.TooManyOpen (open_count s.bounds); back = s }) (fresh s) x h)

-- ---- a peg that was granted
granted : {X : Type 0} (f : Option BenchFault) (x y : Listing X) (i : ℕ) (s : Sense) (t : Token) → Ok t ≡ peg_gives f i s → y ≡ peg_leaves f x i s → (f ≡ None) × (record { atom = i; sense = s } ≡ t) × (with_peg x.pegs i s ≡ y.pegs)
granted {X} None x y i s t e l = (refl, cc, sym (ap (λ (z : Listing X). z.pegs) l))
granted (Some f) x y i s t e l = absurd cc

pub kept_granted : {X : Type 0} (x y : Listing X) (ts : List Token) (w i : ℕ) (s : Sense) (t : Token) → Kept x.pegs ts → w ≤ 64 → Ok t ≡ peg_gives (peg_fault w (standing x.pegs) i) i s → y ≡ peg_leaves (peg_fault w (standing x.pegs) i) x i s → Kept y.pegs (ts ++ t ∷ [])
kept_granted x y ts w i s t k wide e l =
    let r = granted (peg_fault w (standing x.pegs) i) x y i s t e l in
    let free = peg_free (standing x.pegs) w i r.0 in
    let kept = kept_pegged x.pegs ts k i s (omega (arith, free.0, wide)) free.1 free.2 in
    subst (λ (u : Token). Kept y.pegs (ts ++ u ∷ [])) r.1 (subst (λ (p : Pegs). Kept p (ts ++ record { atom = i; sense = s } ∷ [])) r.2 kept)

-- ---- the token of a peg
its_own : (j : ℕ) (u : Sense) (i : ℕ) (s : Sense) → same_peg j u i s ≡ true → (j ≡ i) × (u ≡ s)
its_own j On i On e = (sym (eqb-true i j e), refl)
its_own j On i Off e = absurd (both_ways false refl e)
its_own j Off i On e = absurd (both_ways false refl e)
its_own j Off i Off e = (sym (eqb-true i j e), refl)

absent_step : (b : Bool) (n m c : ℕ) → suc n ≤ cond (not b) (1 + m) 0 → (n ≤ m → c ≡ 0) → one_if b + c ≡ 0
absent_step true n m c l f = absurd (omega arith)
absent_step false n m c l f = let e : c ≡ 0 = f (omega arith) in omega (arith, e)

none_passes : (p : Token → Bool) (ts : List Token) → length ts ≤ position_or_len p ts → count_by p ts ≡ 0
none_passes p [] l = refl
none_passes p (t ∷ ts) l = sum_by-cons (λ (u : Token). one_if (p u)) t ts ∙ absent_step (p t) (length ts) (position_or_len p ts) (count_by p ts) l (none_passes p ts)

no_place : (b : Bool) (n : ℕ) → None ≡ cond b (Some n) None → b ≡ false
no_place true n e = absurd cc
no_place false n e = refl

pub not_in_force : (p : Pegs) (ts : List Token) (i : ℕ) (s : Sense) → Kept p ts → None ≡ position (is_of i s) ts → pull_fault (standing p) i s ≡ Some (fault.NotInForce i)
not_in_force p ts i s k e =
    let none = none_passes (is_of i s) ts (ltb-false (position_or_len (is_of i s) ts) (length ts) (no_place _ _ e)) in
    ap (λ (b : Bool). cond b None (Some (fault.NotInForce i))) (fails_if (standing p i s) (sym (k.each i s) ∙ none))

-- `t` is the token at the place that was found
pub found_own : (ts : List Token) (i : ℕ) (s : Sense) (n : ℕ) (t : Token) → Some n ≡ position (is_of i s) ts → t ≡ get_or ts n t → (n < length ts) × (t.atom ≡ i) × (t.sense ≡ s)
found_own ts i s n t e r =
    let f = position-Some (is_of i s) ts n t (sym e) in
    let own = its_own t.atom t.sense i s (ap (is_of i s) r ∙ f.1) in
    (f.0, own.0, own.1)

-- a pull with the token of a peg in force, told as the pull of that peg
pub record Pulled {X : Type 0} (G : Ghosts X) (x y : Listing X) (i : ℕ) (s : Sense) : Type 0 where
  pub gives : Ok tt ≡ pull_told (pull_fault (standing x.pegs) i s)
  pub leaves : y ≡ pull_leaves (pull_fault (standing x.pegs) i s) x (record { atom = i; sense = s })
  pub law : (h : History) → Ran G h x → Ran G (Pull i s (Ok tt) ∷ h) y

pulled_own : {X : Type 0} (G : Ghosts X) (x y : Listing X) (t : Token) → standing x.pegs t.atom t.sense ≡ true → y ≡ begun x (without_peg x.pegs t.atom t.sense) → ((h : History) → Ran G h x → Ran G (Pull t.atom t.sense (Ok tt) ∷ h) y) → Pulled G x y t.atom t.sense
pulled_own G x y t stands leaves law =
    let e : pull_fault (standing x.pegs) t.atom t.sense ≡ None = ap (λ (b : Bool). cond b None (Some (fault.NotInForce t.atom))) stands in
    record {
      gives = sym (ap pull_told e);
      leaves = leaves ∙ sym (ap (λ (f : Option BenchFault). pull_leaves f x t) e);
      law = law;
    }

pub pull_found : {X : Type 0} (G : Ghosts X) (x y : Listing X) (i : ℕ) (s : Sense) (t : Token) → t.atom ≡ i → t.sense ≡ s → standing x.pegs t.atom t.sense ≡ true → y ≡ begun x (without_peg x.pegs t.atom t.sense) → ((h : History) → Ran G h x → Ran G (Pull t.atom t.sense (Ok tt) ∷ h) y) → Pulled G x y i s
pull_found G x y i s t a b stands leaves law = subst (λ (j : ℕ). Pulled G x y j s) a (subst (λ (u : Sense). Pulled G x y t.atom u) b (pulled_own G x y t stands leaves law))
