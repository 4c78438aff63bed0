-- Handing out one after another: what was handed out is always the front of the list of all, and all of it when no more are left.
use Rattle.std.proofs.Common.{◌≡◌, ℕ, ◌⊎◌, List, [], ◌∷◌, ◌++◌, Some, None, Option, sym, refl, ◌∙◌, subst, ap₂, inl, inr}
use Rattle.atoms.specs.Order.{Before}
use Rattle.atoms.proofs.Ordering.{before_trans, before_irrefl}
use Rattle.solver.specs.Lists.{In, Ordered, Lists}
use Rattle.solver.specs.Search.{After, FirstAfter, NoneAfter}
use Rattle.solver.specs.Fronts.{Front}
use Rattle.solver.proofs.Listed.{in_append, in_left, in_right, ordered_append, ahead_in}

-- what comes after a later one comes after
after_trans : (c : Option ℕ) {y x : ℕ} → After c y → Before y x → After c x
after_trans None p r = tt
after_trans (Some z) p r = before_trans p r

-- ---- step by step
pub front_begins : (W : ℕ → Type 0) → Front W None []
front_begins W = record { ordered = tt; sound = λ x i. absurd i; ahead = λ x y i p w. absurd i; split = λ x w. inr tt }

module _ {W : ℕ → Type 0} {last : Option ℕ} {hs : List ℕ} (f : Front W last hs) where
  -- the following one is handed out
  pub front_hands : {y : ℕ} → FirstAfter W last y → Front W (Some y) (hs ++ y ∷ [])
  front_hands {y} s = record {
    ordered = ordered_append hs (y ∷ []) f.ordered (tt, tt) (λ x z i j. elim j [ inl e ↦ subst (Before x) (sym e) (f.ahead x y i s.later s.here) | inr n ↦ absurd n ]);
    sound = λ x i. elim (in_append x hs (y ∷ []) i) [ inl a ↦ f.sound x a | inr b ↦ elim b [ inl e ↦ subst W (sym e) s.here | inr n ↦ absurd n ] ];
    ahead = λ x z i p w. elim (in_append x hs (y ∷ []) i) [
      | inl a ↦ f.ahead x z a (after_trans last s.later p) w
      | inr b ↦ elim b [ inl e ↦ subst (λ (t : ℕ). Before t z) (sym e) p | inr n ↦ absurd n ]
    ];
    split = λ x w. elim (f.split x w) [
      | inl a ↦ inl (in_left x hs (y ∷ []) a)
      | inr p ↦ elim (s.first x p w) [ inl e ↦ inl (in_right x hs (y ∷ []) (inl e)) | inr b ↦ inr b ]
    ];
  }

  -- where one follows, not all were handed out
  pub front_short : {y : ℕ} → FirstAfter W last y → Lists W hs → ⊥
  front_short {y} s l = before_irrefl (f.ahead y y (l.whole y s.here) s.later s.here)

  -- where none follows, all were
  pub front_whole : NoneAfter W last → Lists W hs
  front_whole n = record { ordered = f.ordered; sound = f.sound; whole = λ x w. elim (f.split x w) [ inl a ↦ a | inr p ↦ absurd (n x p w) ] }

-- ---- the front of the list of all
-- what is in `xs` and not in `hs` comes after all of `hs`
module _ (h x : ℕ) (hs xs : List ℕ) (o : Ordered (h ∷ hs)) (p : Ordered (x ∷ xs)) where
  same_head : In h (x ∷ xs) → (In x (h ∷ hs)) ⊎ ((y : ℕ) → In y (h ∷ hs) → Before y x) → x ≡ h
  same_head (inl e) g = sym e
  same_head (inr i) (inl (inl e)) = e
  same_head (inr i) (inl (inr k)) = absurd (before_irrefl (before_trans (ahead_in x xs p.0 h i) (ahead_in h hs o.0 x k)))
  same_head (inr i) (inr b) = absurd (before_irrefl (before_trans (ahead_in x xs p.0 h i) (b h (inl refl))))

  module _ (e : x ≡ h) where
    tail_in : (y : ℕ) → In y hs → In y (x ∷ xs) → In y xs
    tail_in y i (inl q) = absurd (before_irrefl (subst (Before h) (q ∙ e) (ahead_in h hs o.0 y i)))
    tail_in y i (inr j) = j

    tail_after : (y : ℕ) → In y xs → (In y (h ∷ hs)) ⊎ ((z : ℕ) → In z (h ∷ hs) → Before z y) → (In y hs) ⊎ ((z : ℕ) → In z hs → Before z y)
    tail_after y i (inl (inl q)) = absurd (before_irrefl (subst (Before x) (q ∙ sym e) (ahead_in x xs p.0 y i)))
    tail_after y i (inl (inr k)) = inl k
    tail_after y i (inr b) = inr (λ z k. b z (inr k))

begins_with : (hs xs : List ℕ) → Ordered hs → Ordered xs → ((x : ℕ) → In x hs → In x xs) → ((x : ℕ) → In x xs → (In x hs) ⊎ ((y : ℕ) → In y hs → Before y x)) → (rest : List ℕ) × (xs ≡ hs ++ rest)
begins_with [] xs o p f g = (xs, refl)
begins_with (h ∷ hs) [] o p f g = absurd (f h (inl refl))
begins_with (h ∷ hs) (x ∷ xs) o p f g =
    let e : x ≡ h = same_head h x hs xs o p (f h (inl refl)) (g x (inl refl)) in
    let tail = begins_with hs xs o.1 p.1 (λ y i. tail_in h x hs xs o p e y i (f y (inr i))) (λ y i. tail_after h x hs xs o p e y i (g y (inr i))) in
    (tail.0, ap₂ ◌∷◌ e tail.1)

pub front_of : {W : ℕ → Type 0} {last : Option ℕ} {hs xs : List ℕ} → Front W last hs → Lists W xs → (rest : List ℕ) × (xs ≡ hs ++ rest)
front_of {hs = hs} {xs = xs} f l =
    begins_with hs xs f.ordered l.ordered (λ x i. l.whole x (f.sound x i))
    (λ x i. elim (f.split x (l.sound x i)) [ inl a ↦ inl a | inr p ↦ inr (λ y k. f.ahead y x k p (l.sound x i)) ])
