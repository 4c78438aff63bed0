-- Lists in listing order: put together, of none, of one only and of two parts, and that there is one list and one count only.
use Rattle.std.proofs.Common.{◌≡◌, ℕ, ◌⊎◌, List, [], ◌∷◌, ◌++◌, length, sym, refl, ap, ◌∙◌, subst, ap₂, inl, inr}
use Rattle.atoms.specs.Order.{Before}
use Rattle.atoms.proofs.Ordering.{before_trans, before_irrefl}
use Rattle.solver.specs.Lists.{In, AheadOf, Ordered, Lists, Counted}
use Rattle.solver.specs.Search.{Only, Joins}

-- ---- one list after another
pub in_append : (x : ℕ) (xs ys : List ℕ) → In x (xs ++ ys) → (In x xs) ⊎ (In x ys)
in_append x [] ys h = inr h
in_append x (y ∷ xs) ys (inl e) = inl (inl e)
in_append x (y ∷ xs) ys (inr h) = elim (in_append x xs ys h) [ inl a ↦ inl (inr a) | inr b ↦ inr b ]

pub in_left : (x : ℕ) (xs ys : List ℕ) → In x xs → In x (xs ++ ys)
in_left x [] ys h = absurd h
in_left x (y ∷ xs) ys (inl e) = inl e
in_left x (y ∷ xs) ys (inr h) = inr (in_left x xs ys h)

pub in_right : (x : ℕ) (xs ys : List ℕ) → In x ys → In x (xs ++ ys)
in_right x [] ys h = h
in_right x (y ∷ xs) ys h = inr (in_right x xs ys h)

ahead_append : (z : ℕ) (xs ys : List ℕ) → AheadOf z xs → ((y : ℕ) → In y ys → Before z y) → AheadOf z (xs ++ ys)
ahead_append z [] [] h f = tt
ahead_append z [] (y ∷ ys) h f = (f y (inl refl), ahead_append z [] ys tt (λ x i. f x (inr i)))
ahead_append z (x ∷ xs) ys h f = (h.0, ahead_append z xs ys h.1 f)

pub ordered_append : (xs ys : List ℕ) → Ordered xs → Ordered ys → ((x y : ℕ) → In x xs → In y ys → Before x y) → Ordered (xs ++ ys)
ordered_append [] ys p q f = q
ordered_append (x ∷ xs) ys p q f = (ahead_append x xs ys p.0 (λ y i. f x y (inl refl) i), ordered_append xs ys p.1 q (λ z y i j. f z y (inr i) j))

-- ---- of none, of one only, and of two parts
pub lists_none : {P : ℕ → Type 0} → ((x : ℕ) → P x → ⊥) → Lists P []
lists_none f = record { ordered = tt; sound = λ x i. absurd i; whole = λ x p. absurd (f x p) }

pub lists_one : {P : ℕ → Type 0} {z : ℕ} → Only P z → Lists P (z ∷ [])
lists_one {P} {z} o = record {
  ordered = (tt, tt);
  sound = λ x i. elim i [ inl e ↦ subst P (sym e) o.here | inr n ↦ absurd n ];
  whole = λ x p. inl (o.one x p);
}

pub lists_both : {P Q R : ℕ → Type 0} {xs ys : List ℕ} → Joins P Q R → Lists Q xs → Lists R ys → Lists P (xs ++ ys)
lists_both {xs = xs} {ys = ys} j p q = record {
  ordered = ordered_append xs ys p.ordered q.ordered (λ x y i k. j.ahead x y (p.sound x i) (q.sound y k));
  sound = λ x i. elim (in_append x xs ys i) [ inl k ↦ j.first_in x (p.sound x k) | inr k ↦ j.second_in x (q.sound x k) ];
  whole = λ x i. elim (j.either x i) [ inl k ↦ in_left x xs ys (p.whole x k) | inr k ↦ in_right x xs ys (q.whole x k) ];
}

-- ---- one list only
pub ahead_in : (y : ℕ) (xs : List ℕ) → AheadOf y xs → (x : ℕ) → In x xs → Before y x
ahead_in y [] a x i = absurd i
ahead_in y (z ∷ xs) a x (inl e) = subst (Before y) (sym e) a.0
ahead_in y (z ∷ xs) a x (inr i) = ahead_in y xs a.1 x i

same_ordered : (xs ys : List ℕ) → Ordered xs → Ordered ys → ((x : ℕ) → In x xs → In x ys) → ((x : ℕ) → In x ys → In x xs) → xs ≡ ys
same_ordered [] [] o p f g = refl
same_ordered [] (y ∷ ys) o p f g = absurd (g y (inl refl))
same_ordered (x ∷ xs) [] o p f g = absurd (f x (inl refl))
same_ordered (x ∷ xs) (y ∷ ys) o p f g =
    let e : x ≡ y = elim (f x (inl refl)) [
      | inl q ↦ q
      | inr i ↦ elim (g y (inl refl)) [
        | inl q ↦ sym q
        | inr j ↦ absurd (before_irrefl (before_trans (ahead_in x xs o.0 y j) (ahead_in y ys p.0 x i)))
      ]
    ] in
    ap₂ ◌∷◌ e
    (same_ordered xs ys o.1 p.1
    (λ z i. elim (f z (inr i)) [ inl q ↦ absurd (before_irrefl (subst (Before x) (q ∙ sym e) (ahead_in x xs o.0 z i))) | inr j ↦ j ])
    (λ z i. elim (g z (inr i)) [ inl q ↦ absurd (before_irrefl (subst (Before y) (q ∙ e) (ahead_in y ys p.0 z i))) | inr j ↦ j ]))

module _ {P : ℕ → Type 0} {xs : List ℕ} (l : Lists P xs) where
  pub same_lists : {ys : List ℕ} → Lists P ys → xs ≡ ys
  same_lists {ys} k = same_ordered xs ys l.ordered k.ordered (λ x i. k.whole x (l.sound x i)) (λ x i. l.whole x (k.sound x i))

  -- any count is the length of the list
  pub tally_is : {n : ℕ} → Counted P n → length xs ≡ n
  tally_is c = ap length (same_lists c.held) ∙ c.long
