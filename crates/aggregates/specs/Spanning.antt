-- The least and the greatest sum: narrower bounds bring them nearer, and where no entry is open they are the sum.
use Rattle.std.specs.Prelude.{◌≡◌, ℕ, Bool, false, ◌⊎◌, List, [], ◌∷◌, ℤ, pos, ◌+ℤ◌, ◌≤ℤ◌, fold, refl}
use Rattle.std.proofs.Common.{sym, ◌∙◌, ap, subst, inl, inr, arith}
use Rattle.std.proofs.lemmas.Int.{ints, clamps}
use Rattle.std.proofs.lemmas.Bool.{true≢false, or_parts, or_from}
use Rattle.std.specs.List.{list_any}
use Rattle.atoms.specs.Sets.{Within}
use Rattle.tables.specs.declared.table.Entry.{Entry}
use Rattle.aggregates.specs.declared.condition.Condition.{Condition}
use Rattle.aggregates.specs.declared.condition.Condition.TheVariants.{Met, Failed, Open}
use Rattle.aggregates.specs.Conditions.{condition, undecided}
use Rattle.aggregates.specs.Sums.{total, given, least, most, given_by, least_of, most_of, met_sum, low_sum, high_sum, some_open}
use Rattle.aggregates.specs.Narrowing.{condition_stays, condition_decided}

-- ---- one weight
least_open : (w : ℤ) (c : Condition) → least w Open ≤ℤ least w c
least_open w Met = omega (arith, ints, clamps)
least_open w Failed = omega (arith, ints, clamps)
least_open w Open = omega (arith, ints)

most_open : (w : ℤ) (c : Condition) → most w c ≤ℤ most w Open
most_open w Met = omega (arith, ints, clamps)
most_open w Failed = omega (arith, ints, clamps)
most_open w Open = omega (arith, ints)

least_most : (w : ℤ) (c : Condition) → least w c ≤ℤ most w c
least_most w Met = omega (arith, ints)
least_most w Failed = omega (arith, ints)
least_most w Open = omega (arith, ints, clamps)

least_decided : (w : ℤ) (c : Condition) → undecided c ≡ false → least w c ≡ given w c
least_decided w Met h = refl
least_decided w Failed h = refl
least_decided w Open h = absurd (true≢false h)

most_decided : (w : ℤ) (c : Condition) → undecided c ≡ false → most w c ≡ given w c
most_decided w Met h = refl
most_decided w Failed h = refl
most_decided w Open h = absurd (true≢false h)

-- a condition that stays, or was open
module _ (w : ℤ) (c d : Condition) (s : (c ≡ d) ⊎ (c ≡ Open)) where
  least_stays : least w c ≤ℤ least w d
  least_stays = elim s [
    | inl e ↦ subst (λ (x : Condition). least w c ≤ℤ least w x) e (omega (arith, ints))
    | inr e ↦ subst (λ (x : Condition). least w x ≤ℤ least w d) (sym e) (least_open w d)
  ]

  most_stays : most w d ≤ℤ most w c
  most_stays = elim s [
    | inl e ↦ subst (λ (x : Condition). most w x ≤ℤ most w c) e (omega (arith, ints))
    | inr e ↦ subst (λ (x : Condition). most w d ≤ℤ most w x) (sym e) (most_open w d)
  ]

  stays : undecided c ≡ false → c ≡ d
  stays h = elim s [ inl e ↦ e | inr e ↦ absurd (true≢false (sym (ap undecided e) ∙ h)) ]

-- ---- sums
sums_le : (f g : Entry → ℤ) → ((e : Entry) → f e ≤ℤ g e) → (a b : ℤ) → a ≤ℤ b → (es : List Entry) → fold (λ s e. s +ℤ f e) a es ≤ℤ fold (λ s e. s +ℤ g e) b es
sums_le f g h a b p [] = p
sums_le f g h a b p (e ∷ es) = let q = h e in sums_le f g h (a +ℤ f e) (b +ℤ g e) (omega (arith, ints)) es

total_le : (f g : Entry → ℤ) → ((e : Entry) → f e ≤ℤ g e) → (es : List Entry) → total f es ≤ℤ total g es
total_le f g h es = sums_le f g h (pos 0) (pos 0) (omega (arith, ints)) es

-- entries of which none passes a test, and that give the same where they do not
module _ (f g : Entry → ℤ) (p : Entry → Bool) (h : (e : Entry) → p e ≡ false → f e ≡ g e) where
  sums_same : (a : ℤ) (es : List Entry) → list_any p es ≡ false → fold (λ s e. s +ℤ f e) a es ≡ fold (λ s e. s +ℤ g e) a es
  sums_same a [] n = refl
  sums_same a (e ∷ es) n =
      let q = or_parts (p e) (list_any p es) n in
      ap (λ (x : ℤ). fold (λ s e. s +ℤ f e) (a +ℤ x) es) (h e q.0) ∙ sums_same (a +ℤ g e) es q.1

  total_same : (es : List Entry) → list_any p es ≡ false → total f es ≡ total g es
  total_same es n = sums_same (pos 0) es n

-- ---- on one pair of bounds
pub low_high : (es : List Entry) (l u : ℕ) → low_sum es l u ≤ℤ high_sum es l u
low_high es l u = total_le (λ e. least_of e l u) (λ e. most_of e l u) (λ e. least_most e.weight (condition e l u)) es

pub low_decided : (es : List Entry) (l u : ℕ) → some_open es l u ≡ false → low_sum es l u ≡ met_sum es l u
low_decided es l u = total_same (λ e. least_of e l u) (λ e. given_by e l u) (λ e. undecided (condition e l u)) (λ e h. least_decided e.weight (condition e l u) h) es

pub high_decided : (es : List Entry) (l u : ℕ) → some_open es l u ≡ false → high_sum es l u ≡ met_sum es l u
high_decided es l u = total_same (λ e. most_of e l u) (λ e. given_by e l u) (λ e. undecided (condition e l u)) (λ e h. most_decided e.weight (condition e l u) h) es

-- on one interpretation no entry is open
pub none_open : (es : List Entry) (z : ℕ) → some_open es z z ≡ false
none_open [] z = refl
none_open (e ∷ es) z = or_from (undecided (condition e z z)) (some_open es z z) (condition_decided e z) (none_open es z)

-- ---- on narrower bounds
module _ {l k v u : ℕ} (lk : Within l k) (kv : Within k v) (vu : Within v u) where
  pub low_up : (es : List Entry) → low_sum es l u ≤ℤ low_sum es k v
  low_up es = total_le (λ e. least_of e l u) (λ e. least_of e k v) (λ e. least_stays e.weight (condition e l u) (condition e k v) (condition_stays e lk kv vu)) es

  pub high_down : (es : List Entry) → high_sum es k v ≤ℤ high_sum es l u
  high_down es = total_le (λ e. most_of e k v) (λ e. most_of e l u) (λ e. most_stays e.weight (condition e l u) (condition e k v) (condition_stays e lk kv vu)) es

  pub met_stays : (es : List Entry) → some_open es l u ≡ false → met_sum es l u ≡ met_sum es k v
  met_stays es = total_same (λ e. given_by e l u) (λ e. given_by e k v) (λ e. undecided (condition e l u))
      (λ e h. ap (given e.weight) (stays e.weight (condition e l u) (condition e k v) (condition_stays e lk kv vu) h)) es

  pub none_opens : (es : List Entry) → some_open es l u ≡ false → some_open es k v ≡ false
  none_opens [] n = refl
  none_opens (e ∷ es) n =
      let q = or_parts (undecided (condition e l u)) (some_open es l u) n in
      let same : condition e l u ≡ condition e k v = stays e.weight (condition e l u) (condition e k v) (condition_stays e lk kv vu) q.0 in
      or_from (undecided (condition e k v)) (some_open es k v) (sym (ap undecided same) ∙ q.0) (none_opens es q.1)
