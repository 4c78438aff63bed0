-- The listing order is a strict total order, in which a set comes first among those that it is within.
use Rattle.std.proofs.Common.{◌≡◌, ℕ, zero, suc, Bool, false, Option, Some, None, MatchOption, Decides, ◌/◌, ◌%◌, ◌^◌, ◌<◌, ◌⊎◌, sym, refl, ap, ◌∙◌, subst, ap₂, inl, inr, pow-suc, arith}
use lib.Arith.{bin_ind}
use lib.Bits.{bit_xor}
use lib.Count.{count_trailing_zeros, under}
use Rattle.std.proofs.lemmas.Bool.{cases_eq, cases_lt, false≢true, eqb-true, eq-eqb}
use Rattle.atoms.specs.Sets.{digit, Has, has, Within, Lowest}
use Rattle.atoms.specs.Order.{Before}
use Rattle.atoms.proofs.Digits.{digit_zero, digit_suc, digit_of_zero, has_or_lacks, lacks_not, xor_digit}

-- ---- listing order
before_low : {a b : ℕ} → a % 2 ≡ 0 → b % 2 ≡ 1 → Before a b
before_low {a} {b} p q = record { atom = 0; lacks = digit_zero a ∙ p; has = digit_zero b ∙ q; same = λ j h. absurd (omega arith) }

before_half : {a b : ℕ} → a % 2 ≡ b % 2 → Before (a / 2) (b / 2) → Before a b
before_half {a} {b} e r = record { atom = suc r.atom; lacks = digit_suc a r.atom ∙ r.lacks; has = digit_suc b r.atom ∙ r.has; same = below }
  where
    below : (j : ℕ) → j < suc r.atom → digit a j ≡ digit b j
    below zero h = digit_zero a ∙ e ∙ sym (digit_zero b)
    below (suc j) h = digit_suc a j ∙ r.same j (omega arith) ∙ sym (digit_suc b j)

pub low_cases : (n : ℕ) → (n % 2 ≡ 0) ⊎ (n % 2 ≡ 1)
low_cases n = elim (cases_eq (n % 2) 0) [ inl e ↦ inl e | inr d ↦ inr (omega arith) ]

zero_first : (b : ℕ) → (0 ≡ b) ⊎ Before 0 b
zero_first = bin_ind (λ (n : ℕ). (0 ≡ n) ⊎ Before 0 n) (inl refl)
    (λ n ih. elim (low_cases n) [
      | inl e ↦ elim ih [ inl z ↦ inl (omega arith) | inr r ↦ inr (before_half {a = 0} {b = n} (sym e) r) ]
      | inr e ↦ inr (before_low {a = 0} {b = n} refl e)
    ])

-- any two sets are equal, or one comes before the other
pub before_cases : (a b : ℕ) → (a ≡ b) ⊎ ((Before a b) ⊎ (Before b a))
before_cases = bin_ind (λ (n : ℕ). (b : ℕ) → (n ≡ b) ⊎ ((Before n b) ⊎ (Before b n)))
    (λ b. elim (zero_first b) [ inl e ↦ inl e | inr r ↦ inr (inl r) ])
    (λ n ih b. elim (low_cases n) [
      | inl p ↦ elim (low_cases b) [
        | inl q ↦ elim (ih (b / 2)) [ inl e ↦ inl (omega arith) | inr t ↦ inr (elim t [ inl r ↦ inl (before_half (p ∙ sym q) r) | inr r ↦ inr (before_half (q ∙ sym p) r) ]) ]
        | inr q ↦ inr (inl (before_low p q))
      ]
      | inr p ↦ elim (low_cases b) [
        | inl q ↦ inr (inr (before_low q p))
        | inr q ↦ elim (ih (b / 2)) [ inl e ↦ inl (omega arith) | inr t ↦ inr (elim t [ inl r ↦ inl (before_half (p ∙ sym q) r) | inr r ↦ inr (before_half (q ∙ sym p) r) ]) ]
      ]
    ])

pub before_irrefl : {a : ℕ} → Before a a → ⊥
before_irrefl {a} r = lacks_not a r.atom r.lacks r.has

pub before_trans : {a b c : ℕ} → Before a b → Before b c → Before a c
before_trans {a} {b} {c} p q = elim (cases_lt p.atom q.atom) [
  | inl h ↦ record { atom = p.atom; lacks = p.lacks; has = sym (q.same p.atom h) ∙ p.has; same = λ j k. p.same j k ∙ q.same j (omega arith) }
  | inr h ↦ elim (cases_eq p.atom q.atom) [
    | inl e ↦ absurd (lacks_not b q.atom q.lacks (subst (Has b) e p.has))
    | inr d ↦ record { atom = q.atom; lacks = p.same q.atom (omega arith) ∙ q.lacks; has = q.has; same = λ j k. p.same j (omega arith) ∙ q.same j k }
  ]
]

-- a set comes first among those that it is within
pub within_first : {a b : ℕ} → Within a b → (b ≡ a) ⊎ Before a b
within_first {a} {b} p = elim (before_cases a b) [
  | inl e ↦ inl (sym e)
  | inr t ↦ elim t [ inl r ↦ inr r | inr r ↦ absurd (lacks_not b r.atom r.lacks (p.at r.atom r.has)) ]
]

-- ---- the lowest atom of a set
pub lowest_at : (k s : ℕ) → 0 < s → s < 2 ^ k → (count_trailing_zeros k s < k) × Lowest s (count_trailing_zeros k s)
unfolding count_trailing_zeros
lowest_at zero s h g = absurd (omega arith)
lowest_at (suc k) s h g = elim (low_cases s) [
  | inl e ↦
      let t : ℕ = count_trailing_zeros k (s / 2) in
      let r = lowest_at k (s / 2) (omega arith) (omega (arith, pow-suc 2 k)) in
      let up : under (s % 2) t ≡ suc t = ap (λ (x : ℕ). under x t) e in
      subst (λ (p : ℕ). (p < suc k) × Lowest s p) (sym up)
      (omega (arith, r.0), record { here = digit_suc s t ∙ r.1.here; below = under_all s t e r.1.below })
  | inr e ↦
      let up : under (s % 2) (count_trailing_zeros k (s / 2)) ≡ 0 = ap (λ (x : ℕ). under x (count_trailing_zeros k (s / 2))) e in
      subst (λ (p : ℕ). (p < suc k) × Lowest s p) (sym up)
      (omega arith, record { here = digit_zero s ∙ e; below = λ j q. absurd (omega arith) })
]
  where
    under_all : (s t : ℕ) → s % 2 ≡ 0 → ((j : ℕ) → j < t → digit (s / 2) j ≡ 0) → (j : ℕ) → j < suc t → digit s j ≡ 0
    under_all s t e f zero q = digit_zero s ∙ e
    under_all s t e f (suc j) q = digit_suc s j ∙ f j (omega arith)

-- ---- the order by the lowest atom where two sets differ
xor_same : (a b i : ℕ) → digit (bit_xor a b) i ≡ 0 → digit a i ≡ digit b i
xor_same a b i e = elim (has_or_lacks a i) [
  | inl p ↦ elim (has_or_lacks b i) [ inl q ↦ p ∙ sym q | inr q ↦ absurd (lacks_not (bit_xor a b) i e (xor_digit a b i ∙ ap₂ bit_xor p q)) ]
  | inr p ↦ elim (has_or_lacks b i) [ inl q ↦ absurd (lacks_not (bit_xor a b) i e (xor_digit a b i ∙ ap₂ bit_xor p q)) | inr q ↦ p ∙ sym q ]
]

xor_apart : (a b i : ℕ) → Has (bit_xor a b) i → Has b i → digit a i ≡ 0
xor_apart a b i h q = elim (has_or_lacks a i) [
  | inl p ↦ absurd (lacks_not (bit_xor a b) i (xor_digit a b i ∙ ap₂ bit_xor p q) h)
  | inr p ↦ p
]

pub equal_not_before : {a b : ℕ} → bit_xor a b ≡ 0 → Before a b → ⊥
equal_not_before {a} {b} e r =
    lacks_not (bit_xor a b) r.atom (ap (λ (x : ℕ). digit x r.atom) e ∙ digit_of_zero r.atom) (xor_digit a b r.atom ∙ ap₂ bit_xor r.lacks r.has)

pub before_by : {a b i : ℕ} → Lowest (bit_xor a b) i → Has b i → Before a b
before_by {a} {b} {i} l h = record { atom = i; lacks = xor_apart a b i l.here h; has = h; same = λ j k. xor_same a b j (l.below j k) }

pub by_before : {a b i : ℕ} → Lowest (bit_xor a b) i → Before a b → Has b i
by_before {a} {b} {i} l r =
    let apart : Has (bit_xor a b) r.atom = xor_digit a b r.atom ∙ ap₂ bit_xor r.lacks r.has in
    elim (cases_lt r.atom i) [
      | inl k ↦ absurd (lacks_not (bit_xor a b) r.atom (l.below r.atom k) apart)
      | inr k ↦ elim (cases_eq r.atom i) [
        | inl e ↦ subst (Has b) e r.has
        | inr n ↦ absurd (differ (r.same i (omega arith)) l.here)
      ]
    ]
  where
    differ : digit a i ≡ digit b i → Has (bit_xor a b) i → ⊥
    differ e h = elim (has_or_lacks b i) [
      | inl q ↦ lacks_not (bit_xor a b) i (xor_digit a b i ∙ ap₂ bit_xor (e ∙ q) q) h
      | inr q ↦ lacks_not (bit_xor a b) i (xor_digit a b i ∙ ap₂ bit_xor (e ∙ q) q) h
    ]

-- what the lowest atom of the difference decides, if there is one
pub before_decided : (a b : ℕ) (o : Option ℕ) (r : Bool) → MatchOption o (bit_xor a b ≡ 0) (λ i. (i < 64) × Lowest (bit_xor a b) i) → MatchOption o (r ≡ false) (λ i. r ≡ has b i) → Decides r (Before a b)
before_decided a b None r e d = ((λ t. absurd (false≢true (sym d ∙ t))), (λ p. absurd (equal_not_before e p)))
before_decided a b (Some i) r e d = (
  (λ t. before_by e.1 (eqb-true (digit b i) 1 (sym d ∙ t))),
  (λ p. d ∙ eq-eqb (digit b i) 1 (by_before e.1 p)),
)
