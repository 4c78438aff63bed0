-- The set of the atoms below a width that pass a test, and how many they are.
use Rattle.std.proofs.Common.{◌≡◌, ℕ, zero, suc, ◌+◌, ◌/◌, ◌%◌, ◌^◌, ◌<◌, ◌≤◌, Bool, true, false, cond, eqb, sym, refl, ap, ◌∙◌, subst, ap₂, inl, inr, pow-suc, add-one, arith, pow_pos}
use lib.Bits.{bit_or, or_lt}
use lib.Count.{ones, ones_step}
use Rattle.std.proofs.lemmas.Bool.{cases_eq, cases_Bool, both_ways, false≢true, eq-eqb, ne_eqb, cond-true, cond-false}
use Rattle.atoms.specs.Sets.{digit, Has, has, collected, how_many}
use Rattle.atoms.proofs.Digits.{ext, digit_of_zero, digit_zero, digit_suc, has_or_lacks, has_or_l, has_or_r, has_or_cases, lacks_not, pow_has, pow_only, same_digit}
use Rattle.atoms.proofs.Counting.{ones_zero}

-- ---- the atoms that pass
pub collected_more : (p : ℕ → Bool) (n : ℕ) → collected p (n + 1) ≡ bit_or (collected p n) (cond (p n) (2 ^ n) 0)
unfolding collected
collected_more p n = ap (collected p) (add-one n)

pub collected_none : (p : ℕ → Bool) → collected p 0 ≡ 0
unfolding collected
collected_none p = refl

passing : (b : Bool) (n : ℕ) → b ≡ true → Has (cond b (2 ^ n) 0) n
passing b n e = subst (λ (x : Bool). Has (cond x (2 ^ n) 0) n) (sym e) (pow_has n)

passed : (b : Bool) (n i : ℕ) → Has (cond b (2 ^ n) 0) i → (b ≡ true) × (n ≡ i)
passed true n i h = (refl, pow_only n i h)
passed false n i h = absurd (lacks_not 0 i (digit_of_zero i) h)

pub collected_in : (p : ℕ → Bool) (n i : ℕ) → i < n → p i ≡ true → Has (collected p n) i
unfolding collected
collected_in p zero i h e = absurd (omega arith)
collected_in p (suc n) i h e = elim (cases_eq i n) [
  | inl q ↦ has_or_r (collected p n) (cond (p n) (2 ^ n) 0) i (subst (λ (x : ℕ). Has (cond (p x) (2 ^ x) 0) i) q (passing (p i) i e))
  | inr d ↦ has_or_l (collected p n) (cond (p n) (2 ^ n) 0) i (collected_in p n i (omega arith) e)
]

pub collected_from : (p : ℕ → Bool) (n i : ℕ) → Has (collected p n) i → (i < n) × (p i ≡ true)
unfolding collected
collected_from p zero i h = absurd (lacks_not 0 i (digit_of_zero i) h)
collected_from p (suc n) i h = elim (has_or_cases (collected p n) (cond (p n) (2 ^ n) 0) i h) [
  | inl a ↦ (let r = collected_from p n i a in (omega (arith, r.0), r.1))
  | inr b ↦ (let o = passed (p n) n i b in (omega (arith, o.1), subst (λ (x : ℕ). p x ≡ true) o.1 o.0))
]

cond_small : (b : Bool) (n : ℕ) → cond b (2 ^ n) 0 < 2 ^ suc n
cond_small true n = omega (arith, pow-suc 2 n, pow_pos n)
cond_small false n = pow_pos (suc n)

pub collected_below : (p : ℕ → Bool) (n : ℕ) → collected p n < 2 ^ n
unfolding collected
collected_below p zero = omega arith
collected_below p (suc n) = or_lt (suc n) (collected p n) (cond (p n) (2 ^ n) 0) (omega (arith, pow-suc 2 n, collected_below p n)) (cond_small (p n) n)

-- a set whose atoms are those that pass is what is collected
pub collected_is : (p : ℕ → Bool) (n s : ℕ) → ((i : ℕ) → Has s i → (i < n) × (p i ≡ true)) → ((i : ℕ) → i < n → p i ≡ true → Has s i) → s ≡ collected p n
collected_is p n s f g = ext s (collected p n) (λ i. same_digit s (collected p n) i
    (λ h. let r = f i h in collected_in p n i r.0 r.1)
    (λ h. let r = collected_from p n i h in g i r.0 r.1))

-- ---- how many
pub how_many_same : (p q : ℕ → Bool) (n : ℕ) → ((i : ℕ) → i < n → p i ≡ q i) → how_many p n ≡ how_many q n
unfolding how_many
how_many_same p q zero f = refl
how_many_same p q (suc n) f = ap₂ ◌+◌ (how_many_same p q n (λ i h. f i (omega arith))) (ap (λ (b : Bool). cond b 1 0) (f n (omega arith)))

passing_le : (a b : Bool) → (a ≡ true → b ≡ true) → cond a 1 0 ≤ cond b 1 0
passing_le true true f = omega arith
passing_le true false f = absurd (false≢true (f refl))
passing_le false true f = omega arith
passing_le false false f = omega arith

-- where all that pass one test pass another, no more pass the one
pub how_many_le : (p q : ℕ → Bool) (n : ℕ) → ((i : ℕ) → p i ≡ true → q i ≡ true) → how_many p n ≤ how_many q n
unfolding how_many
how_many_le p q zero f = omega arith
how_many_le p q (suc n) f = omega (arith, how_many_le p q n f, passing_le (p n) (q n) (f n))

-- and fewer do, where an atom passes the other alone
pub how_many_less : (p q : ℕ → Bool) (n k : ℕ) → ((i : ℕ) → p i ≡ true → q i ≡ true) → k < n → p k ≡ false → q k ≡ true → how_many p n < how_many q n
unfolding how_many
how_many_less p q zero k f h fails passes = absurd (omega arith)
how_many_less p q (suc n) k f h fails passes = elim (cases_eq k n) [
  | inl e ↦
      omega (arith, how_many_le p q n f, cond-false {A = ℕ} (p n) 1 0 (subst (λ (x : ℕ). p x ≡ false) e fails), cond-true {A = ℕ} (q n) 1 0 (subst (λ (x : ℕ). q x ≡ true) e passes))
  | inr d ↦ omega (arith, how_many_less p q n k f (omega arith) fails passes, passing_le (p n) (q n) (f n))
]

-- counted from the lowest atom on
how_many_up : (p : ℕ → Bool) (n : ℕ) → how_many p (suc n) ≡ cond (p 0) 1 0 + how_many (λ i. p (suc i)) n
unfolding how_many
how_many_up p zero = omega arith
how_many_up p (suc n) = omega (arith, how_many_up p n)

low_one : (s : ℕ) → s % 2 ≡ cond (has s 0) 1 0
low_one s = elim (has_or_lacks s 0) [
  | inl h ↦ sym (digit_zero s) ∙ h ∙ sym (ap (λ (b : Bool). cond b 1 0) (eq-eqb (digit s 0) 1 h))
  | inr e ↦ sym (digit_zero s) ∙ e ∙ sym (ap (λ (b : Bool). cond b 1 0) (ne_eqb (digit s 0) 1 (λ h. omega arith)))
]

-- the ones of a set are the atoms that it has
pub ones_how_many : (n s : ℕ) → s < 2 ^ n → ones s ≡ how_many (has s) n
unfolding how_many
ones_how_many zero s h =
    let e : s ≡ 0 = omega arith in ap ones e ∙ ones_zero
ones_how_many (suc n) s h =
    let half : s / 2 < 2 ^ n = omega (arith, pow-suc 2 n) in
    ones_step s ∙ ap₂ ◌+◌ (low_one s) (ones_how_many n (s / 2) half ∙ how_many_same (has (s / 2)) (λ i. has s (suc i)) n (λ i k. ap (λ (d : ℕ). eqb d 1) (sym (digit_suc s i))))
    ∙ sym (how_many_up (has s) n)

has_collected : (p : ℕ → Bool) (n i : ℕ) → i < n → has (collected p n) i ≡ p i
has_collected p n i h = elim (cases_Bool (p i)) [
  | inl e ↦ eq-eqb (digit (collected p n) i) 1 (collected_in p n i h e) ∙ sym e
  | inr e ↦ ne_eqb (digit (collected p n) i) 1 (λ k. both_ways (p i) e (collected_from p n i k).1) ∙ sym e
]

-- as many are collected as pass
pub ones_collected : (p : ℕ → Bool) (n : ℕ) → ones (collected p n) ≡ how_many p n
ones_collected p n = ones_how_many n (collected p n) (collected_below p n) ∙ how_many_same (has (collected p n)) p n (has_collected p n)
