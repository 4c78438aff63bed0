-- One peg more or less, in the number of pegs in force.
use Rattle.std.proofs.Common.{◌≡◌, ℕ, zero, suc, ◌+◌, ◌^◌, ◌<◌, ◌≤◌, Bool, true, false, cond, eqb, sym, refl, ap, ◌∙◌, inl, inr, arith}
use Rattle.std.proofs.lemmas.Bool.{cases_eq, eq-eqb, ne_eqb, eqb-true}
use Rattle.atoms.specs.Sets.{digit, has, how_many}
use Rattle.atoms.proofs.Collecting.{how_many_same}
use Rattle.atoms.proofs.Lacking.{below_wide}
use Rattle.engine.specs.Standing.{standing, with_peg, without_peg, pegs_count}
use Rattle.engine.specs.declared.pegs.Sense.{Sense}
use Rattle.engine.specs.declared.pegs.Sense.TheVariants.{On, Off}
use Rattle.engine.specs.declared.pegs.Pegs.{Pegs}
use Rattle.engine.proofs.Turning.{turned_on, turned_off}

-- one where a test passes
abbrev pub one_if : Bool → ℕ
one_if b = cond b 1 0

-- q passes where p does, and at i besides
one_more : (p q : ℕ → Bool) (i n : ℕ) → ((j : ℕ) → q j ≡ cond (eqb j i) true (p j)) → p i ≡ false → i < n → how_many q n ≡ how_many p n + 1
unfolding how_many
one_more p q i zero same none l = absurd (omega arith)
one_more p q i (suc m) same none l = elim (cases_eq m i) [
  | inl e ↦
      let below : how_many q m ≡ how_many p m = how_many_same q p m (λ j k. same j ∙ ap (λ (t : Bool). cond t true (p j)) (ne_eqb j i (λ d. omega (arith, k, d, e)))) in
      let here : one_if (q m) ≡ 1 = ap one_if (same m ∙ ap (λ (t : Bool). cond t true (p m)) (eq-eqb m i e)) in
      let before : one_if (p m) ≡ 0 = ap one_if (ap p e ∙ none) in
      omega (arith, below, here, before)
  | inr n ↦
      let below : how_many q m ≡ how_many p m + 1 = one_more p q i m same none (omega (arith, l, n)) in
      let here : one_if (q m) ≡ one_if (p m) = ap one_if (same m ∙ ap (λ (t : Bool). cond t true (p m)) (ne_eqb m i n)) in
      omega (arith, below, here)
]

pub more_pegs : (p : Pegs) (i : ℕ) (s : Sense) → i < 64 → standing p i s ≡ false → pegs_count (with_peg p i s) ≡ pegs_count p + 1
more_pegs p i On l none = let e = one_more (has p.on) (has (with_peg p i On).on) i 64 (λ j. turned_on p i On l j On) none l in omega (arith, e)
more_pegs p i Off l none = let e = one_more (has p.off) (has (with_peg p i Off).off) i 64 (λ j. turned_on p i Off l j Off) none l in omega (arith, e)

pub stands_below : (p : Pegs) (i : ℕ) (s : Sense) → p.on < 2 ^ 64 → p.off < 2 ^ 64 → standing p i s ≡ true → i < 64
stands_below p i On h k e = below_wide 64 p.on i h (eqb-true (digit p.on i) 1 e)
stands_below p i Off h k e = below_wide 64 p.off i k (eqb-true (digit p.off i) 1 e)

-- a is as it was before i was taken out of it
back_in : (a b : ℕ → Bool) (i : ℕ) → a i ≡ true → ((j : ℕ) → b j ≡ cond (eqb j i) false (a j)) → (j : ℕ) → a j ≡ cond (eqb j i) true (b j)
back_in a b i here same j = elim (cases_eq j i) [
  | inl e ↦ ap a e ∙ here ∙ sym (ap (λ (t : Bool). cond t true (b j)) (eq-eqb j i e))
  | inr n ↦ sym (ap (λ (t : Bool). cond t true (b j)) (ne_eqb j i n) ∙ same j ∙ ap (λ (t : Bool). cond t false (a j)) (ne_eqb j i n))
]

taken_out : (a b : ℕ → Bool) (i : ℕ) → ((j : ℕ) → b j ≡ cond (eqb j i) false (a j)) → b i ≡ false
taken_out a b i same = same i ∙ ap (λ (t : Bool). cond t false (a i)) (eq-eqb i i refl)

one_less : (a b : ℕ → Bool) (i n : ℕ) → a i ≡ true → ((j : ℕ) → b j ≡ cond (eqb j i) false (a j)) → i < n → how_many a n ≡ how_many b n + 1
one_less a b i n here same l = one_more b a i n (back_in a b i here same) (taken_out a b i same) l

pub fewer_pegs : (p : Pegs) (i : ℕ) (s : Sense) → p.on < 2 ^ 64 → p.off < 2 ^ 64 → standing p i s ≡ true → pegs_count p ≡ pegs_count (without_peg p i s) + 1
fewer_pegs p i On h k e = let r = one_less (has p.on) (has (without_peg p i On).on) i 64 e (λ j. turned_off p i On h k j On) (stands_below p i On h k e) in omega (arith, r)
fewer_pegs p i Off h k e = let r = one_less (has p.off) (has (without_peg p i Off).off) i 64 e (λ j. turned_off p i Off h k j Off) (stands_below p i Off h k e) in omega (arith, r)

small_if : (b : Bool) → one_if b ≤ 1
small_if true = omega arith
small_if false = omega arith

how_many_small : (p : ℕ → Bool) (n : ℕ) → how_many p n ≤ n
unfolding how_many
how_many_small p zero = omega arith
how_many_small p (suc n) = omega (arith, how_many_small p n, small_if (p n))

pub few_pegs : (p : Pegs) → pegs_count p ≤ 128
few_pegs p = omega (arith, how_many_small (has p.on) 64, how_many_small (has p.off) 64)
