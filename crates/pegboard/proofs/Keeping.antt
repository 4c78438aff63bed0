-- The tokens go with the pegs: a granted peg adds one, and a pull spends one.
use Rattle.std.proofs.Common.{◌≡◌, ℕ, ◌+◌, ◌-◌, ◌^◌, ◌<◌, ◌≤◌, Bool, true, false, cond, ◌||◌, eqb, ltb, List, [], ◌∷◌, ◌++◌, length, get_or, Some, None, sym, refl, ap, ◌∙◌, subst, inl, inr, bit_and, mod-lt, pow_pos, arith}
use Rattle.std.specs.List.{remove}
use Rattle.std.proofs.lemmas.Bool.{cases_eq, eq-eqb, ne_eqb, eqb-true, ltb-true, both_ways}
use Rattle.std.proofs.lemmas.List.{length_push, get_or_push}
use Rattle.std.proofs.lemmas.List.Edits.{length-remove}
use Rattle.std.proofs.lemmas.List.Sums.{sum_by_push, sum_by-remove, get_or-le-sum_by}
use Rattle.std.proofs.lemmas.Nat.{and_le_l, or_lt}
use Rattle.faults.specs.declared.BenchFault.{BenchFault}
use Rattle.faults.specs.declared.BenchFault.TheVariants as fault
use Rattle.engine.specs.Standing.{Standing, standing, same_peg, no_pegs, with_peg, without_peg, alone, pegs_count}
use Rattle.engine.specs.Rules.{peg_fault}
use Rattle.engine.specs.declared.pegs.Sense.{Sense}
use Rattle.engine.specs.declared.pegs.Sense.TheVariants.{On, Off}
use Rattle.engine.specs.declared.pegs.Pegs.{Pegs}
use Rattle.engine.specs.declared.listing.Token.{Token}
use Rattle.engine.proofs.Turning.{turned_on, turned_off}
use Rattle.atoms.specs.Sets.{digit, how_many}
use Rattle.atoms.proofs.Digits.{digit_of_zero, lacks_not}
use Rattle.pegboard.specs.Kept.{is_of, tokens_of, Kept}
use Rattle.pegboard.proofs.Counting.{one_if, more_pegs, fewer_pegs}

-- ---- one peg and another
same_stands : (f : Standing) (i : ℕ) (s : Sense) (j : ℕ) (t : Sense) → same_peg i s j t ≡ true → f j t ≡ f i s
same_stands f i On j On e = ap (λ (k : ℕ). f k On) (eqb-true j i e)
same_stands f i On j Off e = cc
same_stands f i Off j On e = cc
same_stands f i Off j Off e = ap (λ (k : ℕ). f k Off) (eqb-true j i e)

itself : (i : ℕ) (s : Sense) → same_peg i s i s ≡ true
itself i On = eq-eqb i i refl
itself i Off = eq-eqb i i refl

both_free : (f : Sense → Bool) → f On ≡ false → f Off ≡ false → (s : Sense) → f s ≡ false
both_free f a b On = a
both_free f a b Off = b

-- `same` is whether the peg in question is the one put in or taken out, and `old` whether it stood before
put_in : (same old : Bool) → (same ≡ true → old ≡ false) → one_if old + one_if same ≡ one_if (cond same true old)
put_in true true f = absurd (both_ways true (f refl) refl)
put_in true false f = refl
put_in false true f = refl
put_in false false f = refl

taken_out : (same old : Bool) → (same ≡ true → old ≡ true) → one_if old ≡ one_if (cond same false old) + one_if same
taken_out true true f = refl
taken_out true false f = absurd (both_ways false refl (f refl))
taken_out false true f = refl
taken_out false false f = refl

one_if_small : (b : Bool) → one_if b ≤ 1
one_if_small true = omega arith
one_if_small false = omega arith

passes_if : (b : Bool) → 1 ≤ one_if b → b ≡ true
passes_if true h = refl
passes_if false h = absurd (omega arith)

pub fails_if : (b : Bool) → one_if b ≡ 0 → b ≡ false
fails_if true h = absurd (omega arith)
fails_if false h = refl

-- a peg is on one side of its atom, and on no side of another
one_side : (i : ℕ) (s : Sense) (j : ℕ) → one_if (same_peg i s j On) + one_if (same_peg i s j Off) ≤ 1
one_side i On j = omega (arith, one_if_small (eqb j i))
one_side i Off j = omega (arith, one_if_small (eqb j i))

no_side : (i : ℕ) (s : Sense) (j : ℕ) → (j ≡ i → ⊥) → one_if (same_peg i s j On) + one_if (same_peg i s j Off) ≡ 0
no_side i On j n = let e : one_if (eqb j i) ≡ 0 = ap one_if (ne_eqb j i n) in omega (arith, e)
no_side i Off j n = let e : one_if (eqb j i) ≡ 0 = ap one_if (ne_eqb j i n) in omega (arith, e)

-- ---- the pegs are sets of 64 atoms
alone_small : (i : ℕ) → alone i < 2 ^ 64
alone_small i = mod-lt (2 ^ i) (pow_pos 64)

with_small : (p : Pegs) (i : ℕ) (s : Sense) → p.on < 2 ^ 64 → p.off < 2 ^ 64 → ((with_peg p i s).on < 2 ^ 64) × ((with_peg p i s).off < 2 ^ 64)
with_small p i On h k = (or_lt 64 p.on (alone i) h (alone_small i), k)
with_small p i Off h k = (h, or_lt 64 p.off (alone i) k (alone_small i))

and_small : (a b : ℕ) → a < 2 ^ 64 → bit_and a b < 2 ^ 64
and_small a b h = omega (arith, and_le_l a b, h)

without_small : (p : Pegs) (i : ℕ) (s : Sense) → p.on < 2 ^ 64 → p.off < 2 ^ 64 → ((without_peg p i s).on < 2 ^ 64) × ((without_peg p i s).off < 2 ^ 64)
without_small p i On h k = (and_small p.on (2 ^ 64 - 1 - alone i) h, k)
without_small p i Off h k = (h, and_small p.off (2 ^ 64 - 1 - alone i) k)

-- ---- no pegs and no tokens
none_stand : (i : ℕ) (s : Sense) → standing no_pegs i s ≡ false
none_stand i On = ne_eqb (digit 0 i) 1 (λ h. lacks_not 0 i (digit_of_zero i) h)
none_stand i Off = ne_eqb (digit 0 i) 1 (λ h. lacks_not 0 i (digit_of_zero i) h)

no_count : 0 ≡ pegs_count no_pegs
unfolding how_many
no_count = refl

pub kept_none : Kept no_pegs []
kept_none = record {
  each = λ i s. ap one_if (sym (none_stand i s));
  apart = λ i. omega arith;
  counted = no_count;
  on = omega arith;
  off = omega arith;
}

-- ---- what a granted peg says of its atom
free_of : (a b c : Bool) (x y : BenchFault) → cond a (cond (b || c) (Some x) None) (Some y) ≡ None → (a ≡ true) × (b ≡ false) × (c ≡ false)
free_of true false false x y e = (refl, refl, refl)
free_of true false true x y e = absurd cc
free_of true true c x y e = absurd cc
free_of false b c x y e = absurd cc

module _ (p : Pegs) (ts : List Token) (k : Kept p ts) where
  -- a token that is kept is of a peg in force
  pub token_stands : (t : Token) (n : ℕ) → n < length ts → t ≡ get_or ts n t → standing p t.atom t.sense ≡ true
  token_stands t n l e =
      let its : one_if (is_of t.atom t.sense (get_or ts n t)) ≡ 1 = ap (λ (u : Token). one_if (is_of t.atom t.sense u)) (sym e) ∙ ap one_if (itself t.atom t.sense) in
      let few = get_or-le-sum_by (λ (u : Token). one_if (is_of t.atom t.sense u)) ts n t l in
      passes_if (standing p t.atom t.sense) (omega (arith, its, few, k.each t.atom t.sense))

  -- one token is spent: us are those that are left
  spent : (us : List Token) (t : Token) → ((i : ℕ) (s : Sense) → tokens_of us i s + one_if (is_of i s t) ≡ tokens_of ts i s) → length us + 1 ≡ length ts → standing p t.atom t.sense ≡ true → Kept (without_peg p t.atom t.sense) us
  spent us t count len here =
      let small = without_small p t.atom t.sense k.on k.off in
      record {
        each = λ i s.
            let turned : one_if (standing (without_peg p t.atom t.sense) i s) ≡ one_if (cond (is_of i s t) false (standing p i s)) = ap one_if (turned_off p t.atom t.sense k.on k.off i s) in
            omega (arith, count i s, k.each i s, turned, taken_out (is_of i s t) (standing p i s) (λ e. same_stands (standing p) t.atom t.sense i s e ∙ here));
        apart = λ i. omega (arith, count i On, count i Off, k.apart i);
        counted = omega (arith, len, k.counted, fewer_pegs p t.atom t.sense k.on k.off here);
        on = small.0;
        off = small.1;
      }

  pub kept_pulled : (t : Token) (n : ℕ) → n < length ts → t ≡ get_or ts n t → Kept (without_peg p t.atom t.sense) (remove ts n)
  kept_pulled t n l e =
      spent (remove ts n) t
      (λ i s. ap (λ (u : Token). tokens_of (remove ts n) i s + one_if (is_of i s u)) e ∙ sum_by-remove (λ (u : Token). one_if (is_of i s u)) ts n t l)
      (length-remove ts n l)
      (token_stands t n l e)

  pub kept_pegged : (i : ℕ) (s : Sense) → i < 64 → standing p i On ≡ false → standing p i Off ≡ false → Kept (with_peg p i s) (ts ++ record { atom = i; sense = s } ∷ [])
  kept_pegged i s l on off =
      let t : Token = record { atom = i; sense = s } in
      let small = with_small p i s k.on k.off in
      let free : (u : Sense) → standing p i u ≡ false = both_free (standing p i) on off in
      let count : (j : ℕ) (u : Sense) → tokens_of (ts ++ t ∷ []) j u ≡ tokens_of ts j u + one_if (same_peg i s j u) = λ j u. sum_by_push (λ (v : Token). one_if (is_of j u v)) ts t in
      record {
        each = λ j u.
            let turned : one_if (standing (with_peg p i s) j u) ≡ one_if (cond (same_peg i s j u) true (standing p j u)) = ap one_if (turned_on p i s l j u) in
            omega (arith, count j u, k.each j u, turned, put_in (same_peg i s j u) (standing p j u) (λ e. same_stands (standing p) i s j u e ∙ free s));
        apart = λ j. elim (cases_eq j i) [
          | inl e ↦
              let none_on : one_if (standing p j On) ≡ 0 = ap (λ (a : ℕ). one_if (standing p a On)) e ∙ ap one_if on in
              let none_off : one_if (standing p j Off) ≡ 0 = ap (λ (a : ℕ). one_if (standing p a Off)) e ∙ ap one_if off in
              omega (arith, count j On, count j Off, k.each j On, k.each j Off, none_on, none_off, one_side i s j)
          | inr n ↦ omega (arith, count j On, count j Off, k.apart j, no_side i s j n)
        ];
        counted = omega (arith, length_push ts t, k.counted, more_pegs p i s l (free s));
        on = small.0;
        off = small.1;
      }

pub peg_free : (f : Standing) (w i : ℕ) → peg_fault w f i ≡ None → (i < w) × (f i On ≡ false) × (f i Off ≡ false)
peg_free f w i e = let r = free_of (ltb i w) (f i On) (f i Off) (fault.Pegged i) (fault.NoSuchAtom i) e in (ltb-true i w r.0, r.1, r.2)

-- ---- the token that is taken from the end
pub last_stands : (p : Pegs) (ts us : List Token) (t : Token) → Kept p ts → ts ≡ us ++ t ∷ [] → standing p t.atom t.sense ≡ true
last_stands p ts us t k e =
    let k' : Kept p (us ++ t ∷ []) = subst (λ (l : List Token). Kept p l) e k in
    token_stands p (us ++ t ∷ []) k' t (length us) (omega (arith, length_push us t)) (sym (get_or_push us t t (length us) refl))

pub kept_popped : (p : Pegs) (ts us : List Token) (t : Token) → Kept p ts → ts ≡ us ++ t ∷ [] → Kept (without_peg p t.atom t.sense) us
kept_popped p ts us t k e =
    let k' : Kept p (us ++ t ∷ []) = subst (λ (l : List Token). Kept p l) e k in
    spent p (us ++ t ∷ []) k' us t (λ i s. sym (sum_by_push (λ (u : Token). one_if (is_of i s u)) us t)) (sym (length_push us t)) (last_stands p ts us t k e)
