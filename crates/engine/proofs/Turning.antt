-- One atom put into a set of atoms or taken out, and what that does to the pegs in force.
use Rattle.std.proofs.Common.{◌≡◌, ℕ, ◌^◌, ◌<◌, Bool, true, false, cond, eqb, sym, refl, ap, ◌∙◌, subst, inl, inr, mod-lt, pow_pos}
use lib.Bits.{bit_or}
use Rattle.std.proofs.lemmas.Bool.{cases_eq, eq-eqb, ne_eqb}
use Rattle.atoms.specs.Sets.{digit, Has, has, lacking}
use Rattle.atoms.proofs.Digits.{lacks_not, lacks_from, same_digit, has_or_l, has_or_r, has_or_cases, pow_has, pow_only, pow_mod_same, mod_digit}
use Rattle.atoms.proofs.Lacking.{below_wide, lacking_has, lacking_lacks, lacking_in}
use Rattle.engine.specs.Standing.{standing, with_peg, without_peg, alone, Turned}
use Rattle.engine.specs.declared.pegs.Sense.{Sense}
use Rattle.engine.specs.declared.pegs.Sense.TheVariants.{On, Off}
use Rattle.engine.specs.declared.pegs.Pegs.{Pegs}

same_test : (a b k : ℕ) → digit a k ≡ digit b k → has a k ≡ has b k
same_test a b k e = ap (λ (d : ℕ). eqb d 1) e

has_test : (a k : ℕ) → Has a k → has a k ≡ true
has_test a k h = eq-eqb (digit a k) 1 h

lacks_test : (a k : ℕ) → (Has a k → ⊥) → has a k ≡ false
lacks_test a k f = ne_eqb (digit a k) 1 f

-- by whether it is the atom in question
at_atom : (a b i k : ℕ) (v : Bool) → (k ≡ i → has b k ≡ v) → ((k ≡ i → ⊥) → has b k ≡ has a k) → has b k ≡ cond (eqb k i) v (has a k)
at_atom a b i k v f g = elim (cases_eq k i) [
  | inl e ↦ f e ∙ ap (λ (t : Bool). cond t v (has a k)) (sym (eq-eqb k i e))
  | inr n ↦ g n ∙ ap (λ (t : Bool). cond t v (has a k)) (sym (ne_eqb k i n))
]

put_in : (a i k : ℕ) → i < 64 → has (bit_or a (alone i)) k ≡ cond (eqb k i) true (has a k)
put_in a i k l =
    let e : alone i ≡ 2 ^ i = pow_mod_same 64 i l in
    at_atom a (bit_or a (alone i)) i k true
    (λ q. has_test (bit_or a (alone i)) k (has_or_r a (alone i) k (subst (λ (j : ℕ). Has (alone i) j) (sym q) (subst (λ (s : ℕ). Has s i) (sym e) (pow_has i)))))
    (λ n. same_test (bit_or a (alone i)) a k
    (same_digit (bit_or a (alone i)) a k
    (λ h. elim (has_or_cases a (alone i) k h) [ inl p ↦ p | inr p ↦ absurd (n (sym (pow_only i k (subst (λ (s : ℕ). Has s k) e p)))) ])
    (λ h. has_or_l a (alone i) k h)))

take_out : (a i k : ℕ) → a < 2 ^ 64 → has (lacking a (alone i)) k ≡ cond (eqb k i) false (has a k)
take_out a i k l =
    let m : alone i < 2 ^ 64 = mod-lt (2 ^ i) (pow_pos 64) in
    at_atom a (lacking a (alone i)) i k false
    (λ q. lacks_test (lacking a (alone i)) k (λ h.
    let up : k < 64 = below_wide 64 a k l (lacking_has a (alone i) l m k h) in
    lacks_not (alone i) k (lacking_lacks a (alone i) l m k h) (mod_digit (2 ^ i) 64 k up ∙ subst (λ (j : ℕ). Has (2 ^ i) j) (sym q) (pow_has i))))
    (λ n. same_test (lacking a (alone i)) a k
    (same_digit (lacking a (alone i)) a k
    (lacking_has a (alone i) l m k)
    (λ h. lacking_in a (alone i) l m k h (lacks_from (alone i) k (λ o. n (sym (pow_only i k (sym (mod_digit (2 ^ i) 64 k (below_wide 64 a k l h)) ∙ o))))))))

pub turned_on : (p : Pegs) (i : ℕ) (s : Sense) → i < 64 → Turned (standing p) i s true (standing (with_peg p i s))
turned_on p i On l j On = put_in p.on i j l
turned_on p i On l j Off = refl
turned_on p i Off l j On = refl
turned_on p i Off l j Off = put_in p.off i j l

pub turned_off : (p : Pegs) (i : ℕ) (s : Sense) → p.on < 2 ^ 64 → p.off < 2 ^ 64 → Turned (standing p) i s false (standing (without_peg p i s))
turned_off p i On h k j On = take_out p.on i j h
turned_off p i On h k j Off = refl
turned_off p i Off h k j On = refl
turned_off p i Off h k j Off = take_out p.off i j k
