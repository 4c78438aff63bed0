-- Sets gathered from a list: what a union has, that a clause says what its rule says, and the loops that gather.
use Rattle.std.proofs.Common.{◌≡◌, ℕ, ◌+◌, ◌^◌, ◌<◌, ◌≤◌, ◌⊎◌, List, [], ◌∷◌, map, length, get_or, take, fold, sym, refl, ap, ◌∙◌, subst, inl, inr, mod-lt, arith, pow_pos}
use lib.Bits.{bit_or, or_zero_r}
use Rattle.std.proofs.lemmas.List.{length-take, length-map, map_more}
use Rattle.atoms.specs.Sets.{Has, clipped}
use Rattle.atoms.proofs.Digits.{digit_of_zero, lacks_not, has_or_l, has_or_r, has_or_cases, mod_digit, pow_has, pow_only}
use Rattle.atoms.proofs.Lacking.{below_wide}
use Rattle.tables.specs.Rows.{laid, pushed}
use Rattle.tables.specs.declared.rows.Rows.{Rows}
use Rattle.tables.specs.declared.table.Item.{Item}
use Rattle.tables.specs.declared.table.Item.TheVariants.{Atom, NotAtom, Aggregate}
use Rattle.tables.specs.declared.table.Rule.{Rule}
use Rattle.tables.proofs.Laid.{pushed_laid}
use Rattle.programs.specs.Clauses.{Among, Same, union, plain, negated, numbered, gathered, with_item, items_of, clause_of, Says}
use Rattle.programs.specs.Tables.{zero_clause, clauses_from}
use Rattle.programs.specs.declared.clause.Clause.{Clause}

-- ---- what a union has
-- a member of a list that gives i
pub record Source {T : Type 0} (f : T → ℕ) (xs : List T) (i : ℕ) : Type 0 where
  pub member : T
  pub among : Among member xs
  pub gives : Has (f member) i

module _ {T : Type 0} (f : T → ℕ) where
  abbrev onto : ℕ → List T → ℕ
  onto s xs = fold (λ s x. bit_or s (f x)) s xs

  onto_start : (s : ℕ) (xs : List T) (i : ℕ) → Has s i → Has (onto s xs) i
  onto_start s [] i h = h
  onto_start s (x ∷ xs) i h = onto_start (bit_or s (f x)) xs i (has_or_l s (f x) i h)

  onto_member : (s : ℕ) (xs : List T) (x : T) (i : ℕ) → Among x xs → Has (f x) i → Has (onto s xs) i
  onto_member s [] x i m h = absurd m
  onto_member s (y ∷ ys) x i (inl e) h = onto_start (bit_or s (f y)) ys i (has_or_r s (f y) i (subst (λ (z : T). Has (f z) i) e h))
  onto_member s (y ∷ ys) x i (inr m) h = onto_member (bit_or s (f y)) ys x i m h

  onto_from : (s : ℕ) (xs : List T) (i : ℕ) → Has (onto s xs) i → Has s i ⊎ Source f xs i
  onto_from s [] i h = inl h
  onto_from s (x ∷ xs) i h = elim (onto_from (bit_or s (f x)) xs i h) [
    | inl p ↦ elim (has_or_cases s (f x) i p) [ inl q ↦ inl q | inr q ↦ inr (record { member = x; among = inl refl; gives = q }) ]
    | inr o ↦ inr (record { member = o.member; among = inr o.among; gives = o.gives })
  ]

  pub union_in : (xs : List T) (x : T) (i : ℕ) → Among x xs → Has (f x) i → Has (union f xs) i
  union_in xs x i m h = onto_member 0 xs x i m h

  pub union_from : (xs : List T) (i : ℕ) → Has (union f xs) i → Source f xs i
  union_from xs i h = elim (onto_from 0 xs i h) [ inl p ↦ absurd (lacks_not 0 i (digit_of_zero i) p) | inr o ↦ o ]

-- ---- an atom alone, below a width
pub alone_in : (w i : ℕ) → i < w → Has (clipped w (2 ^ i)) i
alone_in w i h = mod_digit (2 ^ i) w i h ∙ pow_has i

pub alone_from : (w a i : ℕ) → Has (clipped w (2 ^ a)) i → (i < w) × (a ≡ i)
alone_from w a i h =
    let k : i < w = below_wide w (clipped w (2 ^ a)) i (mod-lt (2 ^ a) (pow_pos w)) h in
    (k, pow_only a i (sym (mod_digit (2 ^ a) w i k) ∙ h))

-- ---- the items of a rule
none_given : {P : Type 0} (i : ℕ) → Has 0 i → P
none_given i h = absurd (lacks_not 0 i (digit_of_zero i) h)

plain_from : (x : Item) (i : ℕ) → Has (plain x) i → (i < 64) × (Atom i ≡ x)
plain_from (Atom a) i h = let p = alone_from 64 a i h in (p.0, ap Atom (sym p.1))
plain_from (NotAtom a) i h = none_given i h
plain_from (Aggregate n) i h = none_given i h

negated_from : (x : Item) (i : ℕ) → Has (negated x) i → (i < 64) × (NotAtom i ≡ x)
negated_from (Atom a) i h = none_given i h
negated_from (NotAtom a) i h = let p = alone_from 64 a i h in (p.0, ap NotAtom (sym p.1))
negated_from (Aggregate n) i h = none_given i h

numbered_from : (x : Item) (i : ℕ) → Has (numbered x) i → (i < 32) × (Aggregate i ≡ x)
numbered_from (Atom a) i h = none_given i h
numbered_from (NotAtom a) i h = none_given i h
numbered_from (Aggregate n) i h = let p = alone_from 32 n i h in (p.0, ap Aggregate (sym p.1))

-- a union of items of one kind has just what those name
just : (f : Item → ℕ) (make : ℕ → Item) (w : ℕ) → ((x : Item) (i : ℕ) → Has (f x) i → (i < w) × (make i ≡ x)) → ((i : ℕ) → i < w → Has (f (make i)) i)
    → (xs : List Item) (i : ℕ) → Same (Has (union f xs) i) ((i < w) × Among (make i) xs)
just f make w from back xs i = (
  (λ h. let o = union_from f xs i h in let p = from o.member i o.gives in (p.0, subst (λ (x : Item). Among x xs) (sym p.1) o.among)),
  (λ p. union_in f xs (make i) i p.1 (back i p.0)),
)

pub clause_says : (r : Rule) → Says r (clause_of r)
clause_says r = record {
  head = refl;
  needed = just plain Atom 64 plain_from (alone_in 64) (items_of r);
  barred = just negated NotAtom 64 negated_from (alone_in 64) (items_of r);
  aggregates = just numbered Aggregate 32 numbered_from (alone_in 32) (items_of r);
}

-- a clause that takes up items one after another gathers what they give
gathered_onto : (c : Clause) (xs : List Item) → fold with_item c xs ≡ record { head = c.head; needed = onto plain c.needed xs; barred = onto negated c.barred xs; aggregates = onto numbered c.aggregates xs }
gathered_onto c [] = refl
gathered_onto c (Atom a ∷ xs) = simp or_zero_r (gathered_onto (with_item c (Atom a)) xs)
gathered_onto c (NotAtom a ∷ xs) = simp or_zero_r (gathered_onto (with_item c (NotAtom a)) xs)
gathered_onto c (Aggregate n ∷ xs) = simp or_zero_r (gathered_onto (with_item c (Aggregate n)) xs)

pub gathered_is : (head : ℕ) (xs : List Item) → fold with_item (gathered head []) xs ≡ gathered head xs
gathered_is head xs = gathered_onto (gathered head []) xs

-- ---- the loop over the rules
pub clauses_more : (xs : List Rule) (i : ℕ) (d : Rule) {x : Clause} {b c : Rows Clause 128} → i < length xs → length xs ≤ 128 → b ≡ clauses_from (take i xs) → x ≡ clause_of (get_or xs i d) → c ≡ pushed 128 b x → c ≡ clauses_from (take (i + 1) xs)
clauses_more xs i d {x} {b} h few e ex q =
    let short : length (map clause_of (take i xs)) < 128 = omega (arith, length-map (take i xs) clause_of, length-take i xs) in
    q ∙ ap (λ (r : Rows Clause 128). pushed 128 r x) e ∙ ap (pushed 128 (clauses_from (take i xs))) ex
    ∙ pushed_laid 128 zero_clause (map clause_of (take i xs)) (clause_of (get_or xs i d)) (omega arith) short
    ∙ ap (laid 128 zero_clause) (sym (map_more clause_of xs i d h))
