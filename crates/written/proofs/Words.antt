-- What a word says, and which word says it.
use Rattle.std.proofs.Common.{◌≡◌, ℕ, ◌<◌, ◌≤◌, Bool, true, false, cond, ◌&&◌, ltb, leb, List, [], ◌∷◌, length, get_or, ℤ, pos, negsuc, ◌≤ℤ◌, Some, None, codes, decimal, Option, sym, refl, ap, ◌∙◌, zero-add, arith}
use lib.Signed.{le_z, mag}
use Rattle.std.specs.Int.{IsInRange}
use Rattle.std.specs.Fmt.{signed_decimal}
use Rattle.std.specs.List.{AllByRecursion}
use Rattle.std.specs.Str.{bytes_eq}
use Rattle.std.proofs.ByRecursion.{All-get_or}
use Rattle.std.proofs.lemmas.Slice.Eq.{bytes_eq-Decides}
use Rattle.std.proofs.lemmas.Int.{ints}
use Rattle.std.proofs.lemmas.Bool.{cond-true, cond-false, leb-true, le-leb, ltb-true, lt-ltb, and_parts, and_from}
use Rattle.tables.specs.declared.table.Kind.{Kind}
use Rattle.tables.specs.declared.table.Kind.TheVariants as kind
use Rattle.tables.specs.declared.table.Comparison.{Comparison}
use Rattle.tables.specs.declared.table.Comparison.TheVariants as comparison
use Rattle.text.specs.declared.word.Key.{Key}
use Rattle.text.specs.declared.word.Key.TheVariants as key
use Rattle.text.specs.Names.{atom_among}
use Rattle.text.specs.Numbers.{number_of}
use Rattle.text.specs.Words.{Meaning, a_name, a_number, a_key, nothing, keys, key_among, key_of, lawful_name, first_meaning, meaning, key_said, name_said, number_said}
use Rattle.grammar.specs.Said.{kind_of, comparison_of, kind_said, comparison_said, is_if, is_not, is_load, is_bang, atom_said, natural_in, natural_said, below_said}
use Rattle.written.specs.Sheets.{LawfulName, NoneTwice}
use Rattle.written.specs.Writing.{Word, name_at, kind_word, comparison_word}
use Rattle.written.proofs.Results.{no_way, some_if}
use Rattle.written.proofs.Numbers.{Small, number_says, says_number, no_number, decimal_begins}
use Rattle.written.proofs.Names.{decides_lawful, differs, among_some, some_among}

-- ---- keys

-- the word that is a key
abbrev pub key_word : Key → Word
key_word key.If = codes "if"
key_word key.Not = codes "not"
key_word key.Load = codes "load"
key_word key.Sum = codes "sum"
key_word key.Count = codes "count"
key_word key.Bang = codes "!"
key_word key.AtMost = codes "<="
key_word key.AtLeast = codes ">="
key_word key.Equal = codes "="
key_word key.Unequal = codes "!="

among_says : (ks : List (List ℕ × Key)) (w : Word) (k : Key) → AllByRecursion (λ p. p.0 ≡ key_word p.1) ks → key_among ks w ≡ Some k → w ≡ key_word k
among_says [] w k h e = no_way (cc)
among_says (p ∷ ps) w k h e =
    elim (bytes_eq w p.0) as (λ t. bytes_eq w p.0 ≡ t → cond t (Some p.1) (key_among ps w) ≡ Some k → w ≡ key_word k) [
      | true ↦ λ s q. let found : p.1 ≡ k = cc in (bytes_eq-Decides w p.0).0 s ∙ h.0 ∙ ap key_word found
      | false ↦ λ s q. among_says ps w k h.1 q
    ] refl e

no_key : (ks : List (List ℕ × Key)) (w : Word) → AllByRecursion (λ p. w ≡ p.0 → ⊥) ks → key_among ks w ≡ None
no_key [] w h = refl
no_key (p ∷ ps) w h = cond-false _ _ _ (differs w p.0 h.0) ∙ no_key ps w h.1

key_first : (w : Word) (o : Option Key) (n : Option ℤ) (l : Bool) (k : Key) → key_said (first_meaning w o n l) ≡ Some k → o ≡ Some k
key_first w (Some x) n l k e = e
key_first w None (Some z) l k e = no_way (cc)
key_first w None None true k e = no_way (cc)
key_first w None None false k e = no_way (cc)

key_says : (w : Word) (k : Key) → key_said (meaning w) ≡ Some k → w ≡ key_word k
key_says w k e = among_says keys w k (refl, (refl, (refl, (refl, (refl, (refl, (refl, (refl, (refl, (refl, tt)))))))))) (key_first w (key_of w) (number_of w) (lawful_name w) k e)

-- the keys of the kinds and of the comparisons
abbrev kind_key : Kind → Key
kind_key kind.Sum = key.Sum
kind_key kind.Count = key.Count

abbrev comparison_key : Comparison → Key
comparison_key comparison.AtMost = key.AtMost
comparison_key comparison.AtLeast = key.AtLeast
comparison_key comparison.Equal = key.Equal
comparison_key comparison.Unequal = key.Unequal

key_of_kind : (o : Option Key) (k : Kind) → kind_of o ≡ Some k → o ≡ Some (kind_key k)
key_of_kind o k e = grind arith

key_of_comparison : (o : Option Key) (c : Comparison) → comparison_of o ≡ Some c → o ≡ Some (comparison_key c)
key_of_comparison o c e = grind arith

if_key : (o : Option Key) → is_if o ≡ true → o ≡ Some key.If
if_key o e = grind arith

not_key : (o : Option Key) → is_not o ≡ true → o ≡ Some key.Not
not_key o e = grind arith

load_key : (o : Option Key) → is_load o ≡ true → o ≡ Some key.Load
load_key o e = grind arith

bang_key : (o : Option Key) → is_bang o ≡ true → o ≡ Some key.Bang
bang_key o e = grind arith

kind_spelled : (k : Kind) → key_word (kind_key k) ≡ kind_word k
kind_spelled kind.Sum = refl
kind_spelled kind.Count = refl

comparison_spelled : (c : Comparison) → key_word (comparison_key c) ≡ comparison_word c
comparison_spelled comparison.AtMost = refl
comparison_spelled comparison.AtLeast = refl
comparison_spelled comparison.Equal = refl
comparison_spelled comparison.Unequal = refl

module _ (w : Word) where
  pub kind_says : (k : Kind) → kind_said (meaning w) ≡ Some k → w ≡ kind_word k
  kind_says k e = key_says w (kind_key k) (key_of_kind (key_said (meaning w)) k e) ∙ kind_spelled k

  pub comparison_says : (c : Comparison) → comparison_said (meaning w) ≡ Some c → w ≡ comparison_word c
  comparison_says c e = key_says w (comparison_key c) (key_of_comparison (key_said (meaning w)) c e) ∙ comparison_spelled c

  pub if_says : is_if (key_said (meaning w)) ≡ true → w ≡ codes "if"
  if_says e = key_says w key.If (if_key _ e)

  pub not_says : is_not (key_said (meaning w)) ≡ true → w ≡ codes "not"
  not_says e = key_says w key.Not (not_key _ e)

  pub load_says : is_load (key_said (meaning w)) ≡ true → w ≡ codes "load"
  load_says e = key_says w key.Load (load_key _ e)

  pub bang_says : is_bang (key_said (meaning w)) ≡ true → w ≡ codes "!"
  bang_says e = key_says w key.Bang (bang_key _ e)

pub says_kind : (k : Kind) → kind_said (meaning (kind_word k)) ≡ Some k
says_kind kind.Sum = refl
says_kind kind.Count = refl

pub says_comparison : (c : Comparison) → comparison_said (meaning (comparison_word c)) ≡ Some c
says_comparison comparison.AtMost = refl
says_comparison comparison.AtLeast = refl
says_comparison comparison.Equal = refl
says_comparison comparison.Unequal = refl

-- ---- numbers

number_first : (w : Word) (o : Option Key) (n : Option ℤ) (l : Bool) (z : ℤ) → first_meaning w o n l ≡ a_number z → n ≡ Some z
number_first w (Some x) n l z e = no_way (cc)
number_first w None (Some y) l z e = let same : y ≡ z = cc in ap Some same
number_first w None None true z e = no_way (cc)
number_first w None None false z e = no_way (cc)

a_number_says : (w : Word) (z : ℤ) → meaning w ≡ a_number z → (w ≡ signed_decimal z) × (mag z ≤ 1000000)
a_number_says w z e = number_says w z (number_first w (key_of w) (number_of w) (lawful_name w) z e)

-- no key begins as a number does
unkeyed : (w : Word) → IsInRange 34 59 (get_or w 0 0) → key_of w ≡ None
unkeyed w i =
    let at : (v : Word) → w ≡ v → get_or w 0 0 ≡ get_or v 0 0 = λ v e. ap (λ l. get_or l 0 0) e in
    no_key keys w ((λ e. omega (arith, at _ e)), ((λ e. omega (arith, at _ e)), ((λ e. omega (arith, at _ e)), ((λ e. omega (arith, at _ e)), ((λ e. omega (arith, at _ e)), ((λ e. omega (arith, at _ e)), ((λ e. omega (arith, at _ e)), ((λ e. omega (arith, at _ e)), ((λ e. omega (arith, at _ e)), ((λ e. omega (arith, at _ e)), tt))))))))))

signed_begins : (z : ℤ) → Small z → IsInRange 34 59 (get_or (signed_decimal z) 0 0)
signed_begins (pos n) h = omega (arith, decimal_begins n h)
signed_begins (negsuc n) h = (omega arith, omega arith)

pub says_a_number : (z : ℤ) → Small z → meaning (signed_decimal z) ≡ a_number z
says_a_number z h = (λ i. first_meaning (signed_decimal z) (unkeyed (signed_decimal z) (signed_begins z h) i) (says_number z h i) (lawful_name (signed_decimal z)))

number_in : (low high : ℤ) (m : Meaning) (z : ℤ) → number_said low high m ≡ Some z → (m ≡ a_number z) × ((le_z low z && le_z z high) ≡ true)
number_in low high (a_name b) z e = no_way (cc)
number_in low high (a_number y) z e =
    let found = some_if (le_z low y && le_z y high) y z e in
    (ap a_number found.1, ap (λ x. le_z low x && le_z x high) (sym found.1) ∙ found.0)
number_in low high (a_key k) z e = no_way (cc)
number_in low high nothing z e = no_way (cc)

-- a number from low to high
pub number_told : (low high : ℤ) (w : Word) (z : ℤ) → number_said low high (meaning w) ≡ Some z → (w ≡ signed_decimal z) × (low ≤ℤ z) × (z ≤ℤ high)
number_told low high w z e =
    let found = number_in low high (meaning w) z e in
    let parts = and_parts (le_z low z) (le_z z high) found.1 in
    ((a_number_says w z found.0).0, grind (arith, ints), grind (arith, ints))

pub tells_number : (low high z : ℤ) → Small z → low ≤ℤ z → z ≤ℤ high → number_said low high (meaning (signed_decimal z)) ≡ Some z
tells_number low high z h l u =
    ap (number_said low high) (says_a_number z h) ∙ cond-true (le_z low z && le_z z high) (Some z) None (and_from (le_z low z) (le_z z high) (grind (arith, ints)) (grind (arith, ints)))

natural_in_some : (low high : ℕ) (z : ℤ) (n : ℕ) → natural_in low high z ≡ Some n → (z ≡ pos n) × (low ≤ n) × (n ≤ high)
natural_in_some low high (pos m) n e =
    let found = some_if (leb low m && leb m high) m n e in
    let parts = and_parts (leb low m) (leb m high) found.0 in
    let l = leb-true low m parts.0 in
    let u = leb-true m high parts.1 in
    (ap pos found.1, omega (arith, found.1), omega (arith, found.1))
natural_in_some low high (negsuc m) n e = no_way (cc)

natural_some : (low high : ℕ) (m : Meaning) (n : ℕ) → natural_said low high m ≡ Some n → (m ≡ a_number (pos n)) × (low ≤ n) × (n ≤ high)
natural_some low high (a_name b) n e = no_way (cc)
natural_some low high (a_number z) n e = let found = natural_in_some low high z n e in (ap a_number found.0, found.1, found.2)
natural_some low high (a_key k) n e = no_way (cc)
natural_some low high nothing n e = no_way (cc)

pub natural_told : (low high : ℕ) (w : Word) (n : ℕ) → natural_said low high (meaning w) ≡ Some n → (w ≡ decimal n) × (low ≤ n) × (n ≤ high)
natural_told low high w n e = let found = natural_some low high (meaning w) n e in ((a_number_says w (pos n) found.0).0, found.1, found.2)

pub tells_natural : (low high n : ℕ) → high ≤ 1000000 → low ≤ n → n ≤ high → natural_said low high (meaning (decimal n)) ≡ Some n
tells_natural low high n few l u =
    ap (natural_said low high) (says_a_number (pos n) (omega arith)) ∙ cond-true _ _ _ (and_from _ _ (le-leb low n l) (le-leb n high u))

-- a number below a count is one from 0 to what comes before it
below_some : (count : ℕ) (m : Meaning) (n : ℕ) → below_said count m ≡ Some n → (m ≡ a_number (pos n)) × (n < count)
below_some count (a_name b) n e = no_way (cc)
below_some count (a_number (pos k)) n e = let found = some_if (ltb k count) k n e in (ap (λ x. a_number (pos x)) found.1, omega (arith, ltb-true k count found.0, found.1))
below_some count (a_number (negsuc k)) n e = no_way (cc)
below_some count (a_key k) n e = no_way (cc)
below_some count nothing n e = no_way (cc)

pub below_told : (count : ℕ) (w : Word) (n : ℕ) → below_said count (meaning w) ≡ Some n → (w ≡ decimal n) × (n < count)
below_told count w n e = let found = below_some count (meaning w) n e in ((a_number_says w (pos n) found.0).0, found.1)

pub tells_below : (count n : ℕ) → count ≤ 1000000 → n < count → below_said count (meaning (decimal n)) ≡ Some n
tells_below count n few h = ap (below_said count) (says_a_number (pos n) (omega arith)) ∙ cond-true _ _ _ (lt-ltb n count h)

-- ---- names

name_first : (w : Word) (o : Option Key) (n : Option ℤ) (l : Bool) (b : Word) → name_said (first_meaning w o n l) ≡ Some b → (o ≡ None) × (l ≡ true) × (w ≡ b)
name_first w (Some x) n l b e = no_way (cc)
name_first w None (Some y) l b e = no_way (cc)
name_first w None None true b e = (refl, refl, cc)
name_first w None None false b e = no_way (cc)

pub name_told : (w b : Word) → name_said (meaning w) ≡ Some b → LawfulName w × (w ≡ b)
name_told w b e =
    let found = name_first w (key_of w) (number_of w) (lawful_name w) b e in
    let lawful = (decides_lawful w).0 found.1 in
    let apart : (v : Word) (k : Key) → key_of v ≡ Some k → v ≡ w → ⊥ = λ v k s q. let n = found.0 in let same : key_of v ≡ key_of w = ap key_of q in no_way (cc) in (
      record {
        some = lawful.0;
        short = lawful.1.0;
        begins = lawful.1.1.0;
        bytes = lawful.1.1.1;
        free = (apart _ key.If refl, (apart _ key.Not refl, (apart _ key.Load refl, (apart _ key.Sum refl, (apart _ key.Count refl, tt)))));
      },
      found.2,
    )

name_unkeyed : (w : Word) → LawfulName w → key_of w ≡ None
name_unkeyed w h =
    let at : (v : Word) → w ≡ v → get_or w 0 0 ≡ get_or v 0 0 = λ v e. ap (λ l. get_or l 0 0) e in
    let first = h.begins in
    let free = h.free in
    no_key keys w ((λ e. free.0 (sym e)), ((λ e. free.1.0 (sym e)), ((λ e. free.1.1.0 (sym e)), ((λ e. free.1.1.1.0 (sym e)), ((λ e. free.1.1.1.1.0 (sym e)), ((λ e. omega (arith, at _ e)), ((λ e. omega (arith, at _ e)), ((λ e. omega (arith, at _ e)), ((λ e. omega (arith, at _ e)), ((λ e. omega (arith, at _ e)), tt))))))))))

pub says_name : (w : Word) → LawfulName w → meaning w ≡ a_name w
says_name w h =
    (λ i. first_meaning w (name_unkeyed w h i) (no_number w (omega (arith, h.begins)) i) ((decides_lawful w).1 (h.some, (h.short, (h.begins, h.bytes))) i))

among_first : (names : List Word) (m : Meaning) (i : ℕ) → atom_said names m ≡ Some i → (b : Word) × (name_said m ≡ Some b) × (atom_among 0 names b ≡ Some i)
among_first names (a_name b) i e = (b, refl, e)
among_first names (a_number z) i e = no_way (cc)
among_first names (a_key k) i e = no_way (cc)
among_first names nothing i e = no_way (cc)

-- the atom that a word names
pub atom_told : (names : List Word) (w : Word) (i : ℕ) → atom_said names (meaning w) ≡ Some i → (w ≡ name_at names i) × (i < length names)
atom_told names w i e =
    let found = among_first names (meaning w) i e in
    let here = among_some 0 names found.0 i found.2 in
    let same : i ≡ here.0 = omega (arith, here.1) in
    ((name_told w found.0 found.1).1 ∙ sym here.3 ∙ ap (name_at names) (sym same), omega (arith, here.2))

pub tells_atom : (names : List Word) (i : ℕ) → AllByRecursion LawfulName names → NoneTwice names → i < length names → atom_said names (meaning (name_at names i)) ≡ Some i
tells_atom names i lawful once h =
    ap (atom_said names) (says_name (name_at names i) (All-get_or LawfulName names i [] h lawful))
    ∙ some_among 0 names i once h ∙ ap Some (zero-add i)
