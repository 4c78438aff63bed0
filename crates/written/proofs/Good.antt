-- The words of a lawful sheet can be seen and are not empty.
use Rattle.std.proofs.Common.{◌≡◌, ℕ, suc, ◌<◌, ◌≤◌, Bool, true, false, ◌&&◌, ltb, leb, List, [], ◌∷◌, map, length, ℤ, pos, negsuc, codes, decimal, refl, arith}
use Rattle.std.specs.Int.{IsInRange}
use Rattle.std.specs.Fmt.{signed_decimal}
use Rattle.std.specs.List.{flat_map, AllByRecursion}
use Rattle.std.proofs.ByRecursion.{All-weaker, All-append, All-map, All-get_or}
use Rattle.std.proofs.lemmas.Bool.{and_parts, leb-true, ltb-true}
use Rattle.tables.specs.declared.table.Comparison.{Comparison}
use Rattle.tables.specs.declared.table.Comparison.TheVariants.{AtMost, AtLeast, Equal, Unequal}
use Rattle.tables.specs.declared.table.Kind.{Kind}
use Rattle.tables.specs.declared.table.Kind.TheVariants.{Sum, Count}
use Rattle.tables.specs.declared.table.Entry.{Entry}
use Rattle.tables.specs.declared.table.Item.{Item}
use Rattle.tables.specs.declared.table.Item.TheVariants.{Atom, NotAtom, Aggregate}
use Rattle.written.specs.Sheets.{Sheet, LoadLine, RuleLine, RelayRow, NameByte, LawfulName, LawfulEntry, LawfulLoad, LawfulItem, LawfulRule, LawfulRelay, LawfulSheet}
use Rattle.written.specs.Writing.{Word, name_at, kind_word, comparison_word, weight_words, condition_words, entry_words, load_words, item_words, body_words, rule_words, relay_words, sheet_lines}
use Rattle.written.proofs.Pieces.{GoodWord, GoodLine}
use Rattle.written.proofs.Numbers.{Small, decimal_digits, decimal_length}
use Rattle.written.proofs.Loads.{small_limit, small_weight}

-- whether each byte can be seen
abbrev seen : List ℕ → Bool
seen [] = true
seen (b ∷ bs) = (leb 33 b && leb b 126) && seen bs

all_seen : (w : Word) → seen w ≡ true → AllByRecursion (IsInRange 33 126) w
all_seen [] e = tt
all_seen (b ∷ bs) e =
    let parts = and_parts (leb 33 b && leb b 126) (seen bs) e in
    let ends = and_parts (leb 33 b) (leb b 126) parts.0 in
    ((leb-true 33 b ends.0, leb-true b 126 ends.1), all_seen bs parts.1)

-- a word that is written out
good_literal : (w : Word) → ltb 0 (length w) ≡ true → seen w ≡ true → GoodWord w
good_literal w some e = (ltb-true 0 (length w) some, all_seen w e)

good_decimal : (n : ℕ) → n ≤ 1000000 → GoodWord (decimal n)
good_decimal n few = (decimal_length n few, All-weaker (IsInRange 48 57) (IsInRange 33 126) (λ b i. (omega (arith, i.0), omega (arith, i.1))) (decimal n) (decimal_digits n few))

good_signed : (z : ℤ) → Small z → GoodWord (signed_decimal z)
good_signed (pos n) h = good_decimal n h
good_signed (negsuc n) h = (omega arith, ((omega arith, omega arith), (good_decimal (suc n) h).1))

good_name : (w : Word) → LawfulName w → GoodWord w
good_name w h = (h.some, All-weaker NameByte (IsInRange 33 126) (λ b i. (omega arith, omega arith)) w h.bytes)

all_joined : {X : Type 0} (P : Word → Type 0) (f : X → List Word) (Q : X → Type 0) → ((x : X) → Q x → AllByRecursion P (f x)) → (xs : List X) → AllByRecursion Q xs → AllByRecursion P (flat_map f xs)
all_joined P f Q each [] h = tt
all_joined P f Q each (x ∷ xs) h = All-append P (f x) (flat_map f xs) (each x h.0) (all_joined P f Q each xs h.1)

good_kind : (k : Kind) → GoodWord (kind_word k)
good_kind Sum = good_literal (codes "sum") refl refl
good_kind Count = good_literal (codes "count") refl refl

good_comparison : (c : Comparison) → GoodWord (comparison_word c)
good_comparison AtMost = good_literal (codes "<=") refl refl
good_comparison AtLeast = good_literal (codes ">=") refl refl
good_comparison Equal = good_literal (codes "=") refl refl
good_comparison Unequal = good_literal (codes "!=") refl refl

module _ (names : List Word) (lawful : AllByRecursion LawfulName names) where
  good_atom : (i : ℕ) → i < length names → GoodWord (name_at names i)
  good_atom i h = good_name (name_at names i) (All-get_or LawfulName names i [] h lawful)

  good_condition : (negated : Bool) (i : ℕ) → i < length names → AllByRecursion GoodWord (condition_words names negated i)
  good_condition true i h = (good_literal (codes "not") refl refl, (good_atom i h, tt))
  good_condition false i h = (good_atom i h, tt)

  good_weight : (k : Kind) (e : Entry) → LawfulEntry (length names) k e → AllByRecursion GoodWord (weight_words k e)
  good_weight Sum e h = (good_signed e.weight (small_weight e.weight h.weighs), tt)
  good_weight Count e h = tt

  good_entry : (k : Kind) (e : Entry) → LawfulEntry (length names) k e → AllByRecursion GoodWord (entry_words names k e)
  good_entry k e h = All-append GoodWord (weight_words k e) _ (good_weight k e h) (good_condition e.negated e.atom h.known)

  good_load : (x : LoadLine) → LawfulLoad (length names) x → GoodLine (load_words names x)
  good_load x h = (
    omega arith,
    (
      good_kind x.kind,
      (
        good_comparison x.comparison,
        (
          good_signed x.limit (small_limit x.limit h.least h.most),
          all_joined GoodWord (entry_words names x.kind) (LawfulEntry (length names) x.kind) (good_entry x.kind) x.entries h.each,
        ),
      ),
    ),
  )

  module _ (loads : ℕ) (few : loads ≤ 1000000) where
    good_item : (x : Item) → LawfulItem (length names) loads x → AllByRecursion GoodWord (item_words names x)
    good_item (Atom i) h = good_condition false i h
    good_item (NotAtom i) h = good_condition true i h
    good_item (Aggregate n) h = (good_literal (codes "load") refl refl, (good_decimal n (omega arith), tt))

    good_body : (xs : List Item) → AllByRecursion (LawfulItem (length names) loads) xs → AllByRecursion GoodWord (body_words names xs)
    good_body [] h = tt
    good_body (x ∷ xs) h = (good_literal (codes "if") refl refl, all_joined GoodWord (item_words names) (LawfulItem (length names) loads) good_item (x ∷ xs) h)

    good_rule : (x : RuleLine) → LawfulRule (length names) loads x → GoodLine (rule_words names x)
    good_rule x h = (omega arith, (good_atom x.head h.known, good_body x.items h.each))

  good_relay : (x : RelayRow) → LawfulRelay (length names) x → GoodLine (relay_words names x)
  good_relay x h = (
    omega arith,
    (
      good_atom x.atom h.known,
      (
        good_literal (codes "!") refl refl,
        All-map GoodWord (name_at names) x.attackers (All-weaker (λ i. i < length names) (λ i. GoodWord (name_at names i)) good_atom x.attackers h.each),
      ),
    ),
  )

good_count : (word : Word) (n : ℕ) → GoodWord word → n ≤ 1000000 → GoodLine (word ∷ decimal n ∷ [])
good_count word n good few = (omega arith, (good, (good_decimal n few, tt)))

lines_good : {X : Type 0} (spell : X → List Word) (P : X → Type 0) → ((x : X) → P x → GoodLine (spell x)) → (xs : List X) → AllByRecursion P xs → AllByRecursion GoodLine (map spell xs)
lines_good spell P each xs h = All-map GoodLine spell xs (All-weaker P (λ x. GoodLine (spell x)) each xs h)

-- the lines of a lawful sheet are good
pub sheet_good : (sheet : Sheet) → LawfulSheet sheet → AllByRecursion GoodLine (sheet_lines sheet)
sheet_good sheet h =
    let names : List Word = sheet.names in (
      good_count (codes "marks") (length sheet.names) (good_literal (codes "marks") refl refl) (omega (arith, h.few_names)),
      (
        good_count (codes "loads") (length sheet.loads) (good_literal (codes "loads") refl refl) (omega (arith, h.few_loads)),
        (
          good_count (codes "rules") (length sheet.rules) (good_literal (codes "rules") refl refl) (omega (arith, h.few_rules)),
          (
            good_count (codes "relays") (length sheet.relays) (good_literal (codes "relays") refl refl) (omega (arith, h.few_relays)),
            All-append GoodLine (map (λ n. n ∷ []) names) _ (lines_good (λ n. n ∷ []) LawfulName (λ n l. (omega arith, (good_name n l, tt))) names h.names)
                (All-append GoodLine (map (load_words names) sheet.loads) _ (lines_good (load_words names) (LawfulLoad (length names)) (good_load names h.names) sheet.loads h.loads)
                (All-append GoodLine (map (rule_words names) sheet.rules) _ (lines_good (rule_words names) (LawfulRule (length names) (length sheet.loads)) (good_rule names h.names (length sheet.loads) (omega (arith, h.few_loads))) sheet.rules h.rules)
                (lines_good (relay_words names) (LawfulRelay (length names)) (good_relay names h.names) sheet.relays h.relays))),
          ),
        ),
      ),
    )
