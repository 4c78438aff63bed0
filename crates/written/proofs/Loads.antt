-- Load lines: the machine makes a row just of the words of a lawful load.
use Rattle.std.proofs.Common.{◌≡◌, ℕ, ◌<◌, Bool, true, false, cond, List, [], ◌∷◌, ◌++◌, length, ℤ, pos, negsuc, ◌≤ℤ◌, Some, Ok, codes, Option, sym, refl, ap, ◌∙◌, arith}
use Rattle.std.specs.Fmt.{signed_decimal}
use Rattle.std.specs.List.{flat_map, AllByRecursion}
use Rattle.std.proofs.ByRecursion.{All-get_or}
use Rattle.std.proofs.lemmas.List.{append_assoc, length-append}
use Rattle.std.proofs.lemmas.Int.{ints}
use Rattle.std.proofs.lemmas.Bool.{cond-true, cond-false}
use Rattle.tables.specs.declared.table.Aggregate.{Aggregate}
use Rattle.tables.specs.declared.table.Comparison.{Comparison}
use Rattle.tables.specs.declared.table.Entry.{Entry}
use Rattle.tables.specs.declared.table.Kind.{Kind}
use Rattle.tables.specs.declared.table.Kind.TheVariants as kind
use Rattle.tables.specs.Rows.{laid, has_room}
use Rattle.tables.specs.Tables.{aggregate_of, zero_entry}
use Rattle.tables.proofs.Laid.{room_laid, pushed_laid}
use Rattle.text.specs.Words.{Meaning, meaning, key_said, number_said}
use Rattle.grammar.specs.declared.LoadState.{LoadState}
use Rattle.grammar.specs.declared.LoadState.TheVariants as load
use Rattle.grammar.specs.declared.Wrong.TheVariants as wrong
use Rattle.grammar.specs.Said.{kind_said, comparison_said, is_not, atom_said}
use Rattle.grammar.specs.Wrongs.{or_wrong}
use Rattle.grammar.specs.Loads.{with_entry, condition, entry_begun, load_next, load_done}
use Rattle.written.specs.Sheets.{LoadLine, LawfulName, NoneTwice, LawfulWeight, LawfulEntry, LawfulLoad}
use Rattle.written.specs.Writing.{Word, name_at, kind_word, comparison_word, weight_words, condition_words, entry_words, load_words, load_row}
use Rattle.written.proofs.Results.{no_way, or_wrong_ok, cond_ok, room_told}
use Rattle.written.proofs.Numbers.{Small}
use Rattle.written.proofs.Words.{kind_says, says_kind, comparison_says, says_comparison, not_says, number_told, tells_number, atom_told, tells_atom, says_name}
use Rattle.written.proofs.Runs.{run, run_step, step_run, Took, units_taken, units_put}

abbrev entry : ℤ → ℕ → Bool → Entry
entry weight atom negated = record { weight = weight; atom = atom; negated = negated }

-- a limit and a weight of a sum are small
small_from : (low high : ℤ) (z : ℤ) → negsuc 999999 ≤ℤ low → high ≤ℤ pos 1000000 → low ≤ℤ z → z ≤ℤ high → Small z
small_from low high (pos n) a b l u = omega (arith, ints)
small_from low high (negsuc n) a b l u = omega (arith, ints)

pub small_limit : (z : ℤ) → negsuc 999999 ≤ℤ z → z ≤ℤ pos 1000000 → Small z
small_limit z l u = small_from (negsuc 999999) (pos 1000000) z (omega (arith, ints)) (omega (arith, ints)) l u

pub small_weight : (z : ℤ) → LawfulWeight kind.Sum z → Small z
small_weight z h = small_from (negsuc 9999) (pos 10000) z (omega (arith, ints)) (omega (arith, ints)) h.0 h.1

condition_some : (names : List Word) (negated : Bool) (atom : ℕ) → 0 < length (condition_words names negated atom)
condition_some names true atom = omega arith
condition_some names false atom = omega arith

module _ (names : List Word) where
  abbrev go : LoadState → List Word → Option Aggregate
  go s ws = run (load_next names) load_done s ws

  module _ (k : Kind) (c : Comparison) (limit : ℤ) where
    -- the state after entries
    abbrev so_far : List Entry → Aggregate
    so_far es = aggregate_of k c limit es

    abbrev after : List Entry → LoadState
    after es = load.Entries (so_far es)

    abbrev Fits : Entry → Type 0
    Fits e = LawfulEntry (length names) k e

    one_more : (es : List Entry) (weight : ℤ) (atom : ℕ) (negated : Bool) → length es < 16 → with_entry (so_far es) weight atom negated ≡ so_far (es ++ entry weight atom negated ∷ [])
    one_more es weight atom negated h = ap (λ rows. record { kind = k; comparison = c; limit = limit; entries = rows }) (pushed_laid 16 zero_entry es (entry weight atom negated) (omega arith) h)

    -- ---- what the machine took

    -- a condition was taken, and some words are left
    record Conditioned (es : List Entry) (weight : ℤ) (ws : List Word) (r : Aggregate) : Type 0 where
      negated : Bool
      atom : ℕ
      rest : List Word
      is : condition_words names negated atom ++ rest ≡ ws
      known : atom < length names
      goes : go (load.Entries (with_entry (so_far es) weight atom negated)) rest ≡ Some r

    module _ (es : List Entry) (weight : ℤ) (r : Aggregate) where
      named : (w : Word) (ws : List Word) (s : LoadState) (negated : Bool) (front : List Word)
          → or_wrong (atom_said names (meaning w)) wrong.NotAName (λ atom. load.Entries (with_entry (so_far es) weight atom negated)) ≡ Ok s
          → go s ws ≡ Some r → ((atom : ℕ) → condition_words names negated atom ≡ front ++ name_at names atom ∷ []) → Conditioned es weight (front ++ w ∷ ws) r
      named w ws s negated front e g spelt =
          let found = or_wrong_ok (atom_said names (meaning w)) wrong.NotAName _ s e in
          let told = atom_told names w found.0 found.1 in
          record {
            negated = negated;
            atom = found.0;
            rest = ws;
            is = ap (λ l. l ++ ws) (spelt found.0) ∙ append_assoc front (name_at names found.0 ∷ []) ws ∙ ap (λ v. front ++ v ∷ ws) (sym told.0);
            known = told.1;
            goes = ap (λ t. go t ws) found.2 ∙ g;
          }

      after_not : (ws : List Word) → go (load.Negated (so_far es) weight) ws ≡ Some r → Conditioned es weight (codes "not" ∷ ws) r
      after_not [] g = no_way (cc)
      after_not (v ∷ vs) g =
          let step = step_run (load_next names) load_done (load.Negated (so_far es) weight) v vs r g in
          named v vs step.0 true (codes "not" ∷ []) step.1 step.2 (λ _. refl)

      conditioned : (w : Word) (ws : List Word) (s : LoadState) → condition names (so_far es) weight (meaning w) ≡ Ok s → go s ws ≡ Some r → Conditioned es weight (w ∷ ws) r
      conditioned w ws s e g =
          elim (is_not (key_said (meaning w))) as (λ t. is_not (key_said (meaning w)) ≡ t
          → cond t (Ok (load.Negated (so_far es) weight)) (or_wrong (atom_said names (meaning w)) wrong.NotAName (λ atom. load.Entries (with_entry (so_far es) weight atom false))) ≡ Ok s
          → Conditioned es weight (w ∷ ws) r) [
            | true ↦ λ n q.
                let same : load.Negated (so_far es) weight ≡ s = cc in
                rw (not_says w n) (after_not ws (ap (λ t. go t ws) same ∙ g))
            | false ↦ λ n q. named w ws s false [] q g (λ _. refl)
          ] refl e

    abbrev TookOne : List Entry → List Word → Aggregate → Type 0
    TookOne es ws r = Took (load_next names) load_done after (entry_words names k) Fits 16 es ws r

    took_entry : (es : List Entry) (weight : ℤ) (front vs : List Word) (r : Aggregate) → length es < 16 → LawfulWeight k weight → ((a : ℕ) (n : Bool) → weight_words k (entry weight a n) ≡ front) → Conditioned es weight vs r → TookOne es (front ++ vs) r
    took_entry es weight front vs r h weighs spelt x =
        let unit : Entry = entry weight x.atom x.negated in
        let tail : List Word = condition_words names x.negated x.atom in
        record {
          unit = unit;
          rest = x.rest;
          is = append_assoc (weight_words k unit) tail x.rest ∙ (λ i. spelt x.atom x.negated i ++ x.is i);
          some = omega (arith, length-append (weight_words k unit) tail, condition_some names x.negated x.atom);
          fits = record { weighs = weighs; known = x.known };
          room = h;
          goes = ap (λ a. go (load.Entries a) x.rest) (sym (one_more es weight x.atom x.negated h)) ∙ x.goes;
        }

  module _ (c : Comparison) (limit : ℤ) (es : List Entry) (r : Aggregate) (h : length es < 16) where
    after_weight : (weight : ℤ) (ws : List Word) → LawfulWeight kind.Sum weight → go (load.Weighted (so_far kind.Sum c limit es) weight) ws ≡ Some r → TookOne kind.Sum c limit es (signed_decimal weight ∷ ws) r
    after_weight weight [] weighs g = no_way (cc)
    after_weight weight (v ∷ vs) weighs g =
        let step = step_run (load_next names) load_done (load.Weighted (so_far kind.Sum c limit es) weight) v vs r g in
        took_entry kind.Sum c limit es weight (signed_decimal weight ∷ []) (v ∷ vs) r h weighs (λ _ _. refl) (conditioned kind.Sum c limit es weight r v vs step.0 step.1 step.2)

    begun : (k : Kind) (w : Word) (ws : List Word) (s : LoadState) → entry_begun names (so_far k c limit es) k (meaning w) ≡ Ok s → go s ws ≡ Some r → TookOne k c limit es (w ∷ ws) r
    begun kind.Sum w ws s e g =
        let found = or_wrong_ok (number_said (negsuc 9999) (pos 10000) (meaning w)) wrong.BadNumber _ s e in
        let told = number_told (negsuc 9999) (pos 10000) w found.0 found.1 in
        rw told.0 (after_weight found.0 ws (told.1, told.2) (ap (λ t. go t ws) found.2 ∙ g))
    begun kind.Count w ws s e g = took_entry kind.Count c limit es (pos 1) [] (w ∷ ws) r h refl (λ _ _. refl) (conditioned kind.Count c limit es (pos 1) r w ws s e g)

  take_one : (k : Kind) (c : Comparison) (limit : ℤ) (es : List Entry) (w : Word) (ws : List Word) (r : Aggregate) → go (after k c limit es) (w ∷ ws) ≡ Some r → TookOne k c limit es (w ∷ ws) r
  take_one k c limit es w ws r e =
      let step = step_run (load_next names) load_done (after k c limit es) w ws r e in
      let room = cond_ok (has_room 16 (laid 16 zero_entry es)) _ wrong.Misplaced step.0 step.1 in
      begun c limit es r (room_told 16 zero_entry es room.0) k w ws step.0 room.1 step.2

  -- a lawful load with these words and this row
  pub record LoadOf (ws : List Word) (r : Aggregate) : Type 0 where
    pub line : LoadLine
    pub spelt : load_words names line ≡ ws
    pub lawful : LawfulLoad (length names) line
    pub rowed : load_row line ≡ r

  from_limit : (k : Kind) (c : Comparison) (limit : ℤ) (ws : List Word) (r : Aggregate) → negsuc 999999 ≤ℤ limit → limit ≤ℤ pos 1000000 → go (after k c limit []) ws ≡ Some r → LoadOf (kind_word k ∷ comparison_word c ∷ signed_decimal limit ∷ ws) r
  from_limit k c limit ws r l u e =
      let all = units_taken (load_next names) load_done (after k c limit) (entry_words names k) (Fits k c limit) 16 (take_one k c limit) [] ws r (omega arith) e in
      let ends : Some (so_far k c limit all.units) ≡ Some r = all.ends in
      record {
        line = record { kind = k; comparison = c; limit = limit; entries = all.units };
        spelt = ap (λ vs. kind_word k ∷ comparison_word c ∷ signed_decimal limit ∷ vs) all.is;
        lawful = record { least = l; most = u; few = omega (arith, all.few); each = all.fits };
        rowed = cc ends;
      }

  from_compared : (k : Kind) (c : Comparison) (ws : List Word) (r : Aggregate) → go (load.Compared k c) ws ≡ Some r → LoadOf (kind_word k ∷ comparison_word c ∷ ws) r
  from_compared k c [] r e = no_way (cc)
  from_compared k c (w ∷ ws) r e =
      let step = step_run (load_next names) load_done (load.Compared k c) w ws r e in
      let found = or_wrong_ok (number_said (negsuc 999999) (pos 1000000) (meaning w)) wrong.BadNumber _ step.0 step.1 in
      let told = number_told (negsuc 999999) (pos 1000000) w found.0 found.1 in
      rw told.0 (from_limit k c found.0 ws r told.1 told.2 (ap (λ t. go t ws) found.2 ∙ step.2))

  from_kinded : (k : Kind) (ws : List Word) (r : Aggregate) → go (load.Kinded k) ws ≡ Some r → LoadOf (kind_word k ∷ ws) r
  from_kinded k [] r e = no_way (cc)
  from_kinded k (w ∷ ws) r e =
      let step = step_run (load_next names) load_done (load.Kinded k) w ws r e in
      let found = or_wrong_ok (comparison_said (meaning w)) wrong.Misplaced _ step.0 step.1 in
      rw (comparison_says w found.0 found.1) (from_compared k found.0 ws r (ap (λ t. go t ws) found.2 ∙ step.2))

  -- words that the machine makes a row of are those of a lawful load
  pub load_told : (ws : List Word) (r : Aggregate) → go load.Start ws ≡ Some r → LoadOf ws r
  load_told [] r e = no_way (cc)
  load_told (w ∷ ws) r e =
      let step = step_run (load_next names) load_done load.Start w ws r e in
      let found = or_wrong_ok (kind_said (meaning w)) wrong.Misplaced _ step.0 step.1 in
      rw (kind_says w found.0 found.1) (from_kinded found.0 ws r (ap (λ t. go t ws) found.2 ∙ step.2))

  -- ---- what the machine takes

  module _ (lawful : AllByRecursion LawfulName names) (once : NoneTwice names) where
    module _ (a : Aggregate) (weight : ℤ) (atom : ℕ) (known : atom < length names) where
      put_name : (s : LoadState) (negated : Bool) (rest : List Word)
          → load_next names s (meaning (name_at names atom)) ≡ or_wrong (atom_said names (meaning (name_at names atom))) wrong.NotAName (λ i. load.Entries (with_entry a weight i negated))
          → go s (name_at names atom ∷ rest) ≡ go (load.Entries (with_entry a weight atom negated)) rest
      put_name s negated rest e =
          run_step (load_next names) load_done s _ (name_at names atom) rest (e ∙ ap (λ o. or_wrong o wrong.NotAName (λ i. load.Entries (with_entry a weight i negated))) (tells_atom names atom lawful once known))

      -- a state that waits for a condition takes one
      put_condition : (s : LoadState) → ((m : Meaning) → load_next names s m ≡ condition names a weight m) → (negated : Bool) (rest : List Word)
          → go s (condition_words names negated atom ++ rest) ≡ go (load.Entries (with_entry a weight atom negated)) rest
      put_condition s waits true rest =
          run_step (load_next names) load_done s (load.Negated a weight) (codes "not") (name_at names atom ∷ rest) (waits (meaning (codes "not"))) ∙ put_name (load.Negated a weight) true rest refl
      put_condition s waits false rest =
          put_name s false rest (waits (meaning (name_at names atom)) ∙ cond-false _ _ _ (ap (λ m. is_not (key_said m)) (says_name (name_at names atom) (All-get_or LawfulName names atom [] known lawful))))

    put_one : (k : Kind) (c : Comparison) (limit : ℤ) (es : List Entry) (u : Entry) (rest : List Word) → length es < 16 → Fits k c limit u
        → go (after k c limit es) (entry_words names k u ++ rest) ≡ go (after k c limit (es ++ u ∷ [])) rest
    put_one kind.Sum c limit es u rest h fits =
        let a : Aggregate = so_far kind.Sum c limit es in
        run_step (load_next names) load_done (load.Entries a) (load.Weighted a u.weight) (signed_decimal u.weight) (condition_words names u.negated u.atom ++ rest)
        (cond-true _ _ _ (room_laid 16 zero_entry es (omega arith) h)
        ∙ ap (λ o. or_wrong o wrong.BadNumber (λ weight. load.Weighted a weight)) (tells_number (negsuc 9999) (pos 10000) u.weight (small_weight u.weight fits.weighs) fits.weighs.0 fits.weighs.1))
        ∙ put_condition a u.weight u.atom fits.known (load.Weighted a u.weight) (λ m. refl) u.negated rest
        ∙ ap (λ b. go (load.Entries b) rest) (one_more kind.Sum c limit es u.weight u.atom u.negated h)
    put_one kind.Count c limit es u rest h fits =
        let a : Aggregate = so_far kind.Count c limit es in
        put_condition a (pos 1) u.atom fits.known (load.Entries a) (λ m. cond-true _ _ _ (room_laid 16 zero_entry es (omega arith) h)) u.negated rest
        ∙ ap (λ weight. go (load.Entries (with_entry a weight u.atom u.negated)) rest) (sym fits.weighs)
        ∙ ap (λ b. go (load.Entries b) rest) (one_more kind.Count c limit es u.weight u.atom u.negated h)

    -- of the words of a lawful load the machine makes its row
    pub load_tells : (x : LoadLine) → LawfulLoad (length names) x → go load.Start (load_words names x) ≡ Some (load_row x)
    load_tells x h =
        let k : Kind = x.kind in
        let c : Comparison = x.comparison in
        let entries : List Word = flat_map (entry_words names k) x.entries in
        run_step (load_next names) load_done load.Start (load.Kinded k) (kind_word k) (comparison_word c ∷ signed_decimal x.limit ∷ entries) (ap (λ o. or_wrong o wrong.Misplaced load.Kinded) (says_kind k))
        ∙ run_step (load_next names) load_done (load.Kinded k) (load.Compared k c) (comparison_word c) (signed_decimal x.limit ∷ entries) (ap (λ o. or_wrong o wrong.Misplaced (load.Compared k)) (says_comparison c))
        ∙ run_step (load_next names) load_done (load.Compared k c) (after k c x.limit []) (signed_decimal x.limit) entries
        (ap (λ o. or_wrong o wrong.BadNumber (λ limit. load.Entries (aggregate_of k c limit []))) (tells_number (negsuc 999999) (pos 1000000) x.limit (small_limit x.limit h.least h.most) h.least h.most))
        ∙ units_put (load_next names) load_done (after k c x.limit) (entry_words names k) (Fits k c x.limit) 16 (put_one k c x.limit) [] x.entries (omega (arith, h.few)) h.each
