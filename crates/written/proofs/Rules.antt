-- Rule lines: the machine makes a row just of the words of a lawful rule.
use Rattle.std.proofs.Common.{◌≡◌, ℕ, ◌<◌, ◌≤◌, true, false, cond, eqb, List, [], ◌∷◌, ◌++◌, length, Some, None, Ok, codes, decimal, Option, sym, refl, ap, ◌∙◌, arith}
use Rattle.std.specs.List.{flat_map, AllByRecursion}
use Rattle.std.proofs.ByRecursion.{All-get_or}
use Rattle.std.proofs.lemmas.Bool.{cond-true, cond-false, ne_eqb}
use Rattle.tables.specs.declared.table.Item.{Item}
use Rattle.tables.specs.declared.table.Item.TheVariants as item
use Rattle.tables.specs.declared.table.Rule.{Rule}
use Rattle.tables.specs.Rows.{laid, has_room}
use Rattle.tables.specs.Tables.{rule_of, zero_item}
use Rattle.tables.proofs.Laid.{room_laid, pushed_laid, in_use_laid}
use Rattle.text.specs.Words.{meaning, key_said}
use Rattle.grammar.specs.declared.RuleState.{RuleState}
use Rattle.grammar.specs.declared.RuleState.TheVariants as rule
use Rattle.grammar.specs.declared.Wrong.TheVariants as wrong
use Rattle.grammar.specs.Said.{is_if, is_not, is_load, atom_said, below_said}
use Rattle.grammar.specs.Wrongs.{or_wrong}
use Rattle.grammar.specs.Rules.{with_item, item_begun, rule_next, rule_done}
use Rattle.written.specs.Sheets.{RuleLine, LawfulName, NoneTwice, LawfulItem, LawfulRule}
use Rattle.written.specs.Writing.{Word, name_at, item_words, body_words, rule_words, rule_row}
use Rattle.written.proofs.Results.{no_way, or_wrong_ok, cond_ok, room_told}
use Rattle.written.proofs.Words.{if_says, not_says, load_says, below_told, tells_below, atom_told, tells_atom, says_name}
use Rattle.written.proofs.Runs.{run, run_step, step_run, Took, units_taken, units_put}

-- after `if` a rule may end where it has items
none_yet : (head : ℕ) → rule_done (rule.Items (rule_of head [])) ≡ None
none_yet head = cond-true _ _ _ (ap (λ l. eqb (length l) 0) (in_use_laid 16 zero_item []))

some_now : (head : ℕ) (x : Item) (xs : List Item) → rule_done (rule.Items (rule_of head (x ∷ xs))) ≡ Some (rule_of head (x ∷ xs))
some_now head x xs = cond-false _ _ _ (ap (λ l. eqb (length l) 0) (in_use_laid 16 zero_item (x ∷ xs)) ∙ ne_eqb _ 0 (λ e. omega arith))

module _ (names : List Word) (loads : ℕ) where
  abbrev go : RuleState → List Word → Option Rule
  go s ws = run (rule_next names loads) rule_done s ws

  abbrev Fits : Item → Type 0
  Fits x = LawfulItem (length names) loads x

  module _ (head : ℕ) where
    -- the state after items
    abbrev after : List Item → RuleState
    after xs = rule.Items (rule_of head xs)

    one_more : (xs : List Item) (x : Item) → length xs < 16 → with_item (rule_of head xs) x ≡ rule_of head (xs ++ x ∷ [])
    one_more xs x h = ap (λ rows. record { head = head; items = rows }) (pushed_laid 16 zero_item xs x (omega arith) h)

    -- ---- what the machine took

    module _ (xs : List Item) (r : Rule) (h : length xs < 16) where
      abbrev TookOne : List Word → Type 0
      TookOne ws = Took (rule_next names loads) rule_done after (item_words names) Fits 16 xs ws r

      took_item : (x : Item) (ws rest : List Word) (s : RuleState) → 0 < length (item_words names x) → Fits x → item_words names x ++ rest ≡ ws → rule.Items (with_item (rule_of head xs) x) ≡ s → go s rest ≡ Some r → TookOne ws
      took_item x ws rest s some fits is same g = record {
        unit = x;
        rest = rest;
        is = is;
        some = some;
        fits = fits;
        room = h;
        goes = ap (λ q. go (rule.Items q) rest) (sym (one_more xs x h)) ∙ ap (λ t. go t rest) same ∙ g;
      }

      after_not : (ws : List Word) → go (rule.Negated (rule_of head xs)) ws ≡ Some r → TookOne (codes "not" ∷ ws)
      after_not [] g = no_way (cc)
      after_not (v ∷ vs) g =
          let step = step_run (rule_next names loads) rule_done (rule.Negated (rule_of head xs)) v vs r g in
          let found = or_wrong_ok (atom_said names (meaning v)) wrong.NotAName _ step.0 step.1 in
          let told = atom_told names v found.0 found.1 in
          took_item (item.NotAtom found.0) _ vs step.0 (omega arith) told.1 (ap (λ w. codes "not" ∷ w ∷ vs) (sym told.0)) found.2 step.2

      after_load : (ws : List Word) → go (rule.Loaded (rule_of head xs)) ws ≡ Some r → TookOne (codes "load" ∷ ws)
      after_load [] g = no_way (cc)
      after_load (v ∷ vs) g =
          let step = step_run (rule_next names loads) rule_done (rule.Loaded (rule_of head xs)) v vs r g in
          let found = or_wrong_ok (below_said loads (meaning v)) wrong.BadNumber _ step.0 step.1 in
          let told = below_told loads v found.0 found.1 in
          took_item (item.Aggregate found.0) _ vs step.0 (omega arith) told.1 (ap (λ w. codes "load" ∷ w ∷ vs) (sym told.0)) found.2 step.2

      named : (w : Word) (ws : List Word) (s : RuleState) → or_wrong (atom_said names (meaning w)) wrong.NotAName (λ atom. rule.Items (with_item (rule_of head xs) (item.Atom atom))) ≡ Ok s → go s ws ≡ Some r → TookOne (w ∷ ws)
      named w ws s e g =
          let found = or_wrong_ok (atom_said names (meaning w)) wrong.NotAName _ s e in
          let told = atom_told names w found.0 found.1 in
          took_item (item.Atom found.0) _ ws s (omega arith) told.1 (ap (λ v. v ∷ ws) (sym told.0)) found.2 g

      unnegated : (w : Word) (ws : List Word) (s : RuleState)
          → cond (is_load (key_said (meaning w))) (Ok (rule.Loaded (rule_of head xs))) (or_wrong (atom_said names (meaning w)) wrong.NotAName (λ atom. rule.Items (with_item (rule_of head xs) (item.Atom atom)))) ≡ Ok s
          → go s ws ≡ Some r → TookOne (w ∷ ws)
      unnegated w ws s e g =
          elim (is_load (key_said (meaning w))) as (λ t. is_load (key_said (meaning w)) ≡ t
          → cond t (Ok (rule.Loaded (rule_of head xs))) (or_wrong (atom_said names (meaning w)) wrong.NotAName (λ atom. rule.Items (with_item (rule_of head xs) (item.Atom atom)))) ≡ Ok s
          → TookOne (w ∷ ws)) [
            | true ↦ λ n q. let same : rule.Loaded (rule_of head xs) ≡ s = cc in rw (load_says w n) (after_load ws (ap (λ t. go t ws) same ∙ g))
            | false ↦ λ n q. named w ws s q g
          ] refl e

      begun : (w : Word) (ws : List Word) (s : RuleState) → item_begun names (rule_of head xs) (meaning w) ≡ Ok s → go s ws ≡ Some r → TookOne (w ∷ ws)
      begun w ws s e g =
          elim (is_not (key_said (meaning w))) as (λ t. is_not (key_said (meaning w)) ≡ t
          → cond t (Ok (rule.Negated (rule_of head xs)))
          (cond (is_load (key_said (meaning w))) (Ok (rule.Loaded (rule_of head xs))) (or_wrong (atom_said names (meaning w)) wrong.NotAName (λ atom. rule.Items (with_item (rule_of head xs) (item.Atom atom))))) ≡ Ok s
          → TookOne (w ∷ ws)) [
            | true ↦ λ n q. let same : rule.Negated (rule_of head xs) ≡ s = cc in rw (not_says w n) (after_not ws (ap (λ t. go t ws) same ∙ g))
            | false ↦ λ n q. unnegated w ws s q g
          ] refl e

    take_one : (xs : List Item) (w : Word) (ws : List Word) (r : Rule) → go (after xs) (w ∷ ws) ≡ Some r → Took (rule_next names loads) rule_done after (item_words names) Fits 16 xs (w ∷ ws) r
    take_one xs w ws r e =
        let step = step_run (rule_next names loads) rule_done (after xs) w ws r e in
        let room = cond_ok (has_room 16 (laid 16 zero_item xs)) _ wrong.Misplaced step.0 step.1 in
        begun xs r (room_told 16 zero_item xs room.0) w ws step.0 room.1 step.2

  -- a lawful rule with these words and this row
  pub record RuleOf (ws : List Word) (r : Rule) : Type 0 where
    pub line : RuleLine
    pub spelt : rule_words names line ≡ ws
    pub lawful : LawfulRule (length names) loads line
    pub rowed : rule_row line ≡ r

  with_items : (head : ℕ) (known : head < length names) (xs : List Item) (ws : List Word) (r : Rule) → flat_map (item_words names) xs ≡ ws → AllByRecursion Fits xs → length xs ≤ 16 → rule_done (after head xs) ≡ Some r → RuleOf (name_at names head ∷ codes "if" ∷ ws) r
  with_items head known [] ws r is fits few ends = let none = none_yet head in no_way (cc)
  with_items head known (x ∷ xs) ws r is fits few ends =
      let some = some_now head x xs in
      let same : Some (rule_of head (x ∷ xs)) ≡ Some r = sym some ∙ ends in
      record {
        line = record { head = head; items = x ∷ xs };
        spelt = ap (λ vs. name_at names head ∷ codes "if" ∷ vs) is;
        lawful = record { known = known; few = few; each = fits };
        rowed = cc same;
      }

  from_headed : (head : ℕ) → head < length names → (ws : List Word) (r : Rule) → go (rule.Headed head) ws ≡ Some r → RuleOf (name_at names head ∷ ws) r
  from_headed head known [] r e = record {
    line = record { head = head; items = [] };
    spelt = refl;
    lawful = record { known = known; few = omega arith; each = tt };
    rowed = cc;
  }
  from_headed head known (w ∷ ws) r e =
      let step = step_run (rule_next names loads) rule_done (rule.Headed head) w ws r e in
      let found = cond_ok (is_if (key_said (meaning w))) _ wrong.Misplaced step.0 step.1 in
      let same : after head [] ≡ step.0 = cc found.1 in
      let all = units_taken (rule_next names loads) rule_done (after head) (item_words names) Fits 16 (take_one head) [] ws r (omega arith) (ap (λ t. go t ws) same ∙ step.2) in
      rw (if_says w found.0) (with_items head known all.units ws r all.is all.fits (omega (arith, all.few)) all.ends)

  -- words that the machine makes a row of are those of a lawful rule
  pub rule_told : (ws : List Word) (r : Rule) → go rule.Start ws ≡ Some r → RuleOf ws r
  rule_told [] r e = no_way (cc)
  rule_told (w ∷ ws) r e =
      let step = step_run (rule_next names loads) rule_done rule.Start w ws r e in
      let found = or_wrong_ok (atom_said names (meaning w)) wrong.NotAName _ step.0 step.1 in
      let told = atom_told names w found.0 found.1 in
      rw told.0 (from_headed found.0 told.1 ws r (ap (λ t. go t ws) found.2 ∙ step.2))

  -- ---- what the machine takes

  module _ (lawful : AllByRecursion LawfulName names) (once : NoneTwice names) (few : loads ≤ 1000000) where
    module _ (head : ℕ) (xs : List Item) (rest : List Word) (h : length xs < 16) where
      abbrev r : Rule
      r = rule_of head xs

      -- where there is room a word may begin an item
      begins : (w : Word) (s : RuleState) → item_begun names r (meaning w) ≡ Ok s → rule_next names loads (after head xs) (meaning w) ≡ Ok s
      begins w s e = cond-true _ _ _ (room_laid 16 zero_item xs (omega arith) h) ∙ e

      ends : (x : Item) → go (rule.Items (with_item r x)) rest ≡ go (after head (xs ++ x ∷ [])) rest
      ends x = ap (λ q. go (rule.Items q) rest) (one_more head xs x h)

      put_one : (x : Item) → Fits x → go (after head xs) (item_words names x ++ rest) ≡ go (after head (xs ++ x ∷ [])) rest
      put_one (item.Atom atom) known =
          let says = says_name (name_at names atom) (All-get_or LawfulName names atom [] known lawful) in
          run_step (rule_next names loads) rule_done (after head xs) (rule.Items (with_item r (item.Atom atom))) (name_at names atom) rest
          (begins (name_at names atom) _
          (cond-false _ _ _ (ap (λ m. is_not (key_said m)) says) ∙ cond-false _ _ _ (ap (λ m. is_load (key_said m)) says)
          ∙ ap (λ o. or_wrong o wrong.NotAName (λ i. rule.Items (with_item r (item.Atom i)))) (tells_atom names atom lawful once known)))
          ∙ ends (item.Atom atom)
      put_one (item.NotAtom atom) known =
          run_step (rule_next names loads) rule_done (after head xs) (rule.Negated r) (codes "not") (name_at names atom ∷ rest) (begins (codes "not") _ refl)
          ∙ run_step (rule_next names loads) rule_done (rule.Negated r) (rule.Items (with_item r (item.NotAtom atom))) (name_at names atom) rest
          (ap (λ o. or_wrong o wrong.NotAName (λ i. rule.Items (with_item r (item.NotAtom i)))) (tells_atom names atom lawful once known))
          ∙ ends (item.NotAtom atom)
      put_one (item.Aggregate load) known =
          run_step (rule_next names loads) rule_done (after head xs) (rule.Loaded r) (codes "load") (decimal load ∷ rest) (begins (codes "load") _ refl)
          ∙ run_step (rule_next names loads) rule_done (rule.Loaded r) (rule.Items (with_item r (item.Aggregate load))) (decimal load) rest
          (ap (λ o. or_wrong o wrong.BadNumber (λ i. rule.Items (with_item r (item.Aggregate i)))) (tells_below loads load few known))
          ∙ ends (item.Aggregate load)

    put_body : (head : ℕ) (xs : List Item) → length xs ≤ 16 → AllByRecursion Fits xs → go (rule.Headed head) (body_words names xs) ≡ Some (rule_of head xs)
    put_body head [] h fits = refl
    put_body head (x ∷ xs) h fits =
        run_step (rule_next names loads) rule_done (rule.Headed head) (after head []) (codes "if") (flat_map (item_words names) (x ∷ xs)) refl
        ∙ units_put (rule_next names loads) rule_done (after head) (item_words names) Fits 16 (λ us u rest l f. put_one head us rest l u f) [] (x ∷ xs) (omega arith) fits
        ∙ some_now head x xs

    -- of the words of a lawful rule the machine makes its row
    pub rule_tells : (x : RuleLine) → LawfulRule (length names) loads x → go rule.Start (rule_words names x) ≡ Some (rule_row x)
    rule_tells x h =
        run_step (rule_next names loads) rule_done rule.Start (rule.Headed x.head) (name_at names x.head) (body_words names x.items)
        (ap (λ o. or_wrong o wrong.NotAName rule.Headed) (tells_atom names x.head lawful once h.known))
        ∙ put_body x.head x.items h.few h.each
