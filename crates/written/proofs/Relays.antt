-- Relay lines: the machine makes a row just of the words of a lawful relay line of an atom that has none yet.
use Rattle.std.proofs.Common.{◌≡◌, ℕ, ◌<◌, true, false, cond, eqb, List, [], ◌∷◌, ◌++◌, map, length, Some, None, Ok, Err, codes, Option, sym, refl, ap, ◌∙◌, arith}
use Rattle.std.specs.List.{flat_map, AllByRecursion}
use Rattle.std.proofs.lemmas.Bool.{cond-true, cond-false, or_parts, or_from, eqb-false, ne_eqb}
use Rattle.tables.specs.declared.table.RelayLine.{RelayLine}
use Rattle.tables.specs.Rows.{laid, has_room}
use Rattle.tables.specs.Tables.{relay_of}
use Rattle.tables.proofs.Laid.{room_laid, pushed_laid}
use Rattle.text.specs.Words.{meaning, key_said}
use Rattle.grammar.specs.declared.RelayState.{RelayState}
use Rattle.grammar.specs.declared.RelayState.TheVariants as relay
use Rattle.grammar.specs.declared.Wrong.TheVariants as wrong
use Rattle.grammar.specs.Said.{atom_said, is_bang}
use Rattle.grammar.specs.Wrongs.{or_wrong}
use Rattle.grammar.specs.Relays.{has_line, first_line, with_attacker, relay_next, relay_done}
use Rattle.written.specs.Sheets.{RelayRow, LawfulName, NoneTwice, LawfulRelay}
use Rattle.written.specs.Writing.{Word, name_at, relay_words, relay_row}
use Rattle.written.proofs.Results.{no_way, or_wrong_ok, cond_ok, room_told}
use Rattle.written.proofs.Words.{bang_says, atom_told, tells_atom}
use Rattle.written.proofs.Runs.{run, run_step, step_run, Took, units_taken, units_put}

-- an atom has no line where no line is its own
pub no_line_told : (atom : ℕ) (xs : List RelayRow) → has_line atom (map relay_row xs) ≡ false → AllByRecursion (λ x. x.atom ≡ atom → ⊥) xs
no_line_told atom [] e = tt
no_line_told atom (x ∷ xs) e = let parts = or_parts (eqb x.atom atom) (has_line atom (map relay_row xs)) e in (eqb-false x.atom atom parts.0, no_line_told atom xs parts.1)

pub tells_no_line : (atom : ℕ) (xs : List RelayRow) → AllByRecursion (λ x. x.atom ≡ atom → ⊥) xs → has_line atom (map relay_row xs) ≡ false
tells_no_line atom [] apart = refl
tells_no_line atom (x ∷ xs) apart = or_from _ _ (ne_eqb x.atom atom apart.0) (tells_no_line atom xs apart.1)

-- one word for each
singles : {X : Type 0} (f : X → Word) (xs : List X) → flat_map (λ x. f x ∷ []) xs ≡ map f xs
singles f [] = refl
singles f (x ∷ xs) = ap (λ ws. f x ∷ ws) (singles f xs)

first_ok : (lines : List RelayLine) (o : Option ℕ) (s : RelayState) → first_line lines o ≡ Ok s → (atom : ℕ) × (o ≡ Some atom) × (has_line atom lines ≡ false) × (relay.Named atom ≡ s)
first_ok lines None s e = no_way (cc)
first_ok lines (Some atom) s e =
    elim (has_line atom lines) as (λ t. has_line atom lines ≡ t → cond t (Err wrong.SecondLine) (Ok (relay.Named atom)) ≡ Ok s → (i : ℕ) × (Some atom ≡ Some i) × (has_line i lines ≡ false) × (relay.Named i ≡ s)) [
      | true ↦ λ n q. no_way (cc)
      | false ↦ λ n q. (atom, refl, n, cc)
    ] refl e

module _ (names : List Word) (lines : List RelayLine) where
  abbrev go : RelayState → List Word → Option RelayLine
  go s ws = run (relay_next names lines) relay_done s ws

  abbrev Fits : ℕ → Type 0
  Fits i = i < length names

  abbrev spell : ℕ → List Word
  spell i = name_at names i ∷ []

  module _ (atom : ℕ) where
    -- the state after attackers
    abbrev after : List ℕ → RelayState
    after xs = relay.Attackers (relay_of atom xs)

    one_more : (xs : List ℕ) (x : ℕ) → length xs < 64 → with_attacker (relay_of atom xs) x ≡ relay_of atom (xs ++ x ∷ [])
    one_more xs x h = ap (λ rows. record { atom = atom; attackers = rows }) (pushed_laid 64 0 xs x (omega arith) h)

    take_one : (xs : List ℕ) (w : Word) (ws : List Word) (r : RelayLine) → go (after xs) (w ∷ ws) ≡ Some r → Took (relay_next names lines) relay_done after spell Fits 64 xs (w ∷ ws) r
    take_one xs w ws r e =
        let step = step_run (relay_next names lines) relay_done (after xs) w ws r e in
        let room = cond_ok (has_room 64 (laid 64 0 xs)) _ wrong.Misplaced step.0 step.1 in
        let found = or_wrong_ok (atom_said names (meaning w)) wrong.NotAName _ step.0 room.1 in
        let told = atom_told names w found.0 found.1 in
        let h : length xs < 64 = room_told 64 0 xs room.0 in
        record {
          unit = found.0;
          rest = ws;
          is = ap (λ v. v ∷ ws) (sym told.0);
          some = omega arith;
          fits = told.1;
          room = h;
          goes = ap (λ q. go (relay.Attackers q) ws) (sym (one_more xs found.0 h)) ∙ ap (λ t. go t ws) found.2 ∙ step.2;
        }

  -- a lawful relay line with these words and this row, of an atom that has none of the lines before
  pub record RelayOf (ws : List Word) (r : RelayLine) : Type 0 where
    pub line : RelayRow
    pub spelt : relay_words names line ≡ ws
    pub lawful : LawfulRelay (length names) line
    pub first : has_line line.atom lines ≡ false
    pub rowed : relay_row line ≡ r

  from_named : (atom : ℕ) → atom < length names → has_line atom lines ≡ false → (ws : List Word) (r : RelayLine) → go (relay.Named atom) ws ≡ Some r → RelayOf (name_at names atom ∷ ws) r
  from_named atom known first [] r e = no_way (cc)
  from_named atom known first (w ∷ ws) r e =
      let step = step_run (relay_next names lines) relay_done (relay.Named atom) w ws r e in
      let found = cond_ok (is_bang (key_said (meaning w))) _ wrong.Misplaced step.0 step.1 in
      let same : after atom [] ≡ step.0 = cc found.1 in
      let all = units_taken (relay_next names lines) relay_done (after atom) spell Fits 64 (take_one atom) [] ws r (omega arith) (ap (λ t. go t ws) same ∙ step.2) in
      let ends : Some (relay_of atom all.units) ≡ Some r = all.ends in
      rw (bang_says w found.0) (record {
        line = record { atom = atom; attackers = all.units };
        spelt = ap (λ vs. name_at names atom ∷ codes "!" ∷ vs) (sym (singles (name_at names) all.units) ∙ all.is);
        lawful = record { known = known; few = omega (arith, all.few); each = all.fits };
        first = first;
        rowed = cc ends;
      })

  -- words that the machine makes a row of are those of a lawful relay line
  pub relay_told : (ws : List Word) (r : RelayLine) → go relay.Start ws ≡ Some r → RelayOf ws r
  relay_told [] r e = no_way (cc)
  relay_told (w ∷ ws) r e =
      let step = step_run (relay_next names lines) relay_done relay.Start w ws r e in
      let found = first_ok lines (atom_said names (meaning w)) step.0 step.1 in
      let told = atom_told names w found.0 found.1 in
      rw told.0 (from_named found.0 told.1 found.2 ws r (ap (λ t. go t ws) found.3 ∙ step.2))

  module _ (lawful : AllByRecursion LawfulName names) (once : NoneTwice names) where
    put_one : (atom : ℕ) (xs : List ℕ) (x : ℕ) (rest : List Word) → length xs < 64 → Fits x → go (after atom xs) (spell x ++ rest) ≡ go (after atom (xs ++ x ∷ [])) rest
    put_one atom xs x rest h known =
        run_step (relay_next names lines) relay_done (after atom xs) (relay.Attackers (with_attacker (relay_of atom xs) x)) (name_at names x) rest
        (cond-true _ _ _ (room_laid 64 0 xs (omega arith) h) ∙ ap (λ o. or_wrong o wrong.NotAName (λ i. relay.Attackers (with_attacker (relay_of atom xs) i))) (tells_atom names x lawful once known))
        ∙ ap (λ q. go (relay.Attackers q) rest) (one_more atom xs x h)

    -- of the words of a lawful relay line the machine makes its row
    pub relay_tells : (x : RelayRow) → LawfulRelay (length names) x → has_line x.atom lines ≡ false → go relay.Start (relay_words names x) ≡ Some (relay_row x)
    relay_tells x h first =
        let attackers : List Word = map (name_at names) x.attackers in
        run_step (relay_next names lines) relay_done relay.Start (relay.Named x.atom) (name_at names x.atom) (codes "!" ∷ attackers)
        (ap (first_line lines) (tells_atom names x.atom lawful once h.known) ∙ cond-false _ _ _ first)
        ∙ run_step (relay_next names lines) relay_done (relay.Named x.atom) (after x.atom []) (codes "!") attackers refl
        ∙ ap (go (after x.atom [])) (sym (singles (name_at names) x.attackers))
        ∙ units_put (relay_next names lines) relay_done (after x.atom) spell Fits 64 (put_one x.atom) [] x.attackers (omega (arith, h.few)) h.each
