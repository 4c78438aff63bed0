-- The lines of the contents and the name lines.
use Rattle.std.proofs.Common.{◌≡◌, ℕ, ◌≤◌, List, [], ◌∷◌, Some, None, Ok, decimal, Option, sym, refl, ap, ◌∙◌}
use Rattle.std.specs.List.{AllByRecursion}
use Rattle.std.specs.Str.{bytes_eq}
use Rattle.std.proofs.lemmas.Slice.Eq.{bytes_eq-Decides}
use Rattle.std.proofs.lemmas.Bool.{cond-true}
use Rattle.tables.specs.declared.table.Place.{Place}
use Rattle.text.specs.Names.{atom_among}
use Rattle.text.specs.Words.{meaning, name_said}
use Rattle.grammar.specs.declared.CountState.{CountState}
use Rattle.grammar.specs.declared.CountState.TheVariants as count
use Rattle.grammar.specs.declared.NameState.{NameState}
use Rattle.grammar.specs.declared.NameState.TheVariants as name
use Rattle.grammar.specs.declared.Wrong.TheVariants as wrong
use Rattle.grammar.specs.Said.{natural_said}
use Rattle.grammar.specs.Wrongs.{or_wrong}
use Rattle.grammar.specs.Counts.{worded, count_next, count_done}
use Rattle.grammar.specs.Names.{place_at, new_name, named, name_next, name_done}
use Rattle.written.specs.Sheets.{LawfulName}
use Rattle.written.specs.Writing.{Word}
use Rattle.written.proofs.Results.{no_way, or_wrong_ok, cond_ok}
use Rattle.written.proofs.Names.{among_none, none_among}
use Rattle.written.proofs.Words.{name_told, says_name, natural_told, tells_natural}
use Rattle.written.proofs.Runs.{run, run_step, step_run}

-- ---- the contents

worded_ok : (word : Word) (o : Option Word) (s : CountState) → worded word o ≡ Ok s → (o ≡ Some word) × (count.Worded ≡ s)
worded_ok word None s e = no_way (cc)
worded_ok word (Some b) s e =
    let found = cond_ok (bytes_eq b word) _ wrong.Contents s e in
    (ap Some ((bytes_eq-Decides b word).0 found.0), (let same = found.1 in cc))

module _ (word : Word) (low high : ℕ) where
  abbrev counts : CountState → List Word → Option ℕ
  counts s ws = run (count_next word low high) count_done s ws

  -- the words of a line of the contents
  abbrev pub CountOf : List Word → ℕ → Type 0
  CountOf ws n = ((word ∷ decimal n ∷ []) ≡ ws) × (low ≤ n) × (n ≤ high)

  counted : (n : ℕ) (ws : List Word) (r : ℕ) → counts (count.Counted n) ws ≡ Some r → (ws ≡ []) × (n ≡ r)
  counted n [] r e = (refl, cc)
  counted n (w ∷ ws) r e = no_way (cc)

  from_worded : (ws : List Word) (n : ℕ) → counts count.Worded ws ≡ Some n → CountOf (word ∷ ws) n
  from_worded [] n e = no_way (cc)
  from_worded (w ∷ ws) n e =
      let step = step_run (count_next word low high) count_done count.Worded w ws n e in
      let found = or_wrong_ok (natural_said low high (meaning w)) wrong.Contents count.Counted step.0 step.1 in
      let last = counted found.0 ws n (ap (λ t. counts t ws) found.2 ∙ step.2) in
      let told = natural_told low high w n (found.1 ∙ ap Some last.1) in
      ((λ i. word ∷ sym told.0 i ∷ sym last.0 i), told.1, told.2)

  pub count_told : (ws : List Word) (n : ℕ) → counts count.Start ws ≡ Some n → CountOf ws n
  count_told [] n e = no_way (cc)
  count_told (w ∷ ws) n e =
      let step = step_run (count_next word low high) count_done count.Start w ws n e in
      let found = worded_ok word (name_said (meaning w)) step.0 step.1 in
      rw (name_told w word found.0).1 (from_worded ws n (ap (λ t. counts t ws) found.1 ∙ step.2))

  pub count_tells : (n : ℕ) → name_said (meaning word) ≡ Some word → high ≤ 1000000 → low ≤ n → n ≤ high → counts count.Start (word ∷ decimal n ∷ []) ≡ Some n
  count_tells n said few l u =
      run_step (count_next word low high) count_done count.Start count.Worded word (decimal n ∷ []) (ap (worded word) said ∙ cond-true _ _ _ ((bytes_eq-Decides word word).1 refl))
      ∙ run_step (count_next word low high) count_done count.Worded (count.Counted n) (decimal n) [] (ap (λ o. or_wrong o wrong.Contents count.Counted) (tells_natural low high n few l u))

-- ---- a name line

module _ (names : List Word) (from : ℕ) where
  abbrev goes : NameState → List Word → Option Place
  goes s ws = run (name_next names from) name_done s ws

  new_ok : (b : Word) (o : Option ℕ) (s : NameState) → new_name from b o ≡ Ok s → (o ≡ None) × (name.Named (place_at from b) ≡ s)
  new_ok b None s e = (refl, cc)
  new_ok b (Some i) s e = no_way (cc)

  named_ok : (o : Option Word) (s : NameState) → named names from o ≡ Ok s → (b : Word) × (o ≡ Some b) × (atom_among 0 names b ≡ None) × (name.Named (place_at from b) ≡ s)
  named_ok None s e = no_way (cc)
  named_ok (Some b) s e = let new = new_ok b (atom_among 0 names b) s e in (b, refl, new.0, new.1)

  -- a name line: a lawful name that is none of those before
  pub record NameOf (ws : List Word) (r : Place) : Type 0 where
    pub line : Word
    pub spelt : (line ∷ []) ≡ ws
    pub lawful : LawfulName line
    pub first : AllByRecursion (λ n. n ≡ line → ⊥) names
    pub placed : place_at from line ≡ r

  placed_told : (p : Place) (ws : List Word) (r : Place) → goes (name.Named p) ws ≡ Some r → (ws ≡ []) × (p ≡ r)
  placed_told p [] r e = (refl, cc)
  placed_told p (w ∷ ws) r e = no_way (cc)

  pub name_line_told : (ws : List Word) (r : Place) → goes name.Start ws ≡ Some r → NameOf ws r
  name_line_told [] r e = no_way (cc)
  name_line_told (w ∷ ws) r e =
      let step = step_run (name_next names from) name_done name.Start w ws r e in
      let found = named_ok (name_said (meaning w)) step.0 step.1 in
      let told = name_told w found.0 found.1 in
      let last = placed_told (place_at from found.0) ws r (ap (λ t. goes t ws) found.3 ∙ step.2) in
      record {
        line = w;
        spelt = ap (λ l. w ∷ l) (sym last.0);
        lawful = told.0;
        first = rw told.1 (among_none 0 names found.0 found.2);
        placed = ap (place_at from) told.1 ∙ last.1;
      }

  pub name_line_tells : (w : Word) → LawfulName w → AllByRecursion (λ n. n ≡ w → ⊥) names → goes name.Start (w ∷ []) ≡ Some (place_at from w)
  name_line_tells w lawful first =
      run_step (name_next names from) name_done name.Start (name.Named (place_at from w)) w []
      (ap (λ m. named names from (name_said m)) (says_name w lawful) ∙ ap (new_name from w) (none_among 0 names w first))
