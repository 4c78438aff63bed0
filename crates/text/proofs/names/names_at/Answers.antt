use Rattle.std.proofs.Common.{◌≡◌, ◌<◌, ◌≤◌, ℕ, ◌+◌, List, [], ◌∷◌, ◌++◌, Bor, length, get_or, take, min, sym, ap, ◌∙◌, arith}
use Rattle.std.proofs.Math.Nat.{min_comm}
use Rattle.std.proofs.lemmas.List.{take_all, take_min, length-take, length-map, map_push, map_more}
use Rattle.tables.specs.Rows.{laid, in_use, pushed}
use Rattle.tables.specs.declared.rows.Rows.{Rows}
use Rattle.tables.specs.declared.table.Place.{Place}
use Rattle.tables.proofs.Laid.{in_use_held, pushed_laid}
use Rattle.text.specs.Names.{part_of, names_of, parts}
use Rattle.text.proofs.names.names_at.Goals as goal

-- rows of names that are cut out, and no more
abbrev Cut : Rows (Bor (List ℕ)) 64 → List (List ℕ) → Type 0
Cut rows names = (zero : Bor (List ℕ)) × ((rows ≡ laid 64 zero (in_use 64 rows)) × (parts (in_use 64 rows) ≡ names))

none : (zero : Bor (List ℕ)) {rows : Rows (Bor (List ℕ)) 64} → rows ≡ laid 64 zero [] → Cut rows []
none zero {rows} e = let u = in_use_held 64 zero rows [] e in (zero, (e ∙ ap (laid 64 zero) (sym u), ap parts u))

more : (text : List ℕ) (places : List Place) (i : ℕ) (d : Place) (b c : Rows (Bor (List ℕ)) 64) (x : Bor (List ℕ)) → i < length places → length places ≤ 64 → Cut b (names_of text (take i places))
    → x.now ≡ part_of text (get_or places i d) → c ≡ pushed 64 b x → Cut c (names_of text (take (i + 1) places))
more text places i d b c x h few (zero, held) is q =
    let short : length (in_use 64 b) < 64 = omega (arith, length-map (in_use 64 b) (λ (name : Bor (List ℕ)). name.now), ap length held.1, length-map (take i places) (part_of text), length-take i places) in
    let grown : c ≡ laid 64 zero (in_use 64 b ++ x ∷ []) = q ∙ ap (λ (r : Rows (Bor (List ℕ)) 64). pushed 64 r x) held.0 ∙ pushed_laid 64 zero (in_use 64 b) x (omega arith) short in
    let u : in_use 64 c ≡ in_use 64 b ++ x ∷ [] = in_use_held 64 zero c (in_use 64 b ++ x ∷ []) grown in
    let cut : parts (in_use 64 b ++ x ∷ []) ≡ names_of text (take (i + 1) places) =
    map_push (λ (name : Bor (List ℕ)). name.now) (in_use 64 b) x ∙ (λ j. held.1 j ++ is j ∷ []) ∙ sym (map_more (part_of text) places i d h) in
    (zero, (grown ∙ ap (laid 64 zero) (sym u), ap parts u ∙ cut))

-- the first m places are all that there is to cut out
whole : (text : List ℕ) (places : List Place) (rows : Rows (Bor (List ℕ)) 64) (m end : ℕ) → m ≡ min (length places) 64 → length (take m places) ≤ end → Cut rows (names_of text (take end (take m places)))
    → parts (in_use 64 rows) ≡ names_of text (take 64 places)
whole text places rows m end is above held =
    let p : take m places ≡ take 64 places = ap (λ k. take k places) (is ∙ min_comm (length places) 64) ∙ take_min 64 places in
    held.1.1 ∙ ap (names_of text) (take_all end (take m places) above ∙ p)

pub loop-place-init : goal.loop-place-init
loop-place-init c = none _ c.new-names.ensures

pub loop-place-preserved : goal.loop-place-preserved
loop-place-preserved c =
    let few : length (take c.min.result c.args.places.now) ≤ 64 = omega (arith, c.min.ensures, length-take c.min.result c.args.places.now) in
    more c.args.text.now (take c.min.result c.args.places.now) c.loop-place.place-index _ c.loop-place.names c.push.new.self c.part.result c.loop-place-test.true few c.loop-place.invariant c.part.ensures c.push.ensures.holds

pub returns : goal.returns
returns c = whole c.args.text.now c.args.places.now c.loop-place.names c.min.result c.loop-place.place-index c.min.ensures c.loop-place-test.false c.loop-place.invariant
