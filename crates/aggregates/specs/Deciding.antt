-- The laws of the plain reading.
use Rattle.std.specs.Prelude.{◌≡◌, ℕ, Bool, true, false, cond, ℤ, refl}
use Rattle.std.proofs.Common.{sym, ◌∙◌, ap}
use Rattle.std.proofs.lemmas.Bool.{false≢true, true≢false}
use Rattle.atoms.specs.Sets.{Within}
use Rattle.tables.specs.declared.table.Aggregate.{Aggregate}
use Rattle.aggregates.specs.Sums.{entries_of, some_open}
use Rattle.aggregates.specs.Aggregates.{compares, met_holds, holds}
use Rattle.aggregates.specs.Laws.{Laws}
use Rattle.aggregates.specs.Readings.{plain_sure, plain_may, bound_sure, bound_may}
use Rattle.aggregates.specs.Bounding.{bound_decided}
use Rattle.aggregates.specs.Spanning.{none_open, met_stays, none_opens}

pub plain_truth : (a : Aggregate) (z : ℕ) → (plain_sure a z z ≡ holds a z) × (plain_may a z z ≡ holds a z)
plain_truth a z =
    let e = none_open (entries_of a) z in
    (ap (λ (b : Bool). cond b false (holds a z)) e, ap (λ (b : Bool). cond b true (holds a z)) e)

-- where no entry is open, the plain reading says what the bound one does
pub plain_decided : (a : Aggregate) (l u : ℕ) → some_open (entries_of a) l u ≡ false → (bound_sure a l u ≡ plain_sure a l u) × (bound_may a l u ≡ plain_may a l u)
plain_decided a l u h =
    let b = bound_decided a l u h in
    (b.0 ∙ sym (ap (λ (o : Bool). cond o false (met_holds a l u)) h), b.1 ∙ sym (ap (λ (o : Bool). cond o true (met_holds a l u)) h))

-- o and n say whether an entry is open on the bounds and on narrower ones, t and s what the sum says there
sure_stays : (o t n s : Bool) → (o ≡ false → n ≡ false) → (o ≡ false → t ≡ s) → cond o false t ≡ true → cond n false s ≡ true
sure_stays true t n s f g h = absurd (false≢true h)
sure_stays false t true s f g h = absurd (true≢false (f refl))
sure_stays false t false s f g h = sym (g refl) ∙ h

may_stays : (o t n s : Bool) → (o ≡ false → n ≡ false) → (o ≡ false → t ≡ s) → cond o true t ≡ false → cond n true s ≡ false
may_stays true t n s f g h = absurd (true≢false h)
may_stays false t true s f g h = absurd (true≢false (f refl))
may_stays false t false s f g h = sym (g refl) ∙ h

pub plain_precise : (a : Aggregate) (l k v u : ℕ) → Within l k → Within k v → Within v u → (plain_sure a l u ≡ true → plain_sure a k v ≡ true) × (plain_may a l u ≡ false → plain_may a k v ≡ false)
plain_precise a l k v u p q r =
    let es = entries_of a in
    let f : some_open es l u ≡ false → some_open es k v ≡ false = none_opens p q r es in
    let g : some_open es l u ≡ false → met_holds a l u ≡ met_holds a k v = λ n. ap (λ (x : ℤ). compares a.comparison x a.limit) (met_stays p q r es n) in
    (sure_stays (some_open es l u) (met_holds a l u) (some_open es k v) (met_holds a k v) f g, may_stays (some_open es l u) (met_holds a l u) (some_open es k v) (met_holds a k v) f g)

pub plain_laws : Laws plain_sure plain_may
plain_laws = record { truth = plain_truth; precise = plain_precise }
