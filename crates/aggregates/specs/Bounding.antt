-- The laws of the bound reading.
use Rattle.std.specs.Prelude.{◌≡◌, ℕ, true, false, ℤ, ◌≤ℤ◌, refl}
use Rattle.std.proofs.Common.{◌∙◌, ap₂, arith}
use Rattle.std.proofs.lemmas.Int.{ints}
use Rattle.atoms.specs.Sets.{Within}
use Rattle.tables.specs.declared.table.Aggregate.{Aggregate}
use Rattle.tables.specs.declared.table.Comparison.{Comparison}
use Rattle.tables.specs.declared.table.Comparison.TheVariants.{AtMost, AtLeast, Equal, Unequal}
use Rattle.aggregates.specs.Sums.{entries_of, met_sum, low_sum, high_sum, some_open}
use Rattle.aggregates.specs.Aggregates.{compares, met_holds, holds}
use Rattle.aggregates.specs.Laws.{Laws}
use Rattle.aggregates.specs.Readings.{always, sometimes, bound_sure, bound_may}
use Rattle.aggregates.specs.Spanning.{low_high, low_decided, high_decided, none_open, low_up, high_down}

-- ---- one sum
always_one : (c : Comparison) (s k : ℤ) → always c s s k ≡ compares c s k
always_one AtMost s k = refl
always_one AtLeast s k = refl
always_one Equal s k = grind (arith, ints)
always_one Unequal s k = refl

sometimes_one : (c : Comparison) (s k : ℤ) → sometimes c s s k ≡ compares c s k
sometimes_one AtMost s k = refl
sometimes_one AtLeast s k = refl
sometimes_one Equal s k = refl
sometimes_one Unequal s k = grind (arith, ints)

-- ---- x to y within a to b
always_up : (c : Comparison) (a b x y k : ℤ) → a ≤ℤ x → x ≤ℤ y → y ≤ℤ b → always c a b k ≡ true → always c x y k ≡ true
always_up AtMost a b x y k p q r h = grind (arith, ints)
always_up AtLeast a b x y k p q r h = grind (arith, ints)
always_up Equal a b x y k p q r h = grind (arith, ints)
always_up Unequal a b x y k p q r h = grind (arith, ints)

sometimes_down : (c : Comparison) (a b x y k : ℤ) → a ≤ℤ x → x ≤ℤ y → y ≤ℤ b → sometimes c a b k ≡ false → sometimes c x y k ≡ false
sometimes_down AtMost a b x y k p q r h = grind (arith, ints)
sometimes_down AtLeast a b x y k p q r h = grind (arith, ints)
sometimes_down Equal a b x y k p q r h = grind (arith, ints)
sometimes_down Unequal a b x y k p q r h = grind (arith, ints)

-- ---- the laws
-- where no entry is open there is one sum, and the truth is said of it
pub bound_decided : (a : Aggregate) (l u : ℕ) → some_open (entries_of a) l u ≡ false → (bound_sure a l u ≡ met_holds a l u) × (bound_may a l u ≡ met_holds a l u)
bound_decided a l u h =
    let es = entries_of a in
    let p = low_decided es l u h in
    let q = high_decided es l u h in (
      ap₂ (λ (x y : ℤ). always a.comparison x y a.limit) p q ∙ always_one a.comparison (met_sum es l u) a.limit,
      ap₂ (λ (x y : ℤ). sometimes a.comparison x y a.limit) p q ∙ sometimes_one a.comparison (met_sum es l u) a.limit,
    )

pub bound_truth : (a : Aggregate) (z : ℕ) → (bound_sure a z z ≡ holds a z) × (bound_may a z z ≡ holds a z)
bound_truth a z = bound_decided a z z (none_open (entries_of a) z)

pub bound_precise : (a : Aggregate) (l k v u : ℕ) → Within l k → Within k v → Within v u → (bound_sure a l u ≡ true → bound_sure a k v ≡ true) × (bound_may a l u ≡ false → bound_may a k v ≡ false)
bound_precise a l k v u p q r =
    let es = entries_of a in (
      always_up a.comparison (low_sum es l u) (high_sum es l u) (low_sum es k v) (high_sum es k v) a.limit (low_up p q r es) (low_high es k v) (high_down p q r es),
      sometimes_down a.comparison (low_sum es l u) (high_sum es l u) (low_sum es k v) (high_sum es k v) a.limit (low_up p q r es) (low_high es k v) (high_down p q r es),
    )

pub bound_laws : Laws bound_sure bound_may
bound_laws = record { truth = bound_truth; precise = bound_precise }
