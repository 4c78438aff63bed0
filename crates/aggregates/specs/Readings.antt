-- What the readings say on bounds.
use Rattle.std.specs.Prelude.{ℕ, Bool, true, false, cond, not, ◌&&◌, ◌||◌, ℤ, int_le, int_lt}
use Rattle.tables.specs.declared.table.Aggregate.{Aggregate}
use Rattle.tables.specs.declared.table.Comparison.{Comparison}
use Rattle.tables.specs.declared.table.Comparison.TheVariants.{AtMost, AtLeast, Equal, Unequal}
use Rattle.aggregates.specs.Sums.{entries_of, low_sum, high_sum, some_open}
use Rattle.aggregates.specs.Aggregates.{compares, met_holds}

-- plain: with no open entry sure says the truth, and otherwise no
abbrev pub plain_sure : Aggregate → ℕ → ℕ → Bool
plain_sure a l u = cond (some_open (entries_of a) l u) false (met_holds a l u)

-- plain: with no open entry may says the truth, and otherwise yes
abbrev pub plain_may : Aggregate → ℕ → ℕ → Bool
plain_may a l u = cond (some_open (entries_of a) l u) true (met_holds a l u)

-- every number from low to high compares so with the limit k
abbrev pub always : Comparison → ℤ → ℤ → ℤ → Bool
always AtMost low high k = int_le high k
always AtLeast low high k = int_le k low
always Equal low high k = compares Equal low k && compares Equal high k
always Unequal low high k = int_lt high k || int_lt k low

-- some number from low to high compares so with the limit k
abbrev pub sometimes : Comparison → ℤ → ℤ → ℤ → Bool
sometimes AtMost low high k = int_le low k
sometimes AtLeast low high k = int_le k high
sometimes Equal low high k = int_le low k && int_le k high
sometimes Unequal low high k = not (compares Equal low k && compares Equal high k)

-- bound: sure says whether every number from low to high compares so
abbrev pub bound_sure : Aggregate → ℕ → ℕ → Bool
bound_sure a l u = always a.comparison (low_sum (entries_of a) l u) (high_sum (entries_of a) l u) a.limit

-- bound: may says whether some number from low to high compares so
abbrev pub bound_may : Aggregate → ℕ → ℕ → Bool
bound_may a l u = sometimes a.comparison (low_sum (entries_of a) l u) (high_sum (entries_of a) l u) a.limit
