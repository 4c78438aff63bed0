-- What an aggregate says on one interpretation. Its kind says nothing here: in a count every weight is 1.
use Rattle.std.specs.Prelude.{ℕ, Bool, ◌&&◌, ◌||◌, ℤ, int_le, int_lt}
use Rattle.tables.specs.declared.table.Aggregate.{Aggregate}
use Rattle.tables.specs.declared.table.Comparison.{Comparison}
use Rattle.tables.specs.declared.table.Comparison.TheVariants.{AtMost, AtLeast, Equal, Unequal}
use Rattle.aggregates.specs.Sums.{entries_of, met_sum}

-- a sum s is at most, at least, equal or unequal to a limit k
abbrev pub compares : Comparison → ℤ → ℤ → Bool
compares AtMost s k = int_le s k
compares AtLeast s k = int_le k s
compares Equal s k = int_le s k && int_le k s
compares Unequal s k = int_lt s k || int_lt k s

-- the weights of the entries that are met, summed, compare so with the limit
abbrev pub met_holds : Aggregate → ℕ → ℕ → Bool
met_holds a l u = compares a.comparison (met_sum (entries_of a) l u) a.limit

-- an aggregate holds on one interpretation z where the weights of the entries that z meets sum so
abbrev pub holds : Aggregate → ℕ → Bool
holds a z = met_holds a z z
