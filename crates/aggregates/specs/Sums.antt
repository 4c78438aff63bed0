-- The sums that entries give on bounds.
use Rattle.std.specs.Prelude.{ℕ, Bool, List, ℤ, pos, ◌+ℤ◌, fold}
use Rattle.std.specs.Int.{int_min, int_max}
use Rattle.std.specs.List.{list_any}
use Rattle.tables.specs.Rows.{in_use}
use Rattle.tables.specs.declared.table.Entry.{Entry}
use Rattle.tables.specs.declared.table.Aggregate.{Aggregate}
use Rattle.aggregates.specs.declared.condition.Condition.{Condition}
use Rattle.aggregates.specs.declared.condition.Condition.TheVariants.{Met, Failed, Open}
use Rattle.aggregates.specs.Conditions.{condition, undecided}

-- the entries of an aggregate that are in use
abbrev pub entries_of : Aggregate → List Entry
entries_of a = in_use 16 a.entries

-- the sum of what each entry gives
abbrev pub total : (Entry → ℤ) → List Entry → ℤ
total f es = fold (λ s e. s +ℤ f e) (pos 0) es

-- a weight is given where the condition is met
abbrev pub given : ℤ → Condition → ℤ
given w Met = w
given w Failed = pos 0
given w Open = pos 0

-- at least the weight is given where the condition is met, and where it is open and the weight is negative
abbrev pub least : ℤ → Condition → ℤ
least w Met = w
least w Failed = pos 0
least w Open = int_min w (pos 0)

-- at most the weight is given where the condition is met, and where it is open and the weight is positive
abbrev pub most : ℤ → Condition → ℤ
most w Met = w
most w Failed = pos 0
most w Open = int_max w (pos 0)

-- what an entry gives on bounds
abbrev pub given_by : Entry → ℕ → ℕ → ℤ
given_by e l u = given e.weight (condition e l u)

-- the least that an entry can give on bounds
abbrev pub least_of : Entry → ℕ → ℕ → ℤ
least_of e l u = least e.weight (condition e l u)

-- the most that an entry can give on bounds
abbrev pub most_of : Entry → ℕ → ℕ → ℤ
most_of e l u = most e.weight (condition e l u)

-- the weights of the entries that are met, summed
abbrev pub met_sum : List Entry → ℕ → ℕ → ℤ
met_sum es l u = total (λ e. given_by e l u) es

-- low is the met weights and the negative open ones
abbrev pub low_sum : List Entry → ℕ → ℕ → ℤ
low_sum es l u = total (λ e. least_of e l u) es

-- high is the met weights and the positive open ones
abbrev pub high_sum : List Entry → ℕ → ℕ → ℤ
high_sum es l u = total (λ e. most_of e l u) es

-- some entry is open
abbrev pub some_open : List Entry → ℕ → ℕ → Bool
some_open es l u = list_any (λ e. undecided (condition e l u)) es
