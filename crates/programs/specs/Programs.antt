-- What a rule program says on bounds.
use Rattle.std.specs.Prelude.{ℕ, Bool}
use Rattle.atoms.specs.Sets.{clipped}
use Rattle.atoms.specs.declared.bounds.Bounds.{Bounds}
use Rattle.approx.specs.Meanings.{Meaning}
use Rattle.tables.specs.declared.table.Aggregate.{Aggregate}
use Rattle.programs.specs.Deriving.{derived, passing, JustWhatFollows}
use Rattle.programs.specs.Tables.{width_of, aggregates_of}
use Rattle.programs.specs.declared.rules.RuleTable.{RuleTable}
use Rattle.aggregates.specs.declared.reading.Reading.{Ghosts}
use Rattle.programs.specs.declared.program.RuleProgram.{RuleProgram}

-- what a reading says of an aggregate on a lower and an upper
abbrev pub Verdict : Type 0
Verdict = Aggregate → ℕ → ℕ → Bool

-- between a lower and an upper, surely on are the heads of the rules whose needed atoms are in the lower, whose barred atoms are outside the upper, and whose aggregates are all sure
abbrev pub surely : Verdict → RuleTable → ℕ → ℕ → ℕ
surely sure t l u = derived t (record { held = l; possible = u; holding = passing (λ a. sure a l u) (aggregates_of t) })

-- perhaps on are the heads of the rules whose needed atoms are in the upper, whose barred atoms are outside the lower, and whose aggregates all may hold
abbrev pub perhaps : Verdict → RuleTable → ℕ → ℕ → ℕ
perhaps may t l u = derived t (record { held = u; possible = l; holding = passing (λ a. may a l u) (aggregates_of t) })

-- the bounds without the atoms at or above the width
abbrev pub below_width : RuleTable → Bounds → Bounds
below_width t b = record { lower = clipped (width_of t) b.lower; upper = clipped (width_of t) b.upper }

-- s has just the atoms that surely follow between the bounds
abbrev pub SurelyFollow : Verdict → RuleTable → Bounds → ℕ → Type 0
SurelyFollow sure t b s = JustWhatFollows t (λ a. sure a b.lower b.upper) b.lower b.upper s

-- s has just the atoms that perhaps follow between the bounds
abbrev pub PerhapsFollow : Verdict → RuleTable → Bounds → ℕ → Type 0
PerhapsFollow may t b s = JustWhatFollows t (λ a. may a b.lower b.upper) b.upper b.lower s

-- the meaning of a rule table under two verdicts: atoms at or above the width are ignored
abbrev pub table_meaning : Verdict → Verdict → RuleTable → Meaning
table_meaning sure may t = record {
  width = width_of t;
  sure = λ l u. surely sure t (clipped (width_of t) l) (clipped (width_of t) u);
  may = λ l u. perhaps may t (clipped (width_of t) l) (clipped (width_of t) u);
}

-- the meaning of a rule program, by what its reading says
abbrev pub program_meaning : {X : Type 0} → Ghosts X → RuleProgram X → Meaning
program_meaning G p = table_meaning (G.sure p.reading) (G.may p.reading) p.table
