-- What settling a sheet comes to, by the verdict on its text.
use Rattle.std.proofs.Common.{◌≡◌, Ok, Err, Result, sym, ap, ◌∙◌, subst, ap₂}
use Rattle.approx.specs.Meanings.{Meaning, meaning}
use Rattle.approx.specs.Settling.{Settles, Crosses}
use Rattle.approx.specs.declared.approximator.Approximator.{Ghosts}
use Rattle.faults.specs.declared.BenchFault.{BenchFault}
use Rattle.faults.specs.declared.BenchFault.TheVariants.{Sheet, Crossed}
use Rattle.faults.specs.declared.SheetFault.{SheetFault}
use Rattle.tables.specs.declared.table.Table.{Table}
use Rattle.aggregates.specs.Readings.{bound_sure, bound_may}
use Rattle.programs.specs.Tables.{rule_table}
use Rattle.programs.specs.Programs.{table_meaning}
use Rattle.programs.specs.declared.rules.RuleTable.{RuleTable}
use Rattle.frameworks.specs.Frameworks.{width_of, sure_of, may_of}
use Rattle.frameworks.specs.Makers.{framework_of}
use Rattle.frameworks.specs.declared.framework.Framework.{Framework}
use Rattle.layers.specs.Joined.{joined}
use Rattle.sheet.specs.Reads.{answer, table_after}
use Rattle.engine.specs.declared.board.Settled.{Settled}
use Rattle.report.specs.Sheets.{sheet_meaning, ComesTo, SettlesTo}

-- a rule table and a framework, joined
abbrev pub of_parts : RuleTable → Framework → Meaning
of_parts r f = joined (table_meaning bound_sure bound_may r) (record { width = width_of f; sure = sure_of f; may = may_of f })

pub parts_mean : (t : Table) (r : RuleTable) (f : Framework) → r ≡ rule_table t → f ≡ framework_of t → of_parts r f ≡ sheet_meaning t
parts_mean t r f p q = ap₂ of_parts p q

module _ {X : Type 0} (G : Ghosts X) where
  comes_fault : (v : Result Table SheetFault) (e : SheetFault) → Err e ≡ answer v → ComesTo G v (Err (Sheet e))
  comes_fault (Ok t) e h = absurd (let k : ⊥ = cc in k)
  comes_fault (Err f) e h = cc

  -- the text is refused
  pub settles_fault : (v : Result Table SheetFault) (r : Result (Settled X) BenchFault) (y : BenchFault) (e : SheetFault) → r ≡ Err y → y ≡ Sheet e → Err e ≡ answer v → SettlesTo G v r
  settles_fault v r y e p q h = record { is = subst (λ (s : Result (Settled X) BenchFault). ComesTo G v s) (sym (p ∙ ap Err q)) (comes_fault v e h) }

  module _ (old table : Table) where
    comes_crossed : (v : Result Table SheetFault) → Ok tt ≡ answer v → table ≡ table_after old v → (m : Meaning) → m ≡ sheet_meaning table → Crosses m → ComesTo G v (Err Crossed)
    comes_crossed (Ok t) h e m q x = record { is = cc; crosses = subst Crosses (q ∙ ap sheet_meaning e) x }
    comes_crossed (Err f) h e m q x = absurd (let k : ⊥ = cc in k)

    -- the bounds cross
    pub settles_crossed : (v : Result Table SheetFault) (r : Result (Settled X) BenchFault) (y z : BenchFault) → r ≡ Err y → y ≡ z → z ≡ Crossed → Ok tt ≡ answer v → table ≡ table_after old v → (m : Meaning) → m ≡ sheet_meaning table → Crosses m → SettlesTo G v r
    settles_crossed v r y z p q c h e m s x = record { is = subst (λ (s : Result (Settled X) BenchFault). ComesTo G v s) (sym (p ∙ ap Err (q ∙ c))) (comes_crossed v h e m s x) }

    comes_board : (v : Result Table SheetFault) → Ok tt ≡ answer v → table ≡ table_after old v → (board : Settled X) → meaning G board.pile ≡ sheet_meaning table → Settles (meaning G board.pile) board.bounds → ComesTo G v (Ok board)
    comes_board (Ok t) h e board q s =
        let same = q ∙ ap sheet_meaning e in
        record { means = same; settled = subst (λ (m : Meaning). Settles m board.bounds) same s }
    comes_board (Err f) h e board q s = absurd (let k : ⊥ = cc in k)

    -- they settle
    pub settles_board : (v : Result Table SheetFault) → Ok tt ≡ answer v → table ≡ table_after old v → (board : Settled X) (pile : X) → board.pile ≡ pile → meaning G pile ≡ sheet_meaning table → Settles (meaning G pile) board.bounds → SettlesTo G v (Ok board)
    settles_board v h e board pile p q s =
        record { is = comes_board v h e board (ap (λ (x : X). meaning G x) p ∙ q) (subst (λ (x : X). Settles (meaning G x) board.bounds) (sym p) s) }
