use Rattle.std.proofs.Common.{◌≡◌, List, take, ap, sym, ◌∙◌}
use Rattle.std.proofs.lemmas.List.{take_all}
use Rattle.atoms.proofs.Judging.{judged_collected}
use Rattle.tables.specs.declared.table.Aggregate.{Aggregate}
use Rattle.programs.specs.Deriving.{passes, passing}
use Rattle.programs.specs.Tables.{aggregates_of}
use Rattle.programs.proofs.rules.RuleTable.heads.Goals as goal

pub returns : goal.returns
returns g c = λ judge f.
    let t = c.args.self.now in
    let xs : List Aggregate = c.as_slice.result.now in
    let all : xs ≡ aggregates_of t = sym (take_all 32 xs c.as_slice.ensures.few) ∙ ap (take 32) c.as_slice.ensures.is in
    let judged = judged_collected (passes judge xs) (record { below = c.passing-holding.ensures.below; has = λ n h. f _ _ (c.passing-holding.ensures.has n h) }) in
    let e : c.passing-holding.result ≡ passing judge (aggregates_of t) = judged ∙ ap (passing judge) all in
    cc
