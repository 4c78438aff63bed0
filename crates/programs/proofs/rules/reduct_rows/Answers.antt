use Rattle.std.proofs.Common.{true, false, ap, ◌∙◌}
use Rattle.tables.specs.Rows.{pushed}
use Rattle.programs.proofs.Keeping.{reduct_more}
use Rattle.programs.proofs.rules.reduct_rows.Goals as goal
use Rattle.programs.proofs.rules.reduct_rows.Goals.{then-spares, else-spares}

pub loop-clause-preserved : goal.loop-clause-preserved
loop-clause-preserved c =
    let z = c.args.z in
    let few = c.as_slice-clause-items.ensures.few in
    elim c.if-spares.branch [
      | then-spares w ↦ reduct_more z _ _ _ true c.loop-clause-test.true few c.loop-clause.invariant (w.if-spares.ensures) (w.reduct-is ∙ w.push.ensures.holds ∙ ap (pushed 128 c.loop-clause.reduct) w.unbarred.ensures)
      | else-spares w ↦ reduct_more z _ _ _ false c.loop-clause-test.true few c.loop-clause.invariant (w.if-spares.ensures) w.reduct-is
    ]
