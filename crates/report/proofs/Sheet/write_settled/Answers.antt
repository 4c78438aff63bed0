use Rattle.std.proofs.lemmas.Result.{on_ok_weaker}
use Rattle.report.proofs.Answering.{listed_answer, refused_answer}
use Rattle.report.proofs.Sheet.write_settled.Goals as goal

pub returns-in-Ok : goal.returns-in-Ok
returns-in-Ok g c =
    on_ok_weaker c.write_listing.result
    (listed_answer g.A.Approximator c.args.self.text.now c.args.self.table.now c.args.board c.requires c.bounds.result c.bounds.ensures _ _ _ c.in_ok-write_states.ensures c.in-Ok.listing c.in-Ok.ensures.gives)
    c.write_listing.ensures

pub returns-in-Err : goal.returns-in-Err
returns-in-Err g c =
    on_ok_weaker c.write_refusal.result
    (refused_answer g.A.Approximator c.args.self.text.now c.args.self.table.now c.args.board c.requires c.bounds.result c.bounds.ensures _ _ _ c.in_ok-write_states.ensures c.in-Err.refused c.in-Err.ensures.gives c.into.result c.into.ensures)
    c.write_refusal.ensures
