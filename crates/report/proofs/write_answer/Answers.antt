use Rattle.std.proofs.lemmas.Result.{on_ok_weaker}
use Rattle.grammar.specs.Verdicts.{verdict}
use Rattle.report.proofs.Answering.{board_answer, fault_answer}
use Rattle.report.proofs.Unique.{one_answer}
use Rattle.report.proofs.write_answer.Goals as goal

pub returns-in-Ok-clause-right : goal.returns-in-Ok-clause-right
returns-in-Ok-clause-right g c =
    on_ok_weaker c.write_settled.result
    (board_answer _ (verdict c.args.text.now) c.args.text.now c.fresh-table.result c.settled.new.table c.in-Ok.board _ _ c.in-Ok.ensures.holds c.in-Ok.ensures.settles)
    c.write_settled.ensures

pub returns-in-Err-clause-right : goal.returns-in-Err-clause-right
returns-in-Err-clause-right g c =
    on_ok_weaker c.write_refusal.result
    (fault_answer _ (verdict c.args.text.now) c.args.text.now c.in-Err.fault _ _ c.in-Err.ensures.settles)
    c.write_refusal.ensures

pub returns-in-Ok-clause-one : goal.returns-in-Ok-clause-one
returns-in-Ok-clause-one g c = one_answer c.args.text.now

pub returns-in-Err-clause-one : goal.returns-in-Err-clause-one
returns-in-Err-clause-one g c = one_answer c.args.text.now
