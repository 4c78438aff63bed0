use Rattle.report.proofs.Unique.{one_answer}
use Rattle.report.proofs.answer.Goals as goal

pub returns-in_err-write_answer-clause-one : goal.returns-in_err-write_answer-clause-one
returns-in_err-write_answer-clause-one c = one_answer c.args.text.now

pub returns-clause-one : goal.returns-clause-one
returns-clause-one c = one_answer c.args.text.now
