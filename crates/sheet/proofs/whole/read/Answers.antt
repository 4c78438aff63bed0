use Rattle.sheet.proofs.Rightly.{rightly}
use Rattle.sheet.proofs.whole.read.Goals as goal

pub returns : goal.returns
returns c =
    let e = c.read_into.ensures in
    record { answers = e.answers; holds = e.holds; rightly = rightly c.args.text.now c.args.table.now c.read_into.new.table c.read_into.result e.holds e.answers }
