use Rattle.tables.proofs.Laid.{laid_none}
use Rattle.tables.proofs.rows.Rows.new.Goals as goal

pub returns : goal.returns
returns g c = laid_none g.row.N c.args.zero
