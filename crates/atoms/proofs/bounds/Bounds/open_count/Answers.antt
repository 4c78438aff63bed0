use Rattle.std.proofs.Common.{ap, ◌∙◌}
use lib.Count.{ones}
use Rattle.atoms.specs.Bounded.{is_open}
use Rattle.atoms.proofs.Collecting.{ones_collected}
use Rattle.atoms.proofs.bounds.Bounds.open_count.Goals as goal

pub returns : goal.returns
returns c = ap ones c.open_atoms.ensures ∙ ones_collected (is_open c.args.self) 64
