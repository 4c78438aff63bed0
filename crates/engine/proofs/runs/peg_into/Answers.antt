use Rattle.std.proofs.Common.{Some, refl, ap, ◌∙◌}
use Rattle.engine.specs.declared.listing.Listing.{Listing}
use Rattle.engine.proofs.Acting.{peg_pile}
use Rattle.engine.proofs.runs.peg_into.Goals as goal

pub returns-in-Err-clause-acts : goal.returns-in-Err-clause-acts
returns-in-Err-clause-acts g c = record {
  pile = ap (λ (x : Listing g.row.A.Denot). x.pile) c.peg.ensures.leaves ∙ peg_pile _ c.args.listing.now c.args.atom c.args.sense;
  answers = (Some c.in-Err.fault, refl, refl);
  law = c.in-Err.ensures.law;
}
