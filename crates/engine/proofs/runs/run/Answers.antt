use Rattle.engine.proofs.Playing.{runs_from}
use Rattle.engine.proofs.runs.run.Goals as goal

pub returns-in-Ok-clause-law : goal.returns-in-Ok-clause-law
returns-in-Ok-clause-law g c = runs_from g.A.Approximator c.in_ok-settle.ensures c.in_ok-listing.ensures.gives c.in_ok-listing.ensures.law c.in-Ok.ensures.plays

pub returns-in-Err-clause-law : goal.returns-in-Err-clause-law
returns-in-Err-clause-law g c =
    let front = c.in-Err.ensures.plays in
    (front.0, front.1, runs_from g.A.Approximator c.in_ok-settle.ensures c.in_ok-listing.ensures.gives c.in_ok-listing.ensures.law front.2)
