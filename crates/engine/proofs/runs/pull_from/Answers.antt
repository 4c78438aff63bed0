use Rattle.std.proofs.Common.{[], ◌∷◌, ◌++◌, ap, ◌∙◌, arith}
use Rattle.engine.specs.declared.listing.Listing.{Listing}
use Rattle.engine.proofs.Acting.{pull_pile, token_back, refused_acts}
use Rattle.engine.proofs.runs.pull_from.Goals as goal

pub returns-in-Err-clause-acts : goal.returns-in-Err-clause-acts
returns-in-Err-clause-acts g c =
    let t = c.remove-token.result in
    let b = c.in-Err.refused in
    refused_acts g.A.Approximator t b c.atom-atom.ensures c.sense-sense.ensures
    (omega (arith, c.if-place-len.false, c.len.ensures, c.args.tokens.now.ok.0))
    c.remove-token.ensures.value
    (token_back _ t b c.in-Err.ensures.gives)
    (c.push_reserved.ensures.items ∙ ap (λ l. l ++ b.back ∷ []) c.remove-token.ensures.items)
    (ap (λ (x : Listing g.row.A.Denot). x.pile) c.pull.ensures.leaves ∙ pull_pile _ c.args.listing.now t)
    c.in-Err.ensures.law
