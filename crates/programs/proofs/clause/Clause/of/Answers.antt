use Rattle.std.proofs.Common.{◌≡◌, fold, sym, ap, ◌∙◌, subst, rules}
use Rattle.std.proofs.lemmas.Iterator.{YieldsList-from_slice}
use Rattle.std.proofs.lemmas.Iterator.Consumers.{fold_from_yields_List}
use Rattle.programs.specs.Clauses.{with_item, items_of, Says}
use Rattle.programs.specs.declared.clause.Clause.{Clause}
use Rattle.programs.specs.Gathering.{gathered_is, clause_says}
use Rattle.programs.proofs.clause.Clause.of.Goals as goal

pub returns : goal.returns
returns c =
    let r = c.args.rule.now in
    let e : c.fold.result ≡ fold with_item c.fact.result (items_of r) =
    fold_from_yields_List _ with_item _ _ c.fold.ensures.ran (YieldsList-from_slice (items_of r) cc) (λ a x b q k. search rules) in
    let is = e ∙ ap (λ (s : Clause). fold with_item s (items_of r)) c.fact.ensures ∙ gathered_is r.head (items_of r) in
    record { is = is; says = subst (Says r) (sym is) (clause_says r) }
