use Rattle.std.proofs.Common.{rules, ◌≡◌, ℕ, min, sym, subst}
use Rattle.atoms.specs.Sets.{Has}
use Rattle.atoms.proofs.Judging.{judged_collected}
use Rattle.layers.specs.Triggers.{trips, tripped}
use Rattle.layers.specs.Tripping.{tripped_has, tripped_all}
use Rattle.layers.proofs.triggers.TriggerTable.tripped.Goals as goal

pub returns : goal.returns
returns c =
    let t = c.args.self.now in
    let w : ℕ = min c.args.width 64 in
    let s : ℕ = c.args.by in
    let e : c.those.result ≡ tripped t w s = judged_collected (trips t s) (record { below = c.those.ensures.below; has = λ i h. (let q = c.those.ensures.has i h in search rules) }) in
    record {
      is = e;
      has = λ i h. tripped_has t w s i (subst (λ (x : ℕ). Has x i) e h);
      all = λ i k p. subst (λ (x : ℕ). Has x i) (sym e) (tripped_all t w s i k p);
    }
