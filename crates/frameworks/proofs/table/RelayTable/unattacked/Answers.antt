use Rattle.std.proofs.Common.{rules, ◌≡◌, ℕ, min, sym, subst}
use Rattle.atoms.specs.Sets.{Has}
use Rattle.atoms.proofs.Judging.{judged_collected}
use Rattle.frameworks.specs.Lines.{stands, unattacked}
use Rattle.frameworks.specs.Standing.{unattacked_has, unattacked_all}
use Rattle.frameworks.proofs.table.RelayTable.unattacked.Goals as goal

pub returns : goal.returns
returns c =
    let t = c.args.self.now in
    let w : ℕ = min c.args.width 64 in
    let s : ℕ = c.args.against in
    let e : c.those.result ≡ unattacked t w s = judged_collected (stands t s) (record { below = c.those.ensures.below; has = λ i h. (let q = c.those.ensures.has i h in search rules) }) in
    record {
      is = e;
      has = λ i h. unattacked_has t w s i (subst (λ (x : ℕ). Has x i) e h);
      all = λ i k p. subst (λ (x : ℕ). Has x i) (sym e) (unattacked_all t w s i k p);
    }
