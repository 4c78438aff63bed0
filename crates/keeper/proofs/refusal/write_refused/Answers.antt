use Rattle.std.proofs.Common.{List, ℕ, ◌++◌, codes, subst}
use Rattle.std.specs.Io.KnownBytes.{Appends}
use Rattle.std.proofs.KnownBytes.{Appends-trans}
use Rattle.std.proofs.lemmas.Result.{on_ok_weaker}
use Rattle.faults.specs.Faults.{bench_told, told_text}
use Rattle.faults.specs.declared.Spot.{Spot}
use Rattle.keeper.specs.Refusals.{newline, spot_lines}
use Rattle.keeper.proofs.refusal.write_refused.Goals as goal

pub returns : goal.returns
returns g c =
    let old = g.W.Write.contents c.args.out.now in
    let first = g.W.Write.contents c.writeln.new.self in
    let last = g.W.Write.contents c.write_spot.new.out in
    let line : List ℕ = codes "refused " ++ told_text (bench_told c.args.fault) ++ newline in
    on_ok_weaker c.write_spot.result
    (λ end. Appends-trans old first last line (spot_lines c.args.text.now (bench_told c.args.fault).spot) c.in_ok-writeln.ensures.bytes (subst (λ (s : Spot). Appends first last (spot_lines c.args.text.now s)) c.spot.ensures end))
    c.write_spot.ensures
