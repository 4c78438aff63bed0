use Rattle.std.proofs.Common.{codes, ◌++◌, arith}
use Rattle.std.proofs.KnownBytes.{Appends-trans}
use Rattle.std.proofs.lemmas.Result.{on_ok_weaker}
use Rattle.report.specs.Lines.{for_each, name_if_on, newline}
use Rattle.report.proofs.Lines.{each_appended, each_whole}
use Rattle.report.proofs.Sheet.write_standing.Goals as goal

pub loop-atom-preserved : goal.loop-atom-preserved
loop-atom-preserved g c = each_appended (name_if_on c.args.self.text.now c.args.self.table.now c.args.standing) c.loop-atom.atom _ _ _ c.loop-atom.invariant c.in_ok-write_if_on.ensures

pub returns : goal.returns
returns g c =
    let names = name_if_on c.args.self.text.now c.args.self.table.now c.args.standing in
    let width = c.args.self.table.now.width in
    let old = g.W.Write.contents c.args.out.now in
    let first = g.W.Write.contents c.write.new.self in
    let second = g.W.Write.contents c.loop-atom.out in
    let last = g.W.Write.contents c.writeln.new.self in
    let all = each_whole names c.loop-atom.atom width first second (omega arith) (omega arith) c.loop-atom.invariant in
    on_ok_weaker c.writeln.result
    (λ end. Appends-trans old second last (codes "standing" ++ for_each names width) newline (Appends-trans old first second (codes "standing") (for_each names width) c.in_ok-write.ensures.bytes all) end)
    c.writeln.ensures.bytes
