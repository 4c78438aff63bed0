use Rattle.std.proofs.Common.{◌≡◌, [], List, ℕ, length, sym, ap, ◌∙◌, subst}
use Rattle.std.specs.List.{flat_map}
use Rattle.std.specs.Io.KnownBytes.{Appends}
use Rattle.std.proofs.lemmas.Result.{on_ok_weaker}
use Rattle.approx.specs.Meanings.{meaning}
use Rattle.report.specs.Lines.{standing_line}
use Rattle.report.proofs.Standings.{listing_written}
use Rattle.report.proofs.Sheet.write_listing.Goals as goal

pub returns : goal.returns
returns g c =
    let text = c.args.self.text.now in
    let table = c.args.self.table.now in
    let all : List ℕ = c.standings.new.found.items in
    let old = g.W.Write.contents c.args.out.now in
    let mid = g.W.Write.contents c.write_standings.new.out in
    let new = g.W.Write.contents c.writeln.new.self in
    let lines : Appends old mid (flat_map (standing_line text table) all) = subst (λ (zs : List ℕ). Appends old mid (flat_map (standing_line text table) zs)) c.deref.ensures.value c.in_ok-write_standings.ensures in
    let many : c.len-total.result ≡ length all = c.len-total.ensures ∙ sym c.deref.ensures.len ∙ ap length c.deref.ensures.value in
    on_ok_weaker c.writeln.result
    (listing_written text table (meaning g.A.Approximator c.args.listing.now.pile) c.new-standings.result.items all c.len-total.result old mid new c.new-standings.ensures.items (c.in_ok-standings.ensures.law [] c.requires) many lines)
    c.writeln.ensures.bytes
