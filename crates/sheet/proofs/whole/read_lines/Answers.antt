use Rattle.std.proofs.Common.{◌≡◌, ℕ, List, length, take, drop, Ok, sym, ap, ap₂, ◌∙◌, arith, length-drop}
use Rattle.std.proofs.lemmas.Bool.{eq-eqb, ne_eqb}
use Rattle.std.proofs.lemmas.List.{drop-drop}
use Rattle.text.specs.Lines.{Numbered, lines_left, lines_of}
use Rattle.grammar.specs.Verdicts.{contents_read, past_lines}
use Rattle.written.proofs.Contents.{contents_told}
use Rattle.sheet.specs.Sections.{counts_in, announced_in}
use Rattle.sheet.proofs.Opening.{opened}
use Rattle.sheet.proofs.whole.read_lines.Goals as goal

pub returns-then-lines-announced : goal.returns-then-lines-announced
returns-then-lines-announced c =
    let ls = opened c.new-reader.result c.args.text.now c.new-reader.ensures.text c.new-reader.ensures.position c.new-reader.ensures.lines c.requires in
    let k : contents_read (lines_of c.args.text.now) ≡ Ok (counts_in c.in_ok-contents.contents) = ap contents_read (sym ls) ∙ c.in_ok-contents.ensures.gives in
    rw (k, c.count_lines-lines.ensures, ne_eqb (length (lines_of c.args.text.now)) (announced_in c.in_ok-contents.contents) (λ q. c.if-lines-announced.true (c.count_lines-lines.ensures ∙ q ∙ sym c.announced.ensures)))

pub read_bodies-requires : goal.read_bodies-requires
read_bodies-requires c =
    let ls = opened c.new-reader.result c.args.text.now c.new-reader.ensures.text c.new-reader.ensures.position c.new-reader.ensures.lines c.requires in
    let k : contents_read (lines_of c.args.text.now) ≡ Ok (counts_in c.in_ok-contents.contents) = ap contents_read (sym ls) ∙ c.in_ok-contents.ensures.gives in
    let told = (contents_told (lines_of c.args.text.now) (counts_in c.in_ok-contents.contents) k).1 in
    record {
      few = record { marks = told.few_marks; loads = told.few_loads; rules = told.few_rules; relays = told.few_relays };
      all = omega (arith, ap length c.in_ok-contents.ensures.leaves, length-drop 4 (lines_left c.new-reader.result), ap length ls, c.count_lines-lines.ensures, c.announced.ensures);
    }

pub returns : goal.returns
returns c =
    let ls = opened c.new-reader.result c.args.text.now c.new-reader.ensures.text c.new-reader.ensures.position c.new-reader.ensures.lines c.requires in
    let k : contents_read (lines_of c.args.text.now) ≡ Ok (counts_in c.in_ok-contents.contents) = ap contents_read (sym ls) ∙ c.in_ok-contents.ensures.gives in
    let same : length (lines_of c.args.text.now) ≡ announced_in c.in_ok-contents.contents = sym c.count_lines-lines.ensures ∙ c.if-lines-announced.false ∙ c.announced.ensures in
    let left : lines_left c.read_contents.new.reader ≡ drop 4 (lines_of c.args.text.now) = c.in_ok-contents.ensures.leaves ∙ ap (drop 4) ls in
    let at : c.read_contents.new.reader.position ≡ past_lines 0 (take 4 (lines_of c.args.text.now)) =
    c.in_ok-contents.ensures.moves ∙ ap₂ (λ (n : ℕ) (lines : List Numbered). past_lines n (take 4 lines)) c.new-reader.ensures.position ls in
    let below = drop-drop c.in_ok-contents.contents.marks 4 (lines_of c.args.text.now) in
    rw (k, eq-eqb (length (lines_of c.args.text.now)) (announced_in c.in_ok-contents.contents) same, c.read_bodies.ensures, left, at, below)
