use Rattle.std.proofs.Common.{◌∷◌, ◌++◌, ◌∙◌, sym, rules}
use Rattle.std.proofs.KnownBytes.{Appends-trans}
use Rattle.keeper.specs.Texts.{reply_text}
use Rattle.keeper.specs.Refusals.{newline}
use Rattle.keeper.specs.Sessions.{replies_text}
use Rattle.keeper.proofs.attend.Goals as goal

pub returns-in_err-answer : goal.returns-in_err-answer
returns-in_err-answer g c =
    let inv = c.loop-line.invariant in
    let e = c.in_err-answer.ensures in
    (record { line = c.as_str.result.now; reply = e.0 } ∷ inv.0, (c.loop-line.board.listing, inv.1, e.1), search rules)

pub returns-then-branch : goal.returns-then-branch
returns-then-branch g c =
    let inv = c.loop-line.invariant in
    let e = c.in_ok-answer.ensures in
    let printed = Appends-trans _ _ _ (replies_text inv.0) (reply_text e.0 ++ newline) inv.3 e.2.1 in
    (record { line = c.as_str.result.now; reply = e.0 } ∷ inv.0, (c.loop-line.board.listing, inv.1, e.1), ((sym e.2.0 ∙ c.if-branch.true, inv.2), printed))

pub loop-line-preserved : goal.loop-line-preserved
loop-line-preserved g c =
    let inv = c.loop-line.invariant in
    let e = c.in_ok-answer.ensures in
    let printed = Appends-trans _ _ _ (replies_text inv.0) (reply_text e.0 ++ newline) inv.3 e.2.1 in
    (record { line = c.as_str.result.now; reply = e.0 } ∷ inv.0, (c.loop-line.board.listing, inv.1, e.1), (sym e.2.0 ∙ c.if-branch.false, inv.2), printed)
