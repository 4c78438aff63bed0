use Rattle.std.proofs.Common.{ℕ, ◌∷◌, Err, Option, refl, subst}
use Rattle.engine.specs.Histories.{History}
use Rattle.engine.specs.Listings.{Ran}
use Rattle.engine.specs.declared.runs.Event.TheVariants.{Peg}
use Rattle.keeper.specs.Desk.{PegTold}
use Rattle.keeper.specs.declared.reply.Reply.TheVariants.{Refused}
use Rattle.keeper.proofs.desk.peg.Goals as goal

pub returns-in-Err-Bench : goal.returns-in-Err-Bench
returns-in-Err-Bench g c =
    let f = c.in-Err-Bench.fault in
    let i = c.in-Some.atom in
    let s = c.args.sense in
    let law : (h : History) → Ran g.A.Approximator h c.args.board.now.listing → Ran g.A.Approximator (Peg i s (Err f) ∷ h) c.peg.new.self.listing = rw c.in-Err-Bench.field-0-is at c.in-Err-Bench.ensures.law in
    rw c.in-Err-Bench.fault-is (λ h ran. (Peg i s (Err f) ∷ h, (subst (λ (o : Option ℕ). PegTold o c.args.name.now s (Refused f c.args.name) h (Peg i s (Err f) ∷ h)) c.in-Some.ensures (refl, refl), law h ran)))
