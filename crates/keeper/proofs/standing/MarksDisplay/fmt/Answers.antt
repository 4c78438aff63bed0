use Rattle.std.proofs.Common.{ℕ, List, [], ◌++◌, take, get_or, codes, ap, ◌∙◌, refl, Bor}
use Rattle.std.proofs.Output.{has_written_append, has_written_of_eq}
use Rattle.atoms.specs.Bounded.{state_of}
use Rattle.atoms.specs.declared.bounds.State.{State}
use Rattle.keeper.specs.Texts.{told_from, mark_text}
use Rattle.keeper.proofs.Telling.{told_behind}
use Rattle.keeper.proofs.standing.MarksDisplay.fmt.Goals as goal

pub loop-i-preserved : goal.loop-i-preserved
loop-i-preserved g c = λ p.
    let names : List (Bor (List ℕ)) = c.args.self.now.names.now in
    let i : ℕ = c.loop-i.i in
    let none : Bor (List ℕ) = record { ref_ptr = (0, 0); now = [] } in
    let f : ℕ → List ℕ → List ℕ = λ k. mark_text (state_of c.args.self.now.bounds k) in
    let told = ap (λ (s : State). (codes "marks:" ++ told_from f 0 (take i names)) ++ mark_text s (get_or names i none).now) c.state.ensures in
    has_written_of_eq _ _ _ _ _ (told ∙ told_behind (codes "marks:") f names i none c.loop-i-test.true)
    (has_written_append _ _ _ _ _ _ (c.loop-i.invariant p) (c.in_ok-write-2.ensures.writes (c.loop-i.invariant p).plain refl))
