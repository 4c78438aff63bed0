use Rattle.std.proofs.Common.{ℕ, Bool, List, [], ◌++◌, take, get_or, codes, ap, sym, ◌∙◌, refl, Bor}
use Rattle.std.proofs.Output.{has_written_append, has_written_of_eq}
use Rattle.std.proofs.lemmas.List.{append-nil}
use Rattle.atoms.specs.Sets.{has}
use Rattle.keeper.specs.Texts.{told_from, lit_text}
use Rattle.keeper.proofs.Telling.{told_behind}
use Rattle.keeper.proofs.standing.StandingDisplay.fmt.Goals.{then-has+in_ok-write-2, else-has}
use Rattle.keeper.proofs.standing.StandingDisplay.fmt.Goals as goal

pub loop-i-preserved : goal.loop-i-preserved
loop-i-preserved g c = λ p.
    let names : List (Bor (List ℕ)) = c.args.self.now.marks.names.now in
    let i : ℕ = c.loop-i.i in
    let none : Bor (List ℕ) = record { ref_ptr = (0, 0); now = [] } in
    let f : ℕ → List ℕ → List ℕ = λ k. lit_text (has c.args.self.now.on k) in
    let told : List ℕ = codes "standing" ++ told_from f 0 (take i names) in
    let lit : Bool → List ℕ = λ b. told ++ lit_text b (get_or names i none).now in
    let behind = told_behind (codes "standing") f names i none c.loop-i-test.true in
    elim c.if-has.branch [
      | then-has+in_ok-write-2 w ↦ rw w.f-is (has_written_of_eq _ _ _ _ _ (ap lit (sym w.if-has.true ∙ c.has.ensures) ∙ behind) (has_written_append _ _ _ _ _ _ (c.loop-i.invariant p) (w.in_ok-write-2.ensures.writes (c.loop-i.invariant p).plain refl)))
      | else-has w ↦ rw w.f-is (has_written_of_eq _ _ _ _ _ (sym (append-nil told) ∙ ap lit (sym w.if-has.false ∙ c.has.ensures) ∙ behind) (c.loop-i.invariant p))
    ]
