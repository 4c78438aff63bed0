use Rattle.std.proofs.Common.{◌≡◌, ℕ, List, ◌++◌, codes, append_assoc, refl, sym, ap, ◌∙◌}
use Rattle.std.specs.Fmt.{decimal}
use Rattle.std.proofs.Output.{has_written_of_eq}
use Rattle.faults.specs.Faults.{bench_told}
use Rattle.faults.specs.declared.BenchFault.{BenchFault}
use Rattle.keeper.specs.Texts.{refused_text}
use Rattle.keeper.proofs.reply.RefusalDisplay.fmt.Goals as goal

-- the pieces of a refusal's text, one after another
pieces : (n : ℕ) (a b c : List ℕ) → codes "refused " ++ (decimal n ++ (a ++ (b ++ c))) ≡ codes "refused " ++ decimal n ++ a ++ b ++ c
pieces n a b c =
    sym (append_assoc (codes "refused " ++ decimal n ++ a) b c ∙ append_assoc (codes "refused " ++ decimal n) a (b ++ c) ∙ append_assoc (codes "refused ") (decimal n) (a ++ (b ++ c)))

-- the text of a fault, where its number is known by the fault
text : (f f' : BenchFault) (n : ℕ) (a b c name : List ℕ) → n ≡ (bench_told f).number → f ≡ f' → codes "refused " ++ decimal (bench_told f').number ++ a ++ b ++ c ≡ refused_text f' name → codes "refused " ++ (decimal n ++ (a ++ (b ++ c))) ≡ refused_text f name
text f f' n a b c name e k t =
    ap (λ (m : ℕ). codes "refused " ++ (decimal m ++ (a ++ (b ++ c)))) (e ∙ ap (λ (g : BenchFault). (bench_told g).number) k)
    ∙ pieces (bench_told f').number a b c
    ∙ t
    ∙ ap (λ (g : BenchFault). refused_text g name) (sym k)

pub returns-in-NoSuchAtom-clause-writes : goal.returns-in-NoSuchAtom-clause-writes
returns-in-NoSuchAtom-clause-writes g c = λ plain ok. has_written_of_eq _ _ _ _ _ (text _ _ _ (codes ": there is no mark '") c.args.self.now.name.now (codes "'") _ c.number-number.ensures c.in-NoSuchAtom.is refl) (c.write.ensures.writes plain ok)

pub returns-in-NotInForce-clause-writes : goal.returns-in-NotInForce-clause-writes
returns-in-NotInForce-clause-writes g c = λ plain ok. has_written_of_eq _ _ _ _ _ (text _ _ _ (codes ": no such peg of ") c.args.self.now.name.now (codes " is in force") _ c.number-number.ensures c.in-NotInForce.is refl) (c.write-in-NotInForce.ensures.writes plain ok)

pub returns-in-PegsInForce-clause-writes : goal.returns-in-PegsInForce-clause-writes
returns-in-PegsInForce-clause-writes g c = λ plain ok. has_written_of_eq _ _ _ _ _ (text _ _ _ (codes ": pegs are in force, ") (decimal c.in-PegsInForce.pegs) (codes " of them") _ c.number-number.ensures c.in-PegsInForce.is refl) (c.write-in-PegsInForce.ensures.writes plain ok)
