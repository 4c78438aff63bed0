use Rattle.std.proofs.Common.{◌≡◌, ℕ, ◌-◌, ◌^◌, ◌<◌, ◌==◌, zero, suc, false, List, [], ◌∷◌, ◌++◌, replicate, codes, append_assoc, subst, refl, ap, ◌∙◌, arith}
use Rattle.std.specs.List.{repeat}
use Rattle.std.specs.Fmt.{styled_text, format_spec, padded, take_chars, char_count}
use Rattle.std.specs.Io.KnownBytes.{Appends}
use Rattle.std.proofs.lemmas.Bool.{ne_eqb}
use Rattle.std.proofs.lemmas.Result.{on_ok_weaker}
use Rattle.keeper.specs.Refusals.{newline, caret_lines}
use Rattle.keeper.proofs.refusal.write_caret.Goals as goal

blanks : (n : ℕ) → repeat {A = ℕ} n (32 ∷ []) ≡ replicate n 32
blanks zero = refl
blanks (suc n) = ap (λ (l : List ℕ). 32 ∷ l) (blanks n)

-- a caret that is written at the right of a column stands behind the columns before it
at_right : (column : ℕ) → 0 < column → styled_text (format_spec 32 3 0 column (2 ^ 64 - 1)) (codes "^") ++ newline ≡ caret_lines column
unfolding padded take_chars char_count lib.Utf8.encode
at_right column l =
    let n : (column == 0) ≡ false = ne_eqb column 0 (λ z. omega (arith, l, z)) in
    let none : column - 1 - (column - 1) ≡ 0 = omega arith in
    rw (n, none) (append_assoc (repeat {A = ℕ} (column - 1) (32 ∷ [])) (codes "^") newline ∙ ap (λ (l : List ℕ). l ++ (codes "^" ++ newline)) (blanks (column - 1)))

pub returns : goal.returns
returns g c =
    on_ok_weaker c.writeln.result
    (subst (Appends (g.W.Write.contents c.args.out.now) (g.W.Write.contents c.writeln.new.self)) (ap (λ s. styled_text s (codes "^") ++ newline) c.laid_out.ensures ∙ at_right c.args.column (omega arith)))
    c.writeln.ensures.bytes
