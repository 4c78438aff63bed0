use Rattle.std.proofs.Common.{◌≡◌, sym, ◌∙◌, arith}
use Rattle.std.proofs.lemmas.Bool.{le-ltb, ne_eqb}
use Rattle.atoms.specs.Sets.{digit}
use Rattle.atoms.proofs.Digits.{low_digit}
use Rattle.atoms.proofs.set.has.Goals as goal

pub returns-else-atom-lt64 : goal.returns-else-atom-lt64
returns-else-atom-lt64 c =
    let e : digit c.args.set c.args.atom ≡ 0 = low_digit c.args.set c.args.atom 64 c.ranges.set.fits c.if-atom-lt64.false in
    le-ltb c.args.atom 64 c.if-atom-lt64.false ∙ sym (ne_eqb (digit c.args.set c.args.atom) 1 (λ h. omega arith))
