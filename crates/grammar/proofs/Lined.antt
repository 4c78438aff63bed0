-- Whether an atom has a relay line, as a search through the lines says it.
use Rattle.std.proofs.Common.{◌≡◌, ℕ, ◌||◌, List, [], ◌∷◌, refl, ap, ◌==◌}
use Rattle.std.specs.List.{list_any}
use Rattle.tables.specs.declared.table.RelayLine.{RelayLine}
use Rattle.grammar.specs.Relays.{has_line}

pub any_has_line : (atom : ℕ) (lines : List RelayLine) → list_any (λ line. line.atom == atom) lines ≡ has_line atom lines
any_has_line atom [] = refl
any_has_line atom (line ∷ lines) = ap (λ b. line.atom == atom || b) (any_has_line atom lines)
