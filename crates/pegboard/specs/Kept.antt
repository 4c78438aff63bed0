-- The tokens that are kept beside a listing, and the pegs that are in force in it.
use Rattle.std.specs.Prelude.{◌≡◌, ℕ, ◌+◌, ◌^◌, ◌<◌, ◌≤◌, Bool, cond, List, length}
use Rattle.std.specs.List.{count_by}
use Rattle.engine.specs.Standing.{standing, same_peg, pegs_count}
use Rattle.engine.specs.declared.pegs.Sense.{Sense}
use Rattle.engine.specs.declared.pegs.Sense.TheVariants.{On, Off}
use Rattle.engine.specs.declared.pegs.Pegs.{Pegs}
use Rattle.engine.specs.declared.listing.Token.{Token}

-- whether the peg of atom i and sense s is the token's
abbrev pub is_of : ℕ → Sense → Token → Bool
is_of i s t = same_peg t.atom t.sense i s

-- how many of the tokens are of the peg of atom i and sense s
abbrev pub tokens_of : List Token → ℕ → Sense → ℕ
tokens_of ts i s = count_by (is_of i s) ts

-- each peg in force has one token and no other peg has any, no two tokens are of one atom, and there are as many as pegs
pub record Kept (pegs : Pegs) (ts : List Token) : Type 0 where
  pub each : (i : ℕ) (s : Sense) → tokens_of ts i s ≡ cond (standing pegs i s) 1 0
  pub apart : (i : ℕ) → tokens_of ts i On + tokens_of ts i Off ≤ 1
  pub counted : length ts ≡ pegs_count pegs
  pub on : pegs.on < 2 ^ 64
  pub off : pegs.off < 2 ^ 64
