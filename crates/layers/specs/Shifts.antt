-- What a pile means that is moved up to begin at a first place p, below a width w.
use Rattle.std.specs.Prelude.{ℕ, ◌*◌, ◌/◌, ◌^◌}
use Rattle.atoms.specs.Sets.{clipped}
use Rattle.approx.specs.Meanings.{Meaning}

-- the atoms from p up to the width, moved down: atom p + i is atom i
abbrev pub lowered : ℕ → ℕ → ℕ → ℕ
lowered p w s = clipped w s / 2 ^ p

-- the atoms of a set moved up: atom i is atom p + i, and none is left at or above the width
abbrev pub raised : ℕ → ℕ → ℕ → ℕ
raised p w s = clipped w (s * 2 ^ p)

-- what is answered to the question moved down
abbrev pub answered : ℕ → ℕ → (ℕ → ℕ → ℕ) → ℕ → ℕ → ℕ
answered p w f l u = f (lowered p w l) (lowered p w u)

-- the question is moved down, and the answer is moved up
abbrev pub berthed : ℕ → ℕ → Meaning → Meaning
berthed p w m = record {
  width = w;
  sure = λ l u. raised p w (answered p w m.sure l u);
  may = λ l u. raised p w (answered p w m.may l u);
}
