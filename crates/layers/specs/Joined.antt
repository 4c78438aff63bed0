-- What two approximators side by side mean.
use Rattle.std.specs.Prelude.{max, bit_or}
use Rattle.approx.specs.Meanings.{Meaning}

-- the width is the larger of the two, and what either answers is answered
abbrev pub joined : Meaning → Meaning → Meaning
joined m n = record {
  width = max m.width n.width;
  sure = λ l u. bit_or (m.sure l u) (n.sure l u);
  may = λ l u. bit_or (m.may l u) (n.may l u);
}
