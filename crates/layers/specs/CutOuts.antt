-- What a cut-out means.
use Rattle.std.specs.Prelude.{ℕ}
use Rattle.atoms.specs.Sets.{lacking, clipped}
use Rattle.approx.specs.Meanings.{Meaning}
use Rattle.layers.specs.declared.triggers.TriggerTable.{TriggerTable}
use Rattle.layers.specs.Triggers.{tripped}

-- the atoms below the width that are tripped by the atoms of a set below the width
abbrev pub dropped : TriggerTable → ℕ → ℕ → ℕ
dropped t w by = tripped t w (clipped w by)

-- the width stays; sure drops the atoms with a trigger in the upper, and may those with a trigger in the lower
abbrev pub cut_out : TriggerTable → Meaning → Meaning
cut_out t m = record {
  width = m.width;
  sure = λ l u. lacking (m.sure l u) (dropped t m.width u);
  may = λ l u. lacking (m.may l u) (dropped t m.width l);
}
