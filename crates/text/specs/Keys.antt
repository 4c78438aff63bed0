-- What a key is the sign of.
use Rattle.std.specs.Prelude.{Ok, Err, Result}
use Rattle.tables.specs.declared.table.Kind.{Kind}
use Rattle.tables.specs.declared.table.Kind.TheVariants as kind
use Rattle.tables.specs.declared.table.Comparison.{Comparison}
use Rattle.tables.specs.declared.table.Comparison.TheVariants as comparison
use Rattle.text.specs.declared.word.Key.{Key}
use Rattle.text.specs.declared.word.Key.TheVariants as key
use Rattle.text.specs.declared.word.OtherKey.{OtherKey}

-- A key where another was looked for.
abbrev pub other : Key → OtherKey
other k = record { 0 = k }

-- The kind of aggregate that a key begins: `sum` and `count` begin one.
abbrev pub kind_begun : Key → Result Kind OtherKey
kind_begun key.Sum = Ok kind.Sum
kind_begun key.Count = Ok kind.Count
kind_begun k = Err (other k)

-- The comparison that a key is the sign of: `<=`, `>=`, `=` and `!=` are signs of one.
abbrev pub comparison_signed : Key → Result Comparison OtherKey
comparison_signed key.AtMost = Ok comparison.AtMost
comparison_signed key.AtLeast = Ok comparison.AtLeast
comparison_signed key.Equal = Ok comparison.Equal
comparison_signed key.Unequal = Ok comparison.Unequal
comparison_signed k = Err (other k)
