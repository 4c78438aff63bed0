-- The boards, each by its test.
use Rattle.std.proofs.Common.{◌≡◌, true, List, refl}
use Rattle.worked.specs.declared.Example.{Example}
use Rattle.worked.specs.declared.Example.TheVariants.{EitherOr, DeniesItself, HoldsItself, Chain, Ring, Bare, LoadBound, LoadPlain, RuleAndRelay, EitherOrPegged, HoldsItselfPegged}
use lib.Count.{count_trailing_zeros}
use Rattle.atoms.specs.Sets.{collected}
use Rattle.tables.specs.Rows.{laid}
use Rattle.tables.specs.declared.table.Place.{Place}
use Rattle.worked.specs.Boards.{row, LoadOpen, BoardsWorked}
use Rattle.worked.proofs.Checking.{is_right, right}

passes : (names : List Place) (example : Example) → is_right (row names example) ≡ true
unfolding laid collected count_trailing_zeros
passes names EitherOr = refl
passes names DeniesItself = refl
passes names HoldsItself = refl
passes names Chain = refl
passes names Ring = refl
passes names Bare = refl
passes names LoadBound = refl
passes names LoadPlain = refl
passes names RuleAndRelay = refl
passes names EitherOrPegged = refl
passes names HoldsItselfPegged = refl

load_open : LoadOpen
unfolding laid
load_open = record { low = refl; high = refl; may = refl; sure = refl }

pub boards_worked : BoardsWorked
boards_worked = record { rows = λ names example. right (row names example) (passes names example); load = load_open }
