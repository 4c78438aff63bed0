-- Where two predicates hold of the same interpretations, what is said by the one is said by the other.
use Rattle.std.proofs.Common.{ℕ, List, Some, None, Option}
use Rattle.solver.specs.Lists.{Lists, Counted, Gathered, GatheredFront}
use Rattle.solver.specs.Search.{FirstAfter, NoneAfter, Sought}

-- P and Q hold of the same
pub record Alike (P Q : ℕ → Type 0) : Type 0 where
  pub there : (x : ℕ) → P x → Q x
  pub back : (x : ℕ) → Q x → P x

module _ {P Q : ℕ → Type 0} (a : Alike P Q) where
  pub lists_alike : {xs : List ℕ} → Lists P xs → Lists Q xs
  lists_alike l = record { ordered = l.ordered; sound = λ x i. a.there x (l.sound x i); whole = λ x q. l.whole x (a.back x q) }

  pub counted_alike : {n : ℕ} → Counted P n → Counted Q n
  counted_alike c = record { items = c.items; long = c.long; held = lists_alike c.held }

  pub gathered_alike : {old new : List ℕ} → Gathered P old new → Gathered Q old new
  gathered_alike g = record { items = g.items; listed = lists_alike g.listed; behind = g.behind }

  pub gathered_front_alike : {old new : List ℕ} → GatheredFront P old new → GatheredFront Q old new
  gathered_front_alike g = record { items = g.items; rest = g.rest; listed = lists_alike g.listed; behind = g.behind }

  pub none_alike : (after : Option ℕ) → NoneAfter P after → NoneAfter Q after
  none_alike after n x l q = n x l (a.back x q)

  pub first_alike : (after : Option ℕ) {y : ℕ} → FirstAfter P after y → FirstAfter Q after y
  first_alike after {y} f = record { later = f.later; here = a.there y f.here; first = λ x l q. f.first x l (a.back x q) }

  pub sought_alike : (after answer : Option ℕ) → Sought P after answer → Sought Q after answer
  sought_alike after None n = none_alike after n
  sought_alike after (Some y) f = first_alike after f
