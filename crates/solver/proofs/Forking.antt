-- A fork at bounds, as the search uses it: what the narrowed bounds leave is what the bounds leave.
use Rattle.std.proofs.Common.{ℕ, ◌<◌, arith}
use Rattle.atoms.specs.Bounded.{open_count}
use Rattle.atoms.specs.declared.bounds.Bounds.{Bounds}
use Rattle.atoms.proofs.Openness.{open_no_more}
use Rattle.approx.specs.Meanings.{Meaning}
use Rattle.approx.proofs.Laws.{Lawful}
use Rattle.solver.specs.Search.{Inside, Only, Joins, Forks}
use Rattle.solver.specs.declared.search.Fork.TheVariants.{Nothing, Single, Two}
use Rattle.solver.proofs.Narrowing.{narrow_rises, narrow_sinks, narrow_inside, narrow_keeps}
use Rattle.solver.proofs.Parting.{parts_joins}

module _ {m : Meaning} {b : Bounds} where
  pub fork_none : Lawful m → Forks m b Nothing → (x : ℕ) → Inside m b x → ⊥
  fork_none laws f x i = f.leaves x (narrow_keeps f.narrows laws i)

  pub fork_only : {z : ℕ} → Lawful m → Forks m b (Single z) → Only (Inside m b) z
  fork_only laws f = record { here = narrow_inside f.narrows f.leaves.here; one = λ x i. f.leaves.one x (narrow_keeps f.narrows laws i) }

  module _ {c d : Bounds} (f : Forks m b (Two c d)) where
    pub fork_joins : Lawful m → Joins (Inside m b) (Inside m c) (Inside m d)
    fork_joins laws =
        let j = parts_joins f.leaves in
        record {
          first_in = λ x i. narrow_inside f.narrows (j.first_in x i);
          second_in = λ x i. narrow_inside f.narrows (j.second_in x i);
          either = λ x i. j.either x (narrow_keeps f.narrows laws i);
          ahead = j.ahead;
        }

    pub fork_fewer : (open_count c < open_count b) × (open_count d < open_count b)
    fork_fewer =
        let less = open_no_more b f.narrow (narrow_rises f.narrows) (narrow_sinks f.narrows) in
        (omega (arith, f.leaves.first_fewer), omega (arith, f.leaves.second_fewer))
