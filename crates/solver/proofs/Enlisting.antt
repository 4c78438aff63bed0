-- There is a list of all that are stable between bounds, and one of all that are wanted.
use Rattle.std.proofs.Common.{ℕ, zero, suc, ◌-◌, ◌^◌, ◌<◌, List, [], ◌∷◌, ◌++◌, ◌∙◌, inl, inr, mod-lt, arith, pow_pos, pow_mono}
use lib.Bits.{bit_and, and_le_l}
use lib.Count.{count_trailing_zeros}
use lib.Pow.{pow-lt}
use Rattle.std.proofs.lemmas.Bool.{cases_eq}
use Rattle.atoms.specs.Sets.{Lowest, all_below, clipped, lacking, collected}
use Rattle.atoms.specs.Bounded.{Proper, is_open, open_count}
use Rattle.atoms.specs.declared.bounds.Bounds.{Bounds}
use Rattle.atoms.proofs.Collecting.{collected_below}
use Rattle.atoms.proofs.Digits.{mod_digit}
use Rattle.atoms.proofs.Inclusion.{within_test, test_within, clipped_within}
use Rattle.atoms.proofs.Lacking.{below_wide}
use Rattle.atoms.proofs.Ordering.{lowest_at}
use Rattle.approx.specs.Meanings.{Meaning}
use Rattle.approx.specs.Settling.{first_bounds, begins}
use Rattle.approx.proofs.Laws.{Lawful}
use Rattle.approx.proofs.Deciding.{stable_or_not}
use Rattle.approx.proofs.Steadiness.{stable_between}
use Rattle.solver.specs.Lists.{Lists}
use Rattle.solver.specs.Pegs.{Wanted, pegged, Pegs}
use Rattle.solver.specs.Search.{Inside, Parts}
use Rattle.solver.proofs.Alikeness.{Alike, lists_alike}
use Rattle.solver.proofs.Parting.{crossed_leaves, closed_one, closed_none, parts_at, parts_joins}
use Rattle.solver.proofs.Pegging.{pegs_hold, wanted_alike}
use Rattle.solver.proofs.Listed.{lists_none, lists_one, lists_both}

-- bounds parted at their lowest open atom
atom_parts : (b : Bounds) (i : ℕ) → b.upper < 2 ^ 64 → Proper b → i < 64 → Lowest (collected (is_open b) 64) i → Parts b (pegged b 0 (2 ^ i)) (pegged b (2 ^ i) 0)
atom_parts b i hu p k low = parts_at b (pegged b 0 (2 ^ i)) (pegged b (2 ^ i) 0) i hu p low (pegs_hold b 0 (2 ^ i) hu (pow-lt k)) (pegs_hold b (2 ^ i) 0 hu (pow_pos 64))

lacking_fits : (u off : ℕ) → u < 2 ^ 64 → lacking u off < 2 ^ 64
lacking_fits u off h = omega (arith, and_le_l u (2 ^ 64 - 1 - off))

module _ {m : Meaning} (laws : Lawful m) where
  -- ---- between bounds
  -- they are not crossed, and have fewer open atoms than `left`
  list_from : (left : ℕ) (b : Bounds) → open_count b < left → b.upper < 2 ^ 64 → Proper b → (xs : List ℕ) × Lists (Inside m b) xs
  list_from zero b h hu p = absurd (omega arith)
  list_from (suc left) b h hu p = elim (cases_eq (collected (is_open b) 64) 0) [
    | inl e ↦ elim (stable_or_not laws b.lower) [
      | inl s ↦ (b.lower ∷ [], lists_one (closed_one hu e p s))
      | inr n ↦ ([], lists_none (closed_none hu e n))
    ]
    | inr d ↦
        (let low = lowest_at 64 (collected (is_open b) 64) (omega arith) (collected_below (is_open b) 64) in
        let i : ℕ = count_trailing_zeros 64 (collected (is_open b) 64) in
        let parts : Parts b (pegged b 0 (2 ^ i)) (pegged b (2 ^ i) 0) = atom_parts b i hu p low.0 low.1 in
        let first = list_from left (pegged b 0 (2 ^ i)) (omega (arith, parts.first_fewer)) (lacking_fits b.upper (2 ^ i) hu) parts.first_proper in
        let second = list_from left (pegged b (2 ^ i) 0) (omega (arith, parts.second_fewer)) (lacking_fits b.upper 0 hu) parts.second_proper in
        (first.0 ++ second.0, lists_both (parts_joins parts) first.1 second.1))
  ]

  pub inside_listed : (b : Bounds) → b.upper < 2 ^ 64 → (xs : List ℕ) × Lists (Inside m b) xs
  inside_listed b hu = elim (cases_eq (bit_and b.lower b.upper) b.lower) [
    | inl e ↦ list_from (suc (open_count b)) b (omega arith) hu (within_test e)
    | inr n ↦ ([], lists_none (crossed_leaves (λ p. n (test_within p))))
  ]

  -- ---- with pegs
  -- only the pegs on the 64 atoms matter
  pegs_clipped : (on off : ℕ) → Alike (Wanted m on (clipped 64 off)) (Wanted m on off)
  pegs_clipped on off = record {
    there = λ x w. record {
      stable = w.stable;
      pegged_on = w.pegged_on;
      pegged_off = λ i o h. w.pegged_off i (mod_digit off 64 i (omega (arith, below_wide m.width x i w.stable.below h, laws.wide.1)) ∙ o) h;
    };
    back = λ x w. record { stable = w.stable; pegged_on = w.pegged_on; pegged_off = λ i o h. w.pegged_off i ((clipped_within 64 off).at i o) h };
  }

  pub wanted_listed : (on off : ℕ) → (xs : List ℕ) × Lists (Wanted m on off) xs
  wanted_listed on off =
      let b : Bounds = first_bounds m in
      let fits : all_below m.width < 2 ^ 64 = omega (arith, pow_mono laws.wide.1, pow_pos m.width) in
      let pegs : Pegs b on (clipped 64 off) (pegged b on (clipped 64 off)) = pegs_hold b on (clipped 64 off) fits (mod-lt off (pow_pos 64)) in
      let all = inside_listed (pegged b on (clipped 64 off)) (lacking_fits (all_below m.width) (clipped 64 off) fits) in
      (all.0, lists_alike (pegs_clipped on off) (lists_alike (wanted_alike pegs (λ x t. stable_between laws t begins)) all.1))
