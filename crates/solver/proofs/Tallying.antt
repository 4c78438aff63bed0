-- Counts: of none, of one only, and of two parts.
use Rattle.std.proofs.Common.{◌≡◌, ℕ, suc, ◌+◌, ◌-◌, ◌*◌, ◌^◌, ◌<◌, ◌≤◌, min, [], ◌∷◌, ◌++◌, refl, ◌∙◌, subst, ap₂, pow-suc, arith, length-append, pow_pos, pow_mono}
use Rattle.solver.specs.Lists.{Counted, Tallied}
use Rattle.solver.specs.Search.{Only, Joins}
use Rattle.solver.proofs.Listed.{lists_none, lists_one, lists_both}

-- ---- how many there are
pub counted_none : {P : ℕ → Type 0} → ((x : ℕ) → P x → ⊥) → Counted P 0
counted_none f = record { items = []; long = refl; held = lists_none f }

pub counted_one : {P : ℕ → Type 0} {z : ℕ} → Only P z → Counted P 1
counted_one {z = z} o = record { items = z ∷ []; long = refl; held = lists_one o }

pub counted_both : {P Q R : ℕ → Type 0} {m n : ℕ} → Joins P Q R → Counted Q m → Counted R n → Counted P (m + n)
counted_both j p q = record {
  items = p.items ++ q.items;
  long = length-append p.items q.items ∙ ap₂ ◌+◌ p.long q.long;
  held = lists_both j p.held q.held;
}

-- ---- as the search says it
pub tallied_none : {P : ℕ → Type 0} (limit : ℕ) → ((x : ℕ) → P x → ⊥) → Tallied P limit 0
tallied_none limit f = record { number = 0; counted = counted_none f; few = omega arith; said = refl }

pub tallied_one : {P : ℕ → Type 0} {z : ℕ} (k : ℕ) → Only P z → Tallied P (2 ^ k) 1
tallied_one k o = record { number = 1; counted = counted_one o; few = pow_pos k; said = refl }

twice_le : (i j : ℕ) → i < j → 2 * 2 ^ i ≤ 2 ^ j
twice_le i j h = omega (arith, pow-suc 2 i, pow_mono {i = suc i} {j = j} h)

-- a and b are what is said of the parts, and r what `saturating_add` makes of them
pub tallied_both : {P Q R : ℕ → Type 0} {i j k a b r : ℕ} → Joins P Q R → i < k → j < k → Tallied Q (2 ^ i) a → Tallied R (2 ^ j) b → r ≡ min (a + b) (2 ^ 32 - 1) → Tallied P (2 ^ k) r
tallied_both {i = i} {j = j} {k = k} js hi hj p q e = record {
  number = p.number + q.number;
  counted = counted_both js p.counted q.counted;
  few = omega (arith, twice_le i k hi, twice_le j k hj);
  said = omega arith;
}

-- with few atoms open the number is said as it is
pub tallied_exact : {P : ℕ → Type 0} {k r : ℕ} → k ≤ 16 → Tallied P (2 ^ k) r → Counted P r
tallied_exact {P} {k} {r} h t =
    let room : 2 ^ k ≤ 2 ^ 16 = pow_mono h in
    let e : t.number ≡ r = omega arith in
    subst (Counted P) e t.counted
