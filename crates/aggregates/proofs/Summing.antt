-- A signed sum over entries, as a loop builds it: it cannot wrap.
use Rattle.std.proofs.Common.{◌≡◌, ℕ, ◌+◌, ◌*◌, ◌<◌, ◌≤◌, List, length, get_or, take, ℤ, pos, ◌+ℤ◌, ◌≤ℤ◌, sym, ap, ◌∙◌, arith, w16, w32, SFits, to_z, of_z}
use Rattle.std.proofs.lemmas.List.{take_all}
use Rattle.std.proofs.lemmas.Int.{ints, to_z-of_z}
use Rattle.std.proofs.lemmas.List.Sums.{fold_more}
use Rattle.tables.specs.declared.table.Entry.{Entry}
use Rattle.aggregates.specs.Sums.{total}

-- after i entries a sum s is what those give, and it has grown by at most 32768 with each
pub record Summed (f : Entry → ℤ) (es : List Entry) (i : ℕ) (s : ℤ) : Type 0 where
  pub is : s ≡ total f (take i es)
  pub over : pos 0 ≤ℤ (s +ℤ pos (32768 * i))
  pub under : s ≤ℤ pos (32768 * i)

module _ (f : Entry → ℤ) (es : List Entry) where
  module _ (i : ℕ) (s x : ℤ) (small : SFits w16 x) where
    sum_fits : i ≤ 16 → Summed f es i s → SFits w32 (s +ℤ x)
    sum_fits h w = let a = w.over in let b = w.under in omega (arith, ints)

    x_fits : SFits w32 x
    x_fits = omega (arith, ints)

    -- one entry more gives x
    pub summed_turn : (d : Entry) → i < length es → length es ≤ 16 → x ≡ f (get_or es i d) → Summed f es i s → Summed f es (i + 1) (to_z w32 (of_z w32 (s +ℤ to_z w32 (of_z w32 x))))
    summed_turn d h k e w = rw (to_z-of_z w32 x x_fits, to_z-of_z w32 (s +ℤ x) (sum_fits (omega arith) w)) (record {
      is = ap (λ (y : ℤ). y +ℤ x) w.is ∙ ap (λ (y : ℤ). total f (take i es) +ℤ y) e ∙ sym (fold_more (λ s e. s +ℤ f e) (pos 0) es i d h);
      over = let a = w.over in omega (arith, ints);
      under = let a = w.under in omega (arith, ints);
    })

pub summed_end : {f : Entry → ℤ} {es : List Entry} {i : ℕ} {s : ℤ} → Summed f es i s → length es ≤ i → s ≡ total f es
summed_end {f} {es} {i} w h = w.is ∙ ap (total f) (take_all i es h)
