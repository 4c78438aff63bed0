-- The laws of an approximator, for every reading that keeps its own.
use Rattle.std.proofs.Common.{◌≡◌, ℕ, ◌^◌, true, false, sym, ap, ◌∙◌, ap₂, inl, inr, arith}
use native.Mathlib.Nat.{mod-mod}
use Rattle.std.proofs.lemmas.Bool.{cases_Bool, both_ways}
use Rattle.atoms.specs.Sets.{Within, clipped}
use Rattle.atoms.proofs.Inclusion.{within_antisym, within_mod}
use Rattle.approx.proofs.Laws.{Lawful}
use Rattle.tables.specs.declared.table.Aggregate.{Aggregate}
use Rattle.aggregates.specs.Laws.{Laws}
use Rattle.aggregates.specs.declared.reading.Reading.{Ghosts}
use Rattle.programs.specs.Tables.{width_of, aggregates_of}
use Rattle.programs.specs.Deriving.{derived, passing}
use Rattle.programs.specs.Programs.{Verdict, surely, perhaps, table_meaning, program_meaning}
use Rattle.programs.specs.declared.program.RuleProgram.{RuleProgram}
use Rattle.programs.specs.declared.clause.Grounds.{Grounds}
use Rattle.programs.specs.declared.rules.RuleTable.{RuleTable}
use Rattle.programs.specs.Following.{derived_up, derived_below, passing_up}

-- what is needed of the verdicts of a reading, and its laws give: on equal bounds one answer, whether it is the truth or not
record Honest (sure may : Verdict) : Type 0 where
  truth : (a : Aggregate) (z : ℕ) → sure a z z ≡ may a z z
  precise : (a : Aggregate) (l k v u : ℕ) → Within l k → Within k v → Within v u → (sure a l u ≡ true → sure a k v ≡ true) × (may a l u ≡ false → may a k v ≡ false)

module _ {sure may : Verdict} (honest : Honest sure may) (t : RuleTable) where
  abbrev cut : ℕ → ℕ
  cut s = clipped (width_of t) s

  cut_twice : (s : ℕ) → cut s ≡ cut (cut s)
  cut_twice s = sym (mod-mod s (2 ^ width_of t))

  -- may that was yes stays yes as the bounds widen
  widens : (a : Aggregate) {l k v u : ℕ} → Within l k → Within k v → Within v u → may a k v ≡ true → may a l u ≡ true
  widens a {l} {k} {v} {u} p q r e = elim (cases_Bool (may a l u)) [ inl y ↦ y | inr n ↦ absurd (both_ways (may a k v) ((honest.precise a l k v u p q r).1 n) e) ]

  same_passing : (z : ℕ) → passing (λ a. sure a z z) (aggregates_of t) ≡ passing (λ a. may a z z) (aggregates_of t)
  same_passing z = within_antisym
      (passing_up (λ a. sure a z z) (λ a. may a z z) (aggregates_of t) (λ a e. sym (honest.truth a z) ∙ e))
      (passing_up (λ a. may a z z) (λ a. sure a z z) (aggregates_of t) (λ a e. honest.truth a z ∙ e))

  -- what a rule is held against between two bounds
  abbrev on : Verdict → ℕ → ℕ → ℕ → ℕ → Grounds
  on verdict held possible l u = record { held = held; possible = possible; holding = passing (λ a. verdict a l u) (aggregates_of t) }

  surely_up : {l k v u : ℕ} → Within l k → Within k v → Within v u → Within (surely sure t l u) (surely sure t k v)
  surely_up {l} {k} {v} {u} p q r = derived_up t (on sure l u l u) (on sure k v k v) p r (passing_up _ _ (aggregates_of t) (λ a. (honest.precise a l k v u p q r).0))

  perhaps_down : {l k v u : ℕ} → Within l k → Within k v → Within v u → Within (perhaps may t k v) (perhaps may t l u)
  perhaps_down {l} {k} {v} {u} p q r = derived_up t (on may v k k v) (on may u l l u) r p (passing_up _ _ (aggregates_of t) (λ a. widens a p q r))

  table_lawful : Lawful (table_meaning sure may t)
  table_lawful = record {
    wide = (omega arith, omega arith);
    exact = λ z. ap (λ (j : ℕ). derived t (record { held = cut z; possible = cut z; holding = j })) (same_passing (cut z));
    precise = λ l k v u p q r.
        let p' = within_mod (width_of t) p in
        let q' = within_mod (width_of t) q in
        let r' = within_mod (width_of t) r in
        (surely_up p' q' r', perhaps_down p' q' r');
    below = λ l u p. (derived_below t (on sure (cut l) (cut u) (cut l) (cut u)), derived_below t (on may (cut u) (cut l) (cut l) (cut u)));
    ignores = λ l u p. (ap₂ (surely sure t) (cut_twice l) (cut_twice u), ap₂ (perhaps may t) (cut_twice l) (cut_twice u));
  }

-- the meaning of every program keeps the laws, by the laws of its reading
pub program_lawful : {X : Type 0} (G : Ghosts X) → ((r : X) → Laws (G.sure r) (G.may r)) → (p : RuleProgram X) → Lawful (program_meaning G p)
program_lawful G laws p =
    let own = laws p.reading in
    table_lawful (record { truth = λ a z. let h = own.truth a z in h.0 ∙ sym h.1; precise = own.precise }) p.table
