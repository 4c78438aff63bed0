-- What a set trips, and that a larger set trips more.
use Rattle.std.proofs.Common.{◌≡◌, ℕ, ◌<◌, true, eqb}
use lib.Bits.{bit_and}
use Rattle.std.proofs.lemmas.Bool.{not-true, not_from_false, eqb-false, ne_eqb}
use Rattle.atoms.specs.Sets.{Has, Within}
use Rattle.atoms.proofs.Collecting.{collected_in, collected_from}
use Rattle.atoms.proofs.Lacking.{apart_from, common_atom}
use Rattle.layers.specs.Triggers.{triggers_of, Trips, trips, tripped}
use Rattle.layers.specs.declared.triggers.TriggerTable.{TriggerTable}

-- ---- one atom
module _ (t : TriggerTable) (s i : ℕ) where
  pub trips_then : trips t s i ≡ true → Trips t s i
  trips_then e =
      let both : ℕ = bit_and (triggers_of t i) s in
      let r = common_atom (triggers_of t i) s (eqb-false both 0 (not-true (eqb both 0) e)) in
      record { trigger = r.0; its = r.1.0; here = r.1.1 }

  pub then_trips : Trips t s i → trips t s i ≡ true
  then_trips p =
      let both : ℕ = bit_and (triggers_of t i) s in
      not_from_false (eqb both 0) (ne_eqb both 0 (λ e. apart_from (triggers_of t i) s e p.trigger p.its p.here))

-- ---- the atoms that are tripped
pub tripped_has : (t : TriggerTable) (w s i : ℕ) → Has (tripped t w s) i → (i < w) × Trips t s i
tripped_has t w s i h = let c = collected_from (trips t s) w i h in (c.0, trips_then t s i c.1)

pub tripped_all : (t : TriggerTable) (w s i : ℕ) → i < w → Trips t s i → Has (tripped t w s) i
tripped_all t w s i k p = collected_in (trips t s) w i k (then_trips t s i p)

pub tripped_up : (t : TriggerTable) (w : ℕ) {s z : ℕ} → Within s z → Within (tripped t w s) (tripped t w z)
tripped_up t w {s} {z} p = record {
  at = λ i h.
      let c = tripped_has t w s i h in
      tripped_all t w z i c.0 (record { trigger = c.1.trigger; its = c.1.its; here = p.at c.1.trigger c.1.here });
}
