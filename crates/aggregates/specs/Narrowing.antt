-- What narrower bounds say of a condition: the same, unless it was open.
use Rattle.std.specs.Prelude.{◌≡◌, ℕ, Bool, true, false, cond, ◌⊎◌, refl}
use Rattle.std.proofs.Common.{ap, ◌∙◌, inl, inr}
use Rattle.std.proofs.lemmas.Bool.{false≢true, eqb-true, eq-eqb}
use Rattle.atoms.specs.Sets.{digit, has, Within}
use Rattle.atoms.specs.declared.bounds.State.{State}
use Rattle.atoms.specs.declared.bounds.State.TheVariants as state
use Rattle.tables.specs.declared.table.Entry.{Entry}
use Rattle.aggregates.specs.declared.condition.Condition.TheVariants.{Open}
use Rattle.aggregates.specs.Conditions.{judged, condition, undecided}

-- ---- an atom, by whether it is in the lower and in the upper
abbrev on_off : Bool → Bool → State
on_off low high = cond low state.On (cond high state.Open state.Off)

state_stays : (a b c d : Bool) → (a ≡ true → c ≡ true) → (c ≡ true → d ≡ true) → (d ≡ true → b ≡ true) → (on_off a b ≡ on_off c d) ⊎ (on_off a b ≡ state.Open)
state_stays true b true d p q r = inl refl
state_stays true b false d p q r = absurd (false≢true (p refl))
state_stays false true c d p q r = inr refl
state_stays false false c true p q r = absurd (false≢true (r refl))
state_stays false false true false p q r = absurd (false≢true (q refl))
state_stays false false false false p q r = inl refl

-- ---- a condition
judged_open : (n : Bool) → judged n state.Open ≡ Open
judged_open true = refl
judged_open false = refl

judged_decided : (n b : Bool) → undecided (judged n (on_off b b)) ≡ false
judged_decided true true = refl
judged_decided true false = refl
judged_decided false true = refl
judged_decided false false = refl

has_up : {s t : ℕ} (i : ℕ) → Within s t → has s i ≡ true → has t i ≡ true
has_up {s} {t} i p h = eq-eqb (digit t i) 1 (p.at i (eqb-true (digit s i) 1 h))

pub condition_stays : (e : Entry) {l k v u : ℕ} → Within l k → Within k v → Within v u → (condition e l u ≡ condition e k v) ⊎ (condition e l u ≡ Open)
condition_stays e {l} {k} {v} {u} p q r = elim (state_stays (has l e.atom) (has u e.atom) (has k e.atom) (has v e.atom) (has_up e.atom p) (has_up e.atom q) (has_up e.atom r)) [
  | inl h ↦ inl (ap (judged e.negated) h)
  | inr h ↦ inr (ap (judged e.negated) h ∙ judged_open e.negated)
]

-- on one interpretation no condition is open
pub condition_decided : (e : Entry) (z : ℕ) → undecided (condition e z z) ≡ false
condition_decided e z = judged_decided e.negated (has z e.atom)
