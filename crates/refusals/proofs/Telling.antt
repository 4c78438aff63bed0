-- Answers that tell: which are granted exactly by what is lawful, and refused exactly by what is faulty; and how such answers are put together.
use Rattle.std.proofs.Common.{◌≡◌, Bool, true, false, cond, ◌⊎◌, Ok, Err, Result, sym, refl, ap, ◌∙◌, inl, inr, ⊎_elim, true≢false}
use mathlib.Core.Bool.{false≢true}
use Rattle.faults.specs.declared.SheetFault.{SheetFault}
use Rattle.grammar.specs.Verdicts.{onward}

-- an answer is granted with what is lawful, and refused with what is faulty
pub record Tells {X E : Type 0} (r : Result X E) (Lawful : X → Type 0) (Faulty : E → Type 0) : Type 0 where
  pub lawful : (x : X) → r ≡ Ok x → Lawful x
  pub granted : (x : X) → Lawful x → r ≡ Ok x
  pub faulty : (f : E) → r ≡ Err f → Faulty f
  pub refused : (f : E) → Faulty f → r ≡ Err f

-- a test that is true where P holds and false where Q holds
pub record Parts (b : Bool) (P Q : Type 0) : Type 0 where
  pub then : b ≡ true → P
  pub true_by : P → b ≡ true
  pub else : b ≡ false → Q
  pub false_by : Q → b ≡ false

-- no answer is both granted and refused
pub not_both : {X E : Type 0} {x : X} {y : E} → Ok x ≡ Err y → ⊥
not_both e = cc

module _ {X E : Type 0} where
  -- the same in other words
  pub tells_like : {r : Result X E} {L L' : X → Type 0} {F F' : E → Type 0} → Tells r L F
      → ((x : X) → L x → L' x) → ((x : X) → L' x → L x) → ((f : E) → F f → F' f) → ((f : E) → F' f → F f) → Tells r L' F'
  tells_like t to_l from_l to_f from_f = record {
    lawful = λ x e. to_l x (t.lawful x e);
    granted = λ x l. t.granted x (from_l x l);
    faulty = λ f e. to_f f (t.faulty f e);
    refused = λ f b. t.refused f (from_f f b);
  }

  pub tells_ok : (x : X) → Tells {X = X} {E = E} (Ok x) (λ y. x ≡ y) (λ f. ⊥)
  tells_ok x = record { lawful = λ y e. cc; granted = λ y e. ap Ok e; faulty = λ f e. not_both e; refused = λ f b. absurd b }

  pub tells_err : (g : E) → Tells {X = X} {E = E} (Err g) (λ y. ⊥) (λ f. f ≡ g)
  tells_err g = record { lawful = λ y e. not_both (sym e); granted = λ y b. absurd b; faulty = λ f e. cc; refused = λ f e. ap Err (sym e) }

  -- one of two answers, by a test
  pub tells_cond : (b : Bool) {P Q : Type 0} {r s : Result X E} {L M : X → Type 0} {F G : E → Type 0} → Parts b P Q → (P → Tells r L F) → (Q → Tells s M G)
      → Tells (cond b r s) (λ x. (P × L x) ⊎ (Q × M x)) (λ f. (P × F f) ⊎ (Q × G f))
  tells_cond true parts t u = record {
    lawful = λ x e. inl (parts.then refl, (t (parts.then refl)).lawful x e);
    granted = λ x. ⊎_elim (λ h. (t h.0).granted x h.1) (λ h. absurd (true≢false (parts.false_by h.0)));
    faulty = λ f e. inl (parts.then refl, (t (parts.then refl)).faulty f e);
    refused = λ f. ⊎_elim (λ h. (t h.0).refused f h.1) (λ h. absurd (true≢false (parts.false_by h.0)));
  }
  tells_cond false parts t u = record {
    lawful = λ x e. inr (parts.else refl, (u (parts.else refl)).lawful x e);
    granted = λ x. ⊎_elim (λ h. absurd (false≢true (parts.true_by h.0))) (λ h. (u h.0).granted x h.1);
    faulty = λ f e. inr (parts.else refl, (u (parts.else refl)).faulty f e);
    refused = λ f. ⊎_elim (λ h. absurd (false≢true (parts.true_by h.0))) (λ h. (u h.0).refused f h.1);
  }

-- the two ways of an answer that goes on by what was read
module _ {X Y : Type 0} where
  pub onward_ok : (r : Result X SheetFault) (go : X → Result Y SheetFault) (y : Y) → onward r go ≡ Ok y → (x : X) × (r ≡ Ok x) × (go x ≡ Ok y)
  onward_ok (Ok x) go y e = (x, refl, e)
  onward_ok (Err f) go y e = absurd (not_both (sym e))

  pub onward_err : (r : Result X SheetFault) (go : X → Result Y SheetFault) (f : SheetFault) → onward r go ≡ Err f → (r ≡ Err f) ⊎ ((x : X) × (r ≡ Ok x) × (go x ≡ Err f))
  onward_err (Ok x) go f e = inr (x, refl, e)
  onward_err (Err g) go f e = inl (cc)

  -- what is read, and then what is read by it
  pub tells_onward : (r : Result X SheetFault) (go : X → Result Y SheetFault) {L : X → Type 0} {M : X → Y → Type 0} {F : SheetFault → Type 0} {G : X → SheetFault → Type 0}
      → Tells r L F → ((x : X) → Tells (go x) (M x) (G x))
      → Tells (onward r go) (λ y. (x : X) × L x × M x y) (λ f. F f ⊎ ((x : X) × L x × G x f))
  tells_onward r go t u = record {
    lawful = λ y e. let p = onward_ok r go y e in (p.0, t.lawful p.0 p.1, (u p.0).lawful y p.2);
    granted = λ y p. ap (λ q. onward q go) (t.granted p.0 p.1) ∙ (u p.0).granted y p.2;
    faulty = λ f e. ⊎_elim (λ p. inl (t.faulty f p)) (λ p. inr (p.0, t.lawful p.0 p.1, (u p.0).faulty f p.2)) (onward_err r go f e);
    refused = λ f. ⊎_elim (λ b. ap (λ q. onward q go) (t.refused f b)) (λ p. ap (λ q. onward q go) (t.granted p.0 p.1) ∙ (u p.0).refused f p.2);
  }
