-- Gathering: what is behind a list where none is left, where there is one only, and from what was put there for two parts.
use Rattle.std.proofs.Common.{◌≡◌, ℕ, List, [], ◌∷◌, ◌++◌, sym, ap, ◌∙◌, subst, append_assoc, append-nil}
use Rattle.solver.specs.Lists.{Lists, Gathered, GatheredFront}
use Rattle.solver.specs.Search.{Only, Joins}
use Rattle.solver.proofs.Listed.{lists_none, lists_one, lists_both}

pub gathered_none : {P : ℕ → Type 0} (old : List ℕ) → ((x : ℕ) → P x → ⊥) → Gathered P old old
gathered_none old f = record { items = []; listed = lists_none f; behind = sym (append-nil old) }

pub gathered_one : {P : ℕ → Type 0} {z : ℕ} {old new : List ℕ} → Only P z → new ≡ old ++ z ∷ [] → Gathered P old new
gathered_one {z = z} o e = record { items = z ∷ []; listed = lists_one o; behind = e }

-- memory runs short before anything is put there
pub front_none : {P : ℕ → Type 0} {all old new : List ℕ} → Lists P all → new ≡ old → GatheredFront P old new
front_none {all = all} {old = old} l e = record { items = []; rest = all; listed = l; behind = e ∙ sym (append-nil old) }

module _ {P Q R : ℕ → Type 0} (j : Joins P Q R) where
  pub gathered_both : {old mid new : List ℕ} → Gathered Q old mid → Gathered R mid new → Gathered P old new
  gathered_both {old} p q = record {
    items = p.items ++ q.items;
    listed = lists_both j p.listed q.listed;
    behind = q.behind ∙ ap (λ (l : List ℕ). l ++ q.items) p.behind ∙ append_assoc old p.items q.items;
  }

  -- memory runs short in the first part, or in the second
  pub front_first : {old new ys : List ℕ} → GatheredFront Q old new → Lists R ys → GatheredFront P old new
  front_first {ys = ys} p q = record {
    items = p.items;
    rest = p.rest ++ ys;
    listed = subst (Lists P) (append_assoc p.items p.rest ys) (lists_both j p.listed q);
    behind = p.behind;
  }

  pub front_second : {old mid new : List ℕ} → Gathered Q old mid → GatheredFront R mid new → GatheredFront P old new
  front_second {old} p q = record {
    items = p.items ++ q.items;
    rest = q.rest;
    listed = subst (Lists P) (sym (append_assoc p.items q.items q.rest)) (lists_both j p.listed q.listed);
    behind = q.behind ∙ ap (λ (l : List ℕ). l ++ q.items) p.behind ∙ append_assoc old p.items q.items;
  }
