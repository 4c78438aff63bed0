use Rattle.std.proofs.Common.{◌≡◌, ◌≢◌, ℕ, ◌<◌, List, ◌∷◌, ◌++◌, length, get_or, Some, None, Option, IfNone, codes, append_assoc, sym, ◌∙◌, ap, subst, lit<, Bor}
use Rattle.std.specs.Option.{MatchOption}
use Rattle.std.proofs.lemmas.Str.Pattern.{IsSplitOnceResult, split_after, split_parts}
use Rattle.engine.specs.declared.pegs.Sense.{Sense}
use Rattle.keeper.specs.Texts.{side_word}
use Rattle.keeper.specs.Commands.{named_text, IsOneWord}
use Rattle.keeper.proofs.command.named.Goals as goal

if_none : {A P : Type 0} (o : Option A) → P → IfNone o P
if_none None p = p
if_none (Some x) p = tt

-- what a split at the first space tells of a name and a side
around : (words : List ℕ) (r : Option (Bor (List ℕ) × Bor (List ℕ))) → IsSplitOnceResult 32 words r → (name : List ℕ) (s : Sense) → IsOneWord name → words ≡ named_text name s → MatchOption r ⊥ (λ x. (x.0.now ≡ name) × (x.1.now ≡ side_word s))
around words r h name s w e = split_after 32 words name (side_word s) r h (lit< tt) (e ∙ append_assoc name (codes " ") (side_word s)) w

unsplit : (words : List ℕ) (r : Option (Bor (List ℕ) × Bor (List ℕ))) → IsSplitOnceResult 32 words r → r ≡ None → (name : List ℕ) (s : Sense) → IsOneWord name → words ≢ named_text name s
unsplit words r h n name s w e = subst (λ (o : Option (Bor (List ℕ) × Bor (List ℕ))). MatchOption o ⊥ (λ x. (x.0.now ≡ name) × (x.1.now ≡ side_word s))) n (around words r h name s w e)

no_side : (words : List ℕ) (r : Option (Bor (List ℕ) × Bor (List ℕ))) (x : Bor (List ℕ) × Bor (List ℕ)) → IsSplitOnceResult 32 words r → r ≡ Some x → ((s : Sense) → x.1.now ≢ side_word s) → (name : List ℕ) (s : Sense) → IsOneWord name → words ≢ named_text name s
no_side words r x h n not name s w e = not s (subst (λ (o : Option (Bor (List ℕ) × Bor (List ℕ))). MatchOption o ⊥ (λ x. (x.0.now ≡ name) × (x.1.now ≡ side_word s))) n (around words r h name s w e)).1

a_side : (words : List ℕ) (r : Option (Bor (List ℕ) × Bor (List ℕ))) (x : Bor (List ℕ) × Bor (List ℕ)) (s : Sense) → IsSplitOnceResult 32 words r → r ≡ Some x → x.1.now ≡ side_word s → (words ≡ named_text x.0.now s) × IsOneWord x.0.now
a_side words r x s h n e =
    let parts = subst (λ (o : Option (Bor (List ℕ) × Bor (List ℕ))). MatchOption o ((i : ℕ) → i < length words → get_or words i 0 ≢ 32) (λ x. (words ≡ x.0.now ++ (32 ∷ x.1.now)) × IsOneWord x.0.now)) n (split_parts 32 words r h (lit< tt)) in
    (parts.0 ∙ ap (λ (t : List ℕ). x.0.now ++ (32 ∷ t)) e ∙ sym (append_assoc x.0.now (codes " ") (side_word s)), parts.1)

pub returns-in_err-name-clause-none : goal.returns-in_err-name-clause-none
returns-in_err-name-clause-none c = if_none c.from_residual.result (unsplit c.args.words.now c.split_once.result c.split_once.ensures.cases c.in_err-name.was)

pub returns-in_err-side_of-clause-none : goal.returns-in_err-side_of-clause-none
returns-in_err-side_of-clause-none c = if_none c.from_residual-in_err-side_of.result (no_side c.args.words.now c.split_once.result (c.in_ok-name.name, c.in_ok-name.side) c.split_once.ensures.cases c.in_ok-name.was c.in_err-side_of.ensures.none)

pub returns-clause-some : goal.returns-clause-some
returns-clause-some c = a_side c.args.words.now c.split_once.result (c.in_ok-name.name, c.in_ok-name.side) c.in_ok-side_of.field-0 c.split_once.ensures.cases c.in_ok-name.was c.in_ok-side_of.ensures.some
