-- The atom that a word names is the position of the first name that is the word.
use Rattle.std.proofs.Common.{◌≡◌, ℕ, ◌+◌, cond, List, [], ◌∷◌, map, Some, refl, ap, ◌∙◌}
use Rattle.std.specs.List.{position, position_from}
use Rattle.std.specs.Str.{bytes_eq}
use Rattle.std.proofs.lemmas.Iterator.Adapters.{position_from-zero}
use Rattle.text.specs.Names.{atom_among}

-- of items that each stand for a name, as references do and places of a text
module _ {X : Type 0} (name_of : X → List ℕ) (word : List ℕ) where
  called_from : (number : ℕ) (items : List X) → position_from (λ x. bytes_eq (name_of x) word) number items ≡ atom_among number (map name_of items) word
  called_from number [] = refl
  called_from number (x ∷ items) = ap (cond (bytes_eq (name_of x) word) (Some number)) (called_from (number + 1) items)

  pub called : (items : List X) → position (λ x. bytes_eq (name_of x) word) items ≡ atom_among 0 (map name_of items) word
  called items = position_from-zero {B = X} (λ x. bytes_eq (name_of x) word) items ∙ called_from 0 items
