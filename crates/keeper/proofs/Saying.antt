-- The words of a line are those of the command that it says.
use Rattle.std.proofs.Common.{◌≡◌, ℕ, ◌==◌, false, List, [], ◌∷◌, get_or, codes, sym, refl, ap, ◌∙◌, append_assoc}
use Rattle.std.specs.List.{All, slice_split}
use Rattle.std.proofs.lemmas.Bool.{ne_eqb}
use Rattle.std.proofs.lemmas.List.{get_or_default}
use Rattle.std.proofs.lemmas.List.Splits.{slice_split_at}
use Rattle.engine.specs.declared.pegs.Sense.{Sense}
use Rattle.engine.specs.declared.pegs.Sense.TheVariants as sense
use Rattle.keeper.specs.Texts.{side_word}
use Rattle.keeper.specs.Commands.{named_text, IsOneWord, Says, SaysOne, words_of}
use Rattle.keeper.specs.declared.command.Command.{Command}
use Rattle.keeper.specs.declared.command.Command.TheVariants as command

-- the pieces between spaces
abbrev pieces : List ℕ → List (List ℕ)
pieces line = slice_split (λ byte. byte == 32) line

no_space : (name : List ℕ) → IsOneWord name → All (λ byte. (byte == 32) ≡ false) name
no_space name w k d l = ne_eqb (get_or name k d) 32 (λ e. w k l (sym (get_or_default name k d 0 l) ∙ e))

side_pieces : (s : Sense) → pieces (side_word s) ≡ side_word s ∷ []
side_pieces sense.On = refl
side_pieces sense.Off = refl

named_pieces : (name : List ℕ) (s : Sense) → IsOneWord name → pieces (named_text name s) ≡ name ∷ side_word s ∷ []
named_pieces name s w =
    ap pieces (append_assoc name (codes " ") (side_word s))
    ∙ slice_split_at (λ byte. byte == 32) name 32 (side_word s) (no_space name w) refl
    ∙ ap (λ (rest : List (List ℕ)). name ∷ rest) (side_pieces s)

text_pieces : (line : List ℕ) (c : Command) → Says line c → pieces line ≡ words_of c
text_pieces line command.Next says = ap pieces says.text
text_pieces line (command.Peg name s) says = ap pieces says.text ∙ ap (λ (rest : List (List ℕ)). codes "peg" ∷ rest) (named_pieces name.now s says.word)
text_pieces line (command.Pull name s) says = ap pieces says.text ∙ ap (λ (rest : List (List ℕ)). codes "pull" ∷ rest) (named_pieces name.now s says.word)
text_pieces line command.Rewind says = ap pieces says.text
text_pieces line command.Tally says = ap pieces says.text
text_pieces line command.Marks says = ap pieces says.text
text_pieces line command.Close says = ap pieces says.text

-- so there is one command only
pub says_one : (line : List ℕ) → SaysOne line
says_one line c d a b = sym (text_pieces line c a) ∙ text_pieces line d b
