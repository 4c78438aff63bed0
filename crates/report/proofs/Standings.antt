-- The lines of all standings and of their number, from the list in which a listing puts them.
use Rattle.std.proofs.Common.{◌≡◌, ℕ, List, [], ◌++◌, length, Option, sym, refl, ap, ◌∙◌, subst}
use Rattle.std.specs.List.{flat_map}
use Rattle.std.specs.Io.KnownBytes.{Appends}
use Rattle.std.proofs.KnownBytes.{Appends-trans}
use Rattle.std.proofs.lemmas.Bool.{false≢true}
use Rattle.approx.specs.Meanings.{Meaning}
use Rattle.approx.specs.Stability.{Stable}
use Rattle.tables.specs.declared.table.Table.{Table}
use Rattle.solver.specs.Lists.{Lists, Gathered}
use Rattle.solver.proofs.Alikeness.{Alike, lists_alike}
use Rattle.engine.specs.Histories.{in_force, Agreeing}
use Rattle.report.specs.Lines.{standing_line, total_line, listing_lines}
use Rattle.report.specs.Answers.{IsListing, AppendsSome}

-- without pegs, those that agree are those that are stable
unpegged_alike : (m : Meaning) → Alike (Agreeing m (in_force [])) (Stable m)
unpegged_alike m = record { there = λ x a. a.stable; back = λ x t. record { stable = t; obeys = λ i s e. absurd (false≢true e) } }

-- what is gathered in an empty list is the whole list
gathered_all : {P : ℕ → Type 0} {old new : List ℕ} → old ≡ [] → Gathered P old new → Lists P new
gathered_all {P} e g = subst (Lists P) (sym (g.behind ∙ ap (λ (l : List ℕ). l ++ g.items) e)) g.listed

-- the standings' lines are written, and then how many they are
pub listing_written : (text : List ℕ) (t : Table) (m : Meaning) (before all : List ℕ) (total : ℕ) (old mid new : Option (List ℕ)) → before ≡ [] → Gathered (Agreeing m (in_force [])) before all → total ≡ length all
    → Appends old mid (flat_map (standing_line text t) all) → Appends mid new (total_line total) → AppendsSome (IsListing text t m) old new
listing_written text t m before all total old mid new e g many lines last = record {
  bytes = listing_lines text t all;
  right = record { standings = all; listed = lists_alike (unpegged_alike m) (gathered_all e g); is = refl };
  appended = Appends-trans old mid new (flat_map (standing_line text t) all) (total_line (length all)) lines (subst (λ (n : ℕ). Appends mid new (total_line n)) many last);
}
