-- What a table says of the record that it is made from, and that it is normal where the record names atoms below the width only.
use Rattle.std.proofs.Common.{◌≡◌, ℕ, ◌%◌, ◌^◌, ◌<◌, List, [], ◌∷◌, map, sym, refl, ◌∙◌, subst, inl, inr, mod-lt, arith, pow_pos}
use Rattle.atoms.specs.Sets.{Has, Within}
use Rattle.atoms.proofs.Digits.{empty_zero, lacks_from, mod_digit}
use Rattle.atoms.proofs.Inclusion.{within_le}
use Rattle.tables.proofs.Laid.{in_use_laid}
use Rattle.tables.specs.declared.table.Item.TheVariants.{Atom, NotAtom, Aggregate}
use Rattle.tables.specs.declared.table.Rule.{Rule}
use Rattle.tables.specs.declared.table.Table.{Table}
use Rattle.programs.specs.Clauses.{Among, clause_of, AllSay}
use Rattle.programs.specs.Tables.{zero_clause, rule_table, rules_of, clauses_of, width_of}
use Rattle.programs.specs.Normal.{Normal, NormalRules, NormalRule, NormalSheet}
use Rattle.programs.specs.Gathering.{clause_says}

-- a set of atoms below w is below 2 ^ w
atoms_below : (w s : ℕ) → ((i : ℕ) → Has s i → i < w) → s < 2 ^ w
atoms_below w s f =
    let low : Within s (s % 2 ^ w) = record { at = λ i h. mod_digit s w i (f i h) ∙ h } in
    omega (arith, within_le low, mod-lt s (pow_pos w))

clause_normal : (w : ℕ) (r : Rule) → NormalRule w r → Normal w (clause_of r)
clause_normal w r n =
    let says = clause_says r in
    record {
      head = n.head;
      needed = atoms_below w _ (λ i h. n.items (Atom i) ((says.needed i).0 h).1);
      barred = atoms_below w _ (λ i h. n.items (NotAtom i) ((says.barred i).0 h).1);
      aggregates = empty_zero _ (λ i. lacks_from _ i (λ h. n.items (Aggregate i) ((says.aggregates i).0 h).1));
    }

-- a member of a mapped list comes from a member
among_map : {X Y : Type 0} (f : X → Y) (xs : List X) (y : Y) → Among y (map f xs) → (x : X) × ((Among x xs) × (y ≡ f x))
among_map f [] y m = absurd m
among_map f (x ∷ xs) y (inl e) = (x, (inl refl, e))
among_map f (x ∷ xs) y (inr m) = let o = among_map f xs y m in (o.0, (inr o.1.0, o.1.1))

-- the clauses in use of a rule table are those of the record's rules
table_clauses : (t : Table) → clauses_of (rule_table t) ≡ map clause_of (rules_of t)
table_clauses t = in_use_laid 128 zero_clause (map clause_of (rules_of t))

all_say : (rs : List Rule) → AllSay rs (map clause_of rs)
all_say [] = tt
all_say (r ∷ rs) = (clause_says r, all_say rs)

pub table_says : (t : Table) → AllSay (rules_of t) (clauses_of (rule_table t))
table_says t = subst (AllSay (rules_of t)) (sym (table_clauses t)) (all_say (rules_of t))

pub table_normal : (t : Table) → NormalSheet t → NormalRules (rule_table t)
table_normal t n c m =
    let o = among_map clause_of (rules_of t) c (subst (Among c) (table_clauses t) m) in
    subst (Normal (width_of (rule_table t))) (sym o.1.1) (clause_normal (width_of (rule_table t)) o.0 (n o.0 o.1.0))
