-- The rules that an accepted text writes name marks below the width only.
use Rattle.std.proofs.Common.{◌≡◌, ℕ, List, [], ◌∷◌, map, length, sym, ap, ◌∙◌, subst, inl, inr, arith}
use Rattle.std.specs.List.{AllByRecursion}
use Rattle.atoms.specs.Sets.{width_read}
use Rattle.tables.specs.declared.table.Item.{Item}
use Rattle.tables.specs.declared.table.Item.TheVariants.{Atom, NotAtom, Aggregate}
use Rattle.tables.specs.declared.table.Rule.{Rule}
use Rattle.tables.specs.Tables.{zero_item, zero_rule}
use Rattle.tables.proofs.Laid.{in_use_laid}
use Rattle.programs.specs.Clauses.{Among, items_of}
use Rattle.programs.specs.Normal.{NormalItem, NormalRule, NormalSheet}
use Rattle.programs.specs.Tables.{rules_of}
use Rattle.programs.proofs.Naming.{table_normal}
use Rattle.written.specs.Sheets.{RuleLine, Sheet, LawfulItem, LawfulRule}
use Rattle.written.specs.Writing.{rule_row}
use Rattle.classics.specs.Sheets.{SheetsNormal}

-- a row among those of some lines is the row of a line of which the same holds
row_of : (P : RuleLine → Type 0) (r : Rule) (lines : List RuleLine) → AllByRecursion P lines → Among r (map rule_row lines) → (line : RuleLine) × ((r ≡ rule_row line) × P line)
row_of P r [] all m = absurd m
row_of P r (line ∷ lines) all (inl e) = (line, (e, all.0))
row_of P r (line ∷ lines) all (inr m) = row_of P r lines all.1 m

item_of : (P : Item → Type 0) (x : Item) (xs : List Item) → AllByRecursion P xs → Among x xs → P x
item_of P x [] all m = absurd m
item_of P x (y ∷ ys) all (inl e) = subst P (sym e) all.0
item_of P x (y ∷ ys) all (inr m) = item_of P x ys all.1 m

module _ (atoms loads : ℕ) (line : RuleLine) (lawful : LawfulRule atoms loads line) (free : (n : ℕ) → Among (Aggregate n) (items_of (rule_row line)) → ⊥) where
  written_items : items_of (rule_row line) ≡ line.items
  written_items = in_use_laid 16 zero_item line.items

  normal_item : (x : Item) → Among x (items_of (rule_row line)) → LawfulItem atoms loads x → NormalItem atoms x
  normal_item (Atom a) m h = h
  normal_item (NotAtom a) m h = h
  normal_item (Aggregate n) m h = free n m

  line_normal : NormalRule atoms (rule_row line)
  line_normal = record {
    head = lawful.known;
    items = λ x m. normal_item x m (item_of (LawfulItem atoms loads) x line.items lawful.each (subst (Among x) written_items m));
  }

pub sheets_normal : SheetsNormal
sheets_normal text t w free = table_normal t normal
  where
    s : Sheet
    s = w.sheet

    wide : width_read t.width ≡ length s.names
    wide =
        let e : t.width ≡ length s.names = sym (ap (λ x. x.width) w.filled) in
        let low = w.lawful.some_names in
        let high = w.lawful.few_names in
        omega (arith, e, low, high)

    rows : rules_of t ≡ map rule_row s.rules
    rows = sym (ap rules_of w.filled) ∙ in_use_laid 128 zero_rule (map rule_row s.rules)

    normal : NormalSheet t
    normal r m =
        let o = row_of (LawfulRule (length s.names) (length s.loads)) r s.rules w.lawful.rules (subst (Among r) rows m) in
        subst (λ (n : ℕ). NormalRule n r) (sym wide)
        (subst (NormalRule (length s.names)) (sym o.1.0)
        (line_normal (length s.names) (length s.loads) o.0 o.1.1 (λ n i. free r m n (subst (λ x. Among (Aggregate n) (items_of x)) (sym o.1.0) i))))
