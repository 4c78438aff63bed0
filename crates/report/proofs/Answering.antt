-- The whole answer, put together from what was written.
use Rattle.std.proofs.Common.{◌≡◌, ℕ, ◌<◌, Bool, true, false, cond, ltb, List, ◌++◌, Ok, Err, Option, Result, sym, refl, ap, ◌∙◌, subst, inl, inr, arith}
use Rattle.std.specs.Io.KnownBytes.{Appends}
use Rattle.std.proofs.KnownBytes.{Appends-trans}
use Rattle.std.proofs.lemmas.Bool.{ltb-true, lt-ltb, false≢true}
use Rattle.atoms.specs.Bounded.{open_count}
use Rattle.atoms.specs.declared.bounds.Bounds.{Bounds}
use Rattle.approx.specs.Meanings.{Meaning, meaning}
use Rattle.approx.specs.Settling.{Settles}
use Rattle.approx.specs.declared.approximator.Approximator.{Ghosts}
use Rattle.faults.specs.declared.BenchFault.{BenchFault}
use Rattle.faults.specs.declared.BenchFault.TheVariants.{TooManyOpen}
use Rattle.faults.specs.declared.SheetFault.{SheetFault}
use Rattle.faults.specs.declared.Refused.{Refused}
use Rattle.tables.specs.declared.table.Table.{Table}
use Rattle.sheet.specs.Reads.{table_after}
use Rattle.engine.specs.Listings.{fresh, list_gives}
use Rattle.engine.specs.declared.board.Settled.{Settled}
use Rattle.engine.specs.declared.listing.Listing.{Listing}
use Rattle.report.specs.Sheets.{SettlesTo}
use Rattle.report.specs.Lines.{state_lines, refusal_line}
use Rattle.report.specs.Answers.{IsListing, IsSettledAnswer, IsAnswerBy, AppendsSome}

-- ---- after the states
module _ {X : Type 0} (s : Settled X) where
  abbrev too_many : Refused (Settled X)
  too_many = record { fault = TooManyOpen (open_count s.bounds); back = s }

  few_open : (b : Bool) (x : Listing X) → Ok x ≡ cond b (Err too_many) (Ok (fresh s)) → (b ≡ false) × (x.pile ≡ s.pile)
  few_open true x e = absurd (let k : ⊥ = cc in k)
  few_open false x e = let same : x ≡ fresh s = cc in (refl, ap (λ (l : Listing X). l.pile) same)

  many_open : (b : Bool) (r : Refused (Settled X)) → Err r ≡ cond b (Err too_many) (Ok (fresh s)) → (b ≡ true) × (r.fault ≡ TooManyOpen (open_count s.bounds))
  many_open true r e = let same : r ≡ too_many = cc in (refl, ap (λ (f : Refused (Settled X)). f.fault) same)
  many_open false r e = absurd (let k : ⊥ = cc in k)

module _ {X : Type 0} (G : Ghosts X) (text : List ℕ) (t : Table) (s : Settled X) (settles : Settles (meaning G s.pile) s.bounds) (b : Bounds) (same : b ≡ s.bounds) (old mid new : Option (List ℕ)) (states : Appends old mid (state_lines text t b)) where
  states_written : Appends old mid (state_lines text t s.bounds)
  states_written = subst (λ (c : Bounds). Appends old mid (state_lines text t c)) same states

  -- the listing follows
  pub listed_answer : (x : Listing X) → Ok x ≡ list_gives s → AppendsSome (IsListing text t (meaning G x.pile)) mid new → AppendsSome (IsSettledAnswer text t (meaning G s.pile)) old new
  listed_answer x e rest =
      let few = few_open s (ltb 16 (open_count s.bounds)) x e in
      record {
        bytes = state_lines text t s.bounds ++ rest.bytes;
        right = record {
          bounds = s.bounds;
          settled = settles;
          rest = rest.bytes;
          listed = λ n. subst (λ (a : X). IsListing text t (meaning G a) rest.bytes) few.1 rest.right;
          refused = λ many. absurd (false≢true (sym few.0 ∙ lt-ltb 16 (open_count s.bounds) many));
          is = refl;
        };
        appended = Appends-trans old mid new (state_lines text t s.bounds) rest.bytes states_written rest.appended;
      }

  -- a refusal follows
  pub refused_answer : (r : Refused (Settled X)) → Err r ≡ list_gives s → (fault : BenchFault) → fault ≡ r.fault → Appends mid new (refusal_line fault) → AppendsSome (IsSettledAnswer text t (meaning G s.pile)) old new
  refused_answer r e fault f w =
      let many = many_open s (ltb 16 (open_count s.bounds)) r e in
      let more : 16 < open_count s.bounds = ltb-true 16 (open_count s.bounds) many.0 in
      record {
        bytes = state_lines text t s.bounds ++ refusal_line fault;
        right = record {
          bounds = s.bounds;
          settled = settles;
          rest = refusal_line fault;
          listed = λ few. absurd (omega (arith, few, more));
          refused = λ h. ap refusal_line (f ∙ many.1);
          is = refl;
        };
        appended = Appends-trans old mid new (state_lines text t s.bounds) (refusal_line fault) states_written w;
      }

-- ---- by the verdict
module _ {X : Type 0} (G : Ghosts X) where
  pub board_answer : (v : Result Table SheetFault) (text : List ℕ) (old table : Table) (board : Settled X) (a b : Option (List ℕ)) → table ≡ table_after old v → SettlesTo G v (Ok board) → AppendsSome (IsSettledAnswer text table (meaning G board.pile)) a b → AppendsSome (IsAnswerBy text v) a b
  board_answer (Ok t) text old table board a b e s w = record {
    bytes = w.bytes;
    right = inl (subst (λ (m : Meaning). IsSettledAnswer text t m w.bytes) s.is.means (subst (λ (u : Table). IsSettledAnswer text u (meaning G board.pile) w.bytes) e w.right));
    appended = w.appended;
  }
  board_answer (Err f) text old table board a b e s w = absurd s.is

  pub fault_answer : (v : Result Table SheetFault) (text : List ℕ) (fault : BenchFault) (a b : Option (List ℕ)) → SettlesTo G v (Err fault) → Appends a b (refusal_line fault) → AppendsSome (IsAnswerBy text v) a b
  fault_answer (Ok t) text fault a b s w = record { bytes = refusal_line fault; right = inr (record { crosses = s.is.crosses; is = ap refusal_line s.is.is }); appended = w }
  fault_answer (Err f) text fault a b s w = record { bytes = refusal_line fault; right = ap refusal_line s.is; appended = w }
