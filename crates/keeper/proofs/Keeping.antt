-- All that is printed, put together.
use Rattle.std.proofs.Common.{◌≡◌, ℕ, List, [], ◌++◌, Ok, Err, Option, Result, OnOk, MatchResult, inl, inr, sym, refl, ap, subst, Bor}
use Rattle.std.specs.Io.KnownBytes.{Appends, Keeps}
use Rattle.std.proofs.KnownBytes.{Appends-trans, Appends-kept}
use Rattle.approx.specs.declared.approximator.Approximator.{Ghosts}
use Rattle.faults.specs.declared.BenchFault.{BenchFault}
use Rattle.faults.specs.declared.SheetFault.{SheetFault}
use Rattle.faults.specs.declared.Refused.{Refused}
use Rattle.tables.specs.declared.table.Table.{Table}
use Rattle.sheet.specs.Reads.{table_after}
use Rattle.engine.specs.Standing.{pegs_count}
use Rattle.engine.specs.Listings.{list_gives}
use Rattle.engine.specs.declared.board.Settled.{Settled}
use Rattle.engine.specs.declared.listing.Listing.{Listing}
use Rattle.report.specs.Sheets.{SettledSheet, SettlesTo}
use Rattle.report.specs.Lines.{refusal_line}
use Rattle.report.specs.Answers.{IsAnswer, IsAnswerBy, AppendsSome}
use Rattle.keeper.specs.Names.{SheetNames}
use Rattle.keeper.specs.Refusals.{refused_lines}
use Rattle.keeper.specs.Sessions.{Exchange, AnswersEach, EndsAs, replies_text, ending_text, IsSession, IsKept, IsOpened}
use Rattle.keeper.specs.declared.Ending.{Ending}
use Rattle.keeper.specs.declared.marks.Marks.{Marks}

-- what holds anyway holds where the result is Ok
pub on_ok : {T E P : Type 0} (r : Result T E) → P → OnOk r P
on_ok (Ok x) p = p
on_ok (Err e) p = tt

module _ {X : Type 0} (G : Ghosts X) where
  module _ (names : List (Bor (List ℕ))) (board : Settled X) where
    -- the replies, and then the ending
    pub session_kept :
        (m : Marks) → m.names.now ≡ names → m.bounds ≡ board.bounds
        → (begun : Listing X) → list_gives board ≡ Ok begun
        → (xs : List Exchange) (left : Listing X) → AnswersEach G m begun xs left
        → (e : Ending) → EndsAs xs e → (pegs : ℕ) → pegs ≡ pegs_count left.pegs
        → (a b c d : Option (List ℕ)) → Appends a b (replies_text xs) → Appends b c (ending_text e pegs) → Keeps c d
        → AppendsSome (IsKept G names board) a d
    session_kept m n u begun gives xs left answered e ends pegs p a b c d replies ending kept =
        let session : IsSession G names board.bounds begun (replies_text xs ++ ending_text e pegs) = record {
          marks = m;
          names_are = n;
          bounds_are = u;
          exchanges = xs;
          left = left;
          answered = answered;
          ending = e;
          ends = ends;
          is = ap (λ (k : ℕ). replies_text xs ++ ending_text e k) p;
        } in
        record {
          bytes = replies_text xs ++ ending_text e pegs;
          right = subst (λ (r : Result (Listing X) (Refused (Settled X))). MatchResult r (λ y. IsSession G names board.bounds y (replies_text xs ++ ending_text e pegs)) (λ z. replies_text xs ++ ending_text e pegs ≡ refused_lines [] z.fault)) (sym gives) session;
          appended = Appends-kept a c d (replies_text xs ++ ending_text e pegs) (Appends-trans a b c (replies_text xs) (ending_text e pegs) replies ending) kept;
        }

  settled_sheet : (v : Result Table SheetFault) (old table : Table) (board : Settled X) → table ≡ table_after old v → SettlesTo G v (Ok board) → SettledSheet G table board
  settled_sheet (Ok t) old table board e s = subst (λ (u : Table). SettledSheet G u board) (sym e) s.is
  settled_sheet (Err f) old table board e s = absurd s.is

  -- the bench's answer to a sheet that settles is that to its table
  pub answered_sheet : (v : Result Table SheetFault) (text : List ℕ) (old table : Table) (board : Settled X) → table ≡ table_after old v → SettlesTo G v (Ok board) → (a : List ℕ) → IsAnswerBy text v a → IsAnswerBy text (Ok table) a
  answered_sheet (Ok t) text old table board e s a h = subst (λ (u : Table). IsAnswerBy text (Ok u) a) (sym e) h
  answered_sheet (Err f) text old table board e s a h = absurd s.is

  -- the bench refuses likewise
  pub answered_refused : (v : Result Table SheetFault) (text : List ℕ) (fault : BenchFault) → SettlesTo G v (Err fault) → IsAnswerBy text v (refusal_line fault)
  answered_refused (Ok t) text fault s = inr (record { crosses = s.is.crosses; is = ap refusal_line s.is.is })
  answered_refused (Err f) text fault s = ap refusal_line s.is

  -- a sheet that settles is kept
  pub sheet_opened :
      (v : Result Table SheetFault) (text : List ℕ) (old table : Table) (board : Settled X) → table ≡ table_after old v → SettlesTo G v (Ok board)
      → ((a : List ℕ) → IsAnswer text a → IsAnswerBy text (Ok table) a)
      → (names given : List (Bor (List ℕ))) → given ≡ names → SheetNames table text names
      → (a b : Option (List ℕ)) → AppendsSome (IsKept G given board) a b → AppendsSome (IsOpened G text) a b
  sheet_opened v text old table board e s answered names given same found a b w = record {
    bytes = w.bytes;
    right = inl (record {
      table = table;
      answered = answered;
      board = board;
      settled = settled_sheet v old table board e s;
      names = given;
      names_are = subst (SheetNames table text) (sym same) found;
      kept = w.right;
    });
    appended = w.appended;
  }

  -- any other text is refused
  pub refused_opened : (text : List ℕ) (fault : BenchFault) → IsAnswer text (refusal_line fault) → (a b c : Option (List ℕ)) → Appends a b (refused_lines text fault) → Keeps b c → AppendsSome (IsOpened G text) a c
  refused_opened text fault answered a b c p k = record {
    bytes = refused_lines text fault;
    right = inr (record { fault = fault; answered = answered; is = refl });
    appended = Appends-kept a b c (refused_lines text fault) p k;
  }
