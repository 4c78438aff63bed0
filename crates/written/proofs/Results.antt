-- What a result that is good tells of how it came about, and what is told by rows that have room.
use Rattle.std.proofs.Common.{◌≡◌, ℕ, ◌<◌, ◌≤◌, Bool, true, false, cond, List, length, Some, None, Ok, Err, Option, Result, refl, ap, ⊎_elim, arith}
use Rattle.std.proofs.lemmas.Bool.{cases_lt}
use Rattle.faults.specs.declared.SheetFault.{SheetFault}
use Rattle.tables.specs.Rows.{laid, has_room}
use Rattle.tables.proofs.Laid.{no_room_laid}
use Rattle.grammar.specs.declared.Wrong.{Wrong}
use Rattle.grammar.specs.Wrongs.{or_wrong}
use Rattle.grammar.specs.Verdicts.{onward}

-- two constructors are never equal, and `cc` proves 0 ≡ 1 from that they were
pub no_way : {P : Type 0} → ◌≡◌ {A = ℕ} 0 1 → P
no_way e = absurd (omega arith)

pub onward_ok : {X Y : Type 0} (r : Result X SheetFault) (go : X → Result Y SheetFault) (y : Y) → onward r go ≡ Ok y → (x : X) × (r ≡ Ok x) × (go x ≡ Ok y)
onward_ok (Ok x) go y e = (x, refl, e)
onward_ok (Err f) go y e = no_way (cc)

pub onward_from : {X Y : Type 0} (r : Result X SheetFault) (x : X) (go : X → Result Y SheetFault) → r ≡ Ok x → onward r go ≡ go x
onward_from r x go e = ap (λ o. onward o go) e

pub or_wrong_ok : {X S : Type 0} (o : Option X) (w : Wrong) (next : X → S) (s : S) → or_wrong o w next ≡ Ok s → (x : X) × (o ≡ Some x) × (next x ≡ s)
or_wrong_ok None w next s e = no_way (cc)
or_wrong_ok (Some x) w next s e = (x, refl, cc)

-- a test without which there is an error was met
pub cond_ok : {S E : Type 0} (b : Bool) (r : Result S E) (w : E) (s : S) → cond b r (Err w) ≡ Ok s → (b ≡ true) × (r ≡ Ok s)
cond_ok true r w s e = (refl, e)
cond_ok false r w s e = no_way (cc)

pub some_if : {X : Type 0} (b : Bool) (x y : X) → cond b (Some x) None ≡ Some y → (b ≡ true) × (x ≡ y)
some_if true x y e = (refl, cc)
some_if false x y e = no_way (cc)

-- rows that have room hold fewer items than there are rows
pub room_told : {T : Type 0} (N : ℕ) (zero : T) (xs : List T) → has_room N (laid N zero xs) ≡ true → length xs < N
room_told N zero xs e =
    ⊎_elim (λ (h : length xs < N). h) (λ (h : N ≤ length xs). let full = no_room_laid N zero xs h in no_way (cc)) (cases_lt (length xs) N)
