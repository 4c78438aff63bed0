-- What has happened to a listing since it was made, and the law that all of it keeps.
use Rattle.std.specs.Prelude.{◌≡◌, ℕ, true, false, List, [], ◌∷◌, ◌++◌, Some, None, Ok, Err}
use Rattle.std.specs.Result.{result_err}
use Rattle.atoms.specs.Sets.{Has}
use Rattle.approx.specs.Meanings.{Meaning}
use Rattle.approx.specs.Stability.{Stable}
use Rattle.solver.specs.Lists.{Lists, Counted}
use Rattle.engine.specs.Standing.{Standing, changed}
use Rattle.engine.specs.Rules.{peg_fault, pull_fault}
use Rattle.engine.specs.declared.pegs.Sense.{Sense}
use Rattle.engine.specs.declared.pegs.Sense.TheVariants.{On, Off}
use Rattle.engine.specs.declared.runs.Event.{Event}
use Rattle.engine.specs.declared.runs.Event.TheVariants.{Next, Peg, Pull, Rewind, Tally}

-- a history is what each call gave, the newest first
abbrev pub History : Type 0
History = List Event

-- the pegs in force after a history: a granted peg puts one in force, and a granted pull lifts it
abbrev pub in_force : History → Standing
in_force [] = λ i s. false
in_force (Next r ∷ h) = in_force h
in_force (Peg i s (Ok u) ∷ h) = changed (in_force h) i s true
in_force (Peg i s (Err f) ∷ h) = in_force h
in_force (Pull i s (Ok u) ∷ h) = changed (in_force h) i s false
in_force (Pull i s (Err f) ∷ h) = in_force h
in_force (Rewind ∷ h) = in_force h
in_force (Tally n ∷ h) = in_force h

-- what was handed out since the listing last began, the earliest first: it begins anew with each granted peg or pull, and when it is rewound
abbrev pub handed : History → List ℕ
handed [] = []
handed (Next (Some z) ∷ h) = handed h ++ z ∷ []
handed (Next None ∷ h) = handed h
handed (Peg i s (Ok u) ∷ h) = []
handed (Peg i s (Err f) ∷ h) = handed h
handed (Pull i s (Ok u) ∷ h) = []
handed (Pull i s (Err f) ∷ h) = handed h
handed (Rewind ∷ h) = []
handed (Tally n ∷ h) = handed h

-- an interpretation obeys a peg on where it has the atom, and a peg off where it lacks the atom
abbrev pub Obeys : ℕ → ℕ → Sense → Type 0
Obeys z i On = Has z i
Obeys z i Off = Has z i → ⊥

-- z is stable and agrees with the pegs: it obeys each that is in force
pub record Agreeing (m : Meaning) (pegs : Standing) (z : ℕ) : Type 0 where
  pub stable : Stable m z
  pub obeys : (i : ℕ) (s : Sense) → pegs i s ≡ true → Obeys z i s

-- there is a list of all stable interpretations that agree with the pegs, in listing order, and those handed out are its first so many
pub record FirstSoMany (m : Meaning) (pegs : Standing) (out : List ℕ) : Type 0 where
  pub all : List ℕ
  pub listed : Lists (Agreeing m pegs) all
  pub rest : List ℕ
  pub front : all ≡ out ++ rest

-- all stable interpretations that agree with the pegs in force have been handed out since the listing last began
abbrev pub AllHanded : Meaning → History → Type 0
AllHanded m h = Lists (Agreeing m (in_force h)) (handed h)

-- what the law says of the call that follows the history h: 'no more' is said exactly when all have been handed out, a tally is the
-- number of all, and a peg or a pull is refused exactly as the rules say
abbrev pub Rightly : Meaning → History → Event → Type 0
Rightly m h (Next (Some z)) = AllHanded m h → ⊥
Rightly m h (Next None) = AllHanded m h
Rightly m h (Peg i s r) = peg_fault m.width (in_force h) i ≡ result_err r
Rightly m h (Pull i s r) = pull_fault (in_force h) i s ≡ result_err r
Rightly m h Rewind = Unit {0}
Rightly m h (Tally n) = Counted (Agreeing m (in_force h)) n

-- the law: at every moment what was handed out are the first so many, and every call gave what it should
abbrev pub Lawful : Meaning → History → Type 0
Lawful m [] = FirstSoMany m (in_force []) []
Lawful m (e ∷ h) = Lawful m h × Rightly m h e × FirstSoMany m (in_force (e ∷ h)) (handed (e ∷ h))
