use Rattle.std.proofs.Common.{ℕ, ◌≡◌, sym, subst, arith}
use Rattle.atoms.specs.Sets.{Within}
use Rattle.atoms.proofs.Inclusion.{within_antisym}
use Rattle.approx.specs.Settling.{Climbs, rests, Rises}
use Rattle.approx.proofs.Climbing.{Way, way_turn, way_end, way_less}
use Rattle.solver.proofs.climb.climb.Goals as goal

-- at the top the step leads nowhere else
way_top : {f : ℕ → ℕ} {start top c : ℕ} → Rises f start top → Way f start top c → c ≡ top → Climbs f start c
way_top {f} {start} {top} {c} r w e = w.leads c (rests (within_antisym (subst (λ (x : ℕ). Within (f x) x) (sym e) r.stays) w.rises))

pub step-next-requires : goal.step-next-requires
step-next-requires g c =
    let a = c.requires.1 in
    let w = c.climb.invariant c.requires.0 a in
    a.asked c.climb.reach w.over w.under

pub returns-then-next-reach : goal.returns-then-next-reach
returns-then-next-reach g c = λ f a.
    let w = c.climb.invariant f a in
    way_end a.rises w (a.gives c.climb.reach _ w.over w.under c.step-next.ensures) c.if-next-reach.true

pub climb-preserved : goal.climb-preserved
climb-preserved g c = λ f a.
    let w = c.climb.invariant f a in
    way_turn a.rises w (a.gives c.climb.reach _ w.over w.under c.step-next.ensures) c.if-next-reach.false

pub climb-smaller : goal.climb-smaller
climb-smaller g c =
    let a = c.requires.1 in
    let w = c.climb.invariant c.requires.0 a in
    let more = way_less a.rises w (a.gives c.climb.reach _ w.over w.under c.step-next.ensures) c.if-next-reach.false in
    omega arith

pub returns : goal.returns
returns g c = λ f a. way_top a.rises (c.climb.invariant f a) c.climb-test.false
