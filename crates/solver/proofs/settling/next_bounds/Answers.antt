use Rattle.approx.proofs.Laws.{lawful}
use Rattle.approx.proofs.Rounding.{rounds_sound, sound_up, sound_down}
use Rattle.solver.proofs.settling.next_bounds.Goals as goal

pub climb_lower-requires : goal.climb_lower-requires
climb_lower-requires g c = let m = lawful (g.met.A.Approximator.laws c.args.pile.now) in sound_up m (rounds_sound m c.requires.1)

pub climb_upper-requires : goal.climb_upper-requires
climb_upper-requires g c = let m = lawful (g.met.A.Approximator.laws c.args.pile.now) in sound_down m (rounds_sound m c.requires.1)
