use Rattle.std.proofs.Common.{◌+◌, ◌≤◌, take, vec_items, vec_len, vec_capacity}
use Rattle.engine.specs.Scripts.{Plays}
use Rattle.engine.proofs.runs.play.Given as goal

abbrev pub invariant-loop-command : goal.invariant-loop-command
invariant-loop-command g l =
    Plays g.A.Approximator (take l.command-index l.script) (vec_items l.initial.tokens) (vec_items l.tokens) (vec_items l.initial.log) (vec_items l.log) l.initial.listing l.listing
    × (vec_len l.tokens ≤ vec_len l.initial.tokens + l.command-index)
    × (vec_capacity l.initial.tokens ≤ vec_capacity l.tokens)
    × (vec_len l.log ≤ vec_len l.initial.log + l.command-index)
    × (vec_capacity l.initial.log ≤ vec_capacity l.log)
