use Rattle.std.proofs.Common.{List, is_ok, vec_items, sym, refl, ap, subst, arith, take_all}
use Rattle.std.proofs.lemmas.List.{take_more}
use Rattle.std.proofs.lemmas.Result.{MatchResult-from_err}
use Rattle.std.proofs.lemmas.Bool.{both_ways}
use Rattle.engine.specs.Scripts.{Plays}
use Rattle.engine.specs.declared.runs.Command.{Command}
use Rattle.engine.specs.declared.runs.Command.TheVariants.{Next}
use Rattle.engine.proofs.Playing.{plays_none, plays_more, plays_same}
use Rattle.engine.proofs.runs.play.Goals as goal

pub loop-command-init : goal.loop-command-init
loop-command-init g c = (plays_none g.A.Approximator (vec_items c.args.tokens.now) (vec_items c.args.log.now) c.args.listing.now, omega arith, omega arith, omega arith, omega arith)

pub returns-in_err-perform : goal.returns-in_err-perform
returns-in_err-perform g c =
    let kept = c.in_err-perform.ensures.acts in
    let inv = c.loop-command.invariant in
    record {
      plays = MatchResult-from_err c.from_residual.result _ _ c.from_residual.ensures.0
          (λ _. (c.loop-command.command-index, c.loop-command-test.true, plays_same g.A.Approximator inv.0 kept.0 kept.1 kept.2));
      whole = λ pool log. absurd (both_ways (is_ok c.perform.result) (ap is_ok c.in_err-perform.was)
          (c.perform.ensures.whole (omega (arith, inv.1, inv.2, pool, c.loop-command-test.true)) (omega (arith, inv.3, inv.4, log, c.loop-command-test.true))));
    }

pub loop-command-preserved : goal.loop-command-preserved
loop-command-preserved g c =
    let inv = c.loop-command.invariant in
    let room = c.perform.ensures.room in (
      subst (λ (cs : List Command). Plays g.A.Approximator cs (vec_items c.args.tokens.now) (vec_items c.perform.new.tokens) (vec_items c.args.log.now) (vec_items c.perform.new.log) c.args.listing.now c.perform.new.listing)
          (sym (take_more c.args.script.now c.loop-command.command-index Next c.loop-command-test.true))
          (plays_more g.A.Approximator inv.0 c.in_ok-perform.ensures.acts),
      omega (arith, inv.1, room.0.taken),
      omega (arith, inv.2, room.0.places),
      omega (arith, inv.3, room.1.taken),
      omega (arith, inv.4, room.1.places),
    )

pub returns : goal.returns
returns g c = record {
  plays = subst (λ (cs : List Command). Plays g.A.Approximator cs (vec_items c.args.tokens.now) (vec_items c.loop-command.tokens) (vec_items c.args.log.now) (vec_items c.loop-command.log) c.args.listing.now c.loop-command.listing)
      (take_all c.loop-command.command-index c.args.script.now c.loop-command-test.false)
      c.loop-command.invariant.0;
  whole = λ pool log. refl;
}
