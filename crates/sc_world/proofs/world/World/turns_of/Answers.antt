use Rattle.std.proofs.Common.{◌+◌, refl, sym, arith}
use Rattle.sc_world.specs.Views.{world_of}
use Rattle.sc_world.proofs.AtOnce.{runs_on, runs_out, stops_on}
use Rattle.sc_world.proofs.Outs.{on-err}
use Rattle.sc_world.proofs.world.World.turns_of.Goals as goal

pub loop-init : goal.loop-init
loop-init c = record { made = 0; all = omega arith; runs = refl; each = omega arith }

pub returns-in_err-made-clause-err : goal.returns-in_err-made-clause-err
returns-in_err-made-clause-err c =
    on-err c.from_residual.result _
    (stops_on c.loop.invariant.made c.loop.left c.args.count c.args.handler _ (world_of c.loop.self) _ c.loop.invariant.all c.loop.invariant.runs c.in_err-made.ensures.err)

pub loop-preserved : goal.loop-preserved
loop-preserved c =
    let few = c.in_ok-made.ensures.ok.few in
    record {
      made = c.loop.invariant.made + c.in_ok-made.made;
      all = omega (arith, c.saturating_sub-left.ensures, c.loop.invariant.all, few);
      runs = runs_on c.loop.invariant.made c.in_ok-made.made _ c.args.handler _ (world_of c.loop.self) _ refl c.loop.invariant.runs c.in_ok-made.ensures.ok.runs;
      each = omega (arith, c.saturating_sub-left.ensures, c.loop.invariant.each, c.if-made-eq0.false, c.if-left-eq0.false);
    }

pub returns-after-loop-clause-ok : goal.returns-after-loop-clause-ok
returns-after-loop-clause-ok c =
    runs_on c.loop.invariant.made 0 c.args.count c.args.handler _ (world_of c.loop.self) _ (omega (arith, c.loop.invariant.all, c.loop.invariant.each)) c.loop.invariant.runs refl

pub returns-then-left-eq0-clause-ok : goal.returns-then-left-eq0-clause-ok
returns-then-left-eq0-clause-ok c =
    runs_on c.loop.invariant.made 0 c.args.count c.args.handler _ (world_of c.loop.self) _ (omega (arith, c.loop.invariant.all, c.if-left-eq0.true)) c.loop.invariant.runs refl

pub returns-then-made-eq0-clause-ok : goal.returns-then-made-eq0-clause-ok
returns-then-made-eq0-clause-ok c =
    runs_out (c.loop.invariant.made + c.in_ok-made.made) c.loop.left c.args.count c.args.handler _ _
    (omega (arith, c.loop.invariant.all, c.if-made-eq0.true))
    (runs_on c.loop.invariant.made c.in_ok-made.made _ c.args.handler _ (world_of c.loop.self) _ refl c.loop.invariant.runs c.in_ok-made.ensures.ok.runs)
    (sym (c.in_ok-made.ensures.ok.idle c.if-made-eq0.true))
