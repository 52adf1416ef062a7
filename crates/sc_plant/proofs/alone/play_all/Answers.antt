use Rattle.std.proofs.Common.{◌≡◌, false, true, sym, ◌∙◌, arith}
use Rattle.sc_world.proofs.Outs.{on-err}
use Rattle.sc_plant.proofs.alone.play_all.Goals as goal

pub loop-init : goal.loop-init
loop-init g c = record { count = c.requires.count; version = c.requires.version; on = λ p way. way; order = λ p opens. opens c.turns_left-turns.result }

pub loop-preserved : goal.loop-preserved
loop-preserved g c = record {
  count = c.end_behind.ensures.count ∙ c.in_ok-made.ensures.count;
  version = c.end_behind.ensures.version ∙ c.in_ok-made.ensures.version;
  on = λ p way. c.end_behind.ensures.on p (c.in_ok-made.ensures.on p (c.loop.invariant.on p way));
  order = λ p opens.
      c.end_behind.ensures.order p c.saturating_sub-turns.result
      (c.in_ok-made.ensures.order p c.loop.turns c.saturating_sub-turns.result (omega (arith, c.min.ensures)) (λ lower. omega (arith, lower, c.min.ensures))
      (omega (arith, c.saturating_sub-turns.ensures)) (c.loop.invariant.order p opens));
}

pub returns-in_err-made-clause-err : goal.returns-in_err-made-clause-err
returns-in_err-made-clause-err g c = on-err c.from_residual.result _ (λ p way. c.in_err-made.ensures.err p (c.loop.invariant.on p way))

pub returns-in-Some-end_behind-clause-on : goal.returns-in-Some-end_behind-clause-on
returns-in-Some-end_behind-clause-on g c = λ p way. c.end_behind.ensures.on p (c.in_ok-made.ensures.on p (c.loop.invariant.on p way))

pub returns-in-Some-end_behind-clause-order : goal.returns-in-Some-end_behind-clause-order
returns-in-Some-end_behind-clause-order g c = λ p opens.
    (c.end_behind.ensures.order p c.saturating_sub-turns.result
    (c.in_ok-made.ensures.order p c.loop.turns c.saturating_sub-turns.result (omega (arith, c.min.ensures)) (λ lower. omega (arith, lower, c.min.ensures))
    (omega (arith, c.saturating_sub-turns.ensures)) (c.loop.invariant.order p opens))).leads

pub returns-then-gives_way-clause-on : goal.returns-then-gives_way-clause-on
returns-then-gives_way-clause-on g c = λ p way. c.end_behind.ensures.on p (c.in_ok-made.ensures.on p (c.loop.invariant.on p way))

pub returns-then-gives_way-clause-order : goal.returns-then-gives_way-clause-order
returns-then-gives_way-clause-order g c = λ p opens.
    (c.end_behind.ensures.order p c.saturating_sub-turns.result
    (c.in_ok-made.ensures.order p c.loop.turns c.saturating_sub-turns.result (omega (arith, c.min.ensures)) (λ lower. omega (arith, lower, c.min.ensures))
    (omega (arith, c.saturating_sub-turns.ensures)) (c.loop.invariant.order p opens))).leads

pub returns-then-gives_way-clause-whole : goal.returns-then-gives_way-clause-whole
returns-then-gives_way-clause-whole g c = λ is. let bad : true ≡ false = sym c.if-gives_way.true ∙ c.gives_way.ensures is in cc
