use Rattle.std.proofs.Common.{◌++◌, [], ap, ◌∙◌, arith}
use Rattle.std.specs.Prelude.{take}
use Rattle.std.specs.List.{cons_option}
use Rattle.sc_acts.specs.Blocks.{handlers_of}
use Rattle.sc_acts.proofs.Slots.{handlers_more}
use Rattle.sc_acts.proofs.blocks.handlers_of.Goals as goal

pub loop-value-preserved : goal.loop-value-preserved
loop-value-preserved c =
    let i = c.loop-value.value-index in
    let us = c.args.values.now in
    record {
      so_far =
          c.add.ensures.items
          ∙ ap (λ ks. ks ++ cons_option c.handler_of.result []) c.loop-value.invariant.so_far
          ∙ ap (λ o. handlers_of (take i us) ++ cons_option o []) c.handler_of.ensures
          ∙ handlers_more us i _ c.loop-value-test.true;
      few = omega (arith, c.add.ensures.few, c.loop-value.invariant.few);
    }
