use Rattle.std.proofs.Common.{[], ◌++◌, ap, ◌∙◌}
use Rattle.std.specs.Prelude.{slice_get, take}
use Rattle.std.specs.List.{cons_option}
use Rattle.sc_acts.specs.Entering.{handler_of}
use Rattle.sc_acts.proofs.FirstItems.{given_more}
use Rattle.sc_acts.proofs.beginning.handlers_in.Goals as goal

pub loop-slot-preserved : goal.loop-slot-preserved
loop-slot-preserved c =
    c.add.ensures
    ∙ ap (λ ks. take 16 (ks ++ cons_option c.handler_at.result [])) c.loop-slot.invariant
    ∙ given_more (λ k. handler_of (slice_get c.args.slots.now k)) c.args.separate.now c.loop-slot.slot-index _ c.handler_at.result c.loop-slot-test.true c.handler_at.ensures
