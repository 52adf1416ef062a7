use Rattle.std.proofs.Common.{[], List, ap, ◌∙◌}
use Rattle.sc_region.specs.declared.frame.Activation.{Activation}
use Rattle.sc_region.specs.Frames.{frames_onto}
use Rattle.sc_region.proofs.Stacks.{frames_above}
use Rattle.sc_region.proofs.stack.add_place.Goals as goal

pub returns-in_ok-push-clause-frames : goal.returns-in_ok-push-clause-frames
returns-in_ok-push-clause-frames c =
    let rs = c.args.currents.now.items in
    ap (λ (ts : List Activation). frames_onto rs ts []) c.in_ok-push.ensures.items ∙ frames_above rs c.args.activations.now.items c.empty.result [] c.requires
