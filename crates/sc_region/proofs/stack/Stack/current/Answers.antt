use Rattle.std.proofs.Common.{◌-◌, length, ap, ◌∙◌}
use Rattle.std.specs.Prelude.{slice_get}
use Rattle.sc_region.specs.Frames.{top_current}
use Rattle.sc_region.proofs.Stacks.{current_at}
use Rattle.sc_region.proofs.stack.Stack.current.Goals as goal

pub returns : goal.returns
returns c =
    let s = c.self.inside in
    c.copied.ensures ∙ c.last.ensures.value
    ∙ ap (λ rs. slice_get rs (length rs - 1)) c.deref.ensures.value
    ∙ current_at s.currents.items s.activations.items c.self.invariant ∙ ap top_current c.self.view_is
