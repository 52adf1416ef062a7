use Rattle.std.proofs.Common.{◌<◌, ◌∙◌, length, drop, ap, arith}
use Rattle.std.specs.Option.{IsSome}
use Rattle.sc_region.specs.Frames.{top_current}
use Rattle.sc_region.proofs.Stacks.{popped}
use Rattle.sc_region.proofs.stack.Stack.pop.Goals as goal

pub returns : goal.returns
returns c =
    let s = c.self.inside in
    let some : 0 < length s.currents.items → IsSome c.pop.result = λ l. c.pop.ensures.variant.1 (omega (arith, s.currents.ok.0)) in
    let both = popped s.currents.items c.pop.new.self.items s.activations.items c.pop.result c.pop.ensures.items some c.self.invariant in
    record { current = both.0 ∙ ap top_current c.self.view_is; below = both.1 ∙ ap (λ fs. drop 1 fs) c.self.view_is }
