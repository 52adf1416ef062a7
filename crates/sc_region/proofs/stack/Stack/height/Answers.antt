use Rattle.std.proofs.Common.{[], length, ap, arith}
use Rattle.sc_region.proofs.Stacks.{frames_length}
use Rattle.sc_region.proofs.stack.Stack.height.Goals as goal

pub returns : goal.returns
returns c =
    let s = c.self.inside in
    omega (arith, c.len.ensures, s.currents.ok.0, frames_length s.currents.items s.activations.items [] c.self.invariant, ap length c.self.view_is)
