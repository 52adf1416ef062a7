use Rattle.std.proofs.Common.{◌≡◌, ◌∙◌, ap, length, map, take, arith}
use Rattle.sc_region.specs.Frames.{activation_of}
use Rattle.sc_region.proofs.Copies.{frames_copied}
use Rattle.sc_region.proofs.stack.Stack.copy.Goals as goal

pub returns : goal.returns
returns c =
    let own = c.self.inside.currents.ok.0 in
    let many : c.len-height.result ≡ length c.self.inside.currents.items = omega (arith, c.len-height.ensures, own) in
    let e = frames_copied c.in_ok-from_slice.field-0.items c.self.inside.currents.items c.in_ok-copy_activations.field-0.items c.self.inside.activations.items
    c.len-height.result (c.in_ok-from_slice.ensures.items ∙ c.deref.ensures.value) many c.self.invariant
    (c.in_ok-copy_activations.ensures ∙ ap (λ zs. map activation_of (take c.len-height.result zs)) c.deref-2.ensures.value) in
    let v = c.self.view_is in cc
