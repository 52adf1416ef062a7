use Rattle.std.proofs.Common.{◌≡◌, ◌+◌, ◌%◌, ◌<◌, ◌≤◌, ℕ, List, Bor, length, ap, ◌∙◌, arith}
use Rattle.std.specs.Prelude.{slice_get}
use Rattle.std.specs.Option.{option_map}
use Rattle.sc_region.specs.declared.frame.Activation.{Activation}
use Rattle.sc_region.specs.Frames.{activation_of, top_activation}
use Rattle.sc_region.proofs.Stacks.{top_at, found_at}
use Rattle.sc_region.proofs.stack.Stack.top.Goals as goal

pub returns : goal.returns
returns c =
    let s = c.self.inside in
    let rs = s.currents.items in
    let ts = s.activations.items in
    let n : ℕ = (c.len.result + 18446744073709551615) % 18446744073709551616 in
    let none : length rs ≡ 0 → length ts ≤ n = λ e. omega (arith, c.len.ensures, s.currents.ok.0, s.activations.ok, s.activations.small) in
    let some : 0 < length rs → length rs ≡ n + 1 = λ l. omega (arith, c.len.ensures, c.len.type_inv, s.currents.ok.0) in
    found_at activation_of (λ (a : Bor Activation). a.now) c.deref.result.now n c.get.result c.get.ensures.lookup.0 c.get.ensures.lookup.1
    ∙ ap (λ (l : List Activation). option_map activation_of (slice_get l n)) c.deref.ensures.value
    ∙ top_at rs ts n c.self.invariant none some ∙ ap top_activation c.self.view_is
