use Rattle.std.proofs.Common.{◌≡◌, ◌+◌, ◌%◌, ◌<◌, ◌≤◌, ℕ, [], MutBor, length, ◌∙◌, arith}
use Rattle.std.specs.Option.{ghost_name_of}
use borrow.Follows.Closed.{read_of}
use Rattle.sc_region.specs.declared.frame.Activation.{Activation}
use Rattle.sc_region.specs.Frames.{activation_of, frames_onto}
use Rattle.sc_region.proofs.Stacks.{top_at, set_at, found_at}
use Rattle.sc_region.proofs.stack.Stack.top_mut.Goals as goal

pub returns : goal.returns
returns c =
    let s = c.self.inside in
    let rs = s.currents.items in
    let ts = s.activations.items in
    let n : ℕ = (c.len-place.result + 18446744073709551615) % 18446744073709551616 in
    let none : length rs ≡ 0 → length ts ≤ n = λ e. omega (arith, c.len-place.ensures, s.currents.ok.0, s.activations.ok, s.activations.small) in
    let some : 0 < length rs → length rs ≡ n + 1 = λ l. omega (arith, c.len-place.ensures, c.len-place.type_inv, s.currents.ok.0) in
    rw (← c.self.view_is) (
      λ t. read_of (ghost_name_of c.get_mut.result) (λ (w : Activation). set_at rs ts n w c.self.invariant some t) (frames_onto rs ts []),
      record {
        writes_back = tt;
        value =
            found_at activation_of (λ (a : MutBor Activation). a.now) ts n c.get_mut.result c.get_mut.ensures.item.0 c.get_mut.ensures.item.1
            ∙ top_at rs ts n c.self.invariant none some;
      },
    )
