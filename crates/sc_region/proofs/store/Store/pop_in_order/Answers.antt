use Rattle.std.proofs.Common.{◌≡◌, sym, ap, ◌∙◌, subst}
use Rattle.sc_region.specs.Classes.{MeetsAt}
use Rattle.sc_region.specs.Lending.{current_object}
use Rattle.sc_region.specs.States.{state_of}
use Rattle.sc_region.specs.Stores.{PlainStore, SettledObjectsMeet, left}
use Rattle.sc_region.proofs.SettledObjects.{left_in_order, left_keeps}
use Rattle.sc_region.proofs.store.Store.pop_in_order.Goals as goal

pub invariant_of-self : goal.invariant_of-self
invariant_of-self c =
    let x = state_of c.self.inside.state in
    let meets = subst (λ (q : PlainStore). MeetsAt q.program (current_object q)) (sym c.self.view_is) c.requires in
    let gone : left x ≡ record x { frames = c.pop.new.self } = left_in_order x meets ∙ ap (λ fs. record x { frames = fs }) (sym c.pop.ensures.below) in
    subst SettledObjectsMeet gone (left_keeps x c.self.invariant)

pub returns : goal.returns
returns c =
    let x = state_of c.self.inside.state in
    let meets = subst (λ (q : PlainStore). MeetsAt q.program (current_object q)) (sym c.self.view_is) c.requires in
    ap (λ fs. record x { frames = fs }) c.pop.ensures.below ∙ sym (left_in_order x meets) ∙ ap left c.self.view_is
