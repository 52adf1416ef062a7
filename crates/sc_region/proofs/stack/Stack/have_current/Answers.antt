use Rattle.std.proofs.Common.{sym, ap, ◌∙◌}
use Rattle.std.specs.Prelude.{◌==◌}
use Rattle.std.specs.List.{list_any}
use Rattle.sc_region.specs.declared.value.Reference.{Reference}
use Rattle.sc_region.specs.Frames.{is_current}
use Rattle.sc_region.proofs.Stacks.{current_alone}
use Rattle.sc_region.proofs.stack.Stack.have_current.Goals as goal

pub returns : goal.returns
returns c =
    c.any_is.ensures
    ∙ ap (λ rs. list_any (λ (r : Reference). r.number == c.args.number) rs) c.deref.ensures.value
    ∙ sym (current_alone c.args.number c.self.inside.currents.items c.self.inside.activations.items c.self.invariant)
    ∙ ap (is_current c.args.number) c.self.view_is
