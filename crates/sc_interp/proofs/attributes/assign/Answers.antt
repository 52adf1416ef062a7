use Rattle.std.proofs.Common.{◌≡◌, MutBor, Some, sym, ap, ◌∙◌, subst}
use Rattle.std.specs.Prelude.{slice_get}
use Rattle.std.specs.Option.{option_map, option_and_then}
use Rattle.sc_code.specs.declared.operation.Operation.TheVariants as coded
use Rattle.sc_region.specs.declared.frame.Activation.{Activation}
use Rattle.sc_region.specs.Frames.{PlainActivation, activation_of, top_activation}
use Rattle.sc_region.specs.Lending.{with_top}
use Rattle.sc_region.specs.Stores.{PlainStore}
use Rattle.sc_interp.specs.Playing.{Plays, Remains, written_if}
use Rattle.sc_interp.specs.Standing.{stepped}
use Rattle.sc_interp.proofs.Assignments.{assigns, remains_written}
use Rattle.sc_interp.proofs.attributes.assign.Goals as goal

pub returns-in-Some-clause-plays : goal.returns-in-Some-clause-plays
returns-in-Some-clause-plays c =
    let x = c.args.store.now in
    let w = c.pass_last-step.new.activation in
    let a = activation_of c.in-Some.activation.now in
    let top : top_activation x.frames ≡ Some a = sym c.top_mut.ensures.value ∙ ap (option_map (λ (m : MutBor Activation). activation_of m.now)) c.in-Some.is in
    subst (λ (y : PlainStore). Plays c.args.me c.args.count (coded.StoreAttribute c.args.name) (stepped c.pass_last-step.result) x y)
    (sym (c.write_if.ensures ∙ ap (λ m. written_if m c.args.value (with_top x w)) c.attribute_number-number.ensures))
    (assigns c.args.me c.args.count c.args.name _ (stepped c.pass_last-step.result) x w a c.args.value c.requires.named top
    (ap (option_and_then (λ (b : PlainActivation). slice_get b.operands.values 0)) (sym top) ∙ c.requires.last) c.pass_last-step.ensures.passes)

pub returns-in-Some-clause-remains : goal.returns-in-Some-clause-remains
returns-in-Some-clause-remains c =
    let x = c.args.store.now in
    let a = activation_of c.in-Some.activation.now in
    subst (Remains x) (sym c.write_if.ensures)
    (remains_written x c.attribute_number-number.result c.args.value c.pass_last-step.new.activation a
    (sym c.top_mut.ensures.value ∙ ap (option_map (λ (m : MutBor Activation). activation_of m.now)) c.in-Some.is) c.pass_last-step.ensures.stays)
