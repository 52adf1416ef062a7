use Rattle.std.proofs.Common.{◌+◌, true, false, sym, ap, ◌∙◌, arith}
use Rattle.std.specs.Prelude.{is_some}
use Rattle.sc_model.specs.declared.cause.Cause.TheVariants as cause
use Rattle.sc_model.specs.Steps.{Qualified}
use Rattle.sc_code.specs.Machine.{Enters}
use Rattle.sc_region.specs.Frames.{activation_of}
use Rattle.sc_acts.specs.declared.act.Calling.TheVariants as calling
use Rattle.sc_interp.specs.Standing.{actuals, enters, state_of, without}
use Rattle.sc_acts.specs.Tables.{name_at}
use Rattle.sc_interp.specs.Values.{reference_of}
use Rattle.sc_interp.proofs.Operands.{awaits_by, room_test}
use Rattle.sc_interp.proofs.Targets.{refused}
use Rattle.sc_interp.proofs.Told.{comes_failed, enter_ready, tells_failed}
use Rattle.sc_interp.proofs.features.enter_on.Goals as goal

pub returns-then-not-has_room_past-clause-calls : goal.returns-then-not-has_room_past-clause-calls
returns-then-not-has_room_past-clause-calls c = λ count p s me code objects fits.
    let a = activation_of c.args.activation.now in
    let n = c.args.site.count + 1 in
    let us = actuals c.args.site.count (state_of objects a).values in
    awaits_by code (is_some c.args.site.gives) (Enters Qualified (reference_of c.args.object) (name_at p c.args.site.name) us (is_some c.args.site.gives)) (without n (state_of objects a)) false
    (room_test _ _ _ n a.operands.values a.operands.depth code.depth c.has_room_past.ensures c.is_some-gives.ensures fits.depth ∙ c.if-not-has_room_past.true)
    ∙ refused p s code me objects n cause.BadCode c.refuse.result a (activation_of c.refuse.new.activation) c.refuse.ensures.gone c.refuse.ensures.failed

pub returns-clause-calls : goal.returns-clause-calls
returns-clause-calls c = λ count p s me code objects fits.
    let a = activation_of c.args.activation.now in
    let n = c.args.site.count + 1 in
    let us = actuals c.args.site.count (state_of objects a).values in
    awaits_by code (is_some c.args.site.gives) (Enters Qualified (reference_of c.args.object) (name_at p c.args.site.name) us (is_some c.args.site.gives)) (without n (state_of objects a)) true
    (room_test _ _ _ n a.operands.values a.operands.depth code.depth c.has_room_past.ensures c.is_some-gives.ensures fits.depth ∙ c.if-not-has_room_past.false)
    ∙ ap (λ g. enters calling.Qualified (reference_of c.args.object) (name_at p c.args.site.name) c.args.site.count g (state_of objects a)) (sym c.is_some-gives.ensures)

pub returns-then-not-has_room_past-clause-told : goal.returns-then-not-has_room_past-clause-told
returns-then-not-has_room_past-clause-told c = λ p is. tells_failed p c.refuse.result (activation_of c.refuse.new.activation) cause.BadCode c.refuse.ensures.failed

pub returns-clause-told : goal.returns-clause-told
returns-clause-told c = λ p is.
    enter_ready p calling.Qualified c.args.object c.args.site c.is_some-gives.result c.has_room_past.result (activation_of c.args.activation.now) is (omega (arith, c.requires)) c.is_some-gives.ensures
    c.has_room_past.ensures c.if-not-has_room_past.false

pub returns-then-not-has_room_past-clause-kept : goal.returns-then-not-has_room_past-clause-kept
returns-then-not-has_room_past-clause-kept c = comes_failed c.refuse.result cause.BadCode _ c.refuse.ensures.failed
