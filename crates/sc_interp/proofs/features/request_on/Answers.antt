use Rattle.std.proofs.Common.{◌+◌, Bool, true, false, sym, ap, ◌∙◌}
use Rattle.std.specs.Prelude.{is_some, if◌then◌else◌}
use Rattle.sc_model.specs.declared.cause.Cause.TheVariants as cause
use Rattle.sc_code.specs.Machine.{Requests, awaits, does, fails}
use Rattle.sc_region.specs.Frames.{activation_of}
use Rattle.sc_interp.specs.Standing.{actuals, state_of, without}
use Rattle.sc_acts.specs.Tables.{name_at}
use Rattle.sc_interp.specs.Values.{reference_of}
use Rattle.sc_interp.proofs.Operands.{awaits_by, room_test}
use Rattle.sc_interp.proofs.Targets.{refused}
use Rattle.sc_interp.proofs.Told.{comes_failed, request_ready, tells_failed}
use Rattle.sc_interp.proofs.features.request_on.Goals as goal

pub returns-then-site-clause-calls : goal.returns-then-site-clause-calls
returns-then-site-clause-calls c = λ count p s me code objects fits.
    let a = activation_of c.args.activation.now in
    let site = c.args.site in
    let n = site.count + 1 in
    let f = without n (state_of objects a) in
    let us = actuals site.count (state_of objects a).values in
    ap (λ (b : Bool). if b then fails cause.ForeignObject f else awaits code (is_some site.gives) (Requests (reference_of c.args.object) (name_at p site.name) us (is_some site.gives) site.passes) f)
    c.if-site.true
    ∙ refused p s code me objects n cause.ForeignObject c.refuse.result a (activation_of c.refuse.new.activation) c.refuse.ensures.gone c.refuse.ensures.failed

pub returns-then-not-has_room_past-clause-calls : goal.returns-then-not-has_room_past-clause-calls
returns-then-not-has_room_past-clause-calls c = λ count p s me code objects fits.
    let a = activation_of c.args.activation.now in
    let site = c.args.site in
    let n = site.count + 1 in
    let f = without n (state_of objects a) in
    let us = actuals site.count (state_of objects a).values in
    ap (λ (b : Bool). if b then fails cause.ForeignObject f else awaits code (is_some site.gives) (Requests (reference_of c.args.object) (name_at p site.name) us (is_some site.gives) site.passes) f)
    c.if-site.false
    ∙ awaits_by code (is_some site.gives) (Requests (reference_of c.args.object) (name_at p site.name) us (is_some site.gives) site.passes) f false
    (room_test _ _ _ n a.operands.values a.operands.depth code.depth c.has_room_past.ensures c.is_some-gives.ensures fits.depth ∙ c.if-not-has_room_past.true)
    ∙ refused p s code me objects n cause.BadCode c.refuse-then-not-has_room_past.result a (activation_of c.refuse-then-not-has_room_past.new.activation) c.refuse-then-not-has_room_past.ensures.gone c.refuse-then-not-has_room_past.ensures.failed

pub returns-clause-calls : goal.returns-clause-calls
returns-clause-calls c = λ count p s me code objects fits.
    let a = activation_of c.args.activation.now in
    let site = c.args.site in
    let n = site.count + 1 in
    let f = without n (state_of objects a) in
    let us = actuals site.count (state_of objects a).values in
    ap (λ (b : Bool). if b then fails cause.ForeignObject f else awaits code (is_some site.gives) (Requests (reference_of c.args.object) (name_at p site.name) us (is_some site.gives) site.passes) f)
    c.if-site.false
    ∙ awaits_by code (is_some site.gives) (Requests (reference_of c.args.object) (name_at p site.name) us (is_some site.gives) site.passes) f true
    (room_test _ _ _ n a.operands.values a.operands.depth code.depth c.has_room_past.ensures c.is_some-gives.ensures fits.depth ∙ c.if-not-has_room_past.false)
    ∙ ap (λ g. does (Requests (reference_of c.args.object) (name_at p site.name) us g site.passes) f) (sym c.is_some-gives.ensures)

pub returns-then-site-clause-told : goal.returns-then-site-clause-told
returns-then-site-clause-told c = λ p is. tells_failed p c.refuse.result (activation_of c.refuse.new.activation) cause.ForeignObject c.refuse.ensures.failed

pub returns-then-not-has_room_past-clause-told : goal.returns-then-not-has_room_past-clause-told
returns-then-not-has_room_past-clause-told c = λ p is.
    tells_failed p c.refuse-then-not-has_room_past.result (activation_of c.refuse-then-not-has_room_past.new.activation) cause.BadCode c.refuse-then-not-has_room_past.ensures.failed

pub returns-clause-told : goal.returns-clause-told
returns-clause-told c = λ p is.
    request_ready p c.args.object c.args.site c.is_some-gives.result c.has_room_past.result (activation_of c.args.activation.now) is c.requires c.is_some-gives.ensures c.has_room_past.ensures
    c.if-not-has_room_past.false

pub returns-then-site-clause-kept : goal.returns-then-site-clause-kept
returns-then-site-clause-kept c = comes_failed c.refuse.result cause.ForeignObject _ c.refuse.ensures.failed

pub returns-then-not-has_room_past-clause-kept : goal.returns-then-not-has_room_past-clause-kept
returns-then-not-has_room_past-clause-kept c = comes_failed c.refuse-then-not-has_room_past.result cause.BadCode _ c.refuse-then-not-has_room_past.ensures.failed
