use Rattle.std.proofs.Common.{◌<◌, ◌≤◌, false, length, sym, ap, ◌∙◌, arith}
use Rattle.std.proofs.lemmas.List.{length-map}
use Rattle.std.specs.Prelude.{Option}
use Rattle.std.specs.Option.{option_map}
use Rattle.sc_code.specs.Operations.{CallSite, CallRoutine}
use Rattle.sc_code.specs.Programs.{pool_of}
use Rattle.sc_code.specs.Machine.{hop_of}
use Rattle.sc_region.specs.Frames.{activation_of}
use Rattle.sc_acts.specs.declared.act.Calling.TheVariants as calling
use Rattle.sc_interp.specs.Values.{value_of, values_of, reference_of}
use Rattle.sc_interp.specs.Standing.{call_in, state_of}
use Rattle.sc_interp.proofs.Operands.{calls_follow, routine_short, routine_by, room_test, misfits}
use Rattle.sc_model.specs.declared.cause.Cause.TheVariants as cause
use Rattle.sc_interp.proofs.Told.{comes_failed, enter_ready, tells_failed}
use Rattle.sc_interp.proofs.calling.call_routine.Goals as goal

pub returns-then-count-len-clause-follows : goal.returns-then-count-len-clause-follows
returns-then-count-len-clause-follows c = λ count s code objects serves fits.
    let a = activation_of c.args.activation.now in
    let p = c.args.program.now.image in
    let me = reference_of c.args.me in
    let f = state_of objects a in
    let site = c.in-Some.site in
    let short : length (values_of a.operands.values) < site.count = omega (arith, length-map a.operands.values value_of, c.if-count-len.true, c.len.ensures) in
    ap (λ (o : Option CallSite). hop_of s code me (option_map CallRoutine o) f) (sym c.call_at.ensures.site ∙ ap (option_map (call_in (pool_of p.pool))) c.in-Some.is)
    ∙ routine_short p site me code f short

pub returns-then-not-has_room-clause-follows : goal.returns-then-not-has_room-clause-follows
returns-then-not-has_room-clause-follows c = λ count s code objects serves fits.
    let a = activation_of c.args.activation.now in
    let p = c.args.program.now.image in
    let me = reference_of c.args.me in
    let f = state_of objects a in
    let site = c.in-Some.site in
    let enough : site.count ≤ length (values_of a.operands.values) = omega (arith, length-map a.operands.values value_of, c.if-count-len.false, c.len.ensures) in
    ap (λ (o : Option CallSite). hop_of s code me (option_map CallRoutine o) f) (sym c.call_at.ensures.site ∙ ap (option_map (call_in (pool_of p.pool))) c.in-Some.is)
    ∙ routine_by p site me code f false enough
    (room_test _ _ _ site.count a.operands.values a.operands.depth code.depth c.has_room.ensures c.is_some-gives.ensures fits.depth ∙ c.if-not-has_room.true)
    ∙ misfits p s code me objects site.count c.misfit.result a (activation_of c.misfit.new.activation) c.misfit.ensures.gone c.misfit.ensures.failed

pub returns-clause-follows : goal.returns-clause-follows
returns-clause-follows c = λ count.
    let p = c.args.program.now.image in
    calls_follow p c.args.me count c.args.number c.in-Some.site c.is_some-gives.result c.has_room.result (activation_of c.args.activation.now)
    (sym c.call_at.ensures.site ∙ ap (option_map (call_in (pool_of p.pool))) c.in-Some.is) (omega (arith, c.if-count-len.false, c.len.ensures))
    c.has_room.ensures c.if-not-has_room.false c.is_some-gives.ensures

pub returns-then-not-has_room-clause-told : goal.returns-then-not-has_room-clause-told
returns-then-not-has_room-clause-told c = tells_failed c.args.program.now.image c.misfit.result (activation_of c.misfit.new.activation) cause.BadCode c.misfit.ensures.failed

pub returns-clause-told : goal.returns-clause-told
returns-clause-told c =
    enter_ready c.args.program.now.image calling.Unqualified c.args.me c.in-Some.site c.is_some-gives.result c.has_room.result (activation_of c.args.activation.now) c.in-Some.ensures.there
    (omega (arith, c.if-count-len.false, c.len.ensures)) c.is_some-gives.ensures c.has_room.ensures c.if-not-has_room.false

pub returns-then-not-has_room-clause-kept : goal.returns-then-not-has_room-clause-kept
returns-then-not-has_room-clause-kept c = comes_failed c.misfit.result cause.BadCode _ c.misfit.ensures.failed
