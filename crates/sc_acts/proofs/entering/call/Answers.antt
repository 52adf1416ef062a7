use Rattle.std.proofs.Common.{◌≡◌, sym, ap, ◌∙◌, subst, OnOk}
use Rattle.sc_code.specs.declared.program.Image.{Image}
use Rattle.sc_region.specs.Stores.{PlainStore}
use Rattle.sc_acts.specs.Entering.{routine_in}
use Rattle.sc_acts.specs.Tables.{version_in}
use Rattle.sc_acts.proofs.LastOperands.{call_has, called_is}
use Rattle.sc_acts.proofs.entering.call.Goals as goal

pub call-requires : goal.call-requires
call-requires c =
    let has = call_has c.args.calling c.args.count c.args.store.now.frames (c.has_call.ensures.some c.if-not-has_call.false) in
    record { caller = has.0; actuals = has.1 }

pub returns-clause-ok : goal.returns-clause-ok
returns-clause-ok c =
    let x = c.args.store.now in
    subst (λ (z : PlainStore). OnOk c.call.result (c.call.new.self ≡ z))
    (called_is c.args.calling c.args.object c.args.name c.args.count c.args.gives x c.in-Some.routine c.operands_of.result c.origin_of.result c.operands_of.ensures c.origin_of.ensures
    (c.has_call.ensures.some c.if-not-has_call.false)
    (ap (λ (p : Image). routine_in (version_in p c.args.object.class c.args.name)) (sym c.program.ensures) ∙ sym c.routine_of-found.ensures ∙ c.in-Some.is)) c.call.ensures.ok
