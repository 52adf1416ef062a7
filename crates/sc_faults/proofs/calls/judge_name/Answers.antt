use Rattle.sc_tree.specs.View.{target_of}
use Rattle.sc_class.specs.SystemIn.{system_in}
use Rattle.sc_typing.specs.Views.{meaning_in, routine_in, typing_of}
use Rattle.sc_faults.proofs.CallSteps.{named_passes, named_fails}
use Rattle.sc_faults.proofs.calls.judge_name.Goals as goal

pub returns : goal.returns
returns c =
    let site = c.args.site.now in
    named_fails (routine_in c.args.routine.now) site.context site.usage (target_of site.target.now)
    (meaning_in (system_in c.args.routine.now.tables.now) c.args.meaning.now) c.args.actuals site.span c.untyped.result (typing_of c.untyped-2.result)
    c.in_ok-found.found.items c.deref.result.now c.untyped.ensures (c.in_ok-found.ensures.items_if_clones_equal (λ y e. cc)) c.deref.ensures.value
    c.untyped-2.ensures _ c.in-Err.ensures

pub returns-in-Ok : goal.returns-in-Ok
returns-in-Ok c =
    let site = c.args.site.now in
    named_passes (routine_in c.args.routine.now) site.context site.usage (target_of site.target.now)
    (meaning_in (system_in c.args.routine.now.tables.now) c.args.meaning.now) c.args.actuals site.span c.untyped.result (typing_of c.untyped-2.result)
    c.in_ok-found.found.items c.deref.result.now c.untyped.ensures (c.in_ok-found.ensures.items_if_clones_equal (λ y e. cc)) c.deref.ensures.value
    c.untyped-2.ensures (typing_of c.in-Ok.field-0) c.in-Ok.ensures
