use Rattle.std.proofs.Common.{sym, subst, length, Some, None}
use Rattle.sc_class.specs.View.{entry_of}
use Rattle.sc_rules.specs.Names.{routine_of}
use Rattle.sc_class.specs.SystemIn.{system_in}
use Rattle.sc_check.specs.purity.Internal.Effects.{effect_of}
use Rattle.sc_check.specs.declared.purity.effects.Effect as held
use Rattle.sc_check.specs.purity.Internal.ImpureSearch.{IsRecorded}
use Rattle.sc_check.proofs.purity.ImpureEffects.{recorded_side_effect, recorded_nothing, recorded_call}
use Rattle.sc_check.proofs.purity.ImpureSearchSteps.{number_within, entry_number}
use Rattle.sc_check.proofs.purity.impure_search.record_effect.Goals as goal

-- `called` is what a call of the routine leads to: its number is that of the routine
pub returns-in_default : goal.returns-in_default
returns-in_default c =
    let s = system_in c.args.numbering.now.tables.now in
    subst (λ (d : held.Effect). IsRecorded s c.args.search.now.impure.items c.args.search.now.todo.items c.args.callers.now.lists.items c.args.search.now.impure.items c.args.search.now.todo.items
    c.args.callers.now.lists.items c.args.number (effect_of d)) (sym c.in-RoutineCall.is)
    (recorded_nothing s c.args.search.now.impure.items c.args.search.now.todo.items c.args.callers.now.lists.items c.args.number (routine_of (entry_of c.in-RoutineCall.called))
    (entry_number s c.in-RoutineCall.called c.as_str.result.now None c.as_str.ensures.value c.in_default.ensures))

pub add-requires : goal.add-requires
add-requires c =
    let s = system_in c.args.numbering.now.tables.now in
    number_within s (routine_of (entry_of c.in-RoutineCall.called)) c.number.result
    (entry_number s c.in-RoutineCall.called c.as_str.result.now c.number.result c.as_str.ensures.value c.number.ensures) (length c.args.callers.now.lists.items) c.requires.as_many c.in-Some.called c.in-Some.is

pub returns-in_ok-add-in-RoutineCall : goal.returns-in_ok-add-in-RoutineCall
returns-in_ok-add-in-RoutineCall c =
    let s = system_in c.args.numbering.now.tables.now in
    subst (λ (d : held.Effect). IsRecorded s c.args.search.now.impure.items c.args.search.now.todo.items c.args.callers.now.lists.items c.args.search.now.impure.items c.args.search.now.todo.items
    c.add.new.self.lists.items c.args.number (effect_of d)) (sym c.in-RoutineCall.is)
    (recorded_call s c.args.search.now.impure.items c.args.search.now.todo.items c.args.callers.now.lists.items c.add.new.self.lists.items c.args.number c.in-Some.called
    (routine_of (entry_of c.in-RoutineCall.called)) (entry_number s c.in-RoutineCall.called c.as_str.result.now (Some c.in-Some.called) c.as_str.ensures.value c.in-Some.ensures)
    c.in_ok-add-in-RoutineCall.ensures.many c.in_ok-add-in-RoutineCall.ensures.added)

pub returns-in_ok-mark_impure-in-SideEffect : goal.returns-in_ok-mark_impure-in-SideEffect
returns-in_ok-mark_impure-in-SideEffect c =
    let s = system_in c.args.numbering.now.tables.now in
    subst (λ (d : held.Effect). IsRecorded s c.args.search.now.impure.items c.args.search.now.todo.items c.args.callers.now.lists.items c.mark_impure.new.self.impure.items c.mark_impure.new.self.todo.items
    c.args.callers.now.lists.items c.args.number (effect_of d)) (sym c.in-SideEffect.is)
    (recorded_side_effect s c.args.search.now.impure.items c.mark_impure.new.self.impure.items c.args.search.now.todo.items c.mark_impure.new.self.todo.items c.args.callers.now.lists.items c.args.number
    c.in_ok-mark_impure-in-SideEffect.ensures)
