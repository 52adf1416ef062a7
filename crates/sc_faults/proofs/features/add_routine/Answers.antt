use Rattle.sc_class.specs.SystemIn.{system_in}
use Rattle.sc_typing.specs.Marks.{is_marked}
use Rattle.sc_typing.specs.Views.{routine_in}
use Rattle.sc_faults.proofs.Steps.{routine_added}
use Rattle.sc_faults.proofs.features.add_routine.Goals as goal

pub returns : goal.returns
returns c =
    routine_added (system_in c.args.class.now.tables.now) (is_marked c.args.class.now.purity.now) c.args.class.now.class c.args.declared.now
    (routine_in c.context_of-routine.result) c.as_slice-formals.result.now c.as_slice-formals.ensures.value c.context_of-routine.ensures
    c.add_text.result c.args.faults.now.items c.add_types.new.faults.items c.add_type_if_any.new.faults.items c.add_text.new.faults.items
    c.in_ok-add_types.ensures c.in_ok-add_type_if_any.ensures c.add_text.ensures
