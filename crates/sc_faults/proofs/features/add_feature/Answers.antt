use Rattle.sc_class.specs.SystemIn.{system_in}
use Rattle.sc_typing.specs.Marks.{is_marked}
use Rattle.sc_faults.proofs.Steps.{attribute_added, of_routine_added}
use Rattle.sc_faults.proofs.features.add_feature.Goals as goal

pub returns-in-Attribute : goal.returns-in-Attribute
returns-in-Attribute c =
    let s = system_in c.args.class.now.tables.now in
    attribute_added s (is_marked c.args.class.now.purity.now) c.args.class.now.class c.args.kind.now c.add_type.result c.args.faults.now.items
    c.add_type.new.faults.items c.in-Attribute.declared c.in-Attribute.is
    c.add_type.ensures

pub returns-in-Routine : goal.returns-in-Routine
returns-in-Routine c =
    of_routine_added (system_in c.args.class.now.tables.now) (is_marked c.args.class.now.purity.now) c.args.class.now.class c.args.kind.now
    c.add_routine.result c.args.faults.now.items c.add_routine.new.faults.items c.in-Routine.routine c.in-Routine.is c.add_routine.ensures
