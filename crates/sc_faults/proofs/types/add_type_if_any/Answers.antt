use Rattle.std.proofs.Common.{Ok, map}
use Rattle.sc_tree.specs.View.{declaration_of}
use Rattle.sc_class.specs.SystemIn.{system_in}
use Rattle.sc_faults.proofs.TypeSteps.{no_type_added, type_if_any_added}
use Rattle.sc_faults.proofs.types.add_type_if_any.Goals as goal

pub returns-in-None : goal.returns-in-None
returns-in-None c =
    no_type_added (system_in c.args.tables.now) (map declaration_of c.args.formals.now) c.args.declared.now (Ok tt) c.args.faults.now.items
    c.args.faults.now.items c.in-None.is

pub returns-in-Some : goal.returns-in-Some
returns-in-Some c =
    type_if_any_added (system_in c.args.tables.now) (map declaration_of c.args.formals.now) c.args.declared.now c.add_type.result
    c.args.faults.now.items c.add_type.new.faults.items c.in-Some.declared c.in-Some.is c.add_type.ensures
