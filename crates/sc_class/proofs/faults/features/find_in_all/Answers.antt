use Rattle.sc_tree.specs.View.{system_of}
use Rattle.sc_class.proofs.Lines.{at_no_class}
use Rattle.sc_class.proofs.faults.features.find_in_all.Goals as goal

pub find_in_order_and_rest-requires-clause-stands : goal.find_in_order_and_rest-requires-clause-stands
find_in_order_and_rest-requires-clause-stands c = at_no_class (system_of c.args.outline.now.hierarchy.system.now) _ _ _ c.new-line.ensures.class c.new-line.ensures.levels c.new-line.ensures.known
