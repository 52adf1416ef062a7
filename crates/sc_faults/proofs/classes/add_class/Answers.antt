use Rattle.sc_class.specs.SystemIn.{system_in}
use Rattle.sc_typing.specs.Marks.{is_marked}
use Rattle.sc_faults.proofs.Steps.{class_added}
use Rattle.sc_faults.proofs.classes.add_class.Goals as goal

pub returns : goal.returns
returns c =
    class_added (system_in c.args.class.now.tables.now) (is_marked c.args.class.now.purity.now) c.args.class.now.class c.args.text.now
    c.deref.result.now c.deref-2.result.now c.deref-3.result.now c.add_invariants.result c.args.faults.now.items
    c.add_creators.new.faults.items c.add_features.new.faults.items c.add_invariants.new.faults.items
    c.deref.ensures.value c.deref-2.ensures.value c.deref-3.ensures.value
    c.in_ok-add_creators.ensures c.in_ok-add_features.ensures c.add_invariants.ensures
