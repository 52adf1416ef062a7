use Rattle.sc_tree.specs.View.{system_of}
use Rattle.sc_class.proofs.ClassFeatures.{nothing_first, nothing_more}
use Rattle.sc_class.proofs.class_tables.found_features.nothing_found.Goals as goal

pub loop-class-init : goal.loop-class-init
loop-class-init c = nothing_first (system_of c.args.outline.now.hierarchy.system.now) c.new-found.result.items c.new-found.ensures.items

pub loop-class-preserved : goal.loop-class-preserved
loop-class-preserved c = nothing_more (system_of c.args.outline.now.hierarchy.system.now) c.loop-class.found.items c.push.new.self.items c.in_ok-push.ensures.items c.loop-class.invariant
