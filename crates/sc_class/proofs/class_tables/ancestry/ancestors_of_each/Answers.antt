use Rattle.sc_tree.specs.View.{system_of}
use Rattle.sc_class.proofs.TableLemmas.{lists_more}
use Rattle.sc_class.proofs.class_tables.ancestry.ancestors_of_each.Goals as goal

pub loop-number-preserved : goal.loop-number-preserved
loop-number-preserved c = lists_more (system_of c.args.hierarchy.now.system.now) c.loop-number.lists.items c.push.new.self.items c.in_ok-ancestors.ancestors c.loop-number.number c.in_ok-ancestors.ensures c.in_ok-push.ensures.items c.loop-number.invariant
