use Rattle.sc_tree.specs.View.{system_of}
use Rattle.sc_class.specs.Internal.KnownFeatures.{class_of_first}
use Rattle.sc_class.proofs.KnownLemmas.{known_more, as_many}
use Rattle.sc_class.proofs.class_tables.ancestry.known_features.Goals as goal

pub loop-number-preserved : goal.loop-number-preserved
loop-number-preserved c =
    let s = system_of c.args.outline.now.hierarchy.system.now in
    let inv = c.loop-number.invariant in
    record {
      count = as_many class_of_first s c.loop-number.known.items c.push.new.self.items c.in_ok-of_found.field-0 c.loop-number.number c.in_ok-of_found.ensures c.in_ok-push.ensures.items inv.count;
      declarers = known_more class_of_first s c.loop-number.known.items c.push.new.self.items c.in_ok-of_found.field-0 c.loop-number.number c.in_ok-of_found.ensures c.in_ok-push.ensures.items inv.count inv.declarers;
    }
