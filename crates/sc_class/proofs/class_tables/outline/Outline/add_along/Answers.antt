use Rattle.std.proofs.Common.{get_or, drop, map, ◌+◌, ◌++◌}
use Rattle.std.proofs.lemmas.List.{drop_more}
use Rattle.sc_tree.specs.View.{system_of}
use Rattle.sc_class.specs.View.{entry_of}
use Rattle.sc_class.specs.Tables.Features.{features_along, not_redefined}
use Rattle.sc_class.proofs.AncestorLemmas.{features_more}
use Rattle.sc_class.proofs.FeatureLemmas.{features_end}
use Rattle.sc_class.proofs.class_tables.outline.Outline.add_along.Goals as goal

pub loop-class-preserved : goal.loop-class-preserved
loop-class-preserved c =
    let s = system_of c.args.self.now.hierarchy.system.now in
    let ancestors = c.args.ancestors.now in
    features_more s (get_or ancestors c.loop-class.class-index 0) (drop (c.loop-class.class-index + 1) ancestors) (drop c.loop-class.class-index ancestors)
    (map entry_of c.loop-class.features.items) (map entry_of c.add_declared.new.features.items)
    (map entry_of c.args.features.now.items ++ not_redefined c.args.redefined.now (features_along s ancestors)) c.loop-class.redefined c.add_redefined.new.redefined
    (drop_more ancestors c.loop-class.class-index 0 c.loop-class-test.true)
    c.in_ok-add_declared.ensures c.in_ok-add_redefined.ensures c.loop-class.invariant

pub returns : goal.returns
returns c =
    features_end (system_of c.args.self.now.hierarchy.system.now) c.args.ancestors.now c.loop-class.class-index (map entry_of c.loop-class.features.items) _ c.loop-class.redefined c.loop-class-test.false c.loop-class.invariant
