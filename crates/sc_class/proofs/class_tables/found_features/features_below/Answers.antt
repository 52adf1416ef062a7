use Rattle.sc_class.proofs.ClassFeatures.{both_added}
use Rattle.sc_class.proofs.class_tables.found_features.features_below.Goals as goal

pub returns : goal.returns
returns c =
    both_added c.new-features.result.items c.add_declared.new.features.items c.add_inherited.new.features.items c.new-redefined.result _ _ c.new-features.ensures.items c.new-redefined.ensures
    c.in_ok-add_declared.ensures c.in_ok-add_inherited.ensures
