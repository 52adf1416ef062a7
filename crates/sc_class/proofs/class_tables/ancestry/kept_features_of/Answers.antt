use Rattle.std.proofs.Common.{List, drop, ap, ◌∙◌}
use Rattle.sc_tree.specs.View.{system_of}
use Rattle.sc_class.specs.Tables.Features.{features_along, not_redefined, redefined_names}
use Rattle.sc_class.proofs.FeatureLemmas.{kept_begin}
use Rattle.sc_class.proofs.class_tables.ancestry.kept_features_of.Goals as goal

pub returns : goal.returns
returns c =
    let s = system_of c.args.outline.now.hierarchy.system.now in
    c.in_ok-add_along.ensures ∙ kept_begin c.new-features.result.items c.new-redefined.result (redefined_names s c.args.number) c.add_redefined.new.redefined (features_along s c.above_first.result.now) c.new-features.ensures.items c.new-redefined.ensures c.in_ok-add_redefined.ensures
    ∙ ap (λ (ks : List _). not_redefined (redefined_names s c.args.number) (features_along s ks)) (c.above_first.ensures ∙ ap (drop 1) (c.deref.ensures.value ∙ c.in_ok-ancestors.ensures))
