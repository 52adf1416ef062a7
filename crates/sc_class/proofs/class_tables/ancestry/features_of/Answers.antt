use Rattle.std.proofs.Common.{ap, ◌∙◌}
use Rattle.sc_tree.specs.View.{system_of}
use Rattle.sc_class.specs.Tables.Features.{features_along}
use Rattle.sc_class.proofs.FeatureLemmas.{features_begin}
use Rattle.sc_class.proofs.class_tables.ancestry.features_of.Goals as goal

pub returns : goal.returns
returns c =
    let s = system_of c.args.outline.now.hierarchy.system.now in
    c.in_ok-add_along.ensures ∙ features_begin c.new-features.result.items c.new-redefined.result (features_along s c.deref.result.now) c.new-features.ensures.items c.new-redefined.ensures
    ∙ ap (features_along s) (c.deref.ensures.value ∙ c.in_ok-ancestors.ensures)
