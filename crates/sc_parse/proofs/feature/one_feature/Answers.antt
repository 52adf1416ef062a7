use Rattle.std.proofs.Common.{[], ◌∷◌, ap, ◌∙◌, map}
use Rattle.sc_tree.specs.Plain as plain
use Rattle.sc_tree.specs.View.{feature_of}
use Rattle.sc_parse.proofs.feature.one_feature.Goals as goal

pub returns : goal.returns
returns c = ap (λ (fs : _). map feature_of fs) c.in_ok-features.ensures ∙ ap (λ (f : plain.Feature). f ∷ []) c.in_ok-feature.ensures
