use Rattle.std.proofs.Common.{◌≡◌, ◌++◌, map, take}
use Rattle.std.specs.List.{flat_map}
use Rattle.sc_tree.specs.View.{feature_of}
use Rattle.sc_class.specs.SystemIn.{system_in}
use Rattle.sc_symbols.specs.Internal.{judged}
use Rattle.sc_symbols.specs.Mentions.{mentions_in_feature}
use Rattle.sc_symbols.proofs.classes.add_features.Given as goal

abbrev pub invariant-loop-feature : goal.invariant-loop-feature
invariant-loop-feature l =
    l.mentions.items ≡ l.initial.mentions.items ++ flat_map (λ x. mentions_in_feature judged (system_in l.tables) l.class (feature_of x)) (take l.feature-index l.features)
