use Rattle.std.proofs.Common.{◌≡◌, ◌++◌, map, take}
use Rattle.std.specs.List.{flat_map}
use Rattle.sc_tree.specs.View.{name_of}
use Rattle.sc_class.specs.SystemIn.{system_in}
use Rattle.sc_symbols.specs.Mentions.{mentions_of_feature}
use Rattle.sc_symbols.proofs.names.add_feature_names.Given as goal

abbrev pub invariant-loop-name : goal.invariant-loop-name
invariant-loop-name l =
    l.mentions.items ≡ l.initial.mentions.items ++ flat_map (λ x. mentions_of_feature (system_in l.tables) l.class (name_of x)) (take l.name-index l.names)
