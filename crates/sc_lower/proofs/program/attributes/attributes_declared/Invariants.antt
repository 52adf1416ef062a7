use Rattle.std.proofs.Common.{◌≡◌, take, map}
use Rattle.sc_class.specs.SystemIn.{system_in}
use Rattle.sc_tree.specs.View.{feature_of}
use Rattle.sc_class.specs.Tables.Features.{declared_in}
use Rattle.sc_model.specs.Objects.{fresh_attributes}
use Rattle.sc_lower.specs.AttributeBindings.{binding_of}
use Rattle.sc_lower.proofs.program.attributes.attributes_declared.Given as goal

abbrev pub invariant-loop-feature : goal.invariant-loop-feature
invariant-loop-feature l = map binding_of l.attributes.items ≡ fresh_attributes (system_in l.tables) (map (declared_in l.class) (map feature_of (take l.feature-index l.feature-items)))
