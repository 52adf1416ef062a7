use Rattle.sc_class.specs.SystemIn.{system_in}
use Rattle.sc_typing.specs.FeatureNumbers.{all_features}
use Rattle.sc_typing.proofs.Numbers.{AreNumbered}
use Rattle.sc_typing.proofs.purity.numbering.Numbering.of.Given as goal

abbrev pub invariant-loop-class : goal.invariant-loop-class
invariant-loop-class l = AreNumbered l.classes (all_features (system_in l.tables)) l.features.items l.starts.items l.class
