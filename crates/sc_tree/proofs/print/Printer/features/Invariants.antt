use Rattle.std.proofs.Common.{◌≡◌, drop, map, IsTrue}
use Rattle.sc_tree.specs.Canonical.Classes.{further_features_lines}
use Rattle.sc_tree.specs.Internal.Printer.{output_of, put_lines}
use Rattle.sc_tree.specs.Sections.{further_share}
use Rattle.sc_tree.specs.View.{feature_of, name_of}
use Rattle.sc_tree.proofs.print.Printer.features.Given as goal

abbrev pub invariant-loop-feature : goal.invariant-loop-feature
invariant-loop-feature l = record {
  written :
      put_lines (output_of l.self) (further_features_lines (map name_of l.before.exports.value.items) (map feature_of (drop l.feature-index l.rest)))
      ≡ put_lines (output_of l.initial.self) (further_features_lines (map name_of l.initial.before.exports.value.items) (map feature_of l.rest));
  shared : IsTrue (further_share l.before.exports.value.items (drop l.feature-index l.rest));
}
