use Rattle.sc_tree.specs.Plain.{Feature}
use Rattle.sc_tree.specs.View.{feature_of}
use Rattle.sc_class.specs.declared.faults.left_out.Exclusion.{Exclusion}
use Rattle.sc_class.specs.Faults.LeftOut.{ExportLeftOut}
use Rattle.sc_class.specs.Internal.Places.{Gains}
use Rattle.sc_class.proofs.PlaceLists.{Among}
use Rattle.sc_class.proofs.faults.left_out.find_export_lists.Given as goal

abbrev pub invariant-loop-feature : goal.invariant-loop-feature
invariant-loop-feature l = Gains (Among (λ (f : Feature) (x : Exclusion). ExportLeftOut f.exports x) feature_of l.features l.feature-index) l.fn.found.items l.found.items
