use Rattle.std.proofs.Common.{List, map, subst}
use Rattle.std.specs.Prelude.{Any}
use Rattle.sc_tree.specs.View.{class_of, feature_of}
use Rattle.sc_class.specs.Faults.LeftOut.{ExportLeftOut}
use Rattle.sc_class.specs.Internal.Places.{Gains}
use Rattle.sc_class.proofs.LeftOutLemmas.{class_gained}
use Rattle.sc_class.proofs.PlaceLists.{on_ok}
use Rattle.sc_class.proofs.faults.left_out.find_in_class.Goals as goal

pub returns : goal.returns
unfolding class_of
returns c =
    on_ok c.find_export_lists.result
    (λ l. class_gained (class_of c.args.class.now) c.marked.result c.second_parent.result c.args.found.now.items c.add_if_any.new.found.items c.add_if_any-2.new.found.items c.find_export_lists.new.found.items
    c.marked.ensures c.second_parent.ensures c.in_ok-add_if_any.ensures c.in_ok-add_if_any-2.ensures
    (subst (λ (fs : List _). Gains (λ x. Any (λ f. ExportLeftOut f.exports x) (map feature_of fs)) c.add_if_any-2.new.found.items c.find_export_lists.new.found.items) c.deref.ensures.value l))
    c.find_export_lists.ensures
