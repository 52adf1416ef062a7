use Rattle.std.proofs.Common.{List, ap, map, subst, ◌∙◌}
use Rattle.sc_tree.specs.Plain.{Feature}
use Rattle.sc_tree.specs.View.{name_of, feature_of}
use Rattle.sc_class.specs.declared.faults.left_out.Exclusion.{Exclusion}
use Rattle.sc_class.specs.Faults.LeftOut.{ExportLeftOut}
use Rattle.sc_class.specs.Internal.Found.{FindsOnly}
use Rattle.sc_class.proofs.PlaceLists.{gains_begin, gains_more, gains_all, gains_only}
use Rattle.sc_class.proofs.faults.left_out.find_export_lists.Goals as goal

pub loop-feature-init : goal.loop-feature-init
loop-feature-init c = gains_begin (λ (f : Feature) (x : Exclusion). ExportLeftOut f.exports x) feature_of c.args.features.now c.args.found.now.items

pub loop-feature-preserved : goal.loop-feature-preserved
unfolding feature_of
loop-feature-preserved c =
    gains_more (λ (f : Feature) (x : Exclusion). ExportLeftOut f.exports x) feature_of c.args.features.now c.loop-feature.feature-index c.feature-item.result c.args.found.now.items c.loop-feature.found.items c.add_if_any.new.found.items
    c.loop-feature-test.true c.feature-item.is c.loop-feature.invariant
    (gains_only c.exports_left_out.result
    (subst (λ (ns : List _). FindsOnly (ExportLeftOut (map name_of ns)) c.exports_left_out.result) (c.deref-in-loop-feature.ensures.value ∙ ap (λ v. v.items) c.deref.ensures) c.exports_left_out.ensures) c.in_ok-add_if_any.ensures)

pub returns : goal.returns
returns c = gains_all (λ (f : Feature) (x : Exclusion). ExportLeftOut f.exports x) feature_of c.args.features.now c.loop-feature.feature-index c.args.found.now.items c.loop-feature.found.items c.loop-feature-test.false c.loop-feature.invariant
