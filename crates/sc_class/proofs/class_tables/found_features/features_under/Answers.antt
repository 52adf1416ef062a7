use Rattle.std.proofs.Common.{◌<◌, length, map, refl, subst, arith}
use Rattle.sc_tree.specs.View.{system_of}
use Rattle.sc_class.specs.View.{entry_of}
use Rattle.sc_class.specs.Internal.FoundFeatures.{AreFeatures}
use Rattle.sc_class.proofs.ClassFeatures.{its_own}
use Rattle.sc_class.proofs.Items.{some_is}
use Rattle.sc_class.proofs.SizeLemmas.{classes_counted}
use Rattle.sc_class.proofs.class_tables.found_features.features_under.Goals as goal

pub returns : goal.returns
returns c =
    let s = system_of c.args.outline.now.hierarchy.system.now in
    let n = classes_counted s c.classes.result.now c.classes.ensures in
    let t = c.if-depth-classes.false in
    let l : c.args.depth < length s.classes = omega (arith, n, t) in
    λ f e. subst (AreFeatures s c.args.number) (some_is _ f e) (its_own s c.args.number c.args.depth (map entry_of c.args.above.now) _ l c.requires refl c.in_ok-entries.ensures)
