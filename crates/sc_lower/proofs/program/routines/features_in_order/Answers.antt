use Rattle.std.proofs.Common.{◌≡◌, ◌+◌, ◌++◌, List, map, drop, append-nil, append_assoc, sym, ap, ◌∙◌, arith}
use Rattle.std.proofs.lemmas.List.{at_drop_all}
use Rattle.sc_tree.specs.declared.system.Class.{Class}
use Rattle.sc_tree.specs.declared.system.Feature.{Feature}
use Rattle.sc_tree.specs.View.{class_of, feature_of}
use Rattle.sc_class.specs.declared.class_tables.feature_entry.FeatureEntry.{FeatureEntry}
use Rattle.sc_class.specs.SystemIn.{system_in}
use Rattle.sc_class.specs.Tables.Features.{DeclaredFeature, declared_in}
use Rattle.sc_class.specs.View.{entry_of}
use Rattle.sc_typing.specs.FeatureNumbers.{features_from}
use Rattle.sc_lower.proofs.InOrder.{features_here}
use Rattle.sc_lower.proofs.program.routines.features_in_order.Goals as goal

pub loop-class-init : goal.loop-class-init
loop-class-init c =
    let s = system_in c.args.tables.now in
    ap (λ (fs : List FeatureEntry). map entry_of fs ++ features_from 0 (map class_of c.classes-classes.result.now)) c.new-features.ensures.items
    ∙ ap (features_from 0) c.classes-classes.ensures

pub loop-class-preserved : goal.loop-class-preserved
loop-class-preserved c =
    let cs = c.classes-classes.result.now in
    let k = c.loop-class.class in
    let text = c.index-classes-class.result in
    let rest = features_from (k + 1) (map class_of (drop (k + 1) cs)) in
    let own : map (declared_in k) (map feature_of c.deref.result.now) ≡ map (declared_in k) (map feature_of text.features.items) =
    ap (λ (fs : List Feature). map (declared_in k) (map feature_of fs)) c.deref.ensures.value
    ∙ ap (λ (d : Class). map (declared_in k) (map feature_of d.features.items)) (sym c.index-classes-class.is) in
    ap (λ (fs : List DeclaredFeature). fs ++ rest) (c.in_ok-add_features.ensures ∙ ap (λ (fs : List DeclaredFeature). map entry_of c.loop-class.features.items ++ fs) own)
    ∙ append_assoc (map entry_of c.loop-class.features.items) (map (declared_in k) (map feature_of text.features.items)) rest
    ∙ ap (λ (fs : List DeclaredFeature). map entry_of c.loop-class.features.items ++ fs)
    (sym (features_here cs k text c.loop-class-test.true c.index-classes-class.is))
    ∙ c.loop-class.invariant

pub returns : goal.returns
returns c =
    let k = c.loop-class.class in
    let done = at_drop_all (λ (cs : List Class). features_from k (map class_of cs)) c.classes-classes.result.now k (omega (arith, c.loop-class-test.false)) in
    sym (append-nil (map entry_of c.loop-class.features.items))
    ∙ ap (λ (fs : List DeclaredFeature). map entry_of c.loop-class.features.items ++ fs) (sym done)
    ∙ c.loop-class.invariant
