use Rattle.std.proofs.Common.{◌∷◌, [], List, map, refl}
use Rattle.sc_tree.specs.View.{name_of, feature_of}
use Rattle.sc_class.specs.declared.class_tables.feature_entry.FeatureEntry.{FeatureEntry}
use Rattle.sc_class.specs.View.{entry_of}
use Rattle.sc_class.specs.Faults.Scopes.{feature_names}
use Rattle.sc_class.specs.Internal.Places.{union}
use Rattle.sc_class.specs.Internal.ScopeSearch.{later_places}
use Rattle.sc_class.proofs.ScopeSteps.{later_cons, search_more, search_end}
use Rattle.sc_class.proofs.faults.scopes.features.find_later_among.Goals as goal

pub loop-entry-preserved : goal.loop-entry-preserved
unfolding feature_of
loop-entry-preserved c =
    let n = name_of c.args.name.now in
    search_more (λ (es : List FeatureEntry). later_places (feature_names (map entry_of es)) n) (λ (e : FeatureEntry). later_places (name_of e.feature.now.name ∷ []) n) c.args.features.now
    (λ e es. later_cons n (name_of e.feature.now.name) (feature_names (map entry_of es)))
    (union c.args.found.now (later_places (feature_names (map entry_of c.args.features.now)) n)) c.loop-entry.found c.insert_if_later.new.found c.loop-entry.entry-index c.entry-item.result c.loop-entry.invariant c.loop-entry-test.true c.entry-item.is c.in_ok-insert_if_later.ensures

pub returns : goal.returns
unfolding feature_of
returns c =
    let n = name_of c.args.name.now in
    search_end (λ (es : List FeatureEntry). later_places (feature_names (map entry_of es)) n) (λ (e : FeatureEntry). later_places (name_of e.feature.now.name ∷ []) n) c.args.features.now refl
    (union c.args.found.now (later_places (feature_names (map entry_of c.args.features.now)) n)) c.loop-entry.found c.loop-entry.entry-index c.loop-entry.invariant c.loop-entry-test.false
