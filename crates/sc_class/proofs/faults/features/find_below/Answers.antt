use Rattle.std.proofs.Common.{[], List, map, ap, ◌∙◌}
use Rattle.sc_tree.specs.View.{class_of, feature_of, system_of}
use Rattle.sc_class.specs.declared.faults.scopes.features.Part.TheVariants.{Inherited}
use Rattle.sc_class.specs.Internal.Lines.{known_by}
use Rattle.sc_class.specs.Internal.Places.{union}
use Rattle.sc_class.specs.Internal.ScopeSearch.{names_of_part, names_clash}
use Rattle.sc_class.proofs.FaultLemmas.{class_gained}
use Rattle.sc_class.proofs.Lines.{all_known}
use Rattle.sc_class.proofs.PlaceLists.{on_ok}
use Rattle.sc_class.proofs.faults.features.find_below.Goals as goal

pub find_clashes_in_texts-requires : goal.find_clashes_in_texts-requires
find_clashes_in_texts-requires c =
    all_known (system_of c.args.outline.now.hierarchy.system.now) c.args.number (class_of c.args.class.now) (λ x. known_by x c.args.line.now.known) (λ x. known_by x c.enter.new.self.known) c.requires.text c.in_ok-enter.ensures.known c.requires.known

pub returns-clause-found : goal.returns-clause-found
unfolding class_of
returns-clause-found c =
    let s = system_of c.args.outline.now.hierarchy.system.now in
    let k = c.args.number in
    on_ok c.find_clashes_in_texts.result
    (λ e. record {
      clash = class_gained s k (class_of c.args.class.now) c.requires.text c.args.found.now.clash c.find_clashes_of_features.new.found c.find_clashes_in_texts.new.found
          (c.in_ok-find_clashes_of_features.ensures ∙ ap (λ (fs : List _). union c.args.found.now.clash (names_clash (names_of_part Inherited s k) [] (map (λ f. f.name) (map feature_of fs)))) c.deref.ensures.value) e;
      redefinition = c.in_ok-find_bad_redefinitions.ensures;
    })
    c.find_clashes_in_texts.ensures
