use Rattle.std.proofs.Common.{◌≡◌, ◌++◌, [], List, map, ap, subst, ◌∙◌}
use Rattle.std.specs.Prelude.{OnOk}
use Rattle.sc_text.specs.declared.token.Span.{Span}
use Rattle.sc_tree.specs.declared.system.Feature.{Feature}
use Rattle.sc_tree.specs.declared.instruction.Clause.{Clause}
use Rattle.sc_tree.specs.Plain.{Name}
use Rattle.sc_tree.specs.View.{class_of, clause_of, feature_of, system_of}
use Rattle.sc_class.specs.declared.faults.scopes.features.Part.TheVariants.{All}
use Rattle.sc_class.specs.Internal.Places.{union}
use Rattle.sc_class.specs.Internal.ScopeSearch.{names_of_part, kinds_clash, clauses_clash}
use Rattle.sc_class.proofs.ScopeSteps.{two}
use Rattle.sc_class.proofs.faults.class_clashes.find_clashes_in_texts.Goals as goal

pub returns : goal.returns
unfolding class_of
returns c =
    let known = names_of_part All (system_of c.args.outline.now.hierarchy.system.now) c.args.number in
    let texts : List Name → List Feature → List Clause → List Span = λ names fs ks. kinds_clash names (map feature_of fs) ++ clauses_clash names [] (map clause_of ks) in
    subst (λ (ps : List Span). OnOk c.in_invariant.result (c.in_invariant.new.found ≡ ps))
    (two c.args.found.now c.in_features.new.found (kinds_clash c.of-names.result (map feature_of c.deref.result.now)) (clauses_clash c.of-names.result [] (map clause_of c.deref-2.result.now)) c.in_ok-in_features.ensures
    ∙ ap (union c.args.found.now) (ap (λ names. texts names c.deref.result.now c.deref-2.result.now) c.of-names.ensures ∙ ap (λ (fs : List Feature). texts known fs c.deref-2.result.now) c.deref.ensures.value ∙ ap (texts known c.args.class.now.features.items) c.deref-2.ensures.value))
    c.in_invariant.ensures
