use Rattle.std.proofs.Common.{◌≡◌, List, subst}
use Rattle.std.specs.Prelude.{OnOk}
use Rattle.sc_text.specs.declared.token.Span.{Span}
use Rattle.sc_tree.specs.View.{name_of}
use Rattle.sc_class.specs.Internal.ScopeSearch.{print_place, like_places, name_clash}
use Rattle.sc_class.proofs.ScopeSteps.{three}
use Rattle.sc_class.proofs.faults.scopes.names.find_clashes.Goals as goal

pub returns : goal.returns
unfolding name_clash
returns c =
    let n = name_of c.args.name.now in
    subst (λ (ps : List Span). OnOk c.find_entities.result (c.find_entities.new.found ≡ ps))
    (three c.args.found.now c.insert_if_print.new.found c.find_features.new.found (print_place n) (like_places c.args.features.now n) (like_places c.args.known.now n) c.in_ok-insert_if_print.ensures c.in_ok-find_features.ensures)
    c.find_entities.ensures
