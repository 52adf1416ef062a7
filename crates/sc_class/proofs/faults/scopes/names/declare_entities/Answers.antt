use Rattle.std.proofs.Common.{◌++◌, refl, List, map}
use Rattle.sc_tree.specs.declared.declaration.Declaration.{Declaration}
use Rattle.sc_tree.specs.View.{name_of, declaration_of}
use Rattle.sc_class.specs.Faults.Scopes.{entity_names}
use Rattle.sc_class.specs.Internal.Places.{union}
use Rattle.sc_class.specs.Internal.ScopeSearch.{names_clash}
use Rattle.sc_class.proofs.ScopeSteps.{names_more, names_end, known_more, known_end}
use Rattle.sc_class.proofs.faults.scopes.names.declare_entities.Goals as goal

pub loop-declaration-preserved : goal.loop-declaration-preserved
loop-declaration-preserved c = record {
  known =
      known_more (λ (xs : List Declaration). entity_names (map declaration_of xs)) (λ (x : Declaration). name_of x.name) c.args.declarations.now (λ x xs. refl) (c.args.known.now ++ entity_names (map declaration_of c.args.declarations.now))
      c.loop-declaration.known c.declare.new.known c.loop-declaration.declaration-index c.declaration-item.result c.loop-declaration.invariant.known c.loop-declaration-test.true c.declaration-item.is c.in_ok-declare.ensures.added;
  found =
      names_more (λ (xs : List Declaration). entity_names (map declaration_of xs)) (λ (x : Declaration). name_of x.name) c.args.declarations.now c.args.features.now (λ x xs. refl)
      (union c.args.found.now (names_clash c.args.features.now c.args.known.now (entity_names (map declaration_of c.args.declarations.now)))) c.loop-declaration.found c.declare.new.found c.loop-declaration.known c.declare.new.known c.loop-declaration.declaration-index c.declaration-item.result c.loop-declaration.invariant.found c.loop-declaration-test.true c.declaration-item.is
      c.in_ok-declare.ensures.found c.in_ok-declare.ensures.added;
}

pub returns-clause-found : goal.returns-clause-found
returns-clause-found c =
    names_end (λ (xs : List Declaration). entity_names (map declaration_of xs)) (λ (x : Declaration). name_of x.name) c.args.declarations.now c.args.features.now refl
    (union c.args.found.now (names_clash c.args.features.now c.args.known.now (entity_names (map declaration_of c.args.declarations.now)))) c.loop-declaration.found c.loop-declaration.known c.loop-declaration.declaration-index c.loop-declaration.invariant.found c.loop-declaration-test.false

pub returns-clause-added : goal.returns-clause-added
returns-clause-added c =
    known_end (λ (xs : List Declaration). entity_names (map declaration_of xs)) (λ (x : Declaration). name_of x.name) c.args.declarations.now refl (c.args.known.now ++ entity_names (map declaration_of c.args.declarations.now))
    c.loop-declaration.known c.loop-declaration.declaration-index c.loop-declaration.invariant.known c.loop-declaration-test.false
