use Rattle.std.proofs.Common.{◌++◌, refl, List, map}
use Rattle.sc_tree.specs.declared.instruction.Head.{Head}
use Rattle.sc_tree.specs.View.{name_of, head_of}
use Rattle.sc_class.specs.Faults.Scopes.{head_names}
use Rattle.sc_class.specs.Internal.Places.{union}
use Rattle.sc_class.specs.Internal.ScopeSearch.{names_clash}
use Rattle.sc_class.proofs.ScopeSteps.{names_more, names_end, known_more, known_end}
use Rattle.sc_class.proofs.faults.scopes.names.declare_heads.Goals as goal

pub loop-head-preserved : goal.loop-head-preserved
unfolding head_of
loop-head-preserved c = record {
  known =
      known_more (λ (xs : List Head). head_names (map head_of xs)) (λ (x : Head). name_of x.name) c.args.heads.now (λ x xs. refl) (c.args.known.now ++ head_names (map head_of c.args.heads.now))
      c.loop-head.known c.declare.new.known c.loop-head.head-index c.head-item.result c.loop-head.invariant.known c.loop-head-test.true c.head-item.is c.in_ok-declare.ensures.added;
  found =
      names_more (λ (xs : List Head). head_names (map head_of xs)) (λ (x : Head). name_of x.name) c.args.heads.now c.args.features.now (λ x xs. refl)
      (union c.args.found.now (names_clash c.args.features.now c.args.known.now (head_names (map head_of c.args.heads.now)))) c.loop-head.found c.declare.new.found c.loop-head.known c.declare.new.known c.loop-head.head-index c.head-item.result c.loop-head.invariant.found c.loop-head-test.true c.head-item.is
      c.in_ok-declare.ensures.found c.in_ok-declare.ensures.added;
}

pub returns-clause-found : goal.returns-clause-found
unfolding head_of
returns-clause-found c =
    names_end (λ (xs : List Head). head_names (map head_of xs)) (λ (x : Head). name_of x.name) c.args.heads.now c.args.features.now refl
    (union c.args.found.now (names_clash c.args.features.now c.args.known.now (head_names (map head_of c.args.heads.now)))) c.loop-head.found c.loop-head.known c.loop-head.head-index c.loop-head.invariant.found c.loop-head-test.false

pub returns-clause-added : goal.returns-clause-added
unfolding head_of
returns-clause-added c =
    known_end (λ (xs : List Head). head_names (map head_of xs)) (λ (x : Head). name_of x.name) c.args.heads.now refl (c.args.known.now ++ head_names (map head_of c.args.heads.now))
    c.loop-head.known c.loop-head.head-index c.loop-head.invariant.known c.loop-head-test.false
