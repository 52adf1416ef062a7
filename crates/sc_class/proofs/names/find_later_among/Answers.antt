use Rattle.std.proofs.Common.{◌∷◌, [], List, refl}
use Rattle.sc_tree.specs.View.{name_of}
use Rattle.sc_class.specs.declared.names.Added.{Added}
use Rattle.sc_class.specs.Internal.NameIndex.{names_in}
use Rattle.sc_class.specs.Internal.Places.{union}
use Rattle.sc_class.specs.Internal.ScopeSearch.{later_places}
use Rattle.sc_class.proofs.ScopeSteps.{later_cons, search_more, search_end}
use Rattle.sc_class.proofs.names.find_later_among.Goals as goal

pub loop-added-preserved : goal.loop-added-preserved
loop-added-preserved c =
    let n = name_of c.args.name.now in
    search_more (λ (added : List Added). later_places (names_in added) n) (λ (a : Added). later_places (name_of a.name.now ∷ []) n) c.args.names.now (λ a added. later_cons n (name_of a.name.now) (names_in added))
    (union c.args.found.now (later_places (names_in c.args.names.now) n)) c.loop-added.found c.insert_if_later.new.found c.loop-added.added-index c.added-item.result c.loop-added.invariant c.loop-added-test.true c.added-item.is c.in_ok-insert_if_later.ensures

pub returns : goal.returns
returns c =
    let n = name_of c.args.name.now in
    search_end (λ (added : List Added). later_places (names_in added) n) (λ (a : Added). later_places (name_of a.name.now ∷ []) n) c.args.names.now refl
    (union c.args.found.now (later_places (names_in c.args.names.now) n)) c.loop-added.found c.loop-added.added-index c.loop-added.invariant c.loop-added-test.false
