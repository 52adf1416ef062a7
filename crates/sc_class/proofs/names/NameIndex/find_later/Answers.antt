use Rattle.std.proofs.Common.{ap, ◌∙◌}
use Rattle.sc_tree.specs.View.{name_of}
use Rattle.sc_class.specs.Internal.NameIndex.{names_in}
use Rattle.sc_class.specs.Internal.Places.{union}
use Rattle.sc_class.specs.Internal.ScopeSearch.{later_places}
use Rattle.sc_class.proofs.LaterNames.{none_found}
use Rattle.sc_class.proofs.names.NameIndex.find_later.Goals as goal

pub returns-then-self-name : goal.returns-then-self-name
returns-then-self-name c =
    let n = name_of c.args.name.now in
    none_found c.self.inside.latest (names_in c.self.inside.names.items) n c.args.found.now c.if-self-name.true c.self.invariant.1 ∙ ap (λ ns. union c.args.found.now (later_places ns n)) c.self.view_is
