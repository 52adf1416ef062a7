use Rattle.sc_tree.specs.View.{name_of}
use Rattle.sc_symbols.proofs.Known.{absent, entity_known, no_entity, no_place, present}
use Rattle.sc_symbols.proofs.names.add_name_at.Goals as goal

pub returns-in-None : goal.returns-in-None
returns-in-None c =
    let n = c.args.scope.now in
    no_entity n.names.items n.places.items c.args.number (name_of c.args.name.now) c.args.mentions.now.items
    (absent c.deref.result.now n.names.items c.args.number c.get.result c.deref.ensures.value c.get.ensures.lookup c.in-None.is)

pub returns-in-None-get : goal.returns-in-None-get
returns-in-None-get c =
    let n = c.args.scope.now in
    no_place n.names.items n.places.items c.args.number (name_of c.args.name.now) _ c.args.mentions.now.items
    (present c.deref.result.now n.names.items c.args.number c.get.result c.deref.ensures.value c.get.ensures.lookup c.in-Some.known c.in-Some.is)
    (absent c.deref-in-Some.result.now n.places.items c.args.number c.get-in-Some.result c.deref-in-Some.ensures.value c.get-in-Some.ensures.lookup c.in-None-get.is)

pub returns-in-Some-get : goal.returns-in-Some-get
returns-in-Some-get c =
    let n = c.args.scope.now in
    entity_known n.names.items n.places.items c.args.number (name_of c.args.name.now) _ _ c.add_entity.result c.args.mentions.now.items c.add_entity.new.mentions.items
    (present c.deref.result.now n.names.items c.args.number c.get.result c.deref.ensures.value c.get.ensures.lookup c.in-Some.known c.in-Some.is)
    (present c.deref-in-Some.result.now n.places.items c.args.number c.get-in-Some.result c.deref-in-Some.ensures.value c.get-in-Some.ensures.lookup c.in-Some-get.place c.in-Some-get.is)
    c.add_entity.ensures
