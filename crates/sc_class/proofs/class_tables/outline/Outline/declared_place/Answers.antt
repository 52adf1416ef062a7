use Rattle.std.proofs.Common.{ap, [], ◌∙◌}
use Rattle.sc_tree.specs.View.{system_of}
use Rattle.sc_class.specs.Internal.NameIndex.{place_among}
use Rattle.sc_class.specs.Internal.DeclaredNames.{names_of_class}
use Rattle.sc_class.proofs.Anys.{got}
use Rattle.sc_class.proofs.FeatureLemmas.{at_image, got_item}
use Rattle.sc_class.proofs.class_tables.outline.Outline.declared_place.Goals as goal

pub returns-in-Some : goal.returns-in-Some
returns-in-Some c =
    c.place.ensures
    ∙ ap (place_among c.args.name.now)
    (at_image names_of_class (λ o. o.features) c.args.self.now.names.items (system_of c.args.self.now.hierarchy.system.now).classes c.args.self.now.have_names c.args.class c.in-Some.names.now []
    (got_item c.deref.result.now c.args.self.now.names.items c.args.class c.get.result c.in-Some.names (got c.deref.result.now c.args.class c.get.result c.get.ensures.lookup) c.in-Some.is c.deref.ensures.value))
