use Rattle.std.proofs.Common.{List, ap, sym, ◌∙◌}
use Rattle.std.specs.Option.{option_map, option_copied}
use Rattle.std.specs.Prelude.{slice_get}
use Rattle.sc_class.specs.declared.class_tables.known_features.KnownFeatures.{KnownFeatures}
use Rattle.sc_tree.specs.View.{system_of}
use Rattle.sc_class.specs.View.{entry_of}
use Rattle.sc_class.proofs.Anys.{got}
use Rattle.sc_class.proofs.FeatureLemmas.{got_item}
use Rattle.sc_class.proofs.KnownLemmas.{known_at, not_declared, declared_there, none_known}
use Rattle.sc_class.proofs.class_tables.Tables.named.Goals as goal

pub returns-in-None : goal.returns-in-None
returns-in-None c =
    none_known (system_of c.args.self.now.outline.hierarchy.system.now) c.args.number c.args.self.now.known.items c.args.self.now.all_known
    (sym (ap (λ (ts : List KnownFeatures). slice_get ts c.args.number) c.deref.ensures.value) ∙ sym (got c.deref.result.now c.args.number c.get.result c.get.ensures.lookup) ∙ ap option_copied c.in-None.is) c.args.name.now

pub returns-in-None-named : goal.returns-in-None-named
returns-in-None-named c =
    let s = system_of c.args.self.now.outline.hierarchy.system.now in
    not_declared s c.args.number c.args.name.now (option_map entry_of c.named.result)
    (known_at s c.args.self.now.known.items c.args.self.now.are_known c.args.number c.in-Some.known.now
    (got_item c.deref.result.now c.args.self.now.known.items c.args.number c.get.result c.in-Some.known (got c.deref.result.now c.args.number c.get.result c.get.ensures.lookup) c.in-Some.is c.deref.ensures.value)
    c.args.name.now (option_map entry_of c.named.result) c.named.ensures)
    (ap (option_map entry_of) c.in-None-named.is)

pub returns-in-Some-named : goal.returns-in-Some-named
returns-in-Some-named c =
    let s = system_of c.args.self.now.outline.hierarchy.system.now in
    c.declared.ensures
    ∙ declared_there s c.args.number c.args.name.now (option_map entry_of c.named.result)
    (known_at s c.args.self.now.known.items c.args.self.now.are_known c.args.number c.in-Some.known.now
    (got_item c.deref.result.now c.args.self.now.known.items c.args.number c.get.result c.in-Some.known (got c.deref.result.now c.args.number c.get.result c.get.ensures.lookup) c.in-Some.is c.deref.ensures.value)
    c.args.name.now (option_map entry_of c.named.result) c.named.ensures)
    (entry_of c.in-Some-named.entry) (ap (option_map entry_of) c.in-Some-named.is)
