use Rattle.std.proofs.Common.{◌∙◌, ap, sym, map}
use Rattle.sc_tree.specs.View.{name_of}
use Rattle.sc_class.specs.ClassNames.{class_named}
use Rattle.sc_class.specs.SystemIn.{system_in}
use Rattle.sc_symbols.proofs.Added.{none_more}
use Rattle.sc_symbols.proofs.classes.add_parent.Goals as goal

pub returns-in-None : goal.returns-in-None
returns-in-None c =
    let s = system_in c.args.tables.now in
    none_more s c.args.mentions.now.items c.add_class_name.new.mentions.items (name_of c.args.parent.now.name) (map name_of c.args.parent.now.redefined.items) _
    (sym (c.class_named.ensures ∙ ap (class_named s) c.as_str.ensures.value) ∙ c.in-None.is) c.in_ok-add_class_name.ensures
