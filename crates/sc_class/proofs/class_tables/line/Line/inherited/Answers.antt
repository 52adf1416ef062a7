use Rattle.std.proofs.Common.{drop, ap, sym, ◌∙◌}
use Rattle.sc_tree.specs.View.{system_of}
use Rattle.sc_class.specs.declared.class_tables.line.NamedFeatures.{NamedFeatures}
use Rattle.sc_class.specs.Tables.Ancestors.{ancestors}
use Rattle.sc_class.proofs.Lines.{declared_up}
use Rattle.sc_class.proofs.class_tables.line.Line.inherited.Goals as goal

pub returns-in-Some : goal.returns-in-Some
returns-in-Some c =
    let s = system_of c.args.outline.now.hierarchy.system.now in
    c.declared.ensures
    ∙ declared_up s (drop 1 (ancestors s c.args.number)) c.args.name.now c.in-Some.class (sym (ap (λ (f : NamedFeatures). f.class) (c.named.ensures ∙ c.requires c.args.name.now)) ∙ c.in-Some.is)
