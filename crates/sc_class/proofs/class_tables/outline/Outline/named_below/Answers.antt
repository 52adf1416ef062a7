use Rattle.std.proofs.Common.{ap, sym, refl, ◌∙◌, Option, Some, None}
use Rattle.std.specs.Option.{option_map}
use Rattle.sc_text.specs.declared.token.Span.{Span}
use Rattle.sc_tree.specs.View.{system_of}
use Rattle.sc_class.specs.View.{entry_of}
use Rattle.sc_class.specs.Internal.NameIndex.{place_among}
use Rattle.sc_class.specs.Tables.Declared.{declared_feature_names_at}
use Rattle.sc_class.proofs.Lines.{own_named}
use Rattle.sc_class.proofs.class_tables.outline.Outline.named_below.Goals as goal

pub returns-in-None : goal.returns-in-None
returns-in-None c =
    let s = system_of c.args.self.now.hierarchy.system.now in
    own_named s c.args.class c.args.name.now c.args.above None (ap (option_map entry_of) (sym c.in-None.is) ∙ c.declared.ensures) (place_among c.args.name.now (declared_feature_names_at s c.args.class)) refl c.named_unless_redefined-kept.result c.named_unless_redefined-kept.ensures

pub returns-in-Some : goal.returns-in-Some
returns-in-Some c =
    let s = system_of c.args.self.now.hierarchy.system.now in
    ap (λ (p : Option Span). record { class = Some c.in-Some.entry.class; place = p }) c.first_place.ensures
    ∙ own_named s c.args.class c.args.name.now c.args.above (Some (entry_of c.in-Some.entry)) (ap (option_map entry_of) (sym c.in-Some.is) ∙ c.declared.ensures) c.declared_place.result c.declared_place.ensures c.named_unless_redefined-kept.result c.named_unless_redefined-kept.ensures
