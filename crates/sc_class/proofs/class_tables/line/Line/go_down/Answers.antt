use Rattle.std.proofs.Common.{Option, ap, sym, ◌∙◌}
use Rattle.std.specs.Option.{option_map, option_copied}
use Rattle.sc_tree.specs.View.{class_of, system_of}
use Rattle.sc_class.specs.Internal.Lines.{known_by}
use Rattle.sc_class.proofs.Lines.{no_class}
use Rattle.sc_class.proofs.class_tables.line.Line.go_down.Goals as goal

pub returns-in_default : goal.returns-in_default
returns-in_default c = λ x.
    no_class (system_of c.args.outline.now.hierarchy.system.now) c.args.number x (known_by x c.args.self.now.known) (sym c.class.ensures ∙ ap (λ (o : Option _). option_map class_of (option_copied o)) c.in_default.is)

pub enter-requires : goal.enter-requires
enter-requires c = sym c.class.ensures ∙ ap (λ (o : Option _). option_map class_of (option_copied o)) c.in-Some.is
