use Rattle.std.proofs.Common.{ℕ, ap, sym, ◌∙◌, ◌++◌, map, [], List, Option}
use Rattle.std.specs.Option.{option_map_or}
use Rattle.sc_tree.specs.Plain.{Class}
use Rattle.sc_tree.specs.View.{system_of}
use Rattle.sc_class.specs.declared.class_tables.line.Change.{Change}
use Rattle.sc_class.specs.declared.class_tables.line.NamedFeatures.{NamedFeatures}
use Rattle.sc_class.specs.Tables.Declared.{declared_feature_names}
use Rattle.sc_class.specs.Tables.Features.{redefined_by}
use Rattle.sc_class.specs.Internal.Lines.{changes_of, known_by, put_in_turn, said_of, said_below}
use Rattle.sc_class.proofs.Lines.{entered, entering}
use Rattle.sc_class.proofs.class_tables.line.Line.enter.Goals as goal

pub returns-clause-known : goal.returns-clause-known
returns-clause-known c =
    let s = system_of c.args.outline.now.hierarchy.system.now in
    let known : List ℕ → NamedFeatures = λ x. known_by x c.args.self.now.known in
    λ x. c.in_ok-put_all.ensures x ∙ ap (λ (cs : List Change). put_in_turn x (changes_of cs) (known x)) c.deref-2.ensures.value
    ∙ entered s c.args.number x known c.in_ok-here.here.items c.in_ok-above.above.items (c.in_ok-here.ensures ∙ ap (λ (cs : List Change). map (said_below s c.args.number) (changes_of cs)) c.deref.ensures.value)
    (c.in_ok-above.ensures ∙ ap (λ (o : Option Class). said_of known (option_map_or declared_feature_names o [] ++ option_map_or redefined_by o [])) (sym c.requires))

pub returns-clause-stands : goal.returns-clause-stands
returns-clause-stands c = λ stands parent.
    let s = system_of c.args.outline.now.hierarchy.system.now in
    let known : List ℕ → NamedFeatures = λ x. known_by x c.args.self.now.known in
    entering s c.args.self.now.class c.args.self.now.levels.items c.push.new.self.items known (λ x. known_by x c.put_all.new.known) (record { class = c.args.number; above = c.in_ok-above.above }) c.in_ok-here.here.items stands parent
    (c.in_ok-above.ensures ∙ ap (λ (o : Option Class). said_of known (option_map_or declared_feature_names o [] ++ option_map_or redefined_by o [])) (sym c.requires))
    (c.in_ok-here.ensures ∙ ap (λ (cs : List Change). map (said_below s c.args.number) (changes_of cs)) c.deref.ensures.value)
    (λ x. c.in_ok-put_all.ensures x ∙ ap (λ (cs : List Change). put_in_turn x (changes_of cs) (known_by x c.args.self.now.known)) c.deref-2.ensures.value) c.in_ok-push.ensures.items
