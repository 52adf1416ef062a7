use Rattle.std.specs.Prelude.{map}
use Rattle.std.proofs.Common.{◌∙◌, ap}
use Rattle.sc_frontend.specs.Refusals.{by_classes, by_rule}
use Rattle.sc_tree.specs.View.{system_of}
use Rattle.sc_class.specs.View.{root_of}
use Rattle.sc_frontend.proofs.TextLemmas.{of-classes, of-rules, ok-map}
use Rattle.sc_frontend.proofs.texts.list_faults.Goals as goal

-- by the rules
pub returns-in_ok-faults-in-Ok : goal.returns-in_ok-faults-in-Ok
returns-in_ok-faults-in-Ok c =
    ok-map c.refused_by_rules.result
    (λ refused told. of-rules (system_of c.args.system.now) _ (root_of c.args.root.now) _ refused.items c.in-Ok.ensures.faultless c.in-Ok.ensures.of_it
    c.in_ok-faults-in-Ok.ensures (told ∙ ap (map by_rule) c.as_slice.ensures.value))
    c.refused_by_rules.ensures

-- of the classes
pub returns-in_ok-faults-in_default : goal.returns-in_ok-faults-in_default
returns-in_ok-faults-in_default c =
    ok-map c.refused_by_classes.result
    (λ refused told. of-classes (system_of c.args.system.now) (root_of c.args.root.now) c.in-Err.fault _ refused.items c.in_default.not-OutOfMemory
    c.in-Err.ensures.fault c.in_ok-faults-in_default.ensures.listed c.in_ok-faults-in_default.ensures.first (told ∙ ap (map by_classes) c.as_slice-in_default.ensures.value))
    c.refused_by_classes.ensures
