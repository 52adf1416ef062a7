use Rattle.std.proofs.Common.{◌∙◌, ◌++◌, List, ap, map}
use Rattle.std.specs.List.{flat_map}
use Rattle.sc_tree.specs.declared.system.Class.{Class}
use Rattle.sc_tree.specs.View.{class_of, system_of}
use Rattle.sc_warnings.specs.declared.warning.Warning.{Warning}
use Rattle.sc_warnings.specs.Sites.{Site}
use Rattle.sc_warnings.specs.Views.{site_of}
use Rattle.sc_warnings.specs.Warnings.{sites_of_system, warnings_of_class}
use Rattle.sc_warnings.proofs.listing.warnings_of.Goals as goal

pub returns : goal.returns
unfolding system_of
returns c =
    c.in_ok-add_classes.ensures
    ∙ ap (λ (ws : List Warning). ws ++ flat_map (warnings_of_class (map site_of c.deref.result.now)) (map class_of c.deref-2.result.now)) c.new-warnings.ensures.items
    ∙ ap (λ (ss : List Site). flat_map (warnings_of_class ss) (map class_of c.deref-2.result.now)) (ap (map site_of) c.deref.ensures.value ∙ c.in_ok-calls.ensures)
    ∙ ap (λ (cs : List Class). flat_map (warnings_of_class (sites_of_system (system_of c.args.system.now))) (map class_of cs)) c.deref-2.ensures.value
