use Rattle.std.proofs.Common.{ap, sym, ◌∙◌}
use Rattle.std.specs.Option.{option_map, option_copied}
use Rattle.sc_tree.specs.View.{class_of, system_of}
use Rattle.sc_class.proofs.Anys.{got}
use Rattle.sc_class.proofs.FeatureLemmas.{feature_in}
use Rattle.sc_class.proofs.class_tables.outline.Outline.feature.Goals as goal

pub returns-in-Some : goal.returns-in-Some
returns-in-Some c =
    feature_in (system_of c.args.self.now.hierarchy.system.now) c.args.class c.args.number c.in-Some.text.now c.deref.result.now c.get.result (sym c.class.ensures ∙ ap (λ o. option_map class_of (option_copied o)) c.in-Some.is) c.deref.ensures.value
    (got c.deref.result.now c.args.number c.get.result c.get.ensures.lookup)
