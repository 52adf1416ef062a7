use Rattle.std.proofs.Common.{ap, sym, ◌∙◌}
use Rattle.std.specs.Option.{option_map, option_copied}
use Rattle.sc_tree.specs.View.{feature_of, system_of}
use Rattle.sc_class.specs.Tables.Features.{declared_in}
use Rattle.sc_class.proofs.FeatureLemmas.{none_named, named_by}
use Rattle.sc_class.proofs.class_tables.outline.Outline.declared.Goals as goal

pub returns-in-None : goal.returns-in-None
returns-in-None c = none_named (system_of c.args.self.now.hierarchy.system.now) c.args.class c.args.name.now c.number.result c.number.ensures c.in-None.is

pub returns-in-None-feature : goal.returns-in-None-feature
returns-in-None-feature c =
    ap (λ o. option_map (declared_in c.args.class) (option_map feature_of (option_copied o))) (sym c.in-None-feature.is)
    ∙ named_by (system_of c.args.self.now.hierarchy.system.now) c.args.class c.args.name.now c.number.result c.in-Some.number (option_map feature_of (option_copied c.feature.result)) c.number.ensures c.in-Some.is c.feature.ensures

pub returns-in-Some-feature : goal.returns-in-Some-feature
returns-in-Some-feature c =
    ap (λ o. option_map (declared_in c.args.class) (option_map feature_of (option_copied o))) (sym c.in-Some-feature.is)
    ∙ named_by (system_of c.args.self.now.hierarchy.system.now) c.args.class c.args.name.now c.number.result c.in-Some.number (option_map feature_of (option_copied c.feature.result)) c.number.ensures c.in-Some.is c.feature.ensures
