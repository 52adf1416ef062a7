use Rattle.std.proofs.Common.{ap, ◌∙◌}
use Rattle.std.specs.Prelude.{slice_get}
use Rattle.sc_class.proofs.Anys.{got}
use Rattle.sc_class.proofs.KnownLemmas.{none_by_number, entry_by_number}
use Rattle.sc_class.specs.declared.class_tables.feature_entry.FeatureEntry.{FeatureEntry}
use Rattle.std.proofs.Common.{List}
use Rattle.sc_class.specs.Names.{number_among}
use Rattle.sc_class.proofs.class_tables.known_features.KnownFeatures.named.Goals as goal

pub returns-in-None : goal.returns-in-None
returns-in-None c = none_by_number c.args.name.now c.args.self.now.entries.items c.number.result (c.number.ensures ∙ ap (number_among c.args.name.now) c.args.self.now.named) c.in-None.is

pub returns-in-Some : goal.returns-in-Some
returns-in-Some c =
    entry_by_number c.args.name.now c.args.self.now.entries.items c.number.result (c.number.ensures ∙ ap (number_among c.args.name.now) c.args.self.now.named) c.in-Some.number c.copied.result c.in-Some.is
    (c.copied.ensures ∙ got c.deref.result.now c.in-Some.number c.get.result c.get.ensures.lookup ∙ ap (λ (es : List FeatureEntry). slice_get es c.in-Some.number) c.deref.ensures.value)
