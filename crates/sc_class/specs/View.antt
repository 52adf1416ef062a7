-- What the code holds, as definitions see it.
use Rattle.std.specs.Prelude.{string_bytes}
use Rattle.sc_tree.specs.View.{feature_of}
use Rattle.sc_class.specs.declared.class_tables.feature_entry.FeatureEntry.{FeatureEntry}
use Rattle.sc_class.specs.declared.root.Root as code
use Rattle.sc_class.specs.ClassNames.{Root}
use Rattle.sc_class.specs.Tables.Features.{DeclaredFeature, declared_in}

abbrev pub entry_of : FeatureEntry → DeclaredFeature
entry_of e = declared_in e.class (feature_of e.feature.now)

abbrev pub root_of : code.Root → Root
root_of r = record { class = string_bytes r.class; procedure = string_bytes r.procedure }
