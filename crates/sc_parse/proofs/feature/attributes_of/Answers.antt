use Rattle.std.proofs.Common.{◌≡◌, List, ap, ◌∙◌, map}
use Rattle.sc_tree.specs.declared.expression.Name.{Name}
use Rattle.sc_tree.specs.declared.declaration.DeclaredType.{DeclaredType}
use Rattle.sc_tree.specs.declared.system.FeatureKind.TheVariants as kind
use Rattle.sc_tree.specs.Plain as plain
use Rattle.sc_tree.specs.Grammar.Classes.{attribute_of}
use Rattle.sc_tree.specs.View.{feature_of, kind_of}
use Rattle.sc_parse.specs.Reading.Reads.{feature_with, name_in, names_in, type_in}
use Rattle.sc_parse.proofs.Lists.{named_push}
use Rattle.sc_parse.proofs.feature.attributes_of.Goals as goal

-- a feature with a copy of the type
attribute_is : (es : List plain.Name) (t : plain.DeclaredType) (f : plain.Feature) (n : Name) (d : DeclaredType) →
    f ≡ feature_with es (name_in n) (kind.Attribute d) → type_in d ≡ t → f ≡ attribute_of es t (name_in n)
unfolding kind_of
attribute_is es t f n d e w = e ∙ ap (λ (u : plain.DeclaredType). attribute_of es u (name_in n)) w

pub loop-name-preserved : goal.loop-name-preserved
loop-name-preserved c =
    ap (λ (fs : _). map feature_of fs) c.in_ok-features.ensures
    ∙ named_push feature_of (attribute_of (names_in c.args.exports.now.value) (type_in c.args.declared.now))
    c.loop-name.features.items c.loop-name.yielded _ c.in-Some.name c.loop-name.invariant
    (attribute_is _ _ _ c.in-Some.name _ c.in_ok-feature.ensures c.in_ok-copied_type.ensures)
