-- A class of a system without faults has at most 256 attributes.
use Rattle.std.proofs.Common.{◌≡◌, ◌<◌, ◌≤◌, ◌⊎◌, ℕ, suc, List, [], ◌∷◌, length, map, Option, Some, None, inl, inr, ap, sym, ◌∙◌, arith}
use Rattle.std.specs.List.{cons_option}
use Rattle.std.proofs.lemmas.Bool.{cases_lt}
use Rattle.std.proofs.lemmas.List.{length-map}
use Rattle.sc_tree.specs.Plain.{System}
use Rattle.sc_class.specs.ClassNames.{Root}
use Rattle.sc_class.specs.declared.fault.ClassFault.TheVariants as fault
use Rattle.sc_class.specs.Faults.ClassRules.{IsFaultless, limit}
use Rattle.sc_class.specs.Faults.Limits.{many_features}
use Rattle.sc_class.specs.Tables.Features.{DeclaredFeature, features}
use Rattle.sc_model.specs.Objects.{fresh_attribute, fresh_attributes}
use Rattle.sc_lower.specs.declared.program.attributes.Attribute.{Attribute}
use Rattle.sc_lower.specs.AttributeBindings.{binding_of}
use Rattle.sc_code.specs.Programs.{attribute_in}
use Rattle.sc_code.specs.declared.program.AttributeCode.{AttributeCode}
use Rattle.sc_model.specs.Environments.{Binding}

few_features : (s : System) (root : Root) (k : ℕ) → IsFaultless s root → k < length s.classes → length (features s k) ≤ 256
few_features s root k none within = by (cases_lt 256 (length (features s k)))
  where
    by : (256 < length (features s k)) ⊎ (length (features s k) ≤ 256) → length (features s k) ≤ 256
    by (inl many) = absurd (none fault.Limit (limit (many_features {k = k} within many)))
    by (inr few) = few

length_cons : {X : Type 0} (o : Option X) (xs : List X) → length (cons_option o xs) ≤ suc (length xs)
length_cons None xs = omega arith
length_cons (Some x) xs = omega arith

-- an object has no more attributes than its class has features
no_more : (s : System) (fs : List DeclaredFeature) → length (fresh_attributes s fs) ≤ length fs
no_more s [] = omega arith
no_more s (f ∷ fs) = omega (arith, no_more s fs, length_cons (fresh_attribute s f.feature.name.text f.feature.kind) (fresh_attributes s fs))

pub few_attributes : (s : System) (root : Root) (k : ℕ) → IsFaultless s root → k < length s.classes → (attributes : List Attribute) →
    map binding_of attributes ≡ fresh_attributes s (features s k) → length attributes ≤ 256
few_attributes s root k none within attributes e =
    let as_many : length attributes ≡ length (fresh_attributes s (features s k)) = sym (length-map attributes binding_of) ∙ ap length e in
    omega (arith, as_many, no_more s (features s k), few_features s root k none within)

pub as_many_codes : (codes : List AttributeCode) (attributes : List Attribute) →
    map attribute_in codes ≡ map (λ (b : Binding). (b.value, b.type.attached)) (map binding_of attributes) → length codes ≡ length attributes
as_many_codes codes attributes e =
    sym (length-map codes attribute_in)
    ∙ ap length e
    ∙ length-map (map binding_of attributes) (λ (b : Binding). (b.value, b.type.attached))
    ∙ length-map attributes binding_of
