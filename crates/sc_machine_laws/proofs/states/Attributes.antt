-- Attributes of an object are found by name, and fit.
use Rattle.std.specs.List.{cons_option}
use Rattle.std.specs.Option.{option_map}
use Rattle.std.specs.Prelude.{bytes_eq, map}
use Rattle.std.proofs.Common.{Bool, List, None, Option, Some, [], ap, cond, false, refl, subst, sym, true, ℕ, ◌∙◌, ◌∷◌, ◌≡◌}
use Rattle.sc_tree.specs.Plain as tree
use Rattle.sc_tree.specs.Plain.{DeclaredType, FeatureKind, System}
use Rattle.sc_class.specs.Tables.Features.{DeclaredFeature, features, named_among}
use Rattle.sc_rules.specs.declared.entity_types.entity_type.EntityType.{EntityType}
use Rattle.sc_rules.specs.Names.{Entity}
use Rattle.sc_rules.specs.Types.{declared_type}
use Rattle.sc_rules.specs.declared.position.Role.TheVariants as role
use Rattle.sc_rules.proofs.WellFormed.{further}
use Rattle.sc_model.specs.Environments.{Binding, bind, binding_named, known_of}
use Rattle.sc_model.specs.Fits.{FitsOrUnset}
use Rattle.sc_model.specs.Objects.{Object, fresh_attribute, fresh_attributes}
use Rattle.sc_model.specs.Values.{default_of}
use Rattle.sc_machine_laws.specs.states.Places.{no_names}
use Rattle.sc_machine_laws.specs.states.Points.{AttributesFit, Each}
use Rattle.sc_machine_laws.proofs.states.Lists.{same_some}

-- the binding of a name, of this type
pub record Found (x : List ℕ) (t : EntityType) (bs : List Binding) : Type 0 where
  pub binding : Binding
  pub is_there : binding_named x bs ≡ Some binding
  pub type_is : binding.type ≡ t

found_first : (x : List ℕ) (t : EntityType) (b : Binding) (bs : List Binding) → bytes_eq b.name x ≡ true → b.type ≡ t → Found x t (b ∷ bs)
found_first x t b bs e f = record { binding = b; is_there = ap (λ c. cond c (Some b) (binding_named x bs)) e; type_is = f }

found_later : (x : List ℕ) (t : EntityType) (b : Binding) (bs : List Binding) → bytes_eq b.name x ≡ false → Found x t bs → Found x t (b ∷ bs)
found_later x t b bs e f = record { binding = f.binding; is_there = ap (λ c. cond c (Some b) (binding_named x bs)) e ∙ f.is_there; type_is = f.type_is }

-- an attribute has its type, and is there
fresh_is : (s : System) (y : List ℕ) (k : FeatureKind) (d : DeclaredType) (t : EntityType) → k ≡ tree.Attribute d → declared_type s [] d ≡ Some t →
    fresh_attribute s y k ≡ Some (bind y t role.Local (default_of t.class))
fresh_is s y k d t e f = ap (fresh_attribute s y) e ∙ ap (option_map (λ (t : EntityType). bind y t role.Local (default_of t.class))) f

-- whatever is there has the feature's name
fresh_named : (s : System) (y : List ℕ) (k : FeatureKind) (b : Binding) → fresh_attribute s y k ≡ Some b → b.name ≡ y
fresh_named s y (tree.Routine c) b e = cc
fresh_named s y (tree.Attribute d) b e = of_type (declared_type s [] d) e
  where
    of_type : (o : Option EntityType) → option_map (λ (t : EntityType). bind y t role.Local (default_of t.class)) o ≡ Some b → b.name ≡ y
    of_type None e = cc
    of_type (Some t) e = let q : bind y t role.Local (default_of t.class) ≡ b = cc in ap (λ (b : Binding). b.name) (sym q)

cons_first : (x : List ℕ) (t : EntityType) (o : Option Binding) (b : Binding) (bs : List Binding) → o ≡ Some b → bytes_eq b.name x ≡ true → b.type ≡ t → Found x t (cons_option o bs)
cons_first x t None b bs e f g = cc
cons_first x t (Some c) b bs e f g =
    let q : b ≡ c = cc in found_first x t c bs (ap (λ (b : Binding). bytes_eq b.name x) (sym q) ∙ f) (ap (λ (b : Binding). b.type) (sym q) ∙ g)

cons_later : (x y : List ℕ) (t : EntityType) (o : Option Binding) (bs : List Binding) → ((b : Binding) → o ≡ Some b → b.name ≡ y) → bytes_eq y x ≡ false → Found x t bs →
    Found x t (cons_option o bs)
cons_later x y t None bs n e f = f
cons_later x y t (Some b) bs n e f = found_later x t b bs (ap (λ y. bytes_eq y x) (n b refl) ∙ e) f

-- the first feature of the name is an attribute: so is the first attribute
fresh_found : (s : System) (x : List ℕ) (d : DeclaredType) (t : EntityType) → declared_type s [] d ≡ Some t → (fs : List DeclaredFeature) (f : DeclaredFeature) →
    named_among x fs ≡ Some f → f.feature.kind ≡ tree.Attribute d → Found x t (fresh_attributes s fs)
fresh_found s x d t e [] f n k = cc
fresh_found s x d t e (g ∷ fs) f n k = by (bytes_eq g.feature.name.text x) refl n (λ n. fresh_found s x d t e fs f n k)
  where
    by : (c : Bool) → bytes_eq g.feature.name.text x ≡ c → cond c (Some g) (named_among x fs) ≡ Some f → (named_among x fs ≡ Some f → Found x t (fresh_attributes s fs)) →
        Found x t (fresh_attributes s (g ∷ fs))
    by true b n further =
        let q : g ≡ f = cc in
        cons_first x t (fresh_attribute s g.feature.name.text g.feature.kind) (bind g.feature.name.text t role.Local (default_of t.class)) (fresh_attributes s fs)
        (fresh_is s g.feature.name.text g.feature.kind d t (ap (λ (f : DeclaredFeature). f.feature.kind) q ∙ k) e) b refl
    by false b n further =
        cons_later x g.feature.name.text t (fresh_attribute s g.feature.name.text g.feature.kind) (fresh_attributes s fs) (fresh_named s g.feature.name.text g.feature.kind) b (further n)

-- what is declared alike is found alike
found_alike : (x : List ℕ) (t : EntityType) (bs cs : List Binding) → map known_of bs ≡ map known_of cs → Found x t cs → Found x t bs
found_alike x t [] [] e f = f
found_alike x t [] (c ∷ cs) e f = cc
found_alike x t (b ∷ bs) [] e f = cc
found_alike x t (b ∷ bs) (c ∷ cs) e f = by (bytes_eq c.name x) refl f (found_alike x t bs cs rest_is)
  where
    first_is : known_of b ≡ known_of c
    first_is = cc

    rest_is : map known_of bs ≡ map known_of cs
    rest_is = cc

    name_is : b.name ≡ c.name
    name_is = ap (λ (e : Entity). e.name) first_is

    type_is : b.type ≡ c.type
    type_is = same_some (ap (λ (e : Entity). e.type) first_is)

    by : (d : Bool) → bytes_eq c.name x ≡ d → Found x t (c ∷ cs) → (Found x t cs → Found x t bs) → Found x t (b ∷ bs)
    by true i f g =
        let q : c ≡ f.binding = same_some (sym (ap (λ d. cond d (Some c) (binding_named x cs)) i) ∙ f.is_there) in
        found_first x t b bs (ap (λ y. bytes_eq y x) name_is ∙ i) (type_is ∙ ap (λ (b : Binding). b.type) q ∙ f.type_is)
    by false i f g =
        found_later x t b bs (ap (λ y. bytes_eq y x) name_is ∙ i)
        (g (record { binding = f.binding; is_there = sym (ap (λ d. cond d (Some c) (binding_named x cs)) i) ∙ f.is_there; type_is = f.type_is }))

pub found_each : (P : Binding → Type 0) (x : List ℕ) (bs : List Binding) (b : Binding) → Each P bs → binding_named x bs ≡ Some b → P b
found_each P x [] b e f = cc
found_each P x (c ∷ bs) b e f = by (bytes_eq c.name x) f (found_each P x bs b e.1)
  where
    by : (d : Bool) → (cond d (Some c) (binding_named x bs)) ≡ Some b → (binding_named x bs ≡ Some b → P b) → P b
    by true f g = let q : c ≡ b = cc in subst P q e.0
    by false f g = g f

-- An object has an attribute of its class, and its value fits or is unset.
pub record Attribute (s : System) (me : ℕ) (x : List ℕ) (t : EntityType) (o : Object) : Type 0 where
  pub binding : Binding
  pub is_there : binding_named x o.attributes ≡ Some binding
  pub type_is : binding.type ≡ t
  pub fits : FitsOrUnset s me no_names binding.value t

pub attribute_found : (s : System) (me : ℕ) (x : List ℕ) (d : DeclaredType) (t : EntityType) (o : Object) (f : DeclaredFeature) → AttributesFit s me o →
    named_among x (features s o.class) ≡ Some f → f.feature.kind ≡ tree.Attribute d → declared_type s [] d ≡ Some t → Attribute s me x t o
attribute_found s me x d t o f fits n k e =
    of_found (found_alike x t o.attributes (fresh_attributes s (features s o.class)) fits.has_attributes (fresh_found s x d t e (features s o.class) f n k))
  where
    of_found : Found x t o.attributes → Attribute s me x t o
    of_found b = record {
      binding = b.binding;
      is_there = b.is_there;
      type_is = b.type_is;
      fits = subst (λ t. FitsOrUnset s me no_names b.binding.value t) b.type_is
          (found_each (λ (b : Binding). FitsOrUnset s me no_names b.value b.type) x o.attributes b.binding fits.fit b.is_there);
    }
