-- Attributes of objects of a store, which a request may ask for.
use Rattle.std.proofs.Common.{◌≡◌, ℕ, suc, Bool, true, false, cond, List, [], ◌∷◌, Option, Some, None, refl, sym, ap, ◌∙◌, subst}
use Rattle.std.specs.Prelude.{bytes_eq, slice_get, if◌then◌else◌}
use Rattle.std.specs.List.{cons_option}
use Rattle.std.specs.Option.{option_map, option_and_then}
use Rattle.sc_tree.specs.Plain as tree
use Rattle.sc_tree.specs.Plain.{System, DeclaredType, FeatureKind}
use Rattle.sc_class.specs.Tables.Features.{DeclaredFeature, features, named_among}
use Rattle.sc_rules.specs.declared.entity_types.entity_type.EntityType.{EntityType}
use Rattle.sc_rules.specs.declared.position.Role.TheVariants as role
use Rattle.sc_rules.specs.Types.{declared_type}
use Rattle.sc_model.specs.Environments.{Binding, bind}
use Rattle.sc_model.specs.Invariants.{attribute_named}
use Rattle.sc_model.specs.Objects.{fresh_attribute, fresh_attributes}
use Rattle.sc_model.specs.Values as values
use Rattle.sc_model.specs.Values.{default_of}
use Rattle.sc_code.specs.declared.program.AttributeCode.{AttributeCode}
use Rattle.sc_code.specs.declared.program.ClassCode.{ClassCode}
use Rattle.sc_code.specs.declared.program.Image.{Image}
use Rattle.sc_code.specs.Attributes.{attribute_number}
use Rattle.sc_code.specs.Programs.{attribute_in}
use Rattle.sc_region.specs.Classes.{class_at}
use Rattle.sc_refines_world.specs.regions.RegionSteps.{IsProgramFor}
use Rattle.sc_acts.proofs.Options.{none_some, some_same}
use Rattle.sc_play.specs.Taking.{attribute_at}
use Rattle.sc_refines_world.proofs.regions.MetInvariants.{attributes_told, items_of}
use Rattle.sc_refines_world.proofs.regions.ProgramRoutines.{mapped_get}

-- Among those of a class's features the attribute stands at this number, with this type.
pub record StandsAt (x : List ℕ) (bs : List Binding) (t : EntityType) : Type 0 where
  pub number : ℕ
  pub numbered : attribute_number x bs ≡ Some number
  pub binding : Binding
  pub found : slice_get bs number ≡ Some binding
  pub type : binding.type ≡ t

-- after one of another name
one_behind : (x : List ℕ) (b : Binding) (bs : List Binding) (t : EntityType) → bytes_eq b.name x ≡ false → StandsAt x bs t → StandsAt x (b ∷ bs) t
one_behind x b bs t e at = record {
  number = suc at.number;
  numbered = later (bytes_eq b.name x) e;
  binding = at.binding;
  found = at.found;
  type = at.type;
}
  where
    shifted : (o : Option (ℕ × values.Value)) → option_map (λ (f : ℕ × values.Value). f.0) o ≡ Some at.number →
        option_map (λ (f : ℕ × values.Value). f.0) (option_map (λ (f : ℕ × values.Value). (suc f.0, f.1)) o) ≡ Some (suc at.number)
    shifted None h = none_some at.number h
    shifted (Some f) h = ap (λ n. Some (suc n)) (some_same f.0 at.number h)

    later : (c : Bool) → c ≡ false → option_map (λ (f : ℕ × values.Value). f.0) (if c then Some (0, b.value) else option_map (λ (f : ℕ × values.Value). (suc f.0, f.1)) (attribute_named x bs)) ≡ Some (suc at.number)
    later true h = cc
    later false h = shifted (attribute_named x bs) at.numbered

pub stands_among : (s : System) (x : List ℕ) (fs : List DeclaredFeature) (f : DeclaredFeature) (d : DeclaredType) (t : EntityType) → named_among x fs ≡ Some f →
    f.feature.kind ≡ tree.Attribute d → declared_type s [] d ≡ Some t → StandsAt x (fresh_attributes s fs) t
stands_among s x [] f d t e kind type = none_some f e
stands_among s x (g ∷ gs) f d t e kind type = by (bytes_eq g.feature.name.text x) refl e (λ e. stands_among s x gs f d t e kind type)
  where
    here : g.feature.kind ≡ tree.Attribute d → bytes_eq g.feature.name.text x ≡ true → StandsAt x (fresh_attributes s (g ∷ gs)) t
    here kind same =
        let b : Binding = bind g.feature.name.text t role.Local (default_of t.class) in
        let fresh : fresh_attribute s g.feature.name.text g.feature.kind ≡ Some b =
        ap (fresh_attribute s g.feature.name.text) kind ∙ ap (option_map (λ (t : EntityType). bind g.feature.name.text t role.Local (default_of t.class))) type in
        subst (λ o. StandsAt x (cons_option o (fresh_attributes s gs)) t) (sym fresh)
        (record {
          number = 0;
          numbered = ap (λ c. option_map (λ (f : ℕ × values.Value). f.0) (if c then Some (0, b.value) else option_map (λ (f : ℕ × values.Value). (suc f.0, f.1)) (attribute_named x (fresh_attributes s gs)))) same;
          binding = b;
          found = refl;
          type = refl;
        })

    behind : (m : FeatureKind) → bytes_eq g.feature.name.text x ≡ false → StandsAt x (fresh_attributes s gs) t →
        StandsAt x (cons_option (fresh_attribute s g.feature.name.text m) (fresh_attributes s gs)) t
    behind (tree.Routine c) other at = at
    behind (tree.Attribute c) other at = by_type (declared_type s [] c)
      where
        by_type : (o : Option EntityType) →
            StandsAt x (cons_option (option_map (λ (t : EntityType). bind g.feature.name.text t role.Local (default_of t.class)) o) (fresh_attributes s gs)) t
        by_type None = at
        by_type (Some u) = one_behind x (bind g.feature.name.text u role.Local (default_of u.class)) (fresh_attributes s gs) t other at

    by : (c : Bool) → bytes_eq g.feature.name.text x ≡ c → cond c (Some g) (named_among x gs) ≡ Some f → (named_among x gs ≡ Some f → StandsAt x (fresh_attributes s gs) t) →
        StandsAt x (fresh_attributes s (g ∷ gs)) t
    by true same e next = here (ap (λ (q : DeclaredFeature). q.feature.kind) (some_same g f e) ∙ kind) same
    by false other e next = behind g.feature.kind other (next e)

-- ---- tables

attribute_there : (o : Option ClassCode) (n : ℕ) → option_and_then (λ (c : ClassCode). slice_get c.attributes.items n) o ≡ slice_get (items_of o) n
attribute_there None n = refl
attribute_there (Some c) n = refl

-- what a table says of an attribute
pub record IsCoded (o : Option AttributeCode) (attached : Bool) : Type 0 where
  pub code : AttributeCode
  pub found : o ≡ Some code
  pub same : code.is_attached ≡ attached

coded : (o : Option AttributeCode) (v : values.Value) (attached : Bool) → option_map attribute_in o ≡ Some (v, attached) → IsCoded o attached
coded None v attached e = none_some (v, attached) e
coded (Some a) v attached e = record { code = a; found = refl; same = ap (λ (q : values.Value × Bool). q.1) (some_same (attribute_in a) (v, attached) e) }

-- the table says of the attribute whether its type is attached
pub attribute_coded : (s : System) (p : Image) → IsProgramFor s p → (k : ℕ) (x : List ℕ) (t : EntityType) (at : StandsAt x (fresh_attributes s (features s k)) t) →
    IsCoded (attribute_at p k at.number) t.attached
attribute_coded s p is k x t at =
    let bs = fresh_attributes s (features s k) in
    let seen = sym (mapped_get attribute_in (items_of (class_at p k)) at.number)
    ∙ ap (λ qs. slice_get qs at.number) (attributes_told s is.root p is.program k)
    ∙ mapped_get (λ (b : Binding). (b.value, b.type.attached)) bs at.number
    ∙ ap (option_map (λ (b : Binding). (b.value, b.type.attached))) at.found
    ∙ ap (λ (u : EntityType). Some (at.binding.value, u.attached)) at.type in
    coded (attribute_at p k at.number) at.binding.value t.attached (ap (option_map attribute_in) (attribute_there (class_at p k) at.number) ∙ seen)
