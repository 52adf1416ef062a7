-- Objects of a store meet their invariants where those of its half do.
use Rattle.std.proofs.Common.{◌≡◌, ℕ, zero, suc, ◌+◌, ◌-◌, ◌<◌, ◌≤◌, Bool, true, false, not, List, [], ◌∷◌, ◌++◌, Option, Some, None, length, map, refl, sym, ap, ◌∙◌, arith}
use Rattle.std.proofs.lemmas.Bool.{ltb-false, ltb-true}
use Rattle.std.proofs.lemmas.List.{length-map}
use Rattle.std.proofs.lemmas.Option.{slice_get_past}
use Rattle.std.specs.Prelude.{◌==◌, ◌&&◌, nat_lt, slice_get, if◌then◌else◌}
use Rattle.std.specs.List.{range_with_len}
use Rattle.std.specs.Option.{is_none, option_map, option_map_or, option_and_then}
use Rattle.sc_formula.specs.declared.atom.Atom.{Atom}
use Rattle.sc_tree.specs.Plain.{System, Class}
use Rattle.sc_class.specs.ClassNames.{Root}
use Rattle.sc_class.specs.Tables.Ancestors.{ancestors_within, parent_number, parent_of}
use Rattle.sc_class.specs.Tables.Features.{declared_in, features, features_along, invariant_along, named_among, not_redefined, redefined_names}
use Rattle.sc_rules.proofs.PurityStands.{purity_stands}
use Rattle.sc_model.specs.declared.cause.Cause.TheVariants as cause
use Rattle.sc_model.specs.Environments.{Binding}
use Rattle.sc_model.specs.Invariants as model
use Rattle.sc_model.specs.Invariants.{formulas_of, meets_clauses}
use Rattle.sc_model.specs.Objects as model_objects
use Rattle.sc_model.specs.Objects.{Object, fresh_attributes}
use Rattle.sc_model.specs.Preconditions as preconditions
use Rattle.sc_model.specs.Values as values
use Rattle.sc_code.specs.declared.operation.DefaultValue.{DefaultValue}
use Rattle.sc_code.specs.declared.operation.DefaultValue.TheVariants as default
use Rattle.sc_code.specs.declared.program.AttributeCode.{AttributeCode}
use Rattle.sc_code.specs.declared.program.ClassCode.{ClassCode}
use Rattle.sc_code.specs.declared.program.Image.{Image}
use Rattle.sc_code.specs.declared.program.FeatureCode.{FeatureCode}
use Rattle.sc_code.specs.Attributes.{known_formulas}
use Rattle.sc_code.specs.JoinedInvariants.{joined_in, joined_invariant}
use Rattle.sc_code.specs.Programs.{IsProgramOf, PlainClass, attribute_in, class_code_of, class_codes_of, class_in, entry_of_feature, pool_of, version_entry}
use Rattle.sc_code.specs.View as view
use Rattle.sc_code.proofs.InvariantFormulas.{invariants_are_known}
use Rattle.sc_code.proofs.JoinedInvariants.{invariants_are_joined}
use Rattle.sc_region.specs.declared.value.Value.{Value}
use Rattle.sc_region.specs.declared.value.Value.TheVariants.{Integer, Boolean, Void, Attached}
use Rattle.sc_region.specs.Classes.{all_hold, class_at, defaults_of, invariant_of, meets_invariant, object_breaks, object_meets}
use Rattle.sc_region.specs.Frames as frames
use Rattle.sc_region.specs.Objects.{PlainObject, object_numbered}
use Rattle.sc_region.specs.Stores as store
use Rattle.sc_region.specs.Stores.{PlainStore}
use Rattle.sc_region.specs.Values.{atom_of, atoms_of, default_value}
use Rattle.sc_interp.specs.Objects.{object_in, objects_in, valued}
use Rattle.sc_refines_world.specs.regions.RegionHalves.{IsRegionOf}
use Rattle.sc_refines_world.specs.regions.RegionSteps.{IsProgramFor}
use Rattle.sc_refines_world.specs.regions.RegionTurns.{Half, is_current, settles}
use Rattle.sc_refines_world.specs.regions.RegionTurns as half
use Rattle.sc_acts.specs.Tables.{version_in}
use Rattle.sc_interp.specs.Values.{value_of, values_of}
use Rattle.sc_refines_world.proofs.regions.RegionSame.{same_current, still_fails}
use Rattle.sc_refines_world.specs.regions.Acting.{AreWhole}
use Rattle.sc_refines_world.proofs.regions.Formulas.{invariant_sees}
use Rattle.sc_refines_world.proofs.regions.ProgramRoutines.{mapped_get}

-- ---- lists

none_more : (a : ℕ) → a ≡ a + zero
none_more a = omega arith

one_more : (a k : ℕ) → a + 1 + k ≡ a + suc k
one_more a k = omega arith

range_get : (a n k : ℕ) → k < n → slice_get (range_with_len a n) k ≡ Some (a + k)
range_get a zero k l = absurd (omega (arith, l))
range_get a (suc n) zero l = ap (λ i. Some i) (none_more a)
range_get a (suc n) (suc k) l = range_get (a + 1) n k (omega (arith, l)) ∙ ap (λ i. Some i) (one_more a k)

range_past : (a n k : ℕ) → n ≤ k → slice_get (range_with_len a n) k ≡ None
range_past a zero k l = refl
range_past a (suc n) zero l = absurd (omega (arith, l))
range_past a (suc n) (suc k) l = range_past (a + 1) n k (omega (arith, l))

from_zero : (k : ℕ) → 0 + k ≡ k
from_zero k = omega arith

range_at : (n k : ℕ) → k < n → slice_get (range_with_len 0 n) k ≡ Some k
range_at n k l = range_get 0 n k l ∙ ap (λ i. Some i) (from_zero k)

-- ---- past the last class

no_parent : (s : System) (k : ℕ) → length s.classes ≤ k → parent_number s k ≡ None
no_parent s k l = ap (option_and_then (parent_of s)) (slice_get_past s.classes k l)

features_past : (s : System) (n k : ℕ) → length s.classes ≤ k → features_along s (ancestors_within n s k) ≡ []
features_past s zero k l = refl
features_past s (suc n) k l =
    ap (λ (o : Option ℕ). features_along s (k ∷ option_map_or (ancestors_within n s) o [])) (no_parent s k l)
    ∙ ap (λ (o : Option Class). option_map_or (λ (c : Class). map (declared_in k) c.features) o [] ++ not_redefined (redefined_names s k) []) (slice_get_past s.classes k l)

invariant_past : (s : System) (n k : ℕ) → length s.classes ≤ k → invariant_along s (ancestors_within n s k) ≡ []
invariant_past s zero k l = refl
invariant_past s (suc n) k l =
    ap (λ (o : Option ℕ). invariant_along s (k ∷ option_map_or (ancestors_within n s) o [])) (no_parent s k l)
    ∙ ap (λ (o : Option Class). option_map_or (λ (c : Class). c.invariant) o []) (slice_get_past s.classes k l)

-- ---- classes

pub default_same : (d : DefaultValue) → value_of (default_value d) ≡ view.default_value d
default_same default.Zero = refl
default_same default.False = refl
default_same default.Void = refl

defaults_same : (cs : List AttributeCode) → values_of (map (λ (a : AttributeCode). default_value a.default) cs) ≡ map (λ (q : values.Value × Bool). q.0) (map attribute_in cs)
defaults_same [] = refl
defaults_same (a ∷ cs) =
    ap (λ v. v ∷ values_of (map (λ (a : AttributeCode). default_value a.default) cs)) (default_same a.default)
    ∙ ap (λ vs. view.default_value a.default ∷ vs) (defaults_same cs)

firsts_same : (bs : List Binding) → map (λ (q : values.Value × Bool). q.0) (map (λ (b : Binding). (b.value, b.type.attached)) bs) ≡ map (λ (b : Binding). b.value) bs
firsts_same [] = refl
firsts_same (b ∷ bs) = ap (λ vs. b.value ∷ vs) (firsts_same bs)

abbrev pub items_of : Option ClassCode → List AttributeCode
items_of None = []
items_of (Some c) = c.attributes.items

abbrev attributes_of : Option PlainClass → List (values.Value × Bool)
attributes_of o = option_map_or (λ (c : PlainClass). c.attributes) o []

attributes_seen : (o : Option ClassCode) → map attribute_in (items_of o) ≡ attributes_of (option_map class_in o)
attributes_seen None = refl
attributes_seen (Some c) = refl

abbrev firsts_of : Option PlainClass → List values.Value
firsts_of o = map (λ (q : values.Value × Bool). q.0) (option_map_or (λ (c : PlainClass). c.attributes) o [])

defaults_seen : (o : Option ClassCode) → values_of (defaults_of o) ≡ firsts_of (option_map class_in o)
defaults_seen None = refl
defaults_seen (Some c) = defaults_same c.attributes.items

abbrev version_at : Option PlainClass → ℕ → Option FeatureCode
version_at o n = option_and_then (λ (q : PlainClass). option_and_then (λ (v : Option FeatureCode). v) (slice_get q.features n)) o

version_seen : (o : Option ClassCode) (n : ℕ) →
    option_and_then (λ (c : ClassCode). option_and_then (λ (v : Option FeatureCode). v) (slice_get c.features.items n)) o ≡ version_at (option_map class_in o) n
version_seen None n = refl
version_seen (Some c) n = refl

module _ (s : System) (root : Root) (p : Image) (is : IsProgramOf s root p) where
  abbrev names : List (List ℕ)
  names = (pool_of p.pool).names

  class_told : (k : ℕ) → option_map class_in (class_at p k) ≡ option_map (class_code_of s names) (slice_get (range_with_len 0 (length s.classes)) k)
  class_told k =
      sym (mapped_get class_in p.classes.items k) ∙ ap (λ cs. slice_get cs k) is.classes ∙ mapped_get (class_code_of s names) (range_with_len 0 (length s.classes)) k

  -- the values of a new object of the class at the number
  pub fresh_values : (k : ℕ) → values_of (defaults_of (class_at p k)) ≡ map (λ (b : Binding). b.value) (fresh_attributes s (features s k))
  fresh_values k = defaults_seen (class_at p k) ∙ ap firsts_of (class_told k) ∙ by (nat_lt k (length s.classes)) refl
    where
      by : (b : Bool) → nat_lt k (length s.classes) ≡ b →
          firsts_of (option_map (class_code_of s names) (slice_get (range_with_len 0 (length s.classes)) k)) ≡ map (λ (b : Binding). b.value) (fresh_attributes s (features s k))
      by true e =
          ap (λ o. firsts_of (option_map (class_code_of s names) o)) (range_at (length s.classes) k (ltb-true k (length s.classes) e))
          ∙ firsts_same (fresh_attributes s (features s k))
      by false e =
          let past = ltb-false k (length s.classes) e in
          ap (λ o. firsts_of (option_map (class_code_of s names) o)) (range_past 0 (length s.classes) k past)
          ∙ sym (ap (λ fs. map (λ (b : Binding). b.value) (fresh_attributes s fs)) (features_past s (length s.classes) k past))

  -- what the table of the class at the number says of its attributes
  pub attributes_told : (k : ℕ) → map attribute_in (items_of (class_at p k)) ≡ map (λ (b : Binding). (b.value, b.type.attached)) (fresh_attributes s (features s k))
  attributes_told k = attributes_seen (class_at p k) ∙ ap attributes_of (class_told k) ∙ by (nat_lt k (length s.classes)) refl
    where
      by : (b : Bool) → nat_lt k (length s.classes) ≡ b →
          attributes_of (option_map (class_code_of s names) (slice_get (range_with_len 0 (length s.classes)) k)) ≡ map (λ (b : Binding). (b.value, b.type.attached)) (fresh_attributes s (features s k))
      by true e = ap (λ o. attributes_of (option_map (class_code_of s names) o)) (range_at (length s.classes) k (ltb-true k (length s.classes) e))
      by false e =
          let past = ltb-false k (length s.classes) e in
          ap (λ o. attributes_of (option_map (class_code_of s names) o)) (range_past 0 (length s.classes) k past)
          ∙ sym (ap (λ fs. map (λ (b : Binding). (b.value, b.type.attached)) (fresh_attributes s fs)) (features_past s (length s.classes) k past))

  pub fresh_many : (k : ℕ) → length (defaults_of (class_at p k)) ≡ length (fresh_attributes s (features s k))
  fresh_many k =
      sym (length-map (defaults_of (class_at p k)) value_of) ∙ ap length (fresh_values k) ∙ length-map (fresh_attributes s (features s k)) (λ (b : Binding). b.value)

  -- what the name of the number is in the class at the number
  pub version_told : (k n : ℕ) (name : List ℕ) → slice_get names n ≡ Some name → version_in p k n ≡ version_entry s k name
  version_told k n name named = version_seen (class_at p k) n ∙ ap (λ o. version_at o n) (class_told k) ∙ by (nat_lt k (length s.classes)) refl
    where
      by : (b : Bool) → nat_lt k (length s.classes) ≡ b →
          version_at (option_map (class_code_of s names) (slice_get (range_with_len 0 (length s.classes)) k)) n ≡ version_entry s k name
      by true e =
          ap (λ o. version_at (option_map (class_code_of s names) o) n) (range_at (length s.classes) k (ltb-true k (length s.classes) e))
          ∙ ap (option_and_then (λ (v : Option FeatureCode). v)) (mapped_get (version_entry s k) names n ∙ ap (option_map (version_entry s k)) named)
      by false e =
          let past = ltb-false k (length s.classes) e in
          ap (λ o. version_at (option_map (class_code_of s names) o) n) (range_past 0 (length s.classes) k past)
          ∙ sym (ap (λ fs. entry_of_feature s k (named_among name fs)) (features_past s (length s.classes) k past))

-- the formulas that make up the invariant of the class at the number
clauses_are : (s : System) (p : Image) → IsProgramFor s p → (k : ℕ) → invariant_of p k ≡ known_formulas (formulas_of s k)
clauses_are s p is k = ap (λ cs. joined_invariant cs k) is.program.classes ∙ by (nat_lt k (length s.classes)) refl
  where
    coded : ℕ → PlainClass
    coded = class_code_of s (pool_of p.pool).names

    by : (b : Bool) → nat_lt k (length s.classes) ≡ b → joined_invariant (class_codes_of s (pool_of p.pool).names) k ≡ known_formulas (formulas_of s k)
    by true e =
        let purity = purity_stands s in
        invariants_are_joined s is.root purity.0 is.faultless is.well_formed purity.1 (pool_of p.pool).names k (ltb-true k (length s.classes) e)
    by false e =
        let past = ltb-false k (length s.classes) e in
        ap (joined_in (class_codes_of s (pool_of p.pool).names))
        (mapped_get coded (range_with_len 0 (length s.classes)) k ∙ ap (option_map coded) (range_past 0 (length s.classes) k past))
        ∙ sym (ap (λ cs. known_formulas (model.clauses_of (fresh_attributes s (features s k)) cs)) (invariant_past s (length s.classes) k past))

-- ---- objects

atom_same : (v : Value) → model.atom_of (value_of v) ≡ atom_of v
atom_same (Integer z) = refl
atom_same (Boolean b) = refl
atom_same Void = refl
atom_same (Attached r) = refl

-- the atoms of the attributes, and those after them
record Atoms (bs : List Binding) (vs : List Value) : Type 0 where
  more : List Atom
  same : atoms_of vs ≡ model.atoms_of (valued bs (values_of vs)) ++ more
  many : length bs ≤ length (model.atoms_of (valued bs (values_of vs)))

atoms_same : (bs : List Binding) (vs : List Value) → length bs ≤ length vs → Atoms bs vs
atoms_same [] vs l = record { more = atoms_of vs; same = refl; many = omega arith }
atoms_same (b ∷ bs) [] l = absurd (omega (arith, l))
atoms_same (b ∷ bs) (v ∷ vs) l =
    let rest = atoms_same bs vs (omega (arith, l)) in
    record {
      more = rest.more;
      same = ap (λ us. atom_of v ∷ us) rest.same ∙ ap (λ a. a ∷ (model.atoms_of (valued bs (values_of vs)) ++ rest.more)) (sym (atom_same v));
      many = let many = rest.many in omega (arith, many);
    }

pub meets_same : (s : System) (p : Image) → IsProgramFor s p → (o : PlainObject) → length (defaults_of (class_at p o.class)) ≤ length o.attributes →
    meets_invariant p o ≡ model.meets_invariant s (object_in s o)
meets_same s p is o whole =
    let bs = fresh_attributes s (features s o.class) in
    let purity = purity_stands s in
    let known = invariants_are_known s is.root purity.0 is.faultless is.well_formed purity.1 o.class in
    let many = fresh_many s is.root p is.program o.class in
    let atoms = atoms_same bs o.attributes (omega (arith, whole, many)) in
    ap (λ cs. all_hold cs (atoms_of o.attributes)) (clauses_are s p is o.class)
    ∙ ap (λ us. all_hold (known_formulas (formulas_of s o.class)) us) atoms.same
    ∙ invariant_sees s o.class (model.atoms_of (valued bs (values_of o.attributes))) atoms.more atoms.many
    ∙ ap (λ cs. meets_clauses cs (model.atoms_of (valued bs (values_of o.attributes)))) (sym known)

pub numbered_same : (s : System) (n : ℕ) (os : List PlainObject) → model_objects.object_numbered n (objects_in s os) ≡ option_map (object_in s) (object_numbered n os)
numbered_same s n os = by (n == 0)
  where
    by : (b : Bool) → (if b then None else slice_get (objects_in s os) (n - 1)) ≡ option_map (object_in s) (if b then None else slice_get os (n - 1))
    by true = refl
    by false = mapped_get (object_in s) os (n - 1)

module _ (s : System) (y : PlainStore) (is : IsProgramFor s y.program) (whole : AreWhole y) (n : ℕ) where
  pub object_meets_same : object_meets y.program (object_numbered n y.objects) ≡ preconditions.object_meets s (model_objects.object_numbered n (objects_in s y.objects))
  object_meets_same = by (object_numbered n y.objects) refl ∙ ap (preconditions.object_meets s) (sym (numbered_same s n y.objects))
    where
      by : (o : Option PlainObject) → object_numbered n y.objects ≡ o → object_meets y.program o ≡ preconditions.object_meets s (option_map (object_in s) o)
      by None e = refl
      by (Some o) e = meets_same s y.program is o (whole n o e)

  object_breaks_same : object_breaks y.program (object_numbered n y.objects) ≡ half.object_breaks s (model_objects.object_numbered n (objects_in s y.objects))
  object_breaks_same = by (object_numbered n y.objects) refl ∙ ap (half.object_breaks s) (sym (numbered_same s n y.objects))
    where
      by : (o : Option PlainObject) → object_numbered n y.objects ≡ o → object_breaks y.program o ≡ half.object_breaks s (option_map (object_in s) o)
      by None e = refl
      by (Some o) e = ap not (meets_same s y.program is o (whole n o e))

  settles_where : (x : Half) (b c : Bool) → b ≡ c → IsRegionOf s x y → IsRegionOf s (if c then half.failed cause.Invariant x else x) (if b then store.failed cause.Invariant y else y)
  settles_where x true true e r = still_fails s x y cause.Invariant r
  settles_where x false false e r = r
  settles_where x true false e r = cc
  settles_where x false true e r = cc

  and_and : (a b c : Bool) → ((a && b) && c) ≡ (a && b && c)
  and_and true b c = refl
  and_and false b c = refl

  -- Where the object is settled now, both test it.
  pub still_settles : (x : Half) → IsRegionOf s x y → IsRegionOf s (settles s n x) (store.settled n y)
  still_settles x r =
      let failure = ap (λ o. is_none o) r.failure in
      let current = same_current s n x.objects x.stack y.frames r.frames in
      let breaks = object_breaks_same ∙ ap (λ os. half.object_breaks s (model_objects.object_numbered n os)) r.objects in
      let here = object_breaks y.program (object_numbered n y.objects) in
      settles_where x _ _
      (ap (λ b. (b && not (frames.is_current n y.frames)) && here) failure
      ∙ ap (λ b. (is_none x.failure && not b) && here) current
      ∙ ap (λ b. (is_none x.failure && not (is_current n x.stack)) && b) breaks
      ∙ and_and (is_none x.failure) (not (is_current n x.stack)) (half.object_breaks s (model_objects.object_numbered n x.objects)))
      r
