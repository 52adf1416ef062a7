-- The tables of a program serve its system.
use Rattle.std.proofs.Common.{◌≡◌, ℕ, zero, suc, ◌+◌, ◌<◌, ◌≤◌, Bool, true, false, cond, List, [], ◌∷◌, Option, Some, None, length, map, refl, sym, ap, ◌∙◌, subst, arith}
use Rattle.std.proofs.lemmas.Bool.{eqb-true, ltb-false, ltb-true, ne_eqb}
use Rattle.std.proofs.lemmas.List.{length-map}
use Rattle.std.proofs.lemmas.Option.{slice_get_past}
use Rattle.std.proofs.lemmas.Slice.Eq.{bytes_eq-Decides}
use Rattle.std.specs.Prelude.{◌==◌, ◌||◌, ◌&&◌, bytes_eq, is_some, nat_lt, slice_get, if◌then◌else◌}
use Rattle.std.specs.List.{AllByRecursion, IsDistinct, cons_option, find, list_all, list_any, range_with_len}
use Rattle.std.specs.Option.{option_map, option_map_or, option_and_then}
use Rattle.sc_tree.specs.Plain as tree
use Rattle.sc_tree.specs.Plain.{System, Class, DeclaredType, FeatureKind, RoutineDeclaration}
use Rattle.sc_class.specs.declared.identity.ClassId.TheVariants as class
use Rattle.sc_class.specs.ClassNames.{Root, class_names, number_of}
use Rattle.sc_class.specs.Faults.Scopes.{feature_names}
use Rattle.sc_class.specs.Tables.Ancestors.{ancestors_within, parent_number, parent_of}
use Rattle.sc_class.specs.Tables.Conformance.{class_conforms, is_ancestor}
use Rattle.sc_class.specs.Tables.Features.{DeclaredFeature, declared_in, declared_features, features, named_among}
use Rattle.sc_class.specs.Tables.Heirs.{FeaturesDeclared, FeaturesDiffer, FoundStands}
use Rattle.sc_class.proofs.Ancestry.{ancestor_itself, neither, number_in_names, parent_within}
use Rattle.sc_class.proofs.NameLemmas.{number_below}
use Rattle.sc_rules.specs.declared.entity_types.entity_type.EntityType.{EntityType}
use Rattle.sc_rules.specs.declared.position.Role.TheVariants as role
use Rattle.sc_rules.specs.Laws.{AllDeclared, is_declared}
use Rattle.sc_rules.specs.Names.{routine_of}
use Rattle.sc_rules.specs.Types.{declared_type}
use Rattle.sc_typing.specs.FeatureNumbers.{feature_number}
use Rattle.sc_typing.proofs.FeatureLemmas.{named_text}
use Rattle.sc_typing.proofs.FeatureNumbers.{has_number}
use Rattle.sc_model.specs.Values.{Value, default_of}
use Rattle.sc_model.specs.Environments.{Binding, bind}
use Rattle.sc_model.specs.Invariants.{attribute_named}
use Rattle.sc_model.specs.Objects.{fresh_attribute, fresh_attributes}
use Rattle.sc_model.specs.Routines.{version_of}
use Rattle.sc_code.specs.Attributes.{attribute_number}
use Rattle.sc_code.specs.declared.program.ClassCode.{ClassCode}
use Rattle.sc_code.specs.declared.program.Image.{Image}
use Rattle.sc_code.specs.declared.program.FeatureCode.{FeatureCode}
use Rattle.sc_code.specs.declared.program.FeatureCode.TheVariants as version
use Rattle.sc_code.specs.Programs.{IsProgramOf, PlainClass, class_code_of, class_in, entry_of_feature, entry_of_kind, pool_of, version_entry}
use Rattle.sc_refines_world.specs.regions.Laws.{ProgramsServe}
use Rattle.sc_interp.specs.Serving.{TellsConformance, attribute_in, conforms_in, is_routine, is_routine_in}
use Rattle.sc_acts.specs.Tables.{version_in}
use Rattle.sc_acts.proofs.Options.{none_some, some_same}

-- ---- lists

mapped_get : {A B : Type 0} (f : A → B) (xs : List A) (n : ℕ) → slice_get (map f xs) n ≡ option_map f (slice_get xs n)
mapped_get f [] n = refl
mapped_get f (x ∷ xs) zero = refl
mapped_get f (x ∷ xs) (suc n) = mapped_get f xs n

none_more : (a : ℕ) → a ≡ a + zero
none_more a = omega arith

one_more : (a k : ℕ) → a + 1 + k ≡ a + suc k
one_more a k = omega arith

range_get : (a n k : ℕ) → k < n → slice_get (range_with_len a n) k ≡ Some (a + k)
range_get a zero k l = absurd (omega (arith, l))
range_get a (suc n) zero l = ap (λ i. Some i) (none_more a)
range_get a (suc n) (suc k) l = range_get (a + 1) n k (omega (arith, l)) ∙ ap (λ i. Some i) (one_more a k)

range_past : (a n k : ℕ) → n ≤ k → slice_get (range_with_len a n) k ≡ None
range_past a zero k l = refl
range_past a (suc n) zero l = absurd (omega (arith, l))
range_past a (suc n) (suc k) l = range_past (a + 1) n k (omega (arith, l))

from_zero : (k : ℕ) → 0 + k ≡ k
from_zero k = omega arith

range_at : (n k : ℕ) → k < n → slice_get (range_with_len 0 n) k ≡ Some k
range_at n k l = range_get 0 n k l ∙ ap (λ i. Some i) (from_zero k)

all_found : {A : Type 0} (holds passes : A → Bool) (xs : List A) (x : A) → list_all holds xs ≡ true → find passes xs ≡ Some x → holds x ≡ true
all_found holds passes [] x e found = none_some x found
all_found holds passes (y ∷ ys) x e found = by (holds y) refl (passes y) e found (all_found holds passes ys x)
  where
    by : (h : Bool) → holds y ≡ h → (b : Bool) → (h && list_all holds ys) ≡ true → cond b (Some y) (find passes ys) ≡ Some x →
        (list_all holds ys ≡ true → find passes ys ≡ Some x → holds x ≡ true) → holds x ≡ true
    by false is b e found next = cc
    by true is true e found next = subst (λ z. holds z ≡ true) (some_same y x found) is
    by true is false e found next = next e found

-- ---- classes

-- there is a class where one has a number
some_class : (s : System) (x : List ℕ) (i : ℕ) → number_of s x ≡ Some i → 0 < length s.classes
some_class s x i e =
    let names = class_names s.classes in
    let l = number_below x names i (number_in_names x names i e) in
    omega (arith, l, length-map s.classes (λ (c : Class). c.name))

-- past the last class there is no parent
no_parent : (s : System) (k : ℕ) → length s.classes ≤ k → parent_number s k ≡ None
no_parent s k l = ap (option_and_then (parent_of s)) (slice_get_past s.classes k l)

-- the ancestors of a class are classes
AboveInside : System → ℕ → ℕ → Type 0
AboveInside s m j = (k : ℕ) → k < length s.classes → list_any (λ i. i == j) (ancestors_within m s k) ≡ false

above_inside : (s : System) (j : ℕ) → length s.classes ≤ j → (m : ℕ) → AboveInside s m j
unfolding AboveInside
above_inside s j past zero k l = refl
above_inside s j past (suc m) k l = by (above_inside s j past m) (parent_number s k) refl
  where
    differs : (k == j) ≡ false
    differs = ne_eqb k j (λ e. absurd (omega (arith, e, l, past)))

    by : ((i : ℕ) → i < length s.classes → list_any (λ i. i == j) (ancestors_within m s i) ≡ false) → (o : Option ℕ) → parent_number s k ≡ o →
        (k == j || list_any (λ i. i == j) (option_map_or (ancestors_within m s) o [])) ≡ false
    by next None e = neither (k == j) false differs refl
    by next (Some i) e = neither (k == j) (list_any (λ i. i == j) (ancestors_within m s i)) differs (next i (parent_within s k i e).1)

-- what stands past the last class has itself alone above it
above_past : (s : System) (k j n : ℕ) → length s.classes ≤ k → 0 < n → list_any (λ i. i == j) (ancestors_within n s k) ≡ (k == j || false)
above_past s k j zero past some = absurd (omega (arith, some))
above_past s k j (suc m) past some = ap (λ o. k == j || list_any (λ i. i == j) (option_map_or (ancestors_within m s) o [])) (no_parent s k past)

itself_or : (s : System) (k j : ℕ) → k < length s.classes → (k == j || is_ancestor s k j) ≡ is_ancestor s k j
itself_or s k j l = by (k == j) refl
  where
    by : (b : Bool) → (k == j) ≡ b → (b || is_ancestor s k j) ≡ is_ancestor s k j
    by true e = sym (subst (λ i. is_ancestor s k i ≡ true) (eqb-true k j e) (ancestor_itself s k l))
    by false e = refl

-- ---- tables

abbrev conforms_of : Option PlainClass → ℕ → Bool
conforms_of o j = option_map_or (λ (q : PlainClass). option_map_or (λ b. b) (slice_get q.conforms j) false) o false

abbrev version_at : Option PlainClass → ℕ → Option FeatureCode
version_at o x = option_and_then (λ (q : PlainClass). option_and_then (λ (v : Option FeatureCode). v) (slice_get q.features x)) o

conforms_seen : (o : Option ClassCode) (j : ℕ) →
    option_map_or (λ (c : ClassCode). option_map_or (λ b. b) (slice_get c.conforms.items j) false) o false ≡ conforms_of (option_map class_in o) j
conforms_seen None j = refl
conforms_seen (Some c) j = refl

version_seen : (o : Option ClassCode) (x : ℕ) →
    option_and_then (λ (c : ClassCode). option_and_then (λ (v : Option FeatureCode). v) (slice_get c.features.items x)) o ≡ version_at (option_map class_in o) x
version_seen None x = refl
version_seen (Some c) x = refl

module _ (s : System) (root : Root) (p : Image) (is : IsProgramOf s root p) where
  abbrev count : ℕ
  count = length s.classes

  abbrev names : List (List ℕ)
  names = (pool_of p.pool).names

  abbrev class_number : ℕ → Option ℕ
  class_number k = slice_get (range_with_len 0 count) k

  class_at : (k : ℕ) → option_map class_in (slice_get p.classes.items k) ≡ option_map (class_code_of s names) (class_number k)
  class_at k = sym (mapped_get class_in p.classes.items k) ∙ ap (λ cs. slice_get cs k) is.classes ∙ mapped_get (class_code_of s names) (range_with_len 0 count) k

  conforms_told : (k j : ℕ) → conforms_in p k j ≡ (k == j || conforms_of (option_map (class_code_of s names) (class_number k)) j)
  conforms_told k j = ap (λ b. k == j || b) (conforms_seen (slice_get p.classes.items k) j ∙ ap (λ o. conforms_of o j) (class_at k))

  abbrev conforms_to : ℕ → ℕ → Bool
  conforms_to k j = class_conforms s (class.Declared k) (class.Declared j)

  conforms_inside : (k j : ℕ) → k < count → (o : Option ℕ) → class_number j ≡ o →
      (k == j || conforms_of (option_map (class_code_of s names) (class_number k)) j) ≡ (k == j || option_map_or (λ b. b) (option_map (conforms_to k) o) false)
  conforms_inside k j l o e =
      ap (λ i. k == j || conforms_of (option_map (class_code_of s names) i) j) (range_at count k l)
      ∙ ap (λ i. k == j || option_map_or (λ b. b) i false) (mapped_get (conforms_to k) (range_with_len 0 count) j ∙ ap (option_map (conforms_to k)) e)

  tells : TellsConformance s p
  unfolding AboveInside
  tells k j = conforms_told k j ∙ by (nat_lt k count) refl (nat_lt j count) refl
    where
      by : (a : Bool) → nat_lt k count ≡ a → (b : Bool) → nat_lt j count ≡ b →
          (k == j || conforms_of (option_map (class_code_of s names) (class_number k)) j) ≡ conforms_to k j
      by true e true f = conforms_inside k j (ltb-true k count e) (Some j) (range_at count j (ltb-true j count f)) ∙ itself_or s k j (ltb-true k count e)
      by true e false f =
          let inside = ltb-true k count e in
          let past = ltb-false j count f in
          conforms_inside k j inside None (range_past 0 count j past)
          ∙ ap (λ b. b || false) (ne_eqb k j (λ same. absurd (omega (arith, same, inside, past))))
          ∙ sym (above_inside s j past count k inside)
      by false e b f =
          let past = ltb-false k count e in
          ap (λ i. k == j || conforms_of (option_map (class_code_of s names) i) j) (range_past 0 count k past)
          ∙ sym (above_past s k j count past (some_class s root.class p.root_class is.root_class))

  -- past the last class no name stands for anything
  entry_past : FeaturesDeclared → (k : ℕ) (name : List ℕ) → count ≤ k → version_entry s k name ≡ None
  entry_past declared k name past =
      ap (λ fs. entry_of_feature s k (named_among name fs))
      (declared s k (no_parent s k past) ∙ ap (λ o. option_map_or (λ (c : Class). map (declared_in k) c.features) o []) (slice_get_past s.classes k past))

  version_is : FeaturesDeclared → (k x : ℕ) (name : List ℕ) → slice_get names x ≡ Some name → version_in p k x ≡ version_entry s k name
  version_is declared k x name named =
      version_seen (slice_get p.classes.items k) x ∙ ap (λ o. version_at o x) (class_at k) ∙ by (nat_lt k count) refl
    where
      by : (a : Bool) → nat_lt k count ≡ a → version_at (option_map (class_code_of s names) (class_number k)) x ≡ version_entry s k name
      by true e =
          ap (λ i. version_at (option_map (class_code_of s names) i) x) (range_at count k (ltb-true k count e))
          ∙ ap (option_and_then (λ (v : Option FeatureCode). v)) (mapped_get (version_entry s k) names x ∙ ap (option_map (version_entry s k)) named)
      by false e =
          let past = ltb-false k count e in
          ap (λ i. version_at (option_map (class_code_of s names) i) x) (range_past 0 count k past) ∙ sym (entry_past declared k name past)

-- ---- attributes

abbrev behind : ℕ × Value → ℕ × Value
behind found = (suc found.0, found.1)

same_text : (x y : List ℕ) → bytes_eq x y ≡ true → x ≡ y
same_text x y e = (bytes_eq-Decides x y).0 e

other_text : (x y : List ℕ) → bytes_eq x y ≡ false → bytes_eq y x ≡ false
other_text x y e = by (bytes_eq y x) refl
  where
    differ : bytes_eq y x ≡ true → ⊥
    differ f = let t : true ≡ false = sym ((bytes_eq-Decides x y).1 (sym (same_text y x f))) ∙ e in cc

    by : (b : Bool) → bytes_eq y x ≡ b → bytes_eq y x ≡ false
    by true f = absurd (differ f)
    by false f = f

abbrev binding_if : List ℕ → Option EntityType → Option Binding
binding_if x t = option_map (λ (t : EntityType). bind x t role.Local (default_of t.class)) t

bound_name : (x : List ℕ) (t : Option EntityType) (b : Binding) → binding_if x t ≡ Some b → b.name ≡ x
bound_name x None b e = none_some b e
bound_name x (Some t) b e = sym (ap (λ (b : Binding). b.name) (some_same (bind x t role.Local (default_of t.class)) b e))

fresh_name : (s : System) (x : List ℕ) (k : FeatureKind) (b : Binding) → fresh_attribute s x k ≡ Some b → b.name ≡ x
fresh_name s x (tree.Attribute d) b e = bound_name x (declared_type s [] d) b e
fresh_name s x (tree.Routine r) b e = none_some b e

behind_some : (o : Option (ℕ × Value)) → is_some o ≡ true → is_some (option_map behind o) ≡ true
behind_some None e = e
behind_some (Some found) e = refl

-- the attribute, if it is one, has another name
abbrev IsOther : List ℕ → Option Binding → Type 0
IsOther name o = (b : Binding) → o ≡ Some b → bytes_eq b.name name ≡ false

missing_more : (name : List ℕ) (o : Option Binding) (bs : List Binding) → IsOther name o → attribute_named name bs ≡ None → attribute_named name (cons_option o bs) ≡ None
missing_more name None bs other e = e
missing_more name (Some b) bs other e =
    ap (λ t. if t then Some (zero, b.value) else option_map behind (attribute_named name bs)) (other b refl) ∙ ap (option_map behind) e

there_more : (name : List ℕ) (o : Option Binding) (bs : List Binding) → IsOther name o → is_some (attribute_named name bs) ≡ true →
    is_some (attribute_named name (cons_option o bs)) ≡ true
there_more name None bs other e = e
there_more name (Some b) bs other e =
    ap (λ t. is_some (if t then Some (zero, b.value) else option_map behind (attribute_named name bs))) (other b refl) ∙ behind_some (attribute_named name bs) e

abbrev fresh_in : System → DeclaredFeature → Option Binding
fresh_in s f = fresh_attribute s f.feature.name.text f.feature.kind

other_fresh : (s : System) (name : List ℕ) (f : DeclaredFeature) → bytes_eq f.feature.name.text name ≡ false → IsOther name (fresh_in s f)
other_fresh s name f d b e = ap (λ x. bytes_eq x name) (fresh_name s f.feature.name.text f.feature.kind b e) ∙ d

missing : (s : System) (name : List ℕ) (fs : List DeclaredFeature) → named_among name fs ≡ None → attribute_named name (fresh_attributes s fs) ≡ None
missing s name [] e = refl
missing s name (f ∷ fs) e = by (bytes_eq f.feature.name.text name) refl e (missing s name fs)
  where
    by : (b : Bool) → bytes_eq f.feature.name.text name ≡ b → cond b (Some f) (named_among name fs) ≡ None →
        (named_among name fs ≡ None → attribute_named name (fresh_attributes s fs) ≡ None) → attribute_named name (fresh_attributes s (f ∷ fs)) ≡ None
    by true t e next = none_some f (sym e)
    by false t e next = missing_more name (fresh_in s f) (fresh_attributes s fs) (other_fresh s name f t) (next e)

abbrev texts : List DeclaredFeature → List (List ℕ)
texts fs = map (λ n. n.text) (feature_names fs)

-- none of the features has the name
abbrev IsNoneOf : List ℕ → List DeclaredFeature → Type 0
IsNoneOf name fs = AllByRecursion (λ y. bytes_eq name y ≡ false) (texts fs)

unnamed : (name : List ℕ) (fs : List DeclaredFeature) → IsNoneOf name fs → named_among name fs ≡ None
unnamed name [] a = refl
unnamed name (f ∷ fs) a = ap (λ b. cond b (Some f) (named_among name fs)) (other_text name f.feature.name.text a.0) ∙ unnamed name fs a.1

-- where the only feature of the name is a routine, no attribute has it
routine_first : (s : System) (name : List ℕ) (fs : List DeclaredFeature) (g : DeclaredFeature) (r : RoutineDeclaration) → IsDistinct bytes_eq (texts fs) →
    named_among name fs ≡ Some g → g.feature.kind ≡ tree.Routine r → attribute_named name (fresh_attributes s fs) ≡ None
unfolding IsDistinct
routine_first s name [] g r distinct e kind = none_some g e
routine_first s name (f ∷ fs) g r distinct e kind = by (bytes_eq f.feature.name.text name) refl e (λ e. routine_first s name fs g r distinct.1 e kind)
  where
    by : (b : Bool) → bytes_eq f.feature.name.text name ≡ b → cond b (Some f) (named_among name fs) ≡ Some g →
        (named_among name fs ≡ Some g → attribute_named name (fresh_attributes s fs) ≡ None) → attribute_named name (fresh_attributes s (f ∷ fs)) ≡ None
    by true t e next =
        ap (λ o. attribute_named name (cons_option o (fresh_attributes s fs)))
        (ap (fresh_attribute s f.feature.name.text) (ap (λ (z : DeclaredFeature). z.feature.kind) (some_same f g e) ∙ kind))
        ∙ missing s name fs (unnamed name fs (subst (λ x. IsNoneOf x fs) (same_text f.feature.name.text name t) distinct.0))
    by false t e next = missing_more name (fresh_in s f) (fresh_attributes s fs) (other_fresh s name f t) (next e)

bound_first : (x name : List ℕ) (o : Option EntityType) (bs : List Binding) → is_some o ≡ true → bytes_eq x name ≡ true →
    is_some (attribute_named name (cons_option (binding_if x o) bs)) ≡ true
bound_first x name None bs e t = cc
bound_first x name (Some u) bs e t = ap (λ b. is_some (if b then Some (zero, default_of u.class) else option_map behind (attribute_named name bs))) t

-- an attribute whose type is known is there by its name
attribute_there : (s : System) (name : List ℕ) (fs : List DeclaredFeature) (g : DeclaredFeature) (d : DeclaredType) → named_among name fs ≡ Some g →
    g.feature.kind ≡ tree.Attribute d → is_some (declared_type s [] d) ≡ true → is_some (attribute_named name (fresh_attributes s fs)) ≡ true
attribute_there s name [] g d e kind known = none_some g e
attribute_there s name (f ∷ fs) g d e kind known = by (bytes_eq f.feature.name.text name) refl e (λ e. attribute_there s name fs g d e kind known)
  where
    by : (b : Bool) → bytes_eq f.feature.name.text name ≡ b → cond b (Some f) (named_among name fs) ≡ Some g →
        (named_among name fs ≡ Some g → is_some (attribute_named name (fresh_attributes s fs)) ≡ true) → is_some (attribute_named name (fresh_attributes s (f ∷ fs))) ≡ true
    by true t e next =
        ap (λ o. is_some (attribute_named name (cons_option o (fresh_attributes s fs))))
        (ap (fresh_attribute s f.feature.name.text) (ap (λ (z : DeclaredFeature). z.feature.kind) (some_same f g e) ∙ kind))
        ∙ bound_first f.feature.name.text name (declared_type s [] d) (fresh_attributes s fs) known t
    by false t e next = there_more name (fresh_in s f) (fresh_attributes s fs) (other_fresh s name f t) (next e)

-- ---- what a name is

told_attribute : (o : Option ℕ) → attribute_in (option_map version.Attribute o) ≡ o
told_attribute None = refl
told_attribute (Some n) = refl

told_routine : (o : Option ℕ) → attribute_in (option_map version.Routine o) ≡ None
told_routine None = refl
told_routine (Some n) = refl

known_attribute : (o : Option ℕ) → is_some o ≡ true → is_routine_in (option_map version.Attribute o) ≡ Some false
known_attribute None e = cc
known_attribute (Some n) e = refl

known_routine : (o : Option ℕ) → is_some o ≡ true → is_routine_in (option_map version.Routine o) ≡ Some true
known_routine None e = cc
known_routine (Some n) e = refl

abbrev number_in : Option (ℕ × Value) → Option ℕ
number_in o = option_map (λ found. found.0) o

number_known : (o : Option (ℕ × Value)) → is_some o ≡ true → is_some (number_in o) ≡ true
number_known None e = e
number_known (Some found) e = refl

module _ (s : System) (k : ℕ) (name : List ℕ) where
  abbrev attributes : List Binding
  attributes = fresh_attributes s (features s k)

  text_is : (f : DeclaredFeature) → named_among name (features s k) ≡ Some f → f.feature.name.text ≡ name
  text_is f e = same_text f.feature.name.text name (named_text name (features s k) f e)

  attributes_told : IsDistinct bytes_eq (texts (features s k)) → (o : Option DeclaredFeature) → named_among name (features s k) ≡ o →
      attribute_in (entry_of_feature s k o) ≡ attribute_number name attributes
  attributes_told distinct None e = sym (ap number_in (missing s name (features s k) e))
  attributes_told distinct (Some f) e = by f.feature.kind refl
    where
      by : (q : FeatureKind) → f.feature.kind ≡ q → attribute_in (entry_of_kind s k f q) ≡ attribute_number name attributes
      by (tree.Attribute d) is = told_attribute (attribute_number f.feature.name.text attributes) ∙ ap (λ x. attribute_number x attributes) (text_is f e)
      by (tree.Routine r) is = told_routine (feature_number s (routine_of f)) ∙ sym (ap number_in (routine_first s name (features s k) f r distinct e is))

  routines_told : FoundStands → AllDeclared s → (o : Option DeclaredFeature) → named_among name (features s k) ≡ o →
      is_routine_in (entry_of_feature s k o) ≡ option_map (λ (f : DeclaredFeature). is_routine f.feature.kind) o
  routines_told found all None e = refl
  routines_told found all (Some f) e = by f.feature.kind refl
    where
      declared : is_declared s f.feature.kind ≡ true
      declared = all_found (λ (f : DeclaredFeature). is_declared s f.feature.kind) (λ (f : DeclaredFeature). bytes_eq f.feature.name.text name) (declared_features s f.class) f (all f.class) (found s k name f e).is_declared

      by : (q : FeatureKind) → f.feature.kind ≡ q → is_routine_in (entry_of_kind s k f q) ≡ Some (is_routine q)
      by (tree.Attribute d) is =
          known_attribute (attribute_number f.feature.name.text attributes)
          (subst (λ x. is_some (attribute_number x attributes) ≡ true) (sym (text_is f e))
          (number_known (attribute_named name attributes) (attribute_there s name (features s k) f d e is (sym (ap (is_declared s) is) ∙ declared))))
      by (tree.Routine r) is =
          known_routine (feature_number s (routine_of f))
          (has_number s (routine_of f) (ap is_some (ap (λ x. named_among x (declared_features s f.class)) (found s k name f e).is_named ∙ (found s k name f e).is_declared)))

pub programs_serve : FeaturesDeclared → FeaturesDiffer → FoundStands → ProgramsServe
programs_serve declared differ found s root p faultless all is = record {
  conforms = tells s root p is;
  attributes = λ k x name named.
      ap attribute_in (version_is s root p is declared k x name named) ∙ attributes_told s k name (differ s root faultless k) (version_of s k name) refl;
  routines = λ k x name named.
      ap is_routine_in (version_is s root p is declared k x name named) ∙ routines_told s k name found all (version_of s k name) refl;
}
