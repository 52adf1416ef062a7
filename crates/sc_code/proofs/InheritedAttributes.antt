-- The attributes of an heir: its own, then its parent's, all of different names.
use Rattle.std.proofs.Common.{◌≡◌, ℕ, suc, Bool, true, false, cond, List, [], ◌∷◌, ◌++◌, Option, Some, None, is_some, map, refl, ap, sym, subst, ◌∙◌}
use Rattle.std.specs.Prelude.{bytes_eq, not, if◌then◌else◌}
use Rattle.std.specs.List.{AllByRecursion, IsDistinct, cons_option}
use Rattle.std.specs.Option.{option_map}
use Rattle.std.proofs.lemmas.List.Elements.{filter_map-append}
use Rattle.std.proofs.lemmas.Slice.Eq.{bytes_eq-Decides}
use Rattle.sc_tree.specs.Plain.{System, FeatureKind, Attribute, Routine, Name}
use Rattle.sc_class.specs.declared.identity.ClassId.TheVariants as class
use Rattle.sc_class.specs.Names.{is_listed}
use Rattle.sc_class.specs.ClassNames.{Root}
use Rattle.sc_class.specs.Faults.ClassRules.{IsFaultless}
use Rattle.sc_class.specs.Faults.Redefinition.{can_redefine}
use Rattle.sc_class.specs.Faults.Scopes.{feature_names}
use Rattle.sc_class.specs.Tables.Ancestors.{parent_number}
use Rattle.sc_class.specs.Tables.Features.{DeclaredFeature, declared_features, features, features_along, named_among, not_redefined, redefined_names}
use Rattle.sc_class.proofs.Acyclic.{ancestors_climb}
use Rattle.sc_class.proofs.Heirs.{Next, OneDown, inherits, declares_again, one_down}
use Rattle.sc_rules.specs.declared.entity_types.entity_type.EntityType.{EntityType}
use Rattle.sc_rules.specs.declared.position.Role.TheVariants as role
use Rattle.sc_rules.specs.Types.{declared_type}
use Rattle.sc_model.specs.Environments.{Binding, bind}
use Rattle.sc_model.specs.Invariants.{attribute_named}
use Rattle.sc_model.specs.Objects.{fresh_attribute, fresh_attributes}
use Rattle.sc_model.specs.Values.{Value, default_of}
use Rattle.sc_code.proofs.HeirFormulas.{AreApart}

abbrev texts_of : List DeclaredFeature → List (List ℕ)
texts_of fs = map (λ n. n.text) (feature_names fs)

abbrev names_of : List Binding → List (List ℕ)
names_of bs = map (λ (b : Binding). b.name) bs

-- the text is none of these
abbrev IsNoneOf : List ℕ → List (List ℕ) → Type 0
IsNoneOf x ys = AllByRecursion (λ y. bytes_eq x y ≡ false) ys

same : (x : List ℕ) → bytes_eq x x ≡ true
same x = (bytes_eq-Decides x x).1 refl

differs : (x y : List ℕ) → bytes_eq x y ≡ false → bytes_eq y x ≡ false
differs x y e = by (bytes_eq y x) refl
  where
    by : (b : Bool) → bytes_eq y x ≡ b → b ≡ false
    by false f = refl
    by true f =
        let alike : x ≡ y = sym ((bytes_eq-Decides y x).0 f) in
        let t : true ≡ false = sym ((bytes_eq-Decides x y).1 alike) ∙ e in cc

-- ---- attributes that the heir doesn't redefine

not_first : (x y : List ℕ) (fs : List DeclaredFeature) (g : DeclaredFeature) → IsNoneOf y (texts_of fs) → named_among x fs ≡ Some g → bytes_eq y x ≡ false
not_first x y [] g n e = cc
not_first x y (f ∷ fs) g (d, n) e = by (bytes_eq f.feature.name.text x) refl (not_first x y fs g n) e
  where
    by : (b : Bool) → bytes_eq f.feature.name.text x ≡ b → (named_among x fs ≡ Some g → bytes_eq y x ≡ false) → cond b (Some f) (named_among x fs) ≡ Some g → bytes_eq y x ≡ false
    by true i h q = subst (λ z. bytes_eq y z ≡ false) ((bytes_eq-Decides f.feature.name.text x).0 i) d
    by false i h q = h q

module _ (s : System) (names : List Name) where
  -- what has one of the names is no attribute
  abbrev RedefineNone : List DeclaredFeature → Type 0
  RedefineNone fs = (x : List ℕ) (g : DeclaredFeature) → named_among x fs ≡ Some g → is_listed x names ≡ true → (y : List ℕ) → fresh_attribute s y g.feature.kind ≡ None

  attributes_kept : (fs : List DeclaredFeature) → IsDistinct bytes_eq (texts_of fs) → RedefineNone fs → fresh_attributes s (not_redefined names fs) ≡ fresh_attributes s fs
  unfolding IsDistinct
  attributes_kept [] d h = refl
  attributes_kept (f ∷ fs) (n, d) h = by (is_listed x names) refl (attributes_kept fs d later)
    where
      x : List ℕ
      x = f.feature.name.text

      later : RedefineNone fs
      later y g e = h y g (ap (λ b. cond b (Some f) (named_among y fs)) (not_first y x fs g n e) ∙ e)

      here : named_among x (f ∷ fs) ≡ Some f
      here = ap (λ b. cond b (Some f) (named_among x fs)) (same x)

      by : (b : Bool) → is_listed x names ≡ b → fresh_attributes s (not_redefined names fs) ≡ fresh_attributes s fs →
          fresh_attributes s (cond (not b) (f ∷ not_redefined names fs) (not_redefined names fs)) ≡ fresh_attributes s (f ∷ fs)
      by true l e = e ∙ sym (ap (λ o. cons_option o (fresh_attributes s fs)) (h x f here l x))
      by false l e = ap (cons_option (fresh_attribute s x f.feature.kind)) e

-- ---- attributes of different names

none_fresh : (s : System) (x : List ℕ) (fs : List DeclaredFeature) → IsNoneOf x (texts_of fs) → IsNoneOf x (names_of (fresh_attributes s fs))
none_fresh s x [] n = tt
none_fresh s x (f ∷ fs) (d, n) = by f.feature.kind (none_fresh s x fs n)
  where
    typed : (o : Option EntityType) → IsNoneOf x (names_of (fresh_attributes s fs)) →
        IsNoneOf x (names_of (cons_option (option_map (λ (t : EntityType). bind f.feature.name.text t role.Local (default_of t.class)) o) (fresh_attributes s fs)))
    typed None r = r
    typed (Some t) r = (d, r)

    by : (k : FeatureKind) → IsNoneOf x (names_of (fresh_attributes s fs)) → IsNoneOf x (names_of (cons_option (fresh_attribute s f.feature.name.text k) (fresh_attributes s fs)))
    by (Attribute t) r = typed (declared_type s [] t) r
    by (Routine c) r = r

distinct_fresh : (s : System) (fs : List DeclaredFeature) → IsDistinct bytes_eq (texts_of fs) → IsDistinct bytes_eq (names_of (fresh_attributes s fs))
unfolding IsDistinct
distinct_fresh s [] d = tt
distinct_fresh s (f ∷ fs) (n, d) = by f.feature.kind (none_fresh s f.feature.name.text fs n) (distinct_fresh s fs d)
  where
    typed : (o : Option EntityType) → IsNoneOf f.feature.name.text (names_of (fresh_attributes s fs)) → IsDistinct bytes_eq (names_of (fresh_attributes s fs)) →
        IsDistinct bytes_eq (names_of (cons_option (option_map (λ (t : EntityType). bind f.feature.name.text t role.Local (default_of t.class)) o) (fresh_attributes s fs)))
    typed None q r = r
    typed (Some t) q r = (q, r)

    by : (k : FeatureKind) → IsNoneOf f.feature.name.text (names_of (fresh_attributes s fs)) → IsDistinct bytes_eq (names_of (fresh_attributes s fs)) →
        IsDistinct bytes_eq (names_of (cons_option (fresh_attribute s f.feature.name.text k) (fresh_attributes s fs)))
    by (Attribute t) q r = typed (declared_type s [] t) q r
    by (Routine c) q r = r

-- the one that is first, or the one among those behind it
abbrev first_or : Value → Bool → Option (ℕ × Value) → Option (ℕ × Value)
first_or v c o = if c then Some (0, v) else option_map (λ (found : ℕ × Value). (suc found.0, found.1)) o

absent : (x : List ℕ) (bs : List Binding) → IsNoneOf x (names_of bs) → attribute_named x bs ≡ None
absent x [] n = refl
absent x (b ∷ bs) (d, n) =
    ap (λ c. first_or b.value c (attribute_named x bs)) (differs x b.name d)
    ∙ ap (option_map (λ (found : ℕ × Value). (suc found.0, found.1))) (absent x bs n)

none_behind : (x : List ℕ) (own bs : List Binding) → IsNoneOf x (names_of (own ++ bs)) → IsNoneOf x (names_of bs)
none_behind x [] bs n = n
none_behind x (b ∷ own) bs (d, n) = none_behind x own bs n

apart_of : (own bs : List Binding) → IsDistinct bytes_eq (names_of (own ++ bs)) → AreApart own bs
unfolding IsDistinct
apart_of [] bs d x h = refl
apart_of (b ∷ own) bs (n, d) x h = by (bytes_eq b.name x) refl (apart_of own bs d x h)
  where
    by : (c : Bool) → bytes_eq b.name x ≡ c → attribute_named x own ≡ None → first_or b.value c (attribute_named x own) ≡ None
    by true e o =
        let gone : attribute_named x bs ≡ None = absent x bs (subst (λ y. IsNoneOf y (names_of bs)) ((bytes_eq-Decides b.name x).0 e) (none_behind b.name own bs n)) in
        let t : false ≡ true = sym (ap is_some gone) ∙ h in cc
    by false e o = ap (option_map (λ (found : ℕ × Value). (suc found.0, found.1))) o

-- ---- an heir and its parent

routine_redefined : (s : System) (h g : FeatureKind) → can_redefine s h g ≡ true → (y : List ℕ) → fresh_attribute s y g ≡ None
routine_redefined s (Routine r) (Routine q) e y = refl
routine_redefined s (Routine r) (Attribute t) e y = cc
routine_redefined s (Attribute t) g e y = cc

module _ (s : System) (root : Root) (w : IsFaultless s root) (k i : ℕ) (p : parent_number s k ≡ Some i)
    (differ : (j : ℕ) → IsDistinct bytes_eq (texts_of (features s j))) where
  abbrev own : List Binding
  own = fresh_attributes s (declared_features s k)

  abbrev inherited : List Binding
  inherited = fresh_attributes s (features s i)

  none_redefined : RedefineNone s (redefined_names s k) (features s i)
  none_redefined x g e l y = at (one_down s root w k i p x g e)
    where
      at : Next s k x g → fresh_attribute s y g.feature.kind ≡ None
      at n = made n.version n.made
        where
          made : (h : DeclaredFeature) → OneDown s k x g h → fresh_attribute s y g.feature.kind ≡ None
          made h (inherits same declared none) = let t : true ≡ false = sym l ∙ none in cc
          made h (declares_again declared listed can) = routine_redefined s h.feature.kind g.feature.kind can y

  pub attributes_inherited : fresh_attributes s (features s k) ≡ own ++ inherited
  attributes_inherited =
      ap (λ ks. fresh_attributes s (features_along s ks)) (ancestors_climb s root w k i p)
      ∙ filter_map-append (λ (f : DeclaredFeature). fresh_attribute s f.feature.name.text f.feature.kind) (declared_features s k) (not_redefined (redefined_names s k) (features s i))
      ∙ ap (λ bs. own ++ bs) (attributes_kept s (redefined_names s k) (features s i) (differ i) none_redefined)

  pub own_apart : AreApart own inherited
  own_apart = apart_of own inherited (subst (λ bs. IsDistinct bytes_eq (names_of bs)) attributes_inherited (distinct_fresh s (features s k) (differ k)))
