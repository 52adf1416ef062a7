-- Names that are those of no feature of a class.
use Rattle.std.proofs.Common.{◌≡◌, ◌+◌, ℕ, Bool, true, false, List, [], ◌∷◌, ◌++◌, Some, refl, subst}
use Rattle.std.specs.Prelude.{bytes_eq, cond, Contains}
use Rattle.std.proofs.lemmas.List.Elements.{Contains-append_left, Contains-append_right, Contains-push}
use Rattle.sc_text.specs.declared.token.Span.{Span}
use Rattle.sc_tree.specs.Plain as tree
use Rattle.sc_tree.specs.Plain.{System, FeatureKind, Declaration, DeclaredType, Name}
use Rattle.sc_class.specs.declared.identity.ClassId.TheVariants as class
use Rattle.sc_class.specs.Faults.Scopes.{entity_names, feature_names}
use Rattle.sc_class.specs.Names.{Clashes, is_like, last_place, OneClashes, first, further}
use Rattle.sc_class.specs.Tables.Features.{DeclaredFeature, features, feature_named, named_among}
use Rattle.sc_class.proofs.NameLemmas.{same_text}
use Rattle.sc_rules.specs.Names.{RoutineName, Entity, Entities, entity_named, formal_entities, locals_known, routine_of}

pub same_some : {A : Type 0} {x y : A} → Some x ≡ Some y → x ≡ y
same_some e = cc

-- ---- what names stand for

abbrev pub is_routine : FeatureKind → Bool
is_routine (tree.Attribute d) = false
is_routine (tree.Routine r) = true

-- If the class has a routine of the name, that is pure.
abbrev pub CallsPure : System → (RoutineName → Bool) → ℕ → List ℕ → Type 0
CallsPure s pure k x = (f : DeclaredFeature) → feature_named s (class.Declared k) x ≡ Some f → is_routine f.feature.kind ≡ true → pure (routine_of f) ≡ true

-- The class has no attribute of the name.
abbrev pub AssignsNone : System → ℕ → List ℕ → Type 0
AssignsNone s k x = (f : DeclaredFeature) (d : DeclaredType) → feature_named s (class.Declared k) x ≡ Some f → f.feature.kind ≡ tree.Attribute d → ⊥

-- It has no feature of the name.
abbrev pub IsFree : System → ℕ → List ℕ → Type 0
IsFree s k x = (f : DeclaredFeature) → feature_named s (class.Declared k) x ≡ Some f → ⊥

-- of none of these names
abbrev pub AreFree : System → ℕ → List Name → Type 0
AreFree s k [] = Unit {0}
AreFree s k (x ∷ xs) = IsFree s k x.text × AreFree s k xs

abbrev pub Apart : System → ℕ → Entities → Type 0
Apart s k [] = Unit {0}
Apart s k (e ∷ n) = IsFree s k e.name × Apart s k n

-- Each feature of the class has one of the names.
abbrev pub Covers : System → ℕ → List Name → Type 0
Covers s k known = (x : List ℕ) (f : DeclaredFeature) → feature_named s (class.Declared k) x ≡ Some f → (m : Name) × Contains known m × (bytes_eq m.text x ≡ true)

module _ (s : System) (k : ℕ) where
  pub apart_more : (n m : Entities) → Apart s k n → Apart s k m → Apart s k (n ++ m)
  apart_more [] m a b = b
  apart_more (e ∷ n) m a b = (a.0, apart_more n m a.1 b)

  pub found_free : (x : List ℕ) (n : Entities) (e : Entity) → entity_named x n ≡ Some e → Apart s k n → IsFree s k x
  found_free x [] e i a = cc
  found_free x (y ∷ n) e i a = by (bytes_eq y.name x) refl (λ i. found_free x n e i a.1) i
    where
      by : (b : Bool) → bytes_eq y.name x ≡ b → (entity_named x n ≡ Some e → IsFree s k x) → cond b (Some y) (entity_named x n) ≡ Some e → IsFree s k x
      by true c h i = subst (IsFree s k) (same_text y.name x c) a.0
      by false c h i = h i

  pub covers_more : (known others : List Name) → Covers s k known → Covers s k (known ++ others)
  covers_more known others c x f e = let z = c x f e in (z.0, Contains-append_left known others z.0 z.1, z.2)

  -- a name that may stand after these is that of no feature
  pub unlike_free : (known : List Name) (n : Name) → Covers s k known → ((p : Span) → Clashes known n p → ⊥) → IsFree s k n.text
  unlike_free known n c f g e = let z = c n.text g e in f (last_place z.0.span n.span) (is_like (z.1.0, z.0, z.1.1, z.1.2, (z.2, refl)))

  pub all_free : (known ns : List Name) → Covers s k known → ((p : Span) → OneClashes known ns p → ⊥) → AreFree s k ns
  all_free known [] c f = tt
  all_free known (n ∷ ns) c f = (
    unlike_free known n c (λ p i. f p (first i)),
    all_free (known ++ n ∷ []) ns (covers_more known (n ∷ []) c) (λ p i. f p (further i)),
  )

  pub free_before : (xs ys : List Name) → AreFree s k (xs ++ ys) → AreFree s k xs
  free_before [] ys a = tt
  free_before (x ∷ xs) ys a = (a.0, free_before xs ys a.1)

  pub free_behind : (xs ys : List Name) → AreFree s k (xs ++ ys) → AreFree s k ys
  free_behind [] ys a = a
  free_behind (x ∷ xs) ys a = free_behind xs ys a.1

  pub formals_apart : (all : List Declaration) (i : ℕ) (ds : List Declaration) → AreFree s k (entity_names ds) → Apart s k (formal_entities s all i ds)
  formals_apart all i [] a = tt
  formals_apart all i (d ∷ ds) a = (a.0, formals_apart all (i + 1) ds a.1)

  pub locals_apart : (formals ds : List Declaration) → AreFree s k (entity_names ds) → Apart s k (locals_known s formals ds)
  locals_apart formals [] a = tt
  locals_apart formals (d ∷ ds) a = (a.0, locals_apart formals ds a.1)

  own_covers : (fs : List DeclaredFeature) (x : List ℕ) (f : DeclaredFeature) → named_among x fs ≡ Some f →
      (m : Name) × Contains (feature_names fs) m × (bytes_eq m.text x ≡ true)
  own_covers [] x f e = cc
  own_covers (g ∷ fs) x f e = by (bytes_eq g.feature.name.text x) refl (own_covers fs x f) e
    where
      by : (b : Bool) → bytes_eq g.feature.name.text x ≡ b →
          (named_among x fs ≡ Some f → (m : Name) × Contains (feature_names fs) m × (bytes_eq m.text x ≡ true)) → cond b (Some g) (named_among x fs) ≡ Some f →
          (m : Name) × Contains (feature_names (g ∷ fs)) m × (bytes_eq m.text x ≡ true)
      by true c h i = (g.feature.name, Contains-append_left (g.feature.name ∷ []) (feature_names fs) g.feature.name (Contains-push [] g.feature.name), c)
      by false c h i = let z = h i in (z.0, Contains-append_right (g.feature.name ∷ []) (feature_names fs) z.0 z.1, z.2)

  pub features_cover : Covers s k (feature_names (features s k))
  features_cover x f e = own_covers (features s k) x f e
