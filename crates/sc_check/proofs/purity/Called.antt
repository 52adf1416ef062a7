-- What a routine may run is declared.
use Rattle.std.proofs.Common.{◌≡◌, ℕ, Bool, true, false, List, [], ◌∷◌, Option, Some, None, refl, ap, sym, ◌∙◌, subst}
use Rattle.std.specs.Prelude.{is_some, if◌then◌else◌}
use Rattle.sc_tree.specs.Plain.{System, FeatureKind, Attribute, Routine, Name, Target, no_target, target}
use Rattle.sc_class.specs.declared.identity.ClassId.{ClassId}
use Rattle.sc_class.specs.declared.identity.ClassId.TheVariants as class
use Rattle.sc_tree.specs.Properties.{is_print}
use Rattle.sc_class.specs.Names.{is_listed}
use Rattle.sc_class.specs.Tables.Ancestors.{ancestors}
use Rattle.sc_class.specs.Tables.Features.{DeclaredFeature, declared_features, redefined_names, features_along, named_among, feature_named}
use Rattle.sc_class.proofs.NameLemmas.{same_text}
use Rattle.sc_class.proofs.Items.{some_is}
use Rattle.sc_class.proofs.AncestorLemmas.{then_named, named-along}
use Rattle.sc_rules.specs.declared.entity_types.entity_type.EntityType.{EntityType}
use Rattle.sc_rules.specs.Names.{RoutineName, RoutineContext, Entities, Entity, Signature, named, current, routine_of, signature_of_kind, signature_of, meaning_of_feature, print_signature, entity_or, entity_named, meaning_of}
use Rattle.sc_rules.specs.Sites.{Site}
use Rattle.sc_rules.specs.Purity.{routine_named, IsBody, body, calls, MayRun, by_call, by_redefinition}
use Rattle.sc_rules.specs.JudgingPurity.{RunsInto, called, redeclared}
use Rattle.sc_typing.proofs.FeatureLemmas.{named_text, own_class}
use Rattle.sc_rules.proofs.PurityRoutines.{listed_call}

-- what is found along a line is the first of its name in its own class
own_stands : (s : System) (x : List ℕ) (d : DeclaredFeature) (ks : List ℕ) → named_among x (features_along s ks) ≡ Some d → named_among x (declared_features s d.class) ≡ Some d
own_stands s x d [] e = cc
own_stands s x d (k ∷ ks) e = by_own (named_among x (declared_features s k)) refl (is_listed x (redefined_names s k)) (own_stands s x d ks) (sym (named-along s k ks x) ∙ e)
  where
    by_own : (o : Option DeclaredFeature) → named_among x (declared_features s k) ≡ o → (b : Bool) →
        (named_among x (features_along s ks) ≡ Some d → named_among x (declared_features s d.class) ≡ Some d) →
        then_named (named_among x (declared_features s k)) b (named_among x (features_along s ks)) ≡ Some d → named_among x (declared_features s d.class) ≡ Some d
    by_own (Some g) i b f e = stands_there (i ∙ ap (λ o. then_named o b (named_among x (features_along s ks))) (sym i) ∙ e)
      where
        stands_there : named_among x (declared_features s k) ≡ Some d → named_among x (declared_features s d.class) ≡ Some d
        stands_there e = subst (λ k. named_among x (declared_features s k) ≡ Some d) (sym (own_class s k x d e)) e
    by_own None i true f e = absurd (hidden (ap (λ o. then_named o true (named_among x (features_along s ks))) (sym i) ∙ e))
      where
        hidden : None ≡ Some d → ⊥
        hidden e = cc
    by_own None i false f e = f (ap (λ o. then_named o false (named_among x (features_along s ks))) (sym i) ∙ e)

-- a class's feature is declared as what it says
feature_stands : (s : System) (c : ClassId) (x : List ℕ) (d : DeclaredFeature) → feature_named s c x ≡ Some d → is_some (routine_named s (routine_of d)) ≡ true
feature_stands s (class.Declared k) x d e =
    ap is_some (subst (λ y. named_among y (declared_features s d.class) ≡ Some d) (sym (same_text d.feature.name.text x (named_text x (features_along s (ancestors s k)) d e)))
    (own_stands s x d (ancestors s k) e))
feature_stands s class.Any x d e = cc
feature_stands s class.None x d e = cc
feature_stands s class.Integer x d e = cc
feature_stands s class.Boolean x d e = cc

stands_is : (g k : Signature) → named g ≡ named k → g ≡ k
stands_is g k e = cc

of_kind : (s : System) (t : EntityType) (d : DeclaredFeature) (f : FeatureKind) (g : RoutineName) → (signature_of_kind s t d f).routine ≡ Some g → g ≡ routine_of d
of_kind s t d (Attribute a) g e = cc
of_kind s t d (Routine routine) g e = sym (some_is (routine_of d) g e)

of_feature : (s : System) (t : EntityType) (o : Option DeclaredFeature) (k : Signature) (g : RoutineName) → meaning_of_feature s t o ≡ named k → k.routine ≡ Some g →
    ((d : DeclaredFeature) → o ≡ Some d → is_some (routine_named s (routine_of d)) ≡ true) → is_some (routine_named s g) ≡ true
of_feature s t None k g e i f = cc
of_feature s t (Some d) k g e i f =
    subst (λ g. is_some (routine_named s g) ≡ true) (sym (of_kind s t d d.feature.kind g (ap (λ (k : Signature). k.routine) (stands_is (signature_of s t d) k e) ∙ i))) (f d refl)

of_near : (h : RoutineContext) (x : List ℕ) (o : Option Entity) (k : Signature) (g : RoutineName) → entity_or h x o ≡ named k → k.routine ≡ Some g → is_some (routine_named h.system g) ≡ true
of_near h x (Some e) k g i j = absurd (none_there (ap (λ (k : Signature). k.routine) (stands_is _ k i) ∙ j))
  where
    none_there : None ≡ Some g → ⊥
    none_there e = cc
of_near h x None k g i j = by_print (is_print x) i
  where
    none_there : None ≡ Some g → ⊥
    none_there e = cc

    by_print : (b : Bool) → (if b then named (print_signature h) else meaning_of_feature h.system (current h) (feature_named h.system (class.Declared h.class) x)) ≡ named k →
        is_some (routine_named h.system g) ≡ true
    by_print true i = absurd (none_there (ap (λ (k : Signature). k.routine) (stands_is (print_signature h) k i) ∙ j))
    by_print false i = of_feature h.system (current h) (feature_named h.system (class.Declared h.class) x) k g i j (feature_stands h.system (class.Declared h.class) x)

of_meaning : (h : RoutineContext) (n : Entities) (a : Target) (t : Option EntityType) (x : Name) (k : Signature) (g : RoutineName) → meaning_of h n a t x ≡ named k → k.routine ≡ Some g →
    is_some (routine_named h.system g) ≡ true
of_meaning h n no_target t x k g e i = of_near h x.text (entity_named x.text n) k g e i
of_meaning h n (target a) (Some t) x k g e i = of_feature h.system t (feature_named h.system t.class x.text) k g e i (feature_stands h.system t.class x.text)
of_meaning h n (target a) None x k g e i = cc

body_of : {s : System} {f : RoutineName} {h : RoutineContext} {a : Site} → IsBody s f h a → h.system ≡ s
body_of (body e k) = refl

-- a routine that another leads to is declared
pub leads_named : {s : System} {f g : RoutineName} → MayRun s f g → is_some (routine_named s g) ≡ true
leads_named {s} {f} {g} (by_call {h} {k} w v (calls {n} {t} {x} {r} i u m) e) = subst (λ s. is_some (routine_named s g) ≡ true) (body_of w) (of_meaning h n t r.type x k g m e)
leads_named {s} {f} {g} (by_redefinition j {d} a e q) = subst (λ g. is_some (routine_named s g) ≡ true) (sym q) (feature_stands s (class.Declared j) f.name d e)

pub runs_named : {s : System} {f g : RoutineName} → RunsInto s f g → is_some (routine_named s g) ≡ true
runs_named (called p) = leads_named (listed_call p)
runs_named (redeclared a n i j) = j
