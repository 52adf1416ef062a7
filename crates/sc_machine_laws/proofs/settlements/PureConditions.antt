-- In a function that contracts may call, a condition begins, and what a call enters is pure.
use Rattle.std.proofs.Common.{ℕ, ◌≡◌, ◌⊎◌, ◌==◌, ◌+◌, Bool, true, false, List, [], ◌∷◌, ◌++◌, Option, Some, None, refl, sym, ap, subst, ◌∙◌}
use Rattle.std.specs.Prelude.{is_some}
use Rattle.std.specs.Option.{option_map}
use Rattle.sc_tree.specs.Plain as tree
use Rattle.sc_tree.specs.Plain.{System, DeclaredType, Expr, FeatureKind}
use Rattle.sc_class.specs.declared.identity.ClassId.TheVariants as class
use Rattle.sc_class.specs.Tables.Conformance.{class_conforms}
use Rattle.sc_class.specs.Tables.Features.{DeclaredFeature, feature_named}
use Rattle.sc_rules.specs.declared.entity_types.tag.Tag.{Tag}
use Rattle.sc_rules.specs.declared.entity_types.tag.Tag.TheVariants as tag
use Rattle.sc_rules.specs.declared.entity_types.entity_type.EntityType.{EntityType}
use Rattle.sc_rules.specs.declared.position.Context.{Context}
use Rattle.sc_rules.specs.declared.position.Position.TheVariants.{Plain, Condition}
use Rattle.sc_rules.specs.declared.position.Role.TheVariants as role
use Rattle.sc_rules.specs.Laws.{are_typed}
use Rattle.sc_rules.specs.Names.{RoutineName, Entities, FormalType, current, entity, routine_of, signature_of, signature_of_kind, test_type}
use Rattle.sc_rules.specs.Names as rules
use Rattle.sc_rules.specs.Sites as site
use Rattle.sc_rules.specs.Types.{declared_type, is_foreign}
use Rattle.sc_rules.specs.Typing as typing
use Rattle.sc_rules.specs.Typing.{Gives, HasType, Typing, is_testable, typing}
use Rattle.sc_rules.proofs.Typings.{every_typed, gives_typed}
use Rattle.sc_model.specs.Values.{Reference, Value, Integer, Boolean, Void, Attached, Operand}
use Rattle.sc_model.specs.Environments.{binding_named}
use Rattle.sc_model.specs.Objects.{Object, object_numbered}
use Rattle.sc_model.specs.Olds.{olds_in}
use Rattle.sc_model.specs.Routines.{Routine, Text, place_in, version_of}
use Rattle.sc_model.specs.Tasks.{Task, Bind, Eval, EvalRight}
use Rattle.sc_model.specs.Steps.{Point, Step, comes, gives}
use Rattle.sc_model.specs.Calls.{passes_rights, given_by, enters_unqualified, calls_own, calls_kind, calls_version, requests, calls_object, calls_on}
use Rattle.sc_model.specs.Expressions.{evaluate}
use Rattle.sc_machine_laws.specs.states.Places.{is_routine}
use Rattle.sc_machine_laws.specs.states.Typed.{context_in}
use Rattle.sc_machine_laws.proofs.states.Environments.{extends_itself}
use Rattle.sc_machine_laws.proofs.states.Free.{gives_extend, gives_one}
use Rattle.sc_machine_laws.proofs.states.Names.{some_there}
use Rattle.sc_machine_laws.proofs.states.RoutinePoints.{in_text}
use Rattle.sc_machine_laws.specs.settlements.Calm.{IsCalm, at, after, InPure, StandsPure, PureStep}
use Rattle.sc_machine_laws.specs.settlements.Calm as calm
use Rattle.sc_machine_laws.specs.settlements.Clauses.{IsPureIfRoutine}
use Rattle.sc_machine_laws.proofs.settlements.ExpandedValues.{HasClass}
use Rattle.sc_machine_laws.proofs.settlements.PureRuns.{IsAt, PureRun, comes_fine, has_type, heir, if_fine, joined_calm, part_calm, stands_at}
use Rattle.sc_machine_laws.proofs.settlements.PureExpressions.{OldsKept, attribute_fine, eval_fine}

no : {A : Type 0} → false ≡ true → A
no e = cc

module _ (s : System) (pure : RoutineName → Bool) (r : Routine) (me : Reference) (z : PureRun s pure r me) where
  abbrev Fine : Step → Type 0
  Fine st = PureStep s pure r st

  module _ (t : Text) (own : (t ≡ r.text) ⊎ (t ≡ r.contract)) (n : Entities) (typed_n : are_typed n ≡ true) where
    abbrev Left : List Task → List EntityType → Type 0
    Left k vs = InPure s pure r k (at t n vs)

    -- ---- conditions

    test_same : (d : Option DeclaredType) (o : Option EntityType) → test_type (context_in s pure t) d o ≡ test_type (place_in s t) d o
    test_same None o = refl
    test_same (Some d) o = refl

    -- the type of a test's name is there
    test_there : (d : Option DeclaredType) (a : EntityType) → is_testable (context_in s pure t) d ≡ true → (b : EntityType) × (test_type (context_in s pure t) d (Some a) ≡ Some b)
    test_there None a e = (rules.attached a, refl)
    test_there (Some d) a e = by (declared_type s t.formals d) e
      where
        by : (o : Option EntityType) → is_some o ≡ true → (b : EntityType) × (option_map rules.attached o ≡ Some b)
        by None e = cc
        by (Some c) e = (rules.attached c, refl)

    pub condition_fine : (c : Context) (i : ℕ) (e : Expr) (y : Typing) (a : EntityType) (m : Entities) (vs : List EntityType) (p : Point) →
        IsAt s pure r me z t own n typed_n vs p → IsCalm s pure r t c Condition n e →
        HasType (context_in s pure t) c Condition n e y → y.type ≡ Some a → Gives (context_in s pure t) c n e m → InPure s pure r p.tasks (after t n m vs) →
        OldsKept s pure r me z t own n typed_n i e p →
        Fine (evaluate s me i e p)
    condition_fine c i e y a m vs p b w d ty g k olds = by g d ty w k olds
      where
        by : {m : Entities} {e : Expr} {y : Typing} → Gives (context_in s pure t) c n e m → HasType (context_in s pure t) c Condition n e y → y.type ≡ Some a →
            IsCalm s pure r t c Condition n e → InPure s pure r p.tasks (after t n m vs) → OldsKept s pure r me z t own n typed_n i e p → Fine (evaluate s me i e p)
        by {e} {y} (typing.nothing f) d ty w k olds = eval_fine s pure r me z t own n typed_n c i Condition e y a vs p b (λ j. f) w olds d ty (calm.settled (extends_itself n) k)
        by (typing.by_test {d = dt} {a = f} {x} {t = v} dv) (typing.test test d') ty w k olds = of_tested (has_type s pure r me z t own n typed_n c Plain f v dv)
          where
            of_tested : (u : EntityType) × (v.type ≡ Some u) → Fine (comes (Eval i f ∷ Bind dt x.text ∷ []) p)
            of_tested (u, there) =
                let is = test_there dt u test in
                comes_fine s pure r me z t own n typed_n (Eval i f ∷ Bind dt x.text ∷ []) vs p b
                (calm.eval c Plain refl (part_calm s pure r me z t site.tested_part (λ k. k) refl w) (subst (λ o. HasType (context_in s pure t) c Plain n f (typing o v.is_separate)) there dv)
                (calm.bind (sym (test_same dt (Some u)) ∙ is.1)
                (subst (λ o. InPure s pure r p.tasks (after t n (n ++ entity x.text o role.Test ∷ []) vs)) (ap (test_type (context_in s pure t) dt) there ∙ is.1) k)))
        by (typing.by_both {op} j g1 g2) (typing.binary j' d1 d2 u) ty w k olds = no (sym j' ∙ j)
        by (typing.by_both {m = m1} {op} {a = f} {b = f'} j g1 g2) (typing.and_then {m = m2} {t = v} {u = v'} j' d1 g1' d2 u) ty w k olds = of_left
            (has_type s pure r me z t own n typed_n c Condition f v d1)
          where
            same : m2 ≡ m1
            same = gives_one g1' g1

            typed_m : are_typed m2 ≡ true
            typed_m = gives_typed z.run.declared (in_text s pure r me z.run t own).has_result typed_n d1 g1'

            of_left : (l : EntityType) × (v.type ≡ Some l) → Fine (comes (Eval i f ∷ EvalRight op (i + olds_in f) f' ∷ []) p)
            of_left (l, there) = of_right (some_there v'.type (every_typed z.run.declared (in_text s pure r me z.run t own).has_result typed_m d2))
              where
                of_right : (l' : EntityType) × (v'.type ≡ Some l') → Fine (comes (Eval i f ∷ EvalRight op (i + olds_in f) f' ∷ []) p)
                of_right (l', there') = comes_fine s pure r me z t own n typed_n (Eval i f ∷ EvalRight op (i + olds_in f) f' ∷ []) vs p b
                    (calm.condition c (joined_calm s pure r me z t (site.joined_left_part j') w)
                    (subst (λ o. HasType (context_in s pure t) c Condition n f (typing o v.is_separate)) there d1) g1
                    (calm.right_condition c j (joined_calm s pure r me z t (site.joined_right_part j' g1) w)
                    (subst (λ (ns : Entities). HasType (context_in s pure t) c Condition ns f' (typing (Some l') v'.is_separate)) same
                    (subst (λ o. HasType (context_in s pure t) c Condition m2 f' (typing o v'.is_separate)) there' d2)) g2 (gives_extend g1) k))

    -- ---- calls

    pure_routine : (a : EntityType) (f : DeclaredFeature) → is_routine f.feature.kind ≡ true → IsPureIfRoutine pure f (signature_of s a f).routine → pure (routine_of f) ≡ true
    pure_routine a f is_one is = is (by f.feature.kind refl)
      where
        by : (k : FeatureKind) → f.feature.kind ≡ k → (signature_of s a f).routine ≡ Some (routine_of f)
        by (tree.Attribute d) e = no (sym (ap is_routine e) ∙ is_one)
        by (tree.Routine c) e = ap (λ k. (signature_of_kind s a f k).routine) e

    module _ (x : List ℕ) (us : List EntityType) (f : DeclaredFeature) (a c : EntityType) (acs : List Operand) (p : Point) (b : IsAt s pure r me z t own n typed_n us p)
        (there : feature_named s a.class x ≡ Some f) (is : IsPureIfRoutine pure f (signature_of s a f).routine) (gives : (signature_of s a f).gives ≡ Some (Some c))
        (near : is_foreign a.tag ≡ false) (k : Left p.tasks (c ∷ us)) where
      then_left : (g : EntityType) × (◌≡◌ {A = Option EntityType} (Some c) (Some g)) × StandsPure s pure r (g ∷ []) p
      then_left = (c, refl, stands_at s pure r me z t own n typed_n (c ∷ []) us p b k)

      versions_fine : (o' : Reference) → class_conforms s (class.Declared o'.class) a.class ≡ true → (o : Option Object) (g : Option DeclaredFeature) → version_of s o'.class x ≡ g →
          Fine (calls_version o' x acs (Some c) o g p)
      versions_fine o' conf None g e = tt
      versions_fine o' conf (Some o) None e = tt
      versions_fine o' conf (Some o) (Some g) e = by g.feature.kind refl
        where
          by : (m : FeatureKind) → g.feature.kind ≡ m → Fine (calls_kind o' x acs (Some c) o m p)
          by (tree.Attribute d) i = attribute_fine s pure r me z t own n typed_n us (binding_named x o.attributes) c p b k
          by (tree.Routine v) i = (
            (λ h j. z.versions o'.class a.class x f h conf there j
                (pure_routine a f (z.kinds o'.class a.class x f g conf there e (ap is_routine i)) is)),
            then_left,
          )

      asks_fine : (o' : Reference) (fs : List FormalType) (g : Tag) → a.tag ≡ g → Fine (requests o' g x acs (Some c) (passes_rights fs acs) p)
      asks_fine o' fs tag.Own e = tt
      asks_fine o' fs (tag.With y) e = no (sym near ∙ ap is_foreign e)
      asks_fine o' fs tag.Any e = no (sym near ∙ ap is_foreign e)
      asks_fine o' fs tag.None e = no (sym near ∙ ap is_foreign e)

      on_fine : (v : Value) → ((o : Reference) → v ≡ Attached o → class_conforms s (class.Declared o.class) a.class ≡ true) → Fine (calls_on s me x v a (Some f) acs p)
      on_fine Void conf = tt
      on_fine (Integer y) conf = tt
      on_fine (Boolean y) conf = tt
      on_fine (Attached o') conf =
          subst (λ o. Fine (calls_object s me o' a x acs (signature_of s a f) (given_by o) p)) (sym gives)
          (if_fine s pure r me z (o'.handler == me.handler) (calls_version o' x acs (Some c) (object_numbered o'.number p.objects) (version_of s o'.class x) p)
          (requests o' a.tag x acs (Some c) (passes_rights (signature_of s a f).formals acs) p)
          (versions_fine o' (conf o' refl) (object_numbered o'.number p.objects) (version_of s o'.class x) refl)
          (asks_fine o' (signature_of s a f).formals a.tag refl))

      -- the target's value lies under the actuals
      pub target_fine : (v : Operand) → v.type ≡ a → HasClass s v → Fine (calls_on s me x v.value v.type (feature_named s v.type.class x) acs p)
      target_fine v e conf =
          subst (λ (w : EntityType). Fine (calls_on s me x v.value w (feature_named s w.class x) acs p)) (sym e)
          (subst (λ o. Fine (calls_on s me x v.value a o acs p)) (sym there)
          (on_fine v.value (λ o i. subst (λ (w : EntityType). class_conforms s (class.Declared o.class) w.class ≡ true) e (conf o i))))

    pub own_fine : (x : List ℕ) (us : List EntityType) (f : DeclaredFeature) (a : EntityType) (acs : List Operand) (p : Point) → IsAt s pure r me z t own n typed_n us p →
        feature_named s (class.Declared t.class) x ≡ Some f → pure (routine_of f) ≡ true → (signature_of s (current (context_in s pure t)) f).gives ≡ Some (Some a) →
        Left p.tasks (a ∷ us) → Fine (calls_own s me x (feature_named s (class.Declared p.text.class) x) acs p)
    own_fine x us f a acs p b there is gives k =
        subst (λ o. Fine (calls_own s me x o acs p)) (sym (ap (λ (u : Text). feature_named s (class.Declared u.class) x) b.text_is ∙ there))
        (subst (λ o. Fine (enters_unqualified me x acs (given_by o) p))
        (sym (ap (λ (u : Text). (signature_of s (current (place_in s u)) f).gives) b.text_is ∙ gives)) (
          (λ g e. z.versions me.class (class.Declared t.class) x f g (heir s pure r me z t own n typed_n) there e is),
          (a, refl, stands_at s pure r me z t own n typed_n (a ∷ []) us p b k),
        ))
