-- Conditions begin: by what they give.
use Rattle.std.specs.Option.{option_map}
use Rattle.std.specs.Prelude.{is_some}
use Rattle.std.proofs.Common.{◌&&◌, ◌+◌, ◌++◌, Bool, List, None, Option, Some, [], ap, false, refl, subst, sym, true, ℕ, ◌∙◌, ◌∷◌, ◌≡◌}
use Rattle.sc_tree.specs.Plain.{DeclaredType, Expr, System}
use Rattle.sc_tree.specs.declared.expression.BinaryOperator.{BinaryOperator}
use Rattle.sc_tree.specs.declared.expression.BinaryOperator.TheVariants as binary
use Rattle.sc_rules.specs.entity_types.Conformance.{boolean}
use Rattle.sc_rules.specs.declared.entity_types.entity_type.EntityType.{EntityType}
use Rattle.sc_rules.specs.Laws.{are_typed}
use Rattle.sc_rules.specs.Names.{Entities, RoutineContext, RoutineName, attached, entity, test_type}
use Rattle.sc_rules.specs.Positions.{is_and_then, is_ensure, may_give, shares_names, takes_void}
use Rattle.sc_rules.specs.Types.{binary_result, declared_type, gives_if, is_boolean}
use Rattle.sc_rules.specs.Typing as typing
use Rattle.sc_rules.specs.Typing.{Gives, HasType, Typing, is_testable}
use Rattle.sc_rules.specs.declared.position.Context.{Context}
use Rattle.sc_rules.specs.declared.position.Position.{Position}
use Rattle.sc_rules.specs.declared.position.Position.TheVariants.{Condition, Plain, Source}
use Rattle.sc_rules.specs.declared.position.Role.TheVariants as role
use Rattle.sc_rules.proofs.Typings.{gives_typed}
use Rattle.sc_model.specs.Environments.{scope_of}
use Rattle.sc_model.specs.Expressions.{evaluate}
use Rattle.sc_model.specs.Olds.{olds_in}
use Rattle.sc_model.specs.Routines.{Routine, Text, place_in}
use Rattle.sc_model.specs.Steps.{Point}
use Rattle.sc_model.specs.Tasks.{Bind, Eval, EvalRight, Task}
use Rattle.sc_model.specs.Values.{Reference}
use Rattle.sc_machine_laws.specs.states.Points.{types_of}
use Rattle.sc_machine_laws.specs.states.ValueSteps.{StandsSo, StepFits}
use Rattle.sc_machine_laws.specs.states.Typed as typed
use Rattle.sc_machine_laws.specs.states.Typed.{Extends, IsOf, IsTyped, OldsKept, after, at, names_formal}
use Rattle.sc_machine_laws.proofs.states.Conditions.{and_then_is}
use Rattle.sc_machine_laws.proofs.states.Environments.{extends_itself}
use Rattle.sc_machine_laws.proofs.states.Evaluations.{eval_step}
use Rattle.sc_machine_laws.proofs.states.Free.{gives_extend, gives_one}
use Rattle.sc_machine_laws.proofs.states.Lists.{both, no_both}
use Rattle.sc_machine_laws.proofs.states.Names.{all_typed, type_there, typed_so}
use Rattle.sc_machine_laws.proofs.states.Olds.{kept_outside}
use Rattle.sc_machine_laws.proofs.states.Scopes.{expression_names, test_names}
use Rattle.sc_machine_laws.proofs.states.RoutinePoints.{AllFit, BaseOf, IsRun, TasksAfter, TasksTyped, goes, in_text, text_may_name, text_results}

is_joined : (q : Position) (op : BinaryOperator) → shares_names q op ≡ true → is_and_then op ≡ true
is_joined Condition op e = e
is_joined Plain op e = cc
is_joined Source op e = cc

-- a condition that gives no names is an expression like others
pub plain_condition : {h : RoutineContext} {c : Context} {q : Position} {n : Entities} {e : Expr} {t : Typing} → q ≡ Condition → may_give e ≡ false → HasType h c q n e t → HasType h c Plain n e t
plain_condition i j typing.number = typing.number
plain_condition i j typing.truth = typing.truth
plain_condition {q} i j (typing.void e) = absurd (no_void q i e)
  where
    no_void : (q : Position) → q ≡ Condition → takes_void q ≡ true → ⊥
    no_void Condition i e = cc
    no_void Plain i e = cc
    no_void Source i e = cc
plain_condition i j typing.current_object = typing.current_object
plain_condition i j (typing.result e) = typing.result e
plain_condition i j (typing.call a b c d e f g h k l) = typing.call a b c d e f g h k l
plain_condition i j (typing.untyped_target_call a b c) = typing.untyped_target_call a b c
plain_condition i j (typing.unary a b c) = typing.unary a b c
plain_condition i j (typing.binary e d d' t) = typing.binary refl d d' t
plain_condition {q} i j (typing.and_then {op} e d g d' t) = absurd (no_both (is_and_then op) (is_joined q op e) j)
plain_condition i j (typing.test o d) = cc

-- both operands of an `and then` are truth values
logic_is : (a b c : EntityType) → binary_result binary.AndThen (Some a) (Some b) ≡ Some (Some c) → (is_boolean a.class ≡ true) × (is_boolean b.class ≡ true)
logic_is a b c e = both (is_boolean a.class) (is_boolean b.class) (of_type (is_boolean a.class && is_boolean b.class) e)
  where
    of_type : (d : Bool) → option_map (λ (t : EntityType). Some t) (gives_if d boolean) ≡ Some (Some c) → d ≡ true
    of_type true e = refl
    of_type false e = cc

-- the type of a test's name is there
test_there : (s : System) (t : Text) (d : Option DeclaredType) (a : EntityType) → is_testable (place_in s t) d ≡ true → (b : EntityType) × (test_type (place_in s t) d (Some a) ≡ Some b)
test_there s t None a e = (attached a, refl)
test_there s t (Some d) a e = by (declared_type s t.formals d) e
  where
    by : (o : Option EntityType) → is_some o ≡ true → (b : EntityType) × (option_map attached o ≡ Some b)
    by None e = cc
    by (Some c) e = (attached c, refl)

module _ (s : System) (pure : RoutineName → Bool) (r : Routine) where
  -- what waits for a condition's value takes that of an expression
  pub settled : {t : Text} {n m : Entities} {os ts : List EntityType} {a : EntityType} {k : List Task} → is_boolean a.class ≡ true → Extends n m → IsTyped s pure r k (after t n m os ts) →
      IsTyped s pure r k (at t m os (a ∷ ts))
  settled y x (typed.right_condition c i w d z g e k) = typed.settled_right y x (typed.right_condition c i w d z g e k)
  settled y x (typed.conclude_condition e k) = typed.settled_conclusion y x (typed.conclude_condition e k)
  settled y x (typed.choose own d e st l o k) = typed.settled_choice y x (typed.choose own d e st l o k)

  module _ (me : Reference) (run : IsRun s pure r me) (p : Point) (b : BaseOf s r me p) (fs : AllFit s me p p.values) where
    -- A condition begins.
    pub condition_step : (i : ℕ) (e : Expr) (a : EntityType) (c : Context) (high : Entities) → is_ensure c ≡ false → IsOf s p.text c Condition (scope_of p.environment) e a → is_boolean a.class ≡ true →
        Gives (place_in s p.text) c (scope_of p.environment) e high → TasksAfter s pure r p p.tasks (scope_of p.environment) high (types_of p.values) → StepFits s pure r me (evaluate s me i e p)
    condition_step i e a c high w (z, d) y g k = by g d refl k
      where
        comes_to : (k : List Task) → TasksTyped s pure r p k (types_of p.values) → StandsSo s pure r me [] (record p { tasks = k })
        comes_to k d = goes s pure r me p b [] k p.values d fs

        n_typed : are_typed (scope_of p.environment) ≡ true
        n_typed = all_typed p.environment

        outside : {q : Position} {n : Entities} {f : Expr} {y : Typing} (i : ℕ) → HasType (place_in s p.text) c q n f y → OldsKept s p.text n i f (types_of p.olds)
        outside {n} i d = kept_outside s p.text n (types_of p.olds) i w d

        by : {m : Entities} {e : Expr} {v : Typing} → Gives (place_in s p.text) c (scope_of p.environment) e m → HasType (place_in s p.text) c Condition (scope_of p.environment) e v → v.type ≡ Some a →
            TasksAfter s pure r p p.tasks (scope_of p.environment) m (types_of p.values) → StepFits s pure r me (evaluate s me i e p)
        by (typing.nothing f) d e k =
            eval_step s pure r me run p b fs i a refl (plain_condition refl f d) e (outside i d) (settled y (extends_itself (scope_of p.environment)) k)
        by (typing.by_test {d = dt} {a = f} {x = z} {t = v} dv) (typing.test z' d') e k = of_tested (type_there s pure r me run p.text b.text_is (scope_of p.environment) n_typed dv)
          where
            named : (u o : EntityType) → HasType (place_in s p.text) c Plain (scope_of p.environment) f v → v.type ≡ Some u → test_type (place_in s p.text) dt (Some u) ≡ Some o → names_formal r.text.formals o.tag ≡ true
            named u o dv there e = test_names r.text.formals (place_in s p.text) (text_may_name s pure r me run p.text b.text_is) dt u o
                (expression_names r.text.formals (text_results s pure r me run p.text b.text_is) b.scope_stands dv u there) e

            of_tested : (u : EntityType) × (v.type ≡ Some u) → StandsSo s pure r me [] (record p { tasks = Eval i f ∷ Bind dt z.text ∷ p.tasks })
            of_tested (u, there) = let t = test_there s p.text dt u z' in comes_to (Eval i f ∷ Bind dt z.text ∷ p.tasks)
                (typed.eval c Plain refl (typed_so dv there) (outside i dv) (typed.bind t.1 (named u t.0 dv there t.1) (extends_itself (scope_of p.environment))
                (subst (λ o. TasksAfter s pure r p p.tasks (scope_of p.environment) (scope_of p.environment ++ entity z.text o role.Test ∷ []) (types_of p.values))
                (ap (test_type (place_in s p.text) dt) there ∙ t.1) k)))
        by (typing.by_both {op} j g1 g2) (typing.binary j' d1 d2 t) e k = absurd (no_both (is_and_then op) j j')
        by {m} (typing.by_both {m = m1} {op} {a = f} {b = f'} j g1 g2) (typing.and_then {m = m2} {t = v} {u} j' d1 g1' d2 t) e k =
            of_left (type_there s pure r me run p.text b.text_is (scope_of p.environment) n_typed d1)
          where
            q : m2 ≡ m1
            q = gives_one g1' g1

            m2_typed : are_typed m2 ≡ true
            m2_typed = gives_typed run.declared (in_text s pure r me run p.text b.text_is).has_result n_typed d1 g1'

            of_left : (o : EntityType) × (v.type ≡ Some o) → StandsSo s pure r me [] (record p { tasks = Eval i f ∷ EvalRight op (i + olds_in f) f' ∷ p.tasks })
            of_left (o, there) = of_right (type_there s pure r me run p.text b.text_is m2 m2_typed d2)
              where
                of_right : (x : EntityType) × (u.type ≡ Some x) → StandsSo s pure r me [] (record p { tasks = Eval i f ∷ EvalRight op (i + olds_in f) f' ∷ p.tasks })
                of_right (x, there') =
                    let l = logic_is o x a (ap (λ o. binary_result binary.AndThen o (Some x)) (sym there) ∙ ap (λ o. binary_result binary.AndThen v.type o) (sym there')
                    ∙ ap (λ op. binary_result op v.type u.type) (sym (and_then_is op j)) ∙ t ∙ ap (λ o. Some o) e) in
                    comes_to (Eval i f ∷ EvalRight op (i + olds_in f) f' ∷ p.tasks)
                    (typed.condition c w (typed_so d1 there) l.0 g1 (typed.right_condition c j w
                    (subst (λ m. IsOf s p.text c Condition m f' x) q (typed_so d2 there')) l.1 g2 (gives_extend g1) k))
