-- What is known of each point of a function that contracts may call, and of its next turn.
use Rattle.std.proofs.Common.{ℕ, zero, suc, ◌≡◌, ◌&&◌, ◌||◌, ◌+◌, not, Bool, true, false, List, [], ◌∷◌, Some, refl, sym, ap, subst, ◌∙◌, arith}
use Rattle.std.specs.Prelude.{slice_get}
use Rattle.sc_text.specs.declared.token.Span.{Span}
use Rattle.sc_tree.specs.declared.expression.UnaryOperator.TheVariants as unary
use Rattle.sc_tree.specs.declared.expression.BinaryOperator.{BinaryOperator}
use Rattle.sc_tree.specs.Plain as tree
use Rattle.sc_tree.specs.Plain.{System, Expr}
use Rattle.sc_rules.specs.declared.entity_types.entity_type.EntityType.{EntityType}
use Rattle.sc_rules.specs.declared.position.Context.{Context}
use Rattle.sc_rules.specs.declared.position.Context.TheVariants as context
use Rattle.sc_rules.specs.declared.position.Position.TheVariants.{Condition, Plain}
use Rattle.sc_rules.specs.Names.{Entities, RoutineName}
use Rattle.sc_rules.specs.Positions.{is_and_then, is_ensure}
use Rattle.sc_rules.specs.Types.{binary_type, is_boolean}
use Rattle.sc_rules.specs.Typing as typing
use Rattle.sc_rules.specs.Typing.{HasType, Typing, typing}
use Rattle.sc_rules.proofs.TypeLaws.{one_type}
use Rattle.sc_model.specs.Environments.{handler_named, scope_of}
use Rattle.sc_model.specs.Fits.{OperandFits}
use Rattle.sc_model.specs.Moves.{first_visible, moves, step, then_go}
use Rattle.sc_model.specs.Objects.{Object}
use Rattle.sc_model.specs.Routines.{Routine, Text, place_in}
use Rattle.sc_model.specs.Sizes.{size}
use Rattle.sc_model.specs.Steps.{Does, Goes, Point, Step}
use Rattle.sc_model.specs.Tasks.{Task, Eval, EvalRight}
use Rattle.sc_model.specs.Values.{Boolean, Operand, Reference, operand}
use Rattle.sc_machine_laws.specs.states.Points.{Agrees, Each, IsAmong, types_of}
use Rattle.sc_machine_laws.specs.states.Points as point
use Rattle.sc_machine_laws.specs.states.ValueSteps.{IsThereIfOwn, StandsSo, StepFits, ValuesDo}
use Rattle.sc_machine_laws.specs.states.Typed.{IsTyped, Known, context_in}
use Rattle.sc_machine_laws.specs.states.Typed as typed
use Rattle.sc_machine_laws.proofs.states.Applications.{gives_is}
use Rattle.sc_machine_laws.proofs.states.Conditions.{and_then_is}
use Rattle.sc_machine_laws.proofs.states.Free.{freely}
use Rattle.sc_machine_laws.proofs.states.Lists.{both, each_more, same_some}
use Rattle.sc_machine_laws.proofs.states.Operators.{boolean_value}
use Rattle.sc_machine_laws.proofs.states.OperatorReferences.{Stays, StepStays}
use Rattle.sc_machine_laws.proofs.states.References.{step_stays}
use Rattle.sc_machine_laws.proofs.states.ValueSteps.{step_fits}
use Rattle.sc_machine_laws.specs.settlements.Calm.{PureStep, StandsPure}
use Rattle.sc_machine_laws.proofs.settlements.PureRuns.{PureRun}
use Rattle.sc_machine_laws.proofs.settlements.Bodies.{pure_step}
use Rattle.sc_machine_laws.proofs.settlements.Clausal.{have_classes, own_values}

no : {A : Type 0} → false ≡ true → A
no e = cc

-- ---- what is known of each point

-- the value of an `old` that was kept
some_old : (os : List Operand) (i : ℕ) (u : EntityType) → slice_get (types_of os) i ≡ Some u → (o : Operand) × (slice_get os i ≡ Some o) × (o.type ≡ u)
some_old [] i u e = cc
some_old (o ∷ os) zero u e = (o, refl, same_some e)
some_old (o ∷ os) (suc i) u e = some_old os i u e

module _ (s : System) (pure : RoutineName → Bool) (r : Routine) where
  -- an `old` stands in no condition
  none_old : {t : Text} {c : Context} {n : Entities} {sp : Span} {f : Expr} {y : Typing} → is_ensure c ≡ false → HasType (place_in s t) c Condition n (tree.Unary sp unary.Old f) y → ⊥
  none_old {c} e (typing.unary {t = y} d o u) = by (is_ensure c) e o
    where
      by : (b : Bool) → b ≡ false → (not true || (b && not y.is_separate)) ≡ true → ⊥
      by true e o = cc
      by false e o = no o

  kept_typed : (t : Text) (n : Entities) (os vs : List EntityType) (i : ℕ) (e : Expr) (k : List Task) → IsTyped s pure r (Eval i e ∷ k) (typed.at t n os vs) → (sp : Span) (f : Expr) →
      e ≡ tree.Unary sp unary.Old f → (y : Typing) → HasType (place_in s t) context.Old Plain n f y → (u : EntityType) × (slice_get os i ≡ Some u) × (y.type ≡ Some u)
  kept_typed t n os vs i e k (typed.eval c q j isof olds d) sp f is y h = by (subst (λ (e : Expr). typed.OldsKept s t n i e os) is olds zero f refl)
    where
      by : (u : EntityType) × (b : Bool) × HasType (place_in s t) context.Old Plain n f (typing (Some u) b) × (slice_get os (i + zero) ≡ Some u) →
          (u : EntityType) × (slice_get os i ≡ Some u) × (y.type ≡ Some u)
      by (u, b, h', there) = (
        u,
        subst (λ (j : ℕ). slice_get os j ≡ Some u) (let e : i + zero ≡ i = omega arith in e) there,
        ap (λ (w : Typing). w.type) (one_type (place_in s t) context.Old Plain n f y (typing (Some u) b) h h'),
      )
  kept_typed t n os vs i e k (typed.condition {a} c en isof bl g d) sp f is y h =
      absurd (none_old en (subst (λ (e : Expr). HasType (place_in s t) c Condition n e (typing (Some a) isof.0)) is isof.1))

  -- a left operand of an `and then` is a truth value
  left_typed : (t : Text) (n : Entities) (os : List EntityType) (a : EntityType) (vs : List EntityType) (op : BinaryOperator) (i : ℕ) (e : Expr) (k : List Task) →
      IsTyped s pure r (EvalRight op i e ∷ k) (typed.at t n os (a ∷ vs)) → is_and_then op ≡ true → is_boolean a.class ≡ true
  left_typed t n os a vs op i e k (typed.eval_right {b} {u} c isof kept ty d) joins =
      (both (is_boolean a.class) (is_boolean b.class)
      (gives_is (is_boolean a.class && is_boolean b.class) _ u (subst (λ (op : BinaryOperator). binary_type op a b ≡ Some u) (and_then_is op joins) ty)).0).0
  left_typed t n os a vs op i e k (typed.settled_right bl x d) joins = bl

module _ (s : System) (pure : RoutineName → Bool) (r : Routine) (me : Reference) (z : PureRun s pure r me) (p : Point) (f : StandsSo s pure r me [] p) where
  -- where an `old` is evaluated its value was kept
  olds_there : (i : ℕ) (e : Expr) (k : List Task) → p.tasks ≡ Eval i e ∷ k → (sp : Span) (g : Expr) → e ≡ tree.Unary sp unary.Old g → (y : Typing) →
      HasType (context_in s pure p.text) context.Old Plain (scope_of p.environment) g y → (o : Operand) × (slice_get p.olds i ≡ Some o) × (y.type ≡ Some o.type)
  olds_there i e k at sp g is y h = by f.0.known f.0.agrees (subst (λ ts. IsTyped s pure r ts f.0.known) at f.0.is_typed)
    where
      found : (u : EntityType) × (slice_get (types_of p.olds) i ≡ Some u) × (y.type ≡ Some u) → (o : Operand) × (slice_get p.olds i ≡ Some o) × (y.type ≡ Some o.type)
      found (u, there, is) = let o = some_old p.olds i u there in (o.0, o.1, is ∙ ap (λ (v : EntityType). Some v) (sym o.2))

      by : (x : Known) → Agrees p [] x → IsTyped s pure r (Eval i e ∷ k) x → (o : Operand) × (slice_get p.olds i ≡ Some o) × (y.type ≡ Some o.type)
      by _ point.here d = found (kept_typed s pure r p.text (scope_of p.environment) (types_of p.olds) (types_of p.values) i e k d sp g is y (freely h))
      by _ (point.held a b c) d = elim d [ ]
      by _ (point.denied a b c) d = elim d [ ]

  -- the left operand of a condition is a truth value
  truths_there : (op : BinaryOperator) (i : ℕ) (e : Expr) (k : List Task) (u : Operand) (us : List Operand) → p.tasks ≡ EvalRight op i e ∷ k → is_and_then op ≡ true → p.values ≡ u ∷ us →
      (b : Bool) × (u.value ≡ Boolean b)
  truths_there op i e k u us at joins values = by f.0.known f.0.agrees (subst (λ ts. IsTyped s pure r ts f.0.known) at f.0.is_typed)
    where
      fits : OperandFits s me.handler p.environment u
      fits = (subst (Each (OperandFits s me.handler p.environment)) values f.0.values_fit).0

      of_type : is_boolean u.type.class ≡ true → (b : Bool) × (u.value ≡ Boolean b)
      of_type e = let v = boolean_value s me.handler (handler_named p.environment) u.value u.type e fits in (v.truth, v.is)

      first_value : (b : Bool) (t : EntityType) (vs : List Operand) → p.values ≡ operand (Boolean b) t ∷ vs → (b : Bool) × (u.value ≡ Boolean b)
      first_value b t vs i = let same : u ∷ us ≡ operand (Boolean b) t ∷ vs = sym values ∙ i in (b, first u (operand (Boolean b) t) us vs same)
        where
          first : (x y : Operand) (xs ys : List Operand) → x ∷ xs ≡ y ∷ ys → x.value ≡ y.value
          first x y xs ys e = let same : x ≡ y = cc in ap (λ (o : Operand). o.value) same

      by : (x : Known) → Agrees p [] x → IsTyped s pure r (EvalRight op i e ∷ k) x → (b : Bool) × (u.value ≡ Boolean b)
      by _ point.here d = of_type (left_typed s pure r p.text (scope_of p.environment) (types_of p.olds) u.type (types_of us) op i e k
          (subst (λ (vs : List Operand). IsTyped s pure r (EvalRight op i e ∷ k) (typed.at p.text (scope_of p.environment) (types_of p.olds) (types_of vs))) values d) joins)
      by _ (point.held {t} {us = vs} a b c) d = first_value true t vs b
      by _ (point.denied {t} {us = vs} a b c) d = first_value false t vs b

-- ---- turns

module _ (s : System) (pure : RoutineName → Bool) (r : Routine) (me : Reference) (z : PureRun s pure r me) where
  next : (p : Point) → StandsSo s pure r me [] p → StandsPure s pure r [] p → PureStep s pure r (step s me p)
  next p f g = pure_step s pure r me z p f (have_classes s pure z.run.purity r me z.run [] p f.0.values_fit) (truths_there s pure r me z p f) (olds_there s pure r me z p f) g

  module _ (objects : List Object) (there : IsAmong objects me) where
    within : (m : ℕ) (p : Point) → StandsSo s pure r me [] p → Stays (IsThereIfOwn me.handler objects) objects p → StandsPure s pure r [] p → PureStep s pure r (first_visible m s me p)
    within zero p f h g = g
    within (suc m) p f h g = by (step s me p) (λ q. within m q)
        (step_fits s pure r me z.run p f
        (each_more (λ (u : Operand). IsThereIfOwn me.handler objects u.value) (λ (u : Operand). IsThereIfOwn me.handler p.objects u.value)
        (λ u f o e i. h.there o (f o e i)) p.values h.values.values_do))
        (step_stays (IsThereIfOwn me.handler objects) me (own_values me.handler objects me there) objects s p h) (next p f g)
      where
        by : (x : Step) → ((q : Point) → StandsSo s pure r me [] q → Stays (IsThereIfOwn me.handler objects) objects q → StandsPure s pure r [] q →
            PureStep s pure r (first_visible m s me q)) → StepFits s pure r me x →
            StepStays (IsThereIfOwn me.handler objects) me (own_values me.handler objects me there) objects x → PureStep s pure r x →
            PureStep s pure r (then_go x (first_visible m s me))
        by (Goes q) go f h g = go q f h g
        by (Does a q) go f h g = g

  -- So does its next turn.
  pub pure_moves : (p : Point) → StandsSo s pure r me [] p → ValuesDo (IsThereIfOwn me.handler p.objects) p → StandsPure s pure r [] p → PureStep s pure r (moves s me p)
  pure_moves p f h g = within p.objects f.1.current (suc (size p.tasks)) p f (record { values = h; there = λ o z. z }) g
