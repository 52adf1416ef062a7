-- What is left to do of a function that contracts may call: each step keeps it, and calls what contracts may call.
use Rattle.std.proofs.Common.{ℕ, ◌≡◌, ◌⊎◌, Bool, true, false, List, [], ◌∷◌, ◌++◌, Some, refl, sym, ap, subst, ◌∙◌, inl, inr, append-nil}
use Rattle.std.specs.Prelude.{length, slice_get, take}
use Rattle.sc_text.specs.declared.token.Span.{Span}
use Rattle.sc_tree.specs.declared.expression.UnaryOperator.TheVariants as unary
use Rattle.sc_tree.specs.declared.expression.BinaryOperator.{BinaryOperator}
use Rattle.sc_tree.specs.declared.expression.BinaryOperator.TheVariants as binary
use Rattle.sc_tree.specs.Plain as tree
use Rattle.sc_tree.specs.Plain.{System, Branches, Expr, Instrs, no_instrs, instr_then}
use Rattle.sc_rules.specs.declared.entity_types.entity_type.EntityType.{EntityType}
use Rattle.sc_rules.specs.entity_types.Conformance.{boolean}
use Rattle.sc_rules.specs.declared.position.Context.{Context}
use Rattle.sc_rules.specs.declared.position.Context.TheVariants as context
use Rattle.sc_rules.specs.declared.position.Position.TheVariants.{Plain, Condition}
use Rattle.sc_rules.specs.Laws.{are_declared, are_typed}
use Rattle.sc_rules.specs.Positions.{is_and_then}
use Rattle.sc_rules.specs.Names.{RoutineName, Entities, locals_known}
use Rattle.sc_rules.specs.Sites as site
use Rattle.sc_rules.specs.Sites.{branches, instructions}
use Rattle.sc_rules.specs.Typing as typing
use Rattle.sc_rules.specs.Typing.{Gives, HasType, Typing, typing, types}
use Rattle.sc_model.specs.declared.cause.Cause.TheVariants as cause
use Rattle.sc_model.specs.Values.{Reference, Value, Integer, Boolean, Void, Attached, Operand, operand}
use Rattle.sc_model.specs.Environments.{scope_of}
use Rattle.sc_model.specs.Operators.{is_short}
use Rattle.sc_model.specs.Routines.{Routine, Text}
use Rattle.sc_model.specs.Tasks.{Task, Do, Eval, EvalRight}
use Rattle.sc_model.specs.Steps.{Point, Step, forgets, gives, popped}
use Rattle.sc_model.specs.Calls.{calls_unqualified, calls_qualified}
use Rattle.sc_model.specs.Expressions.{decided_by, evals_right, concludes}
use Rattle.sc_model.specs.Instructions.{chooses}
use Rattle.sc_model.specs.Creations.{assigned_at}
use Rattle.sc_model.specs.Moves.{step_at, step}
use Rattle.sc_machine_laws.specs.states.Points.{Each, types_of}
use Rattle.sc_machine_laws.specs.states.ValueSteps.{StandsSo}
use Rattle.sc_machine_laws.specs.states.Typed.{Extends, context_in}
use Rattle.sc_machine_laws.proofs.states.Conditions.{and_then_is, forgotten}
use Rattle.sc_machine_laws.proofs.states.Environments.{extends_further}
use Rattle.sc_machine_laws.proofs.states.Locals.{locals_fit}
use Rattle.sc_machine_laws.proofs.states.Names.{all_typed}
use Rattle.sc_machine_laws.proofs.states.RoutinePoints.{BaseOf}
use Rattle.sc_machine_laws.specs.settlements.Calm.{InBody, IsCalm, at, after, InPure, Came, StandsPure, PureStep}
use Rattle.sc_machine_laws.specs.settlements.Calm as calm
use Rattle.sc_machine_laws.proofs.settlements.ExpandedValues.{HasClass}
use Rattle.sc_machine_laws.proofs.settlements.PureRuns.{Pops, PureRun, pops}
use Rattle.sc_machine_laws.proofs.settlements.PureExpressions.{binary_fine, concludes_fine, eval_fine, right_fine, unary_fine}
use Rattle.sc_machine_laws.proofs.settlements.PureConditions.{condition_fine, own_fine, target_fine}
use Rattle.sc_machine_laws.proofs.settlements.PureInstructions.{assigns_fine, begins_fine, binds_fine, end_fine, other_fine, part_body, repeat_fine, require_fine, required_fine, tests_fine}

no : {A : Type 0} → false ≡ true → A
no e = cc

module _ (s : System) (pure : RoutineName → Bool) (r : Routine) (me : Reference) (z : PureRun s pure r me) where
  abbrev Fine : Step → Type 0
  Fine st = PureStep s pure r st

  -- ---- a step

  -- the left operand of a condition is a truth value
  abbrev pub Truths : List Task → List Operand → Type 0
  Truths ts vs = (op : BinaryOperator) (i : ℕ) (e : Expr) (k : List Task) (u : Operand) (us : List Operand) → ts ≡ EvalRight op i e ∷ k → is_and_then op ≡ true → vs ≡ u ∷ us →
      (b : Bool) × (u.value ≡ Boolean b)

  -- where an `old` is evaluated its value was kept, and is of its type
  abbrev pub Olds : List Task → Point → Type 0
  Olds ts p = (i : ℕ) (e : Expr) (k : List Task) → ts ≡ Eval i e ∷ k → (sp : Span) (f : Expr) → e ≡ tree.Unary sp unary.Old f → (y : Typing) →
      HasType (context_in s pure p.text) context.Old Plain (scope_of p.environment) f y → (o : Operand) × (slice_get p.olds i ≡ Some o) × (y.type ≡ Some o.type)

  -- after a condition
  chooses_fine : (t : Text) → t ≡ r.text → (depth : ℕ) (is : Instrs) (bs : Branches) (other : Instrs) (low high : Entities) (u : Operand) (p : Point) → BaseOf s r me p → p.text ≡ t →
      types_of p.values ≡ [] → Came low high u p → depth ≡ length low → Extends low high → InBody s pure r t (instructions high is) → InBody s pure r t (branches low bs) →
      InBody s pure r t (instructions low other) → InPure s pure r p.tasks (at t low []) → Fine (chooses depth u.value is bs other p)
  chooses_fine t in_own depth is bs other low high u p base text_is values came d x w v o k = by u.value refl
    where
      by : (y : Value) → u.value ≡ y → Fine (chooses depth y is bs other p)
      by (Boolean true) e = inl (record {
        text = t;
        names = high;
        types = [];
        text_is = text_is;
        names_are = came.held e;
        left = calm.body in_own w (calm.forget d x k);
        types_are = values;
      })
      by (Boolean false) e =
          let known = (forgotten s pure r me p base depth low d (came.denied (λ f. false_true (sym e ∙ f)))).known in
          other_fine s pure r me z t (inl in_own) low (subst (λ (ns : Entities). are_typed ns ≡ true) known (all_typed (take depth p.environment))) in_own depth bs other (forgets depth p)
          (record { text_is = text_is; names_are = known; types_are = values }) d v o k
        where
          false_true : Boolean false ≡ Boolean true → ⊥
          false_true i = cc
      by (Integer y) e = tt
      by Void e = tt
      by (Attached y) e = tt

  joins_fine : (t : Text) (op : BinaryOperator) (i : ℕ) (e : Expr) (a : EntityType) (w : Bool) (c : Context) (n m o : Entities) (vs : List EntityType) (u : Operand) (p : Point) → p.text ≡ t →
      types_of p.values ≡ vs → is_and_then op ≡ true → ((b : Bool) × (u.value ≡ Boolean b)) → Came n m u p → IsCalm s pure r t c Condition m e →
      HasType (context_in s pure t) c Condition m e (typing (Some a) w) → Gives (context_in s pure t) c m e o → Extends n m → InPure s pure r p.tasks (after t n o vs) →
      Fine (evals_right (decided_by op u.value) (is_short op) op i e u p)
  joins_fine t op i e a w c n m o vs u p text_is values joins (b, truth) came there d g x k =
      subst (λ (op' : BinaryOperator). Fine (evals_right (decided_by op' u.value) (is_short op') op' i e u p)) (sym (and_then_is op joins))
      (subst (λ v. Fine (evals_right (decided_by binary.AndThen v) true binary.AndThen i e u p)) (sym truth) (by b truth))
    where
      false_true : Boolean false ≡ Boolean true → ⊥
      false_true i = cc

      by : (b : Bool) → u.value ≡ Boolean b → Fine (evals_right (decided_by binary.AndThen (Boolean b)) true binary.AndThen i e u p)
      by true j = inl (record {
        text = t;
        names = m;
        types = vs;
        text_is = text_is;
        names_are = came.held j;
        left = calm.condition c there d g (calm.conclude_condition x k);
        types_are = values;
      })
      by false j = inr (
        refl,
        record {
          text = t;
          low = n;
          high = o;
          types = vs;
          value = operand (Boolean false) boolean;
          others = p.values;
          text_is = text_is;
          values_are = refl;
          came = record { held = λ f. absurd (false_true f); denied = λ f. came.denied (λ f. false_true (sym j ∙ f)) };
          left = k;
          types_are = values;
        },
      )

  concludes_condition : (t : Text) (n m o : Entities) (vs : List EntityType) (u : Operand) (p : Point) → p.text ≡ t → types_of p.values ≡ vs → Came m o u p → Extends n m →
      InPure s pure r p.tasks (after t n o vs) → Fine (concludes u.value p)
  concludes_condition t n m o vs u p text_is values came x k = by u.value refl
    where
      by : (y : Value) → u.value ≡ y → Fine (concludes y p)
      by (Boolean b) e = inr (
        refl,
        record {
          text = t;
          low = n;
          high = o;
          types = vs;
          value = operand (Boolean b) boolean;
          others = p.values;
          text_is = text_is;
          values_are = refl;
          came = record { held = λ f. came.held (e ∙ f); denied = λ f. extends_further n m (scope_of p.environment) x (came.denied (λ i. f (sym e ∙ i))) };
          left = k;
          types_are = values;
        },
      )
      by (Integer y) e = tt
      by Void e = tt
      by (Attached y) e = tt

  after_fine : (t : Text) (low high : Entities) (as' : List EntityType) (ts : List Task) (u : Operand) (us : List Operand) (p : Point) → BaseOf s r me p → p.text ≡ t →
      types_of us ≡ as' → Came low high u p → Truths ts (u ∷ us) → InPure s pure r ts (after t low high as') →
      Fine (step_at s me ts (record p { tasks = ts; values = u ∷ us }))
  after_fine t low high as' _ u us p base text_is values came truths (calm.right_condition {k} {o} {op} {i} {e} {a} {w} c joins there d g x f) =
      joins_fine t op i e a w c low high o as' u (record p { tasks = k; values = us }) text_is values joins (truths op i e k u us refl joins refl)
      (record { held = came.held; denied = came.denied }) there d g x f
  after_fine t low high as' _ u us p base text_is values came truths (calm.conclude_condition {k} {n} x f) =
      concludes_condition t n low high as' u (record p { tasks = k; values = us }) text_is values (record { held = came.held; denied = came.denied }) x f
  after_fine t low high _ _ u us p base text_is values came truths (calm.choose {k} {d} {is} {other} {bs} in_own e x w v o f) =
      chooses_fine t in_own d is bs other low high u (record p { tasks = k; values = us }) base text_is values
      (record { held = came.held; denied = came.denied }) e x w v o f

  -- the first type and the others
  first_is : (a u : EntityType) (as' us : List EntityType) → u ∷ us ≡ a ∷ as' → (u ≡ a) × (us ≡ as')
  first_is a u as' us e = (cc, cc)

  -- where nothing is to be decided by a condition
  at_fine : (t : Text) (own : (t ≡ r.text) ⊎ (t ≡ r.contract)) (n : Entities) (typed_n : are_typed n ≡ true) (as' : List EntityType) (ts : List Task) (vs : List Operand) (p : Point) →
      BaseOf s r me p → p.text ≡ t → scope_of p.environment ≡ n → types_of vs ≡ as' → Each (HasClass s) vs → Truths ts vs → Olds ts p → InPure s pure r ts (at t n as') →
      Fine (step_at s me ts (record p { tasks = ts; values = vs }))
  at_fine t own n typed_n _ _ vs p base text_is names_are types_are each truths olds calm.done = tt
  at_fine t own n typed_n _ _ vs p base text_is names_are types_are each truths olds (calm.in_text {k} {u} f) =
      inl (record { text = u; names = n; types = []; text_is = refl; names_are = names_are; left = f; types_are = types_are })
  at_fine t own n typed_n _ _ vs p base text_is names_are types_are each truths olds (calm.declare {k} {ls} there f) = inl (record {
    text = t;
    names = n ++ locals_known s t.formals ls;
    types = [];
    text_is = text_is;
    names_are = (locals_fit s me.handler p.text.formals ls p.environment p.olds (subst (λ (u : Text). are_declared s u.formals ls ≡ true) (sym text_is) there) base.names_fit base.olds_fit).known
        ∙ ap (λ (ns : Entities). ns ++ locals_known s p.text.formals ls) names_are ∙ ap (λ (u : Text). n ++ locals_known s u.formals ls) text_is;
    left = f;
    types_are = types_are;
  })
  at_fine t own n typed_n _ _ vs p base text_is names_are types_are each truths olds (calm.body {k} {is = no_instrs} in_own w f) =
      inl (record { text = t; names = n; types = []; text_is = text_is; names_are = names_are; left = f; types_are = types_are })
  at_fine t own n typed_n _ _ vs p base text_is names_are types_are each truths olds (calm.body {k} {is = instr_then i is} in_own w f) =
      begins_fine s pure r me z t own n typed_n in_own i (record p { tasks = Do is ∷ k; values = vs }) (record { text_is = text_is; names_are = names_are; types_are = types_are })
      (part_body s pure r me z t own n typed_n in_own w site.first_part) (calm.body in_own (part_body s pure r me z t own n typed_n in_own w site.others_part) f)
  at_fine t own n typed_n _ _ vs p base text_is names_are types_are each truths olds (calm.forget {k} {n = low} {d} e x f) = inl (record {
    text = t;
    names = low;
    types = [];
    text_is = text_is;
    names_are = (forgotten s pure r me p base d low e (subst (Extends low) (sym names_are) x)).known;
    left = f;
    types_are = types_are;
  })
  at_fine t own n typed_n as' _ vs p base text_is names_are types_are each truths olds (calm.eval {k} {i} {e} {a} {b} c q j w d f) =
      eval_fine s pure r me z t own n typed_n c i q e (typing (Some a) b) a as' (record p { tasks = k; values = vs }) (record { text_is = text_is; names_are = names_are; types_are = types_are })
      (λ g. no (sym j ∙ g)) w
      (λ sp g is y h. olds i e k refl sp g is y (subst (λ (u : Text). HasType (context_in s pure u) context.Old Plain (scope_of p.environment) g y) (sym text_is)
      (subst (λ (ns : Entities). HasType (context_in s pure t) context.Old Plain ns g y) (sym names_are) h))) d refl f
  at_fine t own n typed_n as' _ vs p base text_is names_are types_are each truths olds (calm.condition {k} {m} {i} {e} {a} {b} c w d g f) =
      condition_fine s pure r me z t own n typed_n c i e (typing (Some a) b) a m as' (record p { tasks = k; values = vs }) (record { text_is = text_is; names_are = names_are; types_are = types_are })
      w d refl g f
      (λ sp g is y h. olds i e k refl sp g is y (subst (λ (u : Text). HasType (context_in s pure u) context.Old Plain (scope_of p.environment) g y) (sym text_is)
      (subst (λ (ns : Entities). HasType (context_in s pure t) context.Old Plain ns g y) (sym names_are) h)))
  at_fine t own n typed_n _ _ [] p base text_is names_are types_are each truths olds (calm.apply_unary e f) = cc
  at_fine t own n typed_n _ _ (u ∷ vs) p base text_is names_are types_are each truths olds (calm.apply_unary {k} {vs = as'} {op} {a} {b} e f) =
      unary_fine s pure r me z t own n typed_n as' b (record p { tasks = k; values = vs })
      (record { text_is = text_is; names_are = names_are; types_are = (first_is a u.type as' (types_of vs) types_are).1 }) f op a u.value e
  at_fine t own n typed_n _ _ [] p base text_is names_are types_are each truths olds (calm.eval_right c q j w d e f) = cc
  at_fine t own n typed_n _ _ (l ∷ vs) p base text_is names_are types_are each truths olds (calm.eval_right {k} {vs = as'} {op} {i} {e} {a} {b} {u} {w} c q j there d ty f) =
      right_fine s pure r me z t own n typed_n op i e l as' a b u w c q (record p { tasks = k; values = vs })
      (record { text_is = text_is; names_are = names_are; types_are = (first_is a l.type as' (types_of vs) types_are).1 }) (first_is a l.type as' (types_of vs) types_are).0 j there d ty f
  at_fine t own n typed_n _ _ [] p base text_is names_are types_are each truths olds (calm.apply_binary e f) = cc
  at_fine t own n typed_n _ _ (v ∷ []) p base text_is names_are types_are each truths olds (calm.apply_binary e f) = cc
  at_fine t own n typed_n _ _ (v ∷ l ∷ vs) p base text_is names_are types_are each truths olds (calm.apply_binary {k} {vs = as'} {op} {a} {b} {u} e f) =
      binary_fine s pure r me z t own n typed_n as' u (record p { tasks = k; values = vs })
      (record { text_is = text_is; names_are = names_are; types_are = (first_is a l.type as' (types_of vs) (first_is b v.type (a ∷ as') (l.type ∷ types_of vs) types_are).1).1 }) f op a b e
      l.value v.value
  at_fine t own n typed_n _ _ [] p base text_is names_are types_are each truths olds (calm.conclude f) = cc
  at_fine t own n typed_n _ _ (u ∷ vs) p base text_is names_are types_are each truths olds (calm.conclude {k} {vs = as'} {a} f) =
      concludes_fine s pure r me z t own n typed_n as' boolean (record p { tasks = k; values = vs })
      (record { text_is = text_is; names_are = names_are; types_are = (first_is a u.type as' (types_of vs) types_are).1 }) f refl u.value
  at_fine t own n typed_n _ _ [] p base text_is names_are types_are each truths olds (calm.bind e f) = cc
  at_fine t own n typed_n _ _ (u ∷ vs) p base text_is names_are types_are each truths olds (calm.bind {k} {vs = as'} {d} {x} {a} {b} e f) =
      binds_fine s pure r me z t own n typed_n d x u a b as' (record p { tasks = k; values = vs })
      (record { text_is = text_is; names_are = names_are; types_are = (first_is a u.type as' (types_of vs) types_are).1 }) (first_is a u.type as' (types_of vs) types_are).0 e f
  at_fine t own n typed_n _ _ vs p base text_is names_are types_are each truths olds (calm.call_unqualified {k} {us} ts {x = y} {i} {f} {a} there is gives as_many so d) =
      by (pops (HasClass s) ts us vs (types_are ∙ so) each)
    where
      by : Pops (HasClass s) ts us vs → Fine (calls_unqualified s me y (popped i [] vs) (record p { tasks = k; values = vs }))
      by g =
          subst (λ o. Fine (calls_unqualified s me y o (record p { tasks = k; values = vs })))
          (sym (ap (λ j. popped j [] vs) as_many ∙ g.popped_is []))
          (own_fine s pure r me z t own n typed_n y us f a (g.actuals ++ []) (record p { tasks = k; values = g.below }) (record { text_is = text_is; names_are = names_are; types_are = g.below_are }) there is gives d)
  at_fine t own n typed_n _ _ vs p base text_is names_are types_are each truths olds (calm.call_qualified {k} {us} ts a {x = y} {i} {f} {b = c} there is gives near as_many so d) =
      by (pops (HasClass s) ts (a ∷ us) vs (types_are ∙ so) each)
    where
      of_below : (acs below : List Operand) → popped i [] vs ≡ Some (acs, below) → types_of below ≡ a ∷ us → Each (HasClass s) below →
          Fine (calls_qualified s me y (popped i [] vs) (record p { tasks = k; values = vs }))
      of_below acs [] e ba fits = cc
      of_below acs (v ∷ rest) e ba fits =
          subst (λ o. Fine (calls_qualified s me y o (record p { tasks = k; values = vs }))) (sym e)
          (target_fine s pure r me z t own n typed_n y us f a c acs (record p { tasks = k; values = rest })
          (record { text_is = text_is; names_are = names_are; types_are = (first_is a v.type us (types_of rest) ba).1 }) there is gives near d v
          (first_is a v.type us (types_of rest) ba).0 fits.0)

      by : Pops (HasClass s) ts (a ∷ us) vs → Fine (calls_qualified s me y (popped i [] vs) (record p { tasks = k; values = vs }))
      by g = of_below g.actuals g.below
          (ap (λ j. popped j [] vs) as_many ∙ g.popped_is [] ∙ ap (λ (acs : List Operand). Some (acs, g.below)) (append-nil g.actuals)) g.below_are g.each
  at_fine t own n typed_n _ _ [] p base text_is names_are types_are each truths olds (calm.assign f) = cc
  at_fine t own n typed_n _ _ (u ∷ vs) p base text_is names_are types_are each truths olds (calm.assign {k} {a} {v = x} f) =
      assigns_fine s pure r me z t own n typed_n x (assigned_at s x p) u.value (record p { tasks = k; values = vs })
      (record { text_is = text_is; names_are = names_are; types_are = (first_is a u.type [] (types_of vs) types_are).1 }) f
  at_fine t own n typed_n _ _ vs p base text_is names_are types_are each truths olds (calm.repeat {k} {q} {initial} {e} {is} in_own w f) =
      repeat_fine s pure r me z t own n typed_n in_own q initial e is (record p { tasks = k; values = vs }) (record { text_is = text_is; names_are = names_are; types_are = types_are }) w f
  at_fine t own n typed_n _ _ [] p base text_is names_are types_are each truths olds (calm.end_loop in_own w f) = cc
  at_fine t own n typed_n _ _ (u ∷ vs) p base text_is names_are types_are each truths olds (calm.end_loop {k} {q} {initial} {e} {is} {a} in_own w f) =
      end_fine s pure r me z t own n typed_n in_own q initial e is u.value (record p { tasks = k; values = vs })
      (record { text_is = text_is; names_are = names_are; types_are = (first_is a u.type [] (types_of vs) types_are).1 }) w f
  at_fine t own n typed_n _ _ [] p base text_is names_are types_are each truths olds (calm.checked f) = cc
  at_fine t own n typed_n _ _ (u ∷ vs) p base text_is names_are types_are each truths olds (calm.checked {k} {a} f) =
      tests_fine s pure r me z t own n typed_n cause.Check u.value (record p { tasks = k; values = vs })
      (record { text_is = text_is; names_are = names_are; types_are = (first_is a u.type [] (types_of vs) types_are).1 }) f
  at_fine t own n typed_n _ _ [] p base text_is names_are types_are each truths olds (calm.require {k} {ks} all f) =
      require_fine s pure r me z t own n typed_n ks (record p { tasks = k; values = [] }) (record { text_is = text_is; names_are = names_are; types_are = types_are }) all f
  at_fine t own n typed_n _ _ (u ∷ vs) p base text_is names_are types_are each truths olds (calm.require all f) = cc
  at_fine t own n typed_n _ _ [] p base text_is names_are types_are each truths olds (calm.required f) = cc
  at_fine t own n typed_n _ _ (u ∷ vs) p base text_is names_are types_are each truths olds (calm.required {k} {q} {a} f) =
      required_fine s pure r me z t own n typed_n q u.value (record p { tasks = k; values = vs })
      (record { text_is = text_is; names_are = names_are; types_are = (first_is a u.type [] (types_of vs) types_are).1 }) f
  at_fine t own n typed_n _ _ [] p base text_is names_are types_are each truths olds (calm.keep_old f) = cc
  at_fine t own n typed_n _ _ (u ∷ vs) p base text_is names_are types_are each truths olds (calm.keep_old {k} {a} f) =
      inl (record { text = t; names = n; types = []; text_is = text_is; names_are = names_are; left = f; types_are = (first_is a u.type [] (types_of vs) types_are).1 })
  at_fine t own n typed_n _ _ [] p base text_is names_are types_are each truths olds (calm.ensured f) = cc
  at_fine t own n typed_n _ _ (u ∷ vs) p base text_is names_are types_are each truths olds (calm.ensured {k} {a} f) =
      tests_fine s pure r me z t own n typed_n cause.Postcondition u.value (record p { tasks = k; values = vs })
      (record { text_is = text_is; names_are = names_are; types_are = (first_is a u.type [] (types_of vs) types_are).1 }) f
  at_fine t own n typed_n _ ts [] p base text_is names_are types_are each truths olds (calm.settled x f) = cc
  at_fine t own n typed_n _ ts (u ∷ vs) p base text_is names_are types_are each truths olds (calm.settled {n = low} {vs = as'} {a} x f) =
      after_fine t low n as' ts u vs p base text_is (first_is a u.type as' (types_of vs) types_are).1
      (record { held = λ e. names_are; denied = λ g. subst (Extends low) (sym names_are) x }) truths f

  -- ---- what else is known at a point

  base_of : (p : Point) → StandsSo s pure r me [] p → BaseOf s r me p
  base_of p f = record {
    text_is = f.0.text_is;
    scope_stands = f.0.scope_stands;
    names_fit = f.0.names_fit;
    result_fits = f.0.result_fits;
    olds_fit = f.0.olds_fit;
    store = f.1;
  }

  -- The next step.
  pub pure_step : (p : Point) → StandsSo s pure r me [] p → Each (HasClass s) p.values → Truths p.tasks p.values → Olds p.tasks p → StandsPure s pure r [] p → Fine (step s me p)
  pure_step p f each truths olds (inl g) =
      at_fine g.text (subst (λ (t : Text). (t ≡ r.text) ⊎ (t ≡ r.contract)) g.text_is f.0.text_is) g.names (subst (λ (ns : Entities). are_typed ns ≡ true) g.names_are (all_typed p.environment))
      g.types p.tasks p.values p (base_of p f) g.text_is g.names_are g.types_are each truths olds g.left
  pure_step p f each truths olds (inr (none, g)) =
      subst (λ (vs : List Operand). Fine (step_at s me p.tasks (record p { values = vs }))) (sym g.values_are)
      (after_fine g.text g.low g.high g.types p.tasks g.value g.others p (base_of p f) g.text_is g.types_are g.came
      (subst (λ (vs : List Operand). Truths p.tasks vs) g.values_are truths) g.left)
