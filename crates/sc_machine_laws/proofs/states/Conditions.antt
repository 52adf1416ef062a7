-- Conditions: the names of object tests are known where the condition holds, and forgotten where it doesn't.
use Rattle.std.specs.Prelude.{length, take}
use Rattle.std.proofs.Common.{Bool, List, [], ap, false, refl, subst, sym, true, ℕ, ◌∙◌, ◌∷◌, ◌≡◌}
use Rattle.sc_tree.specs.Plain.{Expr, System}
use Rattle.sc_tree.specs.declared.expression.BinaryOperator.{BinaryOperator}
use Rattle.sc_tree.specs.declared.expression.BinaryOperator.TheVariants as binary
use Rattle.sc_rules.specs.entity_types.Conformance.{boolean}
use Rattle.sc_rules.specs.declared.entity_types.entity_type.EntityType.{EntityType}
use Rattle.sc_rules.specs.Names.{Entities, RoutineName}
use Rattle.sc_rules.specs.Positions.{is_and_then, is_ensure}
use Rattle.sc_rules.specs.Types.{is_boolean}
use Rattle.sc_rules.specs.Typing.{Gives}
use Rattle.sc_rules.specs.declared.position.Context.{Context}
use Rattle.sc_rules.specs.declared.position.Position.TheVariants.{Condition}
use Rattle.sc_model.specs.Environments.{Binding, handler_named, scope_of}
use Rattle.sc_model.specs.Expressions.{concludes, decided_by, evals_right}
use Rattle.sc_model.specs.Fits.{OperandFits}
use Rattle.sc_model.specs.Moves.{performs_on}
use Rattle.sc_model.specs.Routines.{Routine, place_in}
use Rattle.sc_model.specs.Steps.{Point}
use Rattle.sc_model.specs.Tasks.{Conclude, Eval, EvalRight, Task}
use Rattle.sc_model.specs.Values.{Boolean, Operand, Reference, Value}
use Rattle.sc_machine_laws.specs.states.Points.{EnvironmentFits, OldsFit, types_of}
use Rattle.sc_machine_laws.specs.states.ValueSteps.{StandsSo, StepFits}
use Rattle.sc_machine_laws.specs.states.Typed as typed
use Rattle.sc_machine_laws.specs.states.Typed.{Extends, IsOf, IsTyped, ScopeStands, at}
use Rattle.sc_machine_laws.proofs.states.Environments.{Split, environment_before, extends_further, olds_before, parted_at}
use Rattle.sc_machine_laws.proofs.states.Operators.{IsTruth, boolean_value}
use Rattle.sc_machine_laws.proofs.states.Scopes.{scope_before}
use Rattle.sc_machine_laws.proofs.states.RoutinePoints.{AllFit, Base, BaseOf, TasksAfter, goes, goes_denied, goes_held}

-- The value tells which names are known: where it is true the second, and else at least the first.
pub data Tells (bs : List Binding) (low high : Entities) (v : Value) : Type 0 where
  says_true : v ≡ Boolean true → scope_of bs ≡ high → Tells bs low high v
  says_false : v ≡ Boolean false → Extends low (scope_of bs) → Tells bs low high v

pub and_then_is : (op : BinaryOperator) → is_and_then op ≡ true → op ≡ binary.AndThen
and_then_is binary.AndThen e = refl
and_then_is binary.Equal e = cc
and_then_is binary.NotEqual e = cc
and_then_is binary.Times e = cc
and_then_is binary.Quotient e = cc
and_then_is binary.Remainder e = cc
and_then_is binary.Plus e = cc
and_then_is binary.Minus e = cc
and_then_is binary.Less e = cc
and_then_is binary.Greater e = cc
and_then_is binary.LessEqual e = cc
and_then_is binary.GreaterEqual e = cc
and_then_is binary.And e = cc
and_then_is binary.Or e = cc
and_then_is binary.OrElse e = cc
and_then_is binary.Xor e = cc
and_then_is binary.Implies e = cc

module _ (s : System) (pure : RoutineName → Bool) (r : Routine) (me : Reference) (p : Point) (b : BaseOf s r me p) where
  -- a value of a settled condition
  pub settled_so : (low : Entities) (u : Operand) → is_boolean u.type.class ≡ true → Extends low (scope_of p.environment) → OperandFits s me.handler p.environment u →
      Tells p.environment low (scope_of p.environment) u.value
  settled_so low u c x f = by (boolean_value s me.handler (handler_named p.environment) u.value u.type c f)
    where
      of_truth : (d : Bool) → u.value ≡ Boolean d → Tells p.environment low (scope_of p.environment) u.value
      of_truth true e = says_true e refl
      of_truth false e = says_false e x

      by : IsTruth u.value → Tells p.environment low (scope_of p.environment) u.value
      by v = of_truth v.truth v.is

  -- The left operand of an `and then` is there: where it holds, the right one is evaluated where its names are known.
  pub join_step : (op : BinaryOperator) (i : ℕ) (right : Expr) (u : Operand) (low high last : Entities) (a : EntityType) (c : Context) → is_and_then op ≡ true → is_ensure c ≡ false →
      IsOf s p.text c Condition high right a → is_boolean a.class ≡ true → Gives (place_in s p.text) c high right last → Extends low high →
      TasksAfter s pure r p p.tasks low last (types_of p.values) → Tells p.environment low high u.value → AllFit s me p p.values → StepFits s pure r me (performs_on s me (EvalRight op i right) u p)
  join_step op i right u low high last a c j w d y g x k tells fs =
      subst (λ op. StepFits s pure r me (performs_on s me (EvalRight op i right) u p)) (sym (and_then_is op j)) (by tells)
    where
      by : Tells p.environment low high u.value → StepFits s pure r me (performs_on s me (EvalRight binary.AndThen i right) u p)
      by (says_true e q) =
          subst (λ v. StepFits s pure r me (evals_right (decided_by binary.AndThen v) true binary.AndThen i right u p)) (sym e)
          (goes s pure r me p b [] (Eval i right ∷ Conclude ∷ p.tasks) p.values
          (subst (λ n. IsTyped s pure r (Eval i right ∷ Conclude ∷ p.tasks) (at p.text n (types_of p.olds) (types_of p.values))) (sym q) (typed.condition c w d y g (typed.conclude_condition x k))) fs)
      by (says_false e z) =
          subst (λ v. StepFits s pure r me (evals_right (decided_by binary.AndThen v) true binary.AndThen i right u p)) (sym e)
          (goes_denied s pure r me p b p.tasks boolean p.values low last k z refl fs)

  -- The right operand is there: it is the result.
  pub conclude_condition_step : (u : Operand) (first low high : Entities) → Extends first low → TasksAfter s pure r p p.tasks first high (types_of p.values) → Tells p.environment low high u.value →
      AllFit s me p p.values → StepFits s pure r me (performs_on s me Conclude u p)
  conclude_condition_step u first low high x k (says_true e q) fs =
      subst (λ v. StepFits s pure r me (concludes v p)) (sym e) (goes_held s pure r me p b p.tasks boolean p.values first high k q refl fs)
  conclude_condition_step u first low high x k (says_false e z) fs =
      subst (λ v. StepFits s pure r me (concludes v p)) (sym e) (goes_denied s pure r me p b p.tasks boolean p.values first high k (extends_further first low (scope_of p.environment) x z) refl fs)

  -- what lies after these names is forgotten
  pub record Forgotten (depth : ℕ) (low : Entities) : Type 0 where
    pub known : scope_of (take depth p.environment) ≡ low
    pub base : Base s r me p.text (take depth p.environment) p.result p.olds p.objects

  pub forgotten : (depth : ℕ) (low : Entities) → depth ≡ length low → Extends low (scope_of p.environment) → Forgotten depth low
  forgotten depth low d x = of_split (parted_at low p.environment x)
    where
      of_split : Split low p.environment → Forgotten depth low
      of_split z =
          let front : take depth p.environment ≡ z.front = ap (λ d. take d p.environment) d ∙ z.taken in
          record {
            known = ap scope_of front ∙ z.known;
            base = record {
              text_is = b.text_is;
              scope_stands = subst (ScopeStands r.text.formals) (sym (ap scope_of front ∙ z.known)) (scope_before r.text.formals low (scope_of p.environment) x b.scope_stands);
              names_fit = subst (EnvironmentFits s me.handler) (sym front) (environment_before s me.handler z.front z.back z.behind (subst (EnvironmentFits s me.handler) z.are b.names_fit));
              result_fits = b.result_fits;
              olds_fit = subst (λ bs. OldsFit s me.handler bs p.olds) (sym front) (olds_before s me.handler z.front z.back p.olds z.behind (subst (λ bs. OldsFit s me.handler bs p.olds) z.are b.olds_fit));
              store = b.store;
            };
          }

  -- these tasks are next, where no more than these names are known
  pub goes_forgotten : (depth : ℕ) (low : Entities) (k : List Task) → depth ≡ length low → Extends low (scope_of p.environment) → IsTyped s pure r k (at p.text low (types_of p.olds) []) →
      StandsSo s pure r me [] (record p { environment = take depth p.environment; tasks = k; values = [] })
  goes_forgotten depth low k d x t = of_base (forgotten depth low d x)
    where
      of_base : Forgotten depth low → StandsSo s pure r me [] (record p { environment = take depth p.environment; tasks = k; values = [] })
      of_base f = goes s pure r me (record p { environment = take depth p.environment }) f.base [] k []
          (subst (λ n. IsTyped s pure r k (at p.text n (types_of p.olds) [])) (sym f.known) t) tt
