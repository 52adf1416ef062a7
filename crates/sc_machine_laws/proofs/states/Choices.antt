-- Choices, loops, checks and preconditions.
use Rattle.std.specs.Prelude.{Contains, length, take}
use Rattle.std.proofs.Common.{Bool, List, Some, [], ap, arith, false, refl, subst, suc, sym, true, zero, ℕ, ◌∙◌, ◌∷◌, ◌≡◌}
use Rattle.sc_tree.specs.Plain.{Branches, Clause, Expr, Instrs, System, branch_then, no_branches}
use Rattle.sc_class.specs.Tables.Conformance.{is_expanded}
use Rattle.sc_rules.specs.declared.entity_types.entity_type.EntityType.{EntityType}
use Rattle.sc_rules.specs.InstructionLaws.{IsCondition, of_branch}
use Rattle.sc_rules.specs.Names.{Entities, RoutineContext, RoutineName}
use Rattle.sc_rules.specs.Sites as site
use Rattle.sc_rules.specs.Sites.{Part, Site, branches, expression, instructions}
use Rattle.sc_rules.specs.SystemLaws.{Stands, stands_in}
use Rattle.sc_rules.specs.Types.{is_boolean}
use Rattle.sc_rules.specs.Typing.{Gives, HasType, typing}
use Rattle.sc_rules.specs.declared.position.Context.{Context}
use Rattle.sc_rules.specs.declared.position.Context.TheVariants as context
use Rattle.sc_rules.specs.declared.position.Position.{Position}
use Rattle.sc_rules.specs.declared.position.Position.TheVariants.{Condition, Plain}
use Rattle.sc_rules.proofs.EachTyped.{each_is_typed_lem}
use Rattle.sc_rules.proofs.InstructionLaws.{conditions_are_boolean_lem}
use Rattle.sc_rules.proofs.TextLaws.{conditions_give}
use Rattle.sc_rules.proofs.WellFormed.{further}
use Rattle.sc_model.specs.Environments.{handler_named, scope_of}
use Rattle.sc_model.specs.Fits.{Fits, OperandFits}
use Rattle.sc_model.specs.Instructions.{chooses, chooses_other, ends_loop, prints, required, tests}
use Rattle.sc_model.specs.Moves.{performs, performs_on}
use Rattle.sc_model.specs.Routines.{Routine, Text}
use Rattle.sc_model.specs.Steps.{Point}
use Rattle.sc_model.specs.Tasks.{Choose, Do, EndLoop, Eval, Forget, Print, Repeat, Require, Required, Task}
use Rattle.sc_model.specs.Values.{Attached, Boolean, Integer, Operand, Reference, Value, Void}
use Rattle.sc_model.specs.declared.cause.Cause.{Cause}
use Rattle.sc_machine_laws.specs.states.Points.{types_of}
use Rattle.sc_machine_laws.specs.states.ValueSteps.{StandsSo, StepFits, is_excluded}
use Rattle.sc_machine_laws.specs.states.Typed as typed
use Rattle.sc_machine_laws.specs.states.Typed.{Extends, IsAtEntry, IsOf, IsTyped, at, context_in}
use Rattle.sc_machine_laws.proofs.states.Conditions.{Forgotten, Tells, forgotten, says_false, says_true}
use Rattle.sc_machine_laws.proofs.states.Free.{freely, freely_given, gives_extend}
use Rattle.sc_machine_laws.proofs.states.Lists.{no_both}
use Rattle.sc_machine_laws.proofs.states.Olds.{kept_outside}
use Rattle.sc_machine_laws.proofs.states.Operators.{boolean_value}
use Rattle.sc_machine_laws.proofs.states.PassedValues.{object_class}
use Rattle.sc_machine_laws.proofs.states.RoutinePoints.{BaseOf, IsRun, TasksTyped, goes}

-- what is a part of what stands there stands there
pub part_stands : {s : System} {pure : RoutineName → Bool} {h : RoutineContext} {a b : Site} → Stands s pure h a → Part h a b → Stands s pure h b
part_stands (stands_in t w) p = stands_in t (further w (site.inside p site.itself))

-- the expression is a truth value
pub record IsTruthful (s : System) (t : Text) (c : Context) (q : Position) (n : Entities) (e : Expr) : Type 0 where
  pub type : EntityType
  pub typed : IsOf s t c q n e type
  pub is_boolean : is_boolean type.class ≡ true

module _ (s : System) (pure : RoutineName → Bool) (r : Routine) (me : Reference) (run : IsRun s pure r me) where
  -- each expression that stands in a text has a type
  pub typed_there : (t : Text) {a : Site} (c : Context) (q : Position) (n : Entities) (e : Expr) → Stands s pure (context_in s pure t) a → Part (context_in s pure t) a (expression c q n e) →
      (u : EntityType) × IsOf s t c q n e u
  typed_there t c q n e d p = of_type (each_is_typed_lem s pure run.well_formed run.purity (context_in s pure t) c q n e (part_stands d p))
    where
      of_type : (u : EntityType) × (b : Bool) × HasType (context_in s pure t) c q n e (typing (Some u) b) → (u : EntityType) × IsOf s t c q n e u
      of_type (u, b, f) = (u, (b, freely f))

  -- a condition has a type, which is BOOLEAN
  pub truthful : (t : Text) {a : Site} (c : Context) (q : Position) (n : Entities) (e : Expr) → Stands s pure (context_in s pure t) a → Part (context_in s pure t) a (expression c q n e) →
      IsCondition a c q n e → IsTruthful s t c q n e
  truthful t {a} c q n e d p i = of_type (each_is_typed_lem s pure run.well_formed run.purity (context_in s pure t) c q n e (part_stands d p))
    where
      of_type : (u : EntityType) × (b : Bool) × HasType (context_in s pure t) c q n e (typing (Some u) b) → IsTruthful s t c q n e
      of_type (u, b, f) = record {
        type = u;
        typed = (b, freely f);
        is_boolean = conditions_are_boolean_lem s pure run.well_formed run.purity (context_in s pure t) a c q n e d i u b f;
      }

  -- it gives names
  pub given_there : (t : Text) {a : Site} (c : Context) (n : Entities) (e : Expr) → Stands s pure (context_in s pure t) a → Part (context_in s pure t) a (expression c Condition n e) →
      (m : Entities) × Gives (context_in s pure t) c n e m
  given_there t c n e d p = conditions_give s pure run.well_formed run.purity (context_in s pure t) c n e (part_stands d p)

  module _ (p : Point) (b : BaseOf s r me p) where
    no_values_goes : (k : List Task) → IsTyped s pure r k (at p.text (scope_of p.environment) (types_of p.olds) []) → StandsSo s pure r me [] (record p { tasks = k; values = [] })
    no_values_goes k d = goes s pure r me p b [] k [] d tt

    -- The test of a loop comes.
    pub repeat_step : (e : Expr) (is : Instrs) (a : EntityType) → p.text ≡ r.text → IsOf s p.text context.Body Plain (scope_of p.environment) e a → is_boolean a.class ≡ true →
        Stands s pure (context_in s pure p.text) (instructions (scope_of p.environment) is) → TasksTyped s pure r p p.tasks [] →
        StepFits s pure r me (performs s me (Repeat e is) [] (record p { values = [] }))
    repeat_step e is a own d y st k =
        no_values_goes (Eval 0 e ∷ EndLoop e is ∷ p.tasks)
        (typed.eval context.Body Plain refl d (kept_outside s p.text (scope_of p.environment) (types_of p.olds) 0 refl d.1) (typed.end_loop own y d y st k))

    -- It ends, or its body comes again.
    pub end_loop_step : (e : Expr) (is : Instrs) (u : Operand) (a : EntityType) → p.text ≡ r.text → is_boolean u.type.class ≡ true →
        IsOf s p.text context.Body Plain (scope_of p.environment) e a → is_boolean a.class ≡ true →
        Stands s pure (context_in s pure p.text) (instructions (scope_of p.environment) is) → TasksTyped s pure r p p.tasks [] → OperandFits s me.handler p.environment u →
        StepFits s pure r me (performs_on s me (EndLoop e is) u (record p { values = [] }))
    end_loop_step e is u a own c d y st k f =
        let v = boolean_value s me.handler (handler_named p.environment) u.value u.type c f in
        subst (λ v. StepFits s pure r me (ends_loop v e is (record p { values = [] }))) (sym v.is) (by v.truth)
      where
        by : (c : Bool) → StepFits s pure r me (ends_loop (Boolean c) e is (record p { values = [] }))
        by true = no_values_goes p.tasks k
        by false = no_values_goes (Do is ∷ Repeat e is ∷ p.tasks) (typed.body own st (typed.repeat own d y st k))

    -- a clause is tested
    pub tests_step : (why : Cause) (u : Operand) → is_excluded why ≡ false → is_boolean u.type.class ≡ true → OperandFits s me.handler p.environment u → TasksTyped s pure r p p.tasks [] →
        StepFits s pure r me (tests why u.value (record p { values = [] }))
    tests_step why u w c f k =
        let v = boolean_value s me.handler (handler_named p.environment) u.value u.type c f in
        subst (λ v. StepFits s pure r me (tests why v (record p { values = [] }))) (sym v.is) (by v.truth)
      where
        by : (c : Bool) → StepFits s pure r me (tests why (Boolean c) (record p { values = [] }))
        by true = no_values_goes p.tasks k
        by false = (w, b.store)

    -- The next clause of a precondition comes, or the routine starts.
    pub require_step : (ks : List Clause) → IsAtEntry s r p.text (scope_of p.environment) (types_of p.olds) →
        ((q : Clause) → Contains ks q → (a : EntityType) × IsOf s p.text context.Require Plain (scope_of p.environment) q.condition a × (is_boolean a.class ≡ true)) →
        TasksTyped s pure r p p.tasks [] → StepFits s pure r me (performs s me (Require ks) [] (record p { values = [] }))
    require_step [] z c k = no_values_goes p.tasks k
    require_step (q ∷ ks) z c k = of_clause (c q (zero, omega arith, refl))
      where
        of_clause : (a : EntityType) × IsOf s p.text context.Require Plain (scope_of p.environment) q.condition a × (is_boolean a.class ≡ true) →
            StandsSo s pure r me [] (record p { tasks = Eval 0 q.condition ∷ Required q ∷ Require ks ∷ p.tasks; values = [] })
        of_clause (a, d, y) = no_values_goes (Eval 0 q.condition ∷ Required q ∷ Require ks ∷ p.tasks)
            (typed.eval context.Require Plain refl d (kept_outside s p.text (scope_of p.environment) (types_of p.olds) 0 refl d.1)
            (typed.required z y (typed.require z (λ q i. c q (suc i.0, omega (arith, i.1), i.2)) k)))

    -- It holds, or is the first that doesn't.
    pub required_step : (q : Clause) (u : Operand) → IsAtEntry s r p.text (scope_of p.environment) (types_of p.olds) → is_boolean u.type.class ≡ true → OperandFits s me.handler p.environment u → TasksTyped s pure r p p.tasks [] →
        StepFits s pure r me (performs_on s me (Required q) u (record p { values = [] }))
    required_step q u z c f k =
        let v = boolean_value s me.handler (handler_named p.environment) u.value u.type c f in
        subst (λ v. StepFits s pure r me (required q v (record p { values = [] }))) (sym v.is) (by v.truth)
      where
        by : (c : Bool) → StepFits s pure r me (required q (Boolean c) (record p { values = [] }))
        by true = no_values_goes p.tasks k
        by false = (z, no_values_goes p.tasks k)

    -- A value that is no reference is printed.
    pub print_step : (u : Operand) → is_expanded u.type.class ≡ true → OperandFits s me.handler p.environment u → TasksTyped s pure r p p.tasks [] →
        StepFits s pure r me (performs_on s me Print u (record p { values = [] }))
    print_step u x f k = by u.value f
      where
        by : (v : Value) → Fits s me.handler (handler_named p.environment) v u.type → StepFits s pure r me (prints v (record p { values = [] }))
        by (Integer z) f = no_values_goes p.tasks k
        by (Boolean c) f = no_values_goes p.tasks k
        by Void f = absurd (no_both (is_expanded u.type.class) x f.1)
        by (Attached o) f = absurd (no_both (is_expanded u.type.class) x (object_class s o.class u.type.class f.0))

    -- what stands under `elseif` or `else`
    pub other_step : (depth : ℕ) (bs : Branches) (other : Instrs) → p.text ≡ r.text → depth ≡ length (scope_of p.environment) →
        Stands s pure (context_in s pure p.text) (branches (scope_of p.environment) bs) → Stands s pure (context_in s pure p.text) (instructions (scope_of p.environment) other) →
        TasksTyped s pure r p p.tasks [] → StepFits s pure r me (chooses_other depth bs other (record p { values = [] }))
    other_step depth no_branches other own d st o k = no_values_goes (Do other ∷ p.tasks) (typed.body own o k)
    other_step depth (branch_then e body bs) other own d st o k = of_names (given_there p.text context.Body (scope_of p.environment) e st site.branch_condition_part)
      where
        c : IsTruthful s p.text context.Body Condition (scope_of p.environment) e
        c = truthful p.text context.Body Condition (scope_of p.environment) e st site.branch_condition_part of_branch

        of_names : (m : Entities) × Gives (context_in s pure p.text) context.Body (scope_of p.environment) e m →
            StandsSo s pure r me [] (record p { tasks = Eval 0 e ∷ Choose depth body bs other ∷ p.tasks; values = [] })
        of_names (m, g) = no_values_goes (Eval 0 e ∷ Choose depth body bs other ∷ p.tasks)
            (typed.condition context.Body refl c.typed c.is_boolean (freely_given g)
            (typed.choose own d (gives_extend g) (part_stands st (site.branch_part g)) (part_stands st site.later_branches_part) o k))

  -- By a condition's value: the body, where the tests' names are known, or the next condition or what stands under `else`, where they aren't.
  pub choice_step : (p : Point) (b : BaseOf s r me p) (depth : ℕ) (is : Instrs) (bs : Branches) (other : Instrs) (u : Operand) (low high : Entities) → p.text ≡ r.text → depth ≡ length low →
      Extends low high → Stands s pure (context_in s pure p.text) (instructions high is) → Stands s pure (context_in s pure p.text) (branches low bs) →
      Stands s pure (context_in s pure p.text) (instructions low other) → IsTyped s pure r p.tasks (at p.text low (types_of p.olds) []) → Tells p.environment low high u.value →
      StepFits s pure r me (performs_on s me (Choose depth is bs other) u (record p { values = [] }))
  choice_step p b depth is bs other u low high own d x st l o k (says_true e q) =
      subst (λ v. StepFits s pure r me (chooses depth v is bs other (record p { values = [] }))) (sym e)
      (goes s pure r me p b [] (Do is ∷ Forget depth ∷ p.tasks) []
      (subst (λ n. IsTyped s pure r (Do is ∷ Forget depth ∷ p.tasks) (at p.text n (types_of p.olds) [])) (sym q) (typed.body own st (typed.forget d x k))) tt)
  choice_step p b depth is bs other u low high own d x st l o k (says_false e z) =
      subst (λ v. StepFits s pure r me (chooses depth v is bs other (record p { values = [] }))) (sym e) (of_base (forgotten s pure r me p b depth low d z))
    where
      of_base : Forgotten s pure r me p b depth low → StepFits s pure r me (chooses_other depth bs other (record p { environment = take depth p.environment; values = [] }))
      of_base f = other_step (record p { environment = take depth p.environment }) f.base depth bs other own (d ∙ ap length (sym f.known))
          (subst (λ n. Stands s pure (context_in s pure p.text) (branches n bs)) (sym f.known) l)
          (subst (λ n. Stands s pure (context_in s pure p.text) (instructions n other)) (sym f.known) o)
          (subst (λ n. IsTyped s pure r p.tasks (at p.text n (types_of p.olds) [])) (sym f.known) k)
