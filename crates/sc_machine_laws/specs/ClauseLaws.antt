-- Laws of evaluations by their parts, and of the steps of tasks without `old` and of tasks of contracts.
use Rattle.std.specs.Prelude.{ℕ, ◌≡◌, Bool, true, List, [], ◌∷◌, ◌++◌, Some, Contains}
use Rattle.sc_tree.specs.Plain.{System, Clause}
use Rattle.sc_model.specs.Values.{Reference, Value, Operand}
use Rattle.sc_model.specs.Objects.{Object}
use Rattle.sc_model.specs.Routines.{Routine, routine_named}
use Rattle.sc_model.specs.Olds.{olds_of_clauses}
use Rattle.sc_model.specs.Tasks.{Task, requires, keeps_olds, ensures}
use Rattle.sc_model.specs.Steps.{Point, Enters, Requests, Starts, Refuses, Fails, Step, Goes, Does}
use Rattle.sc_model.specs.Moves.{step}
use Rattle.sc_model.specs.Handlers.{Frame, World}
use Rattle.sc_model.specs.Clauses.{Holds}
use Rattle.sc_machine_laws.specs.states.Points.{Each}
use Rattle.sc_machine_laws.specs.states.Values.{WhereAccepted}
use Rattle.sc_machine_laws.specs.Evaluating.{Answers, Reaches, EndsTrue, clause_point, extended, extended_step}
use Rattle.sc_machine_laws.specs.Texts.{HasNoOld, InstrsHaveNoOld, ClauseHasNoTest, HasNoTest, TaskHasNoOld, IsOfContract}

-- ---- evaluations

-- If the evaluation of a clause by its parts ends with true, the clause holds in the world.
abbrev pub EndsTrueHolds : Type 1
EndsTrueHolds = (s : System) (w : World) (f : Frame) (k : Clause) (M : ℕ → Type 0) → f.olds ≡ [] →
    EndsTrue s M (λ j. (w.handlers j).objects) f.current
    (clause_point (w.handlers f.current.handler).objects f.routine.contract f.environment f.result k) →
    Holds s w f k

-- The value of a call depends only on the objects of the handlers that may be asked.
abbrev pub AnswersLocally : Type 1
AnswersLocally = (s : System) (M : ℕ → Type 0) (O N : ℕ → List Object) → ((k : ℕ) → M k → O k ≡ N k) →
    (r : Reference) (x : List ℕ) (us : List Operand) (v : Value) → Answers s M O r x us v → Answers s M N r x us v

-- Whether a text reaches a point depends only on those objects.
abbrev pub ReachesLocally : Type 1
ReachesLocally = (s : System) (M : ℕ → Type 0) (O N : ℕ → List Object) → ((k : ℕ) → M k → O k ≡ N k) →
    (me : Reference) (p q : Point) → Reaches s M O me p q → Reaches s M N me p q

-- Whether an evaluation ends with true depends only on those objects.
abbrev pub EndsTrueLocally : Type 1
EndsTrueLocally = (s : System) (M : ℕ → Type 0) (O N : ℕ → List Object) → ((k : ℕ) → M k → O k ≡ N k) →
    (me : Reference) (p : Point) → EndsTrue s M O me p → EndsTrue s M N me p

-- A call keeps its value if more handlers may be asked.
abbrev pub AnswersMore : Type 1
AnswersMore = (s : System) (M N : ℕ → Type 0) (O : ℕ → List Object) → ((k : ℕ) → M k → N k) →
    (r : Reference) (x : List ℕ) (us : List Operand) (v : Value) → Answers s M O r x us v → Answers s N O r x us v

-- A text still reaches its point if more handlers may be asked.
abbrev pub ReachesMore : Type 1
ReachesMore = (s : System) (M N : ℕ → Type 0) (O : ℕ → List Object) → ((k : ℕ) → M k → N k) →
    (me : Reference) (p q : Point) → Reaches s M O me p q → Reaches s N O me p q

-- An evaluation that ends with true still does if more handlers may be asked.
abbrev pub EndsTrueMore : Type 1
EndsTrueMore = (s : System) (M N : ℕ → Type 0) (O : ℕ → List Object) → ((k : ℕ) → M k → N k) →
    (me : Reference) (p : Point) → EndsTrue s M O me p → EndsTrue s N O me p

-- ---- evaluations that ask the handlers for which a test is true

-- The test is true for the handler `k`.
abbrev pub Told : (ℕ → Bool) → ℕ → Type 0
Told may k = may k ≡ true

-- If the evaluation of a clause by its parts ends with true, the clause holds.
abbrev pub TrueEvaluationsHold : Type 0
TrueEvaluationsHold = (s : System) (w : World) (f : Frame) (k : Clause) (may : ℕ → Bool) → f.olds ≡ [] →
    EndsTrue s (Told may) (λ j. (w.handlers j).objects) f.current
    (clause_point (w.handlers f.current.handler).objects f.routine.contract f.environment f.result k) →
    Holds s w f k

-- The value of a call depends only on the objects of the handlers for which the test is true.
abbrev pub AnswersAreLocal : Type 0
AnswersAreLocal = (s : System) (may : ℕ → Bool) (O N : ℕ → List Object) → ((k : ℕ) → may k ≡ true → O k ≡ N k) →
    (r : Reference) (x : List ℕ) (us : List Operand) (v : Value) → Answers s (Told may) O r x us v →
    Answers s (Told may) N r x us v

-- Whether an evaluation ends with true depends only on those objects.
abbrev pub EvaluationsAreLocal : Type 0
EvaluationsAreLocal = (s : System) (may : ℕ → Bool) (O N : ℕ → List Object) → ((k : ℕ) → may k ≡ true → O k ≡ N k) →
    (me : Reference) (p : Point) → EndsTrue s (Told may) O me p → EndsTrue s (Told may) N me p

-- An evaluation that ends with true still does if more handlers may be asked.
abbrev pub EvaluationsMayAskMore : Type 0
EvaluationsMayAskMore = (s : System) (may more : ℕ → Bool) (O : ℕ → List Object) →
    ((k : ℕ) → may k ≡ true → more k ≡ true) →
    (me : Reference) (p : Point) → EndsTrue s (Told may) O me p → EndsTrue s (Told more) O me p

-- ---- tasks without `old`

-- The step of a task without `old` depends neither on the tasks after it nor on the values of `old`s.
abbrev pub StepExtends : Type 0
StepExtends = (s : System) (me : Reference) (os : List Operand) (ts : List Task) (p : Point) (t : Task)
    (rest : List Task) → p.tasks ≡ t ∷ rest → TaskHasNoOld t →
    step s me (extended os ts p) ≡ extended_step os ts (step s me p)

-- the point after the step
abbrev pub point_after : Step → Point
point_after (Goes p) = p
point_after (Does a p) = p

-- If no task has an `old`, none has one after a step.
abbrev pub StepKeepsNoOld : Type 0
StepKeepsNoOld = (s : System) (me : Reference) (p : Point) → Each TaskHasNoOld p.tasks →
    Each TaskHasNoOld (point_after (step s me p)).tasks

-- Neither the body of the routine nor its precondition has an `old`.
pub record IsWithoutOld (r : Routine) : Type 0 where
  pub body : InstrsHaveNoOld r.body
  pub require : (k : Clause) → Contains r.require k → HasNoOld k.condition

-- In an accepted system this holds of each routine that is found by a name.
abbrev pub TextsAreWithoutOld : Type 0
TextsAreWithoutOld = WhereAccepted λ s root. (k : ℕ) (x : List ℕ) (r : Routine) → routine_named s k x ≡ Some r →
    IsWithoutOld r

-- ---- contracts

-- At `q` tasks of a contract come before the tasks `rest`. The environment, the Result and the objects are those of
-- `p`.
pub record StaysInContract (rest : List Task) (p q : Point) : Type 0 where
  pub tasks : List Task
  pub tasks_are : q.tasks ≡ tasks ++ rest
  pub of_contract : Each IsOfContract tasks
  pub environment_is : q.environment ≡ p.environment
  pub result_is : q.result ≡ p.result
  pub objects_are : q.objects ≡ p.objects

-- The step stays in the contract, unless it fails. Its visible acts are only calls, requests, the start and a
-- refusal.
abbrev pub StepsInContract : List Task → Point → Step → Type 0
StepsInContract rest p (Goes q) = StaysInContract rest p q
StepsInContract rest p (Does (Enters c o x us g) q) = StaysInContract rest p q
StepsInContract rest p (Does (Requests o x us g passes) q) = StaysInContract rest p q
StepsInContract rest p (Does Starts q) = StaysInContract rest p q
StepsInContract rest p (Does (Refuses k) q) = StaysInContract rest p q
StepsInContract rest p (Does (Fails why) q) = Unit {0}
StepsInContract rest p (Does a q) = ⊥

-- If all tasks before `rest` are of a contract, the next step stays in the contract.
abbrev pub StepOfContract : Type 0
StepOfContract = (s : System) (me : Reference) (t : Task) (ts rest : List Task) (p : Point) → p.tasks ≡ t ∷ ts ++ rest →
    IsOfContract t → Each IsOfContract ts → StepsInContract rest p (step s me p)

-- The precondition, the postcondition and the operands of its `old`s have no object test. So all their tasks are
-- tasks of a contract.
pub record IsWithoutTests (r : Routine) : Type 0 where
  pub require : Each ClauseHasNoTest r.require
  pub olds : Each HasNoTest (olds_of_clauses r.ensure)
  pub ensure : Each ClauseHasNoTest r.ensure
  pub before : Each IsOfContract (requires r.require ++ keeps_olds (olds_of_clauses r.ensure))
  pub behind : Each IsOfContract (ensures 0 r.ensure)

-- In an accepted system this holds of each routine that is found by a name.
abbrev pub TextsAreWithoutTests : Type 0
TextsAreWithoutTests = WhereAccepted λ s root. (k : ℕ) (x : List ℕ) (r : Routine) → routine_named s k x ≡ Some r →
    IsWithoutTests r
