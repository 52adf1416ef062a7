-- A clause whose evaluation by its parts ends with true holds in the world.
use Rattle.std.proofs.Common.{◌≡◌, ℕ, zero, suc, Bool, true, false, List, [], ◌∷◌, Option, Some, None, refl, sym, ap, subst, ◌∙◌}
use Rattle.std.specs.Prelude.{if◌then◌else◌}
use Rattle.sc_tree.specs.Plain as tree
use Rattle.sc_tree.specs.Plain.{Clause, FeatureKind, RoutineDeclaration, System}
use Rattle.sc_class.specs.Tables.Features.{DeclaredFeature}
use Rattle.sc_rules.specs.declared.entity_types.entity_type.EntityType.{EntityType}
use Rattle.sc_model.specs.Clauses.{Evaluation, EvaluationState, Further, Comes, Sticks, after, after_step, body_point, call_of, calls, calls_kind, evaluates_bound, evaluates_routine, gives_attribute, last_value, next, returns, Holds}
use Rattle.sc_model.specs.Environments.{Binding, binding_named, formals_bound}
use Rattle.sc_model.specs.Exits.{is_unset_value}
use Rattle.sc_model.specs.Handlers.{Frame, World, point_of}
use Rattle.sc_model.specs.Moves.{step, step_at}
use Rattle.sc_model.specs.Objects.{Object, object_numbered}
use Rattle.sc_model.specs.Routines.{Routine, routine_of, version_of}
use Rattle.sc_model.specs.Steps.{Point, Exits, Step, Does}
use Rattle.sc_model.specs.Tasks.{Task, Eval}
use Rattle.sc_model.specs.Values.{Boolean, Operand, operand, Reference, Value, values_of}
use Rattle.sc_machine_laws.specs.Evaluating.{Answers, attribute, routine, Reaches, begins, goes, tests, enters, requests, EndsTrue}
use Rattle.sc_machine_laws.specs.ClauseLaws.{EndsTrueHolds, Told, TrueEvaluationsHold}

-- the text on the object, where the call that it waits for gives a value of this type
abbrev stands : Reference → Point → Option EntityType → Evaluation
stands me p g = record { current = me; point = p; gives = g }

-- the point with the value that a call gave
abbrev pub given : Value → EntityType → Point → Point
given v t p = record p { values = operand v t ∷ p.values }

module _ (s : System) (w : World) where
  abbrev O : ℕ → List Object
  O j = (w.handlers j).objects

  -- the evaluation comes from the first to the second
  record Leads (a b : EvaluationState) : Type 0 where
    steps : ℕ
    leads : after steps s w a ≡ b

  leads_by : {a b : EvaluationState} → a ≡ b → Leads a b
  leads_by e = record { steps = zero; leads = e }

  leads_next : {a b : EvaluationState} → Leads (next s w a) b → Leads a b
  leads_next l = record { steps = suc l.steps; leads = l.leads }

  leads_after : (n : ℕ) (a b c : EvaluationState) → after n s w a ≡ b → Leads b c → Leads a c
  leads_after zero a b c e l = subst (λ o. Leads o c) (sym e) l
  leads_after (suc n) a b c e l = leads_next (leads_after n (next s w a) b c e l)

  leads_then : {a b c : EvaluationState} → Leads a b → Leads b c → Leads a c
  leads_then {a} {b} {c} l m = leads_after l.steps a b c l.leads m

  -- a step of the text on top
  leads_step : (me : Reference) (p : Point) (g : Option EntityType) (callers : List Evaluation) (st : Step)
      (b : EvaluationState) → step s me p ≡ st →
      Leads (after_step s w me st callers) b → Leads (Further (stands me p g) callers) b
  leads_step me p g callers st b e l = leads_next (subst (λ st. Leads (after_step s w me st callers) b) (sym e) l)

  exits_at : (me : Reference) (p : Point) (ts : List Task) → ts ≡ [] → step_at s me ts p ≡ Does Exits p
  exits_at me p ts e = ap (λ ts. step_at s me ts p) e

  -- ---- what a call comes to

  set_is : (b : Bool) (o : EvaluationState) → b ≡ false → (if b then Sticks else o) ≡ o
  set_is true o e = cc
  set_is false o e = refl

  found : (r : Reference) (x : List ℕ) (us : List Operand) (o : Object) (f : DeclaredFeature) (k : FeatureKind)
      (e : Evaluation) (callers : List Evaluation) →
      object_numbered r.number (O r.handler) ≡ Some o → version_of s r.class x ≡ Some f → f.feature.kind ≡ k →
      call_of s w r x us e callers ≡ calls_kind s r x us (O r.handler) o f k e callers
  found r x us o f k e callers is_there version kind =
      ap (λ (c : Option Object). calls s r x us (O r.handler) c (version_of s r.class x) e callers) is_there
      ∙ ap (λ (c : Option DeclaredFeature). calls s r x us (O r.handler) (Some o) c e callers) version
      ∙ ap (λ (k : FeatureKind). calls_kind s r x us (O r.handler) o f k e callers) kind

  attribute_is : (t : EntityType) (b : Binding) (c : Option Binding) (me : Reference) (p : Point)
      (callers : List Evaluation) → c ≡ Some b →
      is_unset_value b.value b.type ≡ false → gives_attribute (Some t) c (stands me p (Some t)) callers ≡ Further
      (stands me (given b.value t p) (Some t)) callers
  attribute_is t b c me p callers e u =
      ap (λ (c : Option Binding). gives_attribute (Some t) c (stands me p (Some t)) callers) e
      ∙ set_is (is_unset_value b.value b.type) (Further (stands me (given b.value t p) (Some t)) callers) u

  routine_is : (r : Reference) (us : List Operand) (objects : List Object) (f : DeclaredFeature) (q : Routine)
      (bs : List Binding) (callers : List Evaluation) →
      routine_of s f ≡ Some q → formals_bound s q.text.formals 0 q.text.formals (values_of us) ≡ Some bs →
      evaluates_routine s r us objects callers (routine_of s f) ≡ Further
      (stands r (body_point s q objects bs) None) callers
  routine_is r us objects f q bs callers e d =
      ap (λ (q : Option Routine). evaluates_routine s r us objects callers q) e
      ∙ ap (λ (bs : Option (List Binding)). evaluates_bound s r q objects callers bs) d

  returns_to : (result : Option Operand) (u : Operand) (t : EntityType) (me : Reference) (p : Point)
      (callers : List Evaluation) → result ≡ Some u →
      is_unset_value u.value u.type ≡ false → returns result (stands me p (Some t)) callers ≡ Further
      (stands me (given u.value t p) (Some t)) callers
  returns_to result u t me p callers e n =
      ap (λ (v : Option Operand). returns v (stands me p (Some t)) callers) e
      ∙ set_is (is_unset_value u.value u.type) (Further (stands me (given u.value t p) (Some t)) callers) n

  module _ (M : ℕ → Type 0) where
    -- the text comes to the second point
    record Runs (me : Reference) (p q : Point) (g : Option EntityType) (callers : List Evaluation) : Type 0 where
      gives : Option EntityType
      runs : Leads (Further (stands me p g) callers) (Further (stands me q gives) callers)

    mutual
      answers_run : {r : Reference} {x : List ℕ} {us : List Operand} {v : Value} → Answers s M O r x us v →
          (me : Reference) (p : Point) (t : EntityType)
          (callers : List Evaluation) → Leads (call_of s w r x us (stands me p (Some t)) callers)
          (Further (stands me (given v t p) (Some t)) callers)
      answers_run (attribute {r} {x} {us} {o} {f} {d} {b} m is_there version kind named u) me p t callers = leads_by
          (found r x us o f (tree.Attribute d) (stands me p (Some t)) callers is_there version kind
          ∙ attribute_is t b (binding_named x o.attributes) me p callers named u)
      answers_run (routine {r} {x} {us} {o} {f} {c} {q} {bs} {p = end} {u} m is_there version kind of bound a none
          result n) me p t callers =
          let e : List Evaluation = stands me p (Some t) ∷ callers in
          let body = reaches_run a None e in
          leads_then (leads_by
          (found r x us o f (tree.Routine c) (stands me p (Some t)) callers is_there version kind
          ∙ routine_is r us (O r.handler) f q bs e of bound))
          (leads_then body.runs
          (leads_step r end body.gives e (Does Exits end) (Further (stands me (given u.value t p) (Some t)) callers)
          (exits_at r end end.tasks none)
          (leads_by (returns_to end.result u t me p callers result n))))

      reaches_run : {me : Reference} {p q : Point} → Reaches s M O me p q →
          (g : Option EntityType) (callers : List Evaluation) → Runs me p q g callers
      reaches_run begins g callers = record { gives = g; runs = leads_by refl }
      reaches_run (goes {me} {q} {r} a e) g callers =
          let z = reaches_run a g callers in record {
            gives = None;
            runs = leads_then z.runs
                (leads_step me q z.gives callers _ (Further (stands me r None) callers) e (leads_by refl));
          }
      reaches_run (tests {me} {q} {r} a e) g callers =
          let z = reaches_run a g callers in record {
            gives = None;
            runs = leads_then z.runs
                (leads_step me q z.gives callers _ (Further (stands me r None) callers) e (leads_by refl));
          }
      reaches_run (enters {me} {q} {r} {t} {v} a e b) g callers =
          let z = reaches_run a g callers in record {
            gives = Some t;
            runs = leads_then z.runs
                (leads_step me q z.gives callers _ (Further (stands me (given v t r) (Some t)) callers) e
                (answers_run b me r t callers));
          }
      reaches_run (requests {me} {q} {r} {t} {v} a e b) g callers =
          let z = reaches_run a g callers in record {
            gives = Some t;
            runs = leads_then z.runs
                (leads_step me q z.gives callers _ (Further (stands me (given v t r) (Some t)) callers) e
                (answers_run b me r t callers));
          }

    module _ (f : Frame) (k : Clause) where
      abbrev start : List Operand → Point
      start os = record (point_of f (O f.current.handler)) {
        text = f.routine.contract;
        olds = os;
        tasks = Eval 0 k.condition ∷ [];
        values = [];
      }

      ends_true_leads : EndsTrue s M O f.current (start []) → Leads (Further (stands f.current (start []) None) [])
          (Comes (Boolean true))
      ends_true_leads e =
          let z = reaches_run e.reaches None [] in
          leads_then z.runs (leads_step f.current e.end z.gives [] (Does Exits e.end) (Comes (Boolean true))
          (exits_at f.current e.end e.end.tasks e.tasks_are)
          (leads_by (ap last_value e.values_are)))

      end_holds : f.olds ≡ [] → EndsTrue s M O f.current (start []) → Holds s w f k
      end_holds none e =
          let l = subst (λ os. Leads (Further (stands f.current (start os) None) []) (Comes (Boolean true))) (sym none)
          (ends_true_leads e) in
          record { steps = l.steps; is_true = l.leads }

pub ends_true_holds : EndsTrueHolds
ends_true_holds s w f k M none e = end_holds s w M f k none e

pub true_evaluations_hold : TrueEvaluationsHold
true_evaluations_hold s w f k may none e = ends_true_holds s w f k (Told may) none e
