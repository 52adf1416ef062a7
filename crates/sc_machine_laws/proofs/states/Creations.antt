-- Creation of an object, of the current handler or of a new one.
use Rattle.std.specs.Prelude.{if◌then◌else◌, length, nat_lt}
use Rattle.std.proofs.Common.{◌&&◌, ◌+◌, ◌++◌, ◌<◌, Bool, List, None, Option, Some, [], ap, false, inl, inr, refl, subst, sym, true, ℕ, ◌∙◌, ◌∷◌, ◌≡◌, ◌⊎◌}
use Rattle.sc_tree.specs.Plain as tree
use Rattle.sc_tree.specs.Plain.{FeatureKind, System, Variable}
use Rattle.sc_class.specs.Tables.Conformance.{class_conforms}
use Rattle.sc_class.specs.Tables.Features.{feature_named}
use Rattle.sc_class.specs.declared.identity.ClassId.TheVariants as class
use Rattle.sc_rules.specs.entity_types.Tags.{tag_conforms}
use Rattle.sc_rules.specs.declared.entity_types.entity_type.EntityType.{EntityType}
use Rattle.sc_rules.specs.declared.entity_types.tag.Reserved.{Reserved}
use Rattle.sc_rules.specs.declared.entity_types.tag.Tag.TheVariants as tag
use Rattle.sc_rules.proofs.entity_types.ConformanceLemmas.{reflexive}
use Rattle.sc_rules.specs.Names.{RoutineName, Signature, assignee, assignee_type, attached, signature_of_kind}
use Rattle.sc_rules.specs.Typing.{takes}
use Rattle.sc_rules.specs.Versions.{Version}
use Rattle.sc_rules.proofs.Typings.{named_declared}
use Rattle.sc_model.specs.Calls.{given_by}
use Rattle.sc_model.specs.Creations.{creates, creates_as, creates_at, creates_object}
use Rattle.sc_model.specs.Environments.{handler_named, scope_of}
use Rattle.sc_model.specs.Fits.{Fits, Lies, OperandFits}
use Rattle.sc_model.specs.Invariants.{meets_invariant}
use Rattle.sc_model.specs.Limits.{max_objects}
use Rattle.sc_model.specs.ObjectTests.{lies}
use Rattle.sc_model.specs.Objects.{fresh_object}
use Rattle.sc_model.specs.Routines.{Routine, place_in}
use Rattle.sc_model.specs.Steps as act
use Rattle.sc_model.specs.Steps.{Does, Point, fails, popped}
use Rattle.sc_model.specs.Tasks.{AssignTo}
use Rattle.sc_model.specs.Values.{Attached, Operand, Reference, operand}
use Rattle.sc_model.specs.declared.cause.Cause.TheVariants as cause
use Rattle.sc_machine_laws.specs.states.Places.{is_routine}
use Rattle.sc_machine_laws.specs.states.Points.{types_of}
use Rattle.sc_machine_laws.specs.states.ValueSteps.{CreationFits, EntryFits, StandsSo, StepFits}
use Rattle.sc_machine_laws.specs.states.Typed as typed
use Rattle.sc_machine_laws.specs.states.Typed.{IsMade, Takes, stacked}
use Rattle.sc_machine_laws.proofs.states.Fresh.{fresh_fits, last_there, store_more}
use Rattle.sc_machine_laws.proofs.states.Lists.{both}
use Rattle.sc_machine_laws.proofs.states.Names.{FeatureMeant, feature_meant}
use Rattle.sc_machine_laws.proofs.states.Stacks.{Popped, no_operands, popped_by}
use Rattle.sc_machine_laws.proofs.states.RoutinePoints.{AllFit, BaseOf, IsRun, TasksTyped, goes}
use Rattle.sc_machine_laws.proofs.states.Versions.{kind_fits, routine_version}

-- a class conforms to itself
pub class_itself : (s : System) (k : ℕ) → k < length s.classes → class_conforms s (class.Declared k) (class.Declared k) ≡ true
class_itself s k l = (both (class_conforms s (class.Declared k) (class.Declared k)) true (both (class_conforms s (class.Declared k) (class.Declared k) && true) true (reflexive s (record { attached = true; tag = tag.Own; class = class.Declared k }) l)).0).0

-- how the object is made: tested at once, or by a procedure that takes the actuals where it lies
abbrev Made : System → ℕ → (Reserved → Option ℕ) → Reference → Option (List ℕ) → List Operand → Type 0
Made s me of o None us = us ≡ []
Made s me of o (Some x) us = EntryFits s me of o x us None

module _ (s : System) (pure : RoutineName → Bool) (r : Routine) (me : Reference) (run : IsRun s pure r me) (p : Point) (b : BaseOf s r me p) where
  -- the creation procedure takes the actuals, where the object lies
  procedure_fits : (u : EntityType) (j number k : ℕ) (x : List ℕ) (as' : List EntityType) (us : List Operand) (g : Signature) → k < length s.classes → Lies u.tag me.handler (handler_named p.environment) j →
      u.class ≡ class.Declared k → FeatureMeant s u (feature_named s u.class x) g → Takes s as' g → g.gives ≡ None → types_of us ≡ as' → AllFit s me p us →
      EntryFits s me.handler (handler_named p.environment) (record { handler = j; number = number; class = k }) x us None
  procedure_fits u j number k x as' us g l lies of_class m takes none us_types fits = (
    record {
      version = V.feature;
      is_version = V.is_there;
      fits = kind_fits s me.handler j (handler_named p.environment) u lies m.feature V.feature.feature.kind m.feature.feature.kind as' us None V.fits
          (named_declared s run.declared u.class x m.feature m.is_there) (subst (Takes s as') (sym m.signature_is) takes) us_types
          (ap given_by (ap (λ (g : Signature). g.gives) m.signature_is ∙ none)) fits;
    },
    routine_version V.fits (is_one m.feature.feature.kind (ap (λ (g : Signature). g.gives) m.signature_is ∙ none)),
  )
    where
      V : Version s k x m.feature.feature.kind
      V = run.heirs k k x m.feature (class_itself s k l) (ap (λ c. feature_named s c x) (sym of_class) ∙ m.is_there)

      is_one : (kind : FeatureKind) → (signature_of_kind s u m.feature kind).gives ≡ None → is_routine kind ≡ true
      is_one (tree.Attribute d) e = cc
      is_one (tree.Routine c) e = refl

  module _ (v : Variable) (u : EntityType) (k : ℕ) (own : p.text ≡ r.text) (is_of : assignee_type (assignee (place_in s p.text) (scope_of p.environment) v) ≡ Some u)
      (l : k < length s.classes) (of_class : u.class ≡ class.Declared k) (rest : TasksTyped s pure r p p.tasks []) where
    itself : class_conforms s u.class u.class ≡ true
    itself = subst (λ c. class_conforms s c c ≡ true) (sym of_class) (class_itself s k l)

    new_fits : (j number : ℕ) → Lies u.tag me.handler (handler_named p.environment) j →
        Fits s me.handler (handler_named p.environment) (Attached (record { handler = j; number = number; class = k })) (attached u)
    new_fits j number lies = (subst (λ c. class_conforms s c u.class ≡ true) of_class itself, lies)

    assigned_next : (tag_conforms u.tag u.tag) ≡ true → TasksTyped s pure r p (AssignTo v ∷ p.tasks) (attached u ∷ [])
    assigned_next g = typed.assign own is_of (all_three (class_conforms s u.class u.class) (tag_conforms u.tag u.tag) itself g) rest
      where
        all_three : (a c : Bool) → a ≡ true → c ≡ true → (a && true && c) ≡ true
        all_three true true e f = refl
        all_three true false e f = cc
        all_three false c e f = cc

    -- the new object is entered, or tested
    created : (call : Option (List ℕ)) (us : List Operand) → Made s me.handler (handler_named p.environment) (record { handler = me.handler; number = length p.objects + 1; class = k }) call us →
        Lies u.tag me.handler (handler_named p.environment) me.handler → tag_conforms u.tag u.tag ≡ true →
        StepFits s pure r me (creates_object s (record { handler = me.handler; number = length p.objects + 1; class = k }) u call us
        (record p { objects = p.objects ++ fresh_object s k ∷ []; tasks = AssignTo v ∷ p.tasks; values = [] }))
    created call us m lies g = by call us m
      where
        o : Reference
        o = record { handler = me.handler; number = length p.objects + 1; class = k }

        stands : StandsSo s pure r me [] (record p { objects = p.objects ++ fresh_object s k ∷ []; tasks = AssignTo v ∷ p.tasks; values = operand (Attached o) (attached u) ∷ [] })
        stands = goes s pure r me (record p { objects = p.objects ++ fresh_object s k ∷ [] })
            (record {
              text_is = b.text_is;
              scope_stands = b.scope_stands;
              names_fit = b.names_fit;
              result_fits = b.result_fits;
              olds_fit = b.olds_fit;
              store = store_more s me p.objects (fresh_object s k) (fresh_fits s me.handler k l) b.store;
            })
            [] (AssignTo v ∷ p.tasks) (operand (Attached o) (attached u) ∷ []) (assigned_next g) (new_fits me.handler (length p.objects + 1) lies, tt)

        by : (call : Option (List ℕ)) (us : List Operand) → Made s me.handler (handler_named p.environment) o call us →
            StepFits s pure r me (creates_object s o u call us (record p { objects = p.objects ++ fresh_object s k ∷ []; tasks = AssignTo v ∷ p.tasks; values = [] }))
        by (Some x) us m = (refl, record { object = fresh_object s k; is_there = last_there p.objects (fresh_object s k); of_class = refl }, m, stands)
        by None us m = of_test (meets_invariant s (fresh_object s k))
          where
            of_test : (c : Bool) → StepFits s pure r me (if c then Does act.Creates (record p { objects = p.objects ++ fresh_object s k ∷ []; tasks = AssignTo v ∷ p.tasks; values = operand (Attached o) (attached u) ∷ [] })
                else fails cause.Invariant (record p { objects = p.objects ++ fresh_object s k ∷ []; tasks = AssignTo v ∷ p.tasks; values = [] }))
            of_test true = stands
            of_test false = (refl, stands.1)

    -- An object is created: of the current handler, or of a new one.
    pub made_step : (call : Option (List ℕ)) (us : List Operand) → (u.tag ≡ tag.Own) ⊎ (u.tag ≡ tag.Any) →
        ((j number : ℕ) → Lies u.tag me.handler (handler_named p.environment) j → Made s me.handler (handler_named p.environment) (record { handler = j; number = number; class = k }) call us) →
        StepFits s pure r me (creates_at s me call u u.tag u.class us (record p { tasks = AssignTo v ∷ p.tasks; values = [] }))
    made_step call us g m = subst (λ c. StepFits s pure r me (creates_at s me call u u.tag c us (record p { tasks = AssignTo v ∷ p.tasks; values = [] }))) (sym of_class) (by g)
      where
        lies_here : u.tag ≡ tag.Own → Lies u.tag me.handler (handler_named p.environment) me.handler
        lies_here e = subst (λ g. Lies g me.handler (handler_named p.environment) me.handler) (sym e) refl

        lies_anywhere : u.tag ≡ tag.Any → (j : ℕ) → Lies u.tag me.handler (handler_named p.environment) j
        lies_anywhere e j = subst (λ g. Lies g me.handler (handler_named p.environment) j) (sym e) tt

        here : u.tag ≡ tag.Own → (c : Bool) → StepFits s pure r me (if c then creates_object s (record { handler = me.handler; number = length p.objects + 1; class = k }) u call us
            (record p { objects = p.objects ++ fresh_object s k ∷ []; tasks = AssignTo v ∷ p.tasks; values = [] }) else fails cause.TooManyObjects (record p { tasks = AssignTo v ∷ p.tasks; values = [] }))
        here e true = created call us (m me.handler (length p.objects + 1) (lies_here e)) (lies_here e) (ap (λ g. tag_conforms g g) e)
        here e false = (refl, b.store)

        passed : u.tag ≡ tag.Any → (call : Option (List ℕ)) →
            ((j number : ℕ) → Lies u.tag me.handler (handler_named p.environment) j → Made s me.handler (handler_named p.environment) (record { handler = j; number = number; class = k }) call us) →
            CreationFits s me.handler (handler_named p.environment) k call us
        passed e None m = m 0 1 (lies_anywhere e 0)
        passed e (Some x) m = λ j. m j 1 (lies_anywhere e j)

        by : (u.tag ≡ tag.Own) ⊎ (u.tag ≡ tag.Any) → StepFits s pure r me (creates_at s me call u u.tag (class.Declared k) us (record p { tasks = AssignTo v ∷ p.tasks; values = [] }))
        by (inl e) = subst (λ g. StepFits s pure r me (creates_at s me call u g (class.Declared k) us (record p { tasks = AssignTo v ∷ p.tasks; values = [] }))) (sym e) (here e (nat_lt (length p.objects) max_objects))
        by (inr e) = subst (λ g. StepFits s pure r me (creates_at s me call u g (class.Declared k) us (record p { tasks = AssignTo v ∷ p.tasks; values = [] }))) (sym e) (
          l,
          passed e call m,
          (λ j. new_fits j 1 (lies_anywhere e j)),
          goes s pure r me p b (attached u ∷ []) (AssignTo v ∷ p.tasks) [] (assigned_next (ap (λ g. tag_conforms g g) e)) tt,
        )

  -- A creation takes a step that fits.
  pub create_step : (v : Variable) (call : Option (List ℕ)) (i : ℕ) (as' : List EntityType) (u : EntityType) → p.text ≡ r.text →
      assignee_type (assignee (place_in s p.text) (scope_of p.environment) v) ≡ Some u → IsMade s (place_in s p.text) u as' call → i ≡ length as' → types_of p.values ≡ stacked as' [] →
      TasksTyped s pure r p p.tasks [] → AllFit s me p p.values → StepFits s pure r me (creates s me v call (popped i [] p.values) p)
  create_step v call i as' u own is_of made m q k fs = of_popped (popped_by (OperandFits s me.handler p.environment) as' [] i p.values m q)
    where
      no_actuals : (us : List Operand) → types_of us ≡ as' → as' ≡ [] → us ≡ []
      no_actuals us e f = no_operands us (e ∙ f)

      of_call : {call : Option (List ℕ)} (us : List Operand) → types_of us ≡ as' → AllFit s me p us → IsMade s (place_in s p.text) u as' call →
          StepFits s pure r me (creates_at s me call u u.tag u.class us (record p { tasks = AssignTo v ∷ p.tasks; values = [] }))
      of_call us e f (typed.without {k = c} l of_class g none) = made_step v u c own is_of l of_class k None us g (λ j number lies. no_actuals us e none)
      of_call us e f (typed.by {k = c} {x} {g = y} l of_class g m none takes) = made_step v u c own is_of l of_class k (Some x) us g
          (λ j number lies. procedure_fits u j number c x as' us y l lies of_class (feature_meant s u (feature_named s u.class x) y m) takes none e f)

      of_popped : Popped (OperandFits s me.handler p.environment) as' [] i p.values → StepFits s pure r me (creates s me v call (popped i [] p.values) p)
      of_popped z =
          subst (λ o. StepFits s pure r me (creates s me v call o p)) (sym z.popped_is)
          (subst (λ vs. StepFits s pure r me (creates s me v call (Some (z.actuals, vs)) p)) (sym (no_operands z.below z.below_types))
          (subst (λ o. StepFits s pure r me (creates_as s me call o z.actuals (record p { tasks = AssignTo v ∷ p.tasks; values = [] }))) (sym is_of)
          (of_call z.actuals z.actual_types (z.each fs).0 made)))
