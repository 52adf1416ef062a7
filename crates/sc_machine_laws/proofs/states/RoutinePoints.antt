-- What is known of a routine that runs on an object, and the points that a step leads to.
use Rattle.std.specs.Prelude.{if◌then◌else◌}
use Rattle.std.proofs.Common.{◌++◌, Bool, List, Option, Some, [], false, inl, inr, refl, subst, sym, true, ℕ, ◌∷◌, ◌≡◌, ◌⊎◌}
use Rattle.sc_tree.specs.Plain.{System}
use Rattle.sc_class.specs.Tables.Conformance.{class_conforms, is_expanded}
use Rattle.sc_class.specs.Tables.Features.{DeclaredFeature, feature_named}
use Rattle.sc_class.specs.declared.identity.ClassId.TheVariants as class
use Rattle.sc_rules.specs.entity_types.Conformance.{conforms}
use Rattle.sc_rules.specs.entity_types.Laws.{IsClassOf}
use Rattle.sc_rules.specs.declared.entity_types.entity_type.EntityType.{EntityType}
use Rattle.sc_rules.specs.declared.entity_types.tag.Tag.TheVariants as tag
use Rattle.sc_rules.specs.Laws.{AllDeclared, HasResult}
use Rattle.sc_rules.specs.Names.{Entities, RoutineName}
use Rattle.sc_rules.specs.Purity.{IsPurity}
use Rattle.sc_rules.specs.SystemRules.{WellFormed}
use Rattle.sc_rules.specs.Versions.{Version}
use Rattle.sc_rules.proofs.Scopes.{HasScope, MayName, Scope, named_is_nameable}
use Rattle.sc_model.specs.Environments.{Binding, handler_named, scope_of}
use Rattle.sc_model.specs.Fits.{Fits, FitsOrUnset, OperandFits}
use Rattle.sc_model.specs.Objects.{Object}
use Rattle.sc_model.specs.Routines.{Routine, Text, place_in}
use Rattle.sc_model.specs.Runs.{run}
use Rattle.sc_model.specs.Steps.{Point, fails, gives, reads}
use Rattle.sc_model.specs.Tasks.{Task}
use Rattle.sc_model.specs.Values.{Attached, Boolean, Integer, Operand, Reference, Value, Void, operand}
use Rattle.sc_model.specs.declared.cause.Cause.TheVariants as cause
use Rattle.sc_machine_laws.specs.states.Points as point
use Rattle.sc_machine_laws.specs.states.Points.{Each, EnvironmentFits, OldsFit, ResultFits, StoreFits, types_of}
use Rattle.sc_machine_laws.specs.states.ValueSteps.{StandsSo, StepFits}
use Rattle.sc_machine_laws.specs.states.Typed.{Extends, IsTyped, ScopeStands, after, at}
use Rattle.sc_machine_laws.proofs.states.PassedValues.{IsPlain}

-- the Result that a text speaks of is one of the routine's own, whose type names nothing
abbrev pub Leads : System → Option (Option EntityType) → Option (Option EntityType) → Type 0
Leads s own kept = (t : EntityType) → kept ≡ Some (Some t) → (g : EntityType) × (own ≡ Some (Some g)) × (conforms s g t ≡ true)

-- The text of the routine, or of the contract that it keeps, where it runs on an object of the class.
pub record InText (s : System) (k : ℕ) (own : Option (Option EntityType)) (t : Text) : Type 0 where
  pub heir : class_conforms s (class.Declared k) (class.Declared t.class) ≡ true
  pub has_result : HasResult (place_in s t)
  pub leads : Leads s own t.result

pub record IsRun (s : System) (pure : RoutineName → Bool) (r : Routine) (me : Reference) : Type 0 where
  pub well_formed : WellFormed s
  pub purity : IsPurity s pure
  pub declared : AllDeclared s
  pub heirs : (k j : ℕ) (x : List ℕ) (f : DeclaredFeature) → class_conforms s (class.Declared k) (class.Declared j) ≡ true →
      feature_named s (class.Declared j) x ≡ Some f → Version s k x f.feature.kind
  pub own : InText s me.class r.text.result r.text
  pub kept : InText s me.class r.text.result r.contract
  pub results_name : (b : Scope) → HasScope b (place_in s r.text) × HasScope b (place_in s r.contract)
  pub may_name : (k : ℕ) → MayName (record { formals = r.text.formals; blocks = k }) r.contract.formals
  pub plain : (t : EntityType) → r.text.result ≡ Some (Some t) → IsPlain t.tag
  pub result_type : (t : EntityType) → r.text.result ≡ Some (Some t) → IsClassOf s t.class × (t.tag ≡ tag.None → ⊥)

-- all of a point but its tasks and values
pub record Base (s : System) (r : Routine) (me : Reference) (t : Text) (bs : List Binding) (result : Option Operand) (us : List Operand) (objects : List Object) : Type 0 where
  pub text_is : (t ≡ r.text) ⊎ (t ≡ r.contract)
  pub scope_stands : ScopeStands r.text.formals (scope_of bs)
  pub names_fit : EnvironmentFits s me.handler bs
  pub result_fits : ResultFits s me.handler r.text.result result
  pub olds_fit : OldsFit s me.handler bs us
  pub store : StoreFits s me objects

abbrev pub BaseOf : System → Routine → Reference → Point → Type 0
BaseOf s r me p = Base s r me p.text p.environment p.result p.olds p.objects

abbrev pub AllFit : System → Reference → Point → List Operand → Type 0
AllFit s me p vs = Each (OperandFits s me.handler p.environment) vs

-- the tasks are typed where values of these types lie
abbrev pub TasksTyped : System → (RoutineName → Bool) → Routine → Point → List Task → List EntityType → Type 0
TasksTyped s pure r p k ts = IsTyped s pure r k (at p.text (scope_of p.environment) (types_of p.olds) ts)

-- after a condition, of these names
abbrev pub TasksAfter : System → (RoutineName → Bool) → Routine → Point → List Task → Entities → Entities → List EntityType → Type 0
TasksAfter s pure r p k low high ts = IsTyped s pure r k (after p.text low high (types_of p.olds) ts)

module _ (s : System) (pure : RoutineName → Bool) (r : Routine) (me : Reference) where
  pub in_text : IsRun s pure r me → (t : Text) → (t ≡ r.text) ⊎ (t ≡ r.contract) → InText s me.class r.text.result t
  in_text run t (inl q) = subst (InText s me.class r.text.result) (sym q) run.own
  in_text run t (inr q) = subst (InText s me.class r.text.result) (sym q) run.kept

  -- what its Result has names nothing, and its tags name formals of the routine
  pub text_results : IsRun s pure r me → (t : Text) → (t ≡ r.text) ⊎ (t ≡ r.contract) → (b : Scope) → HasScope b (place_in s t)
  text_results run t (inl q) b = subst (λ t. HasScope b (place_in s t)) (sym q) (run.results_name b).0
  text_results run t (inr q) b = subst (λ t. HasScope b (place_in s t)) (sym q) (run.results_name b).1

  pub text_may_name : IsRun s pure r me → (t : Text) → (t ≡ r.text) ⊎ (t ≡ r.contract) → (k : ℕ) → MayName (record { formals = r.text.formals; blocks = k }) t.formals
  text_may_name run t (inl q) k = subst (λ (t : Text). MayName (record { formals = r.text.formals; blocks = k }) t.formals) (sym q) (λ x i e. named_is_nameable x r.text.formals i e)
  text_may_name run t (inr q) k = subst (λ (t : Text). MayName (record { formals = r.text.formals; blocks = k }) t.formals) (sym q) (run.may_name k)

  module _ (p : Point) (b : BaseOf s r me p) where
    -- these tasks and values are next
    pub goes : (coming : List EntityType) (k : List Task) (vs : List Operand) → TasksTyped s pure r p k (coming ++ types_of vs) → AllFit s me p vs →
        StandsSo s pure r me coming (record p { tasks = k; values = vs })
    goes coming k vs d f = (
      record {
        text_is = b.text_is;
        known = at p.text (scope_of p.environment) (types_of p.olds) (coming ++ types_of vs);
        agrees = point.here;
        is_typed = d;
        scope_stands = b.scope_stands;
        names_fit = b.names_fit;
        result_fits = b.result_fits;
        olds_fit = b.olds_fit;
        values_fit = f;
      },
      b.store,
    )

    -- a condition's value is there
    pub goes_held : (k : List Task) (t : EntityType) (us : List Operand) (low high : Entities) → TasksAfter s pure r p k low high (types_of us) → scope_of p.environment ≡ high →
        Fits s me.handler (handler_named p.environment) (Boolean true) t → AllFit s me p us → StandsSo s pure r me [] (record p { tasks = k; values = operand (Boolean true) t ∷ us })
    goes_held k t us low high d e f fs = (
      record {
        text_is = b.text_is;
        known = after p.text low high (types_of p.olds) (types_of us);
        agrees = point.held refl refl e;
        is_typed = d;
        scope_stands = b.scope_stands;
        names_fit = b.names_fit;
        result_fits = b.result_fits;
        olds_fit = b.olds_fit;
        values_fit = (f, fs);
      },
      b.store,
    )

    pub goes_denied : (k : List Task) (t : EntityType) (us : List Operand) (low high : Entities) → TasksAfter s pure r p k low high (types_of us) → Extends low (scope_of p.environment) →
        Fits s me.handler (handler_named p.environment) (Boolean false) t → AllFit s me p us → StandsSo s pure r me [] (record p { tasks = k; values = operand (Boolean false) t ∷ us })
    goes_denied k t us low high d e f fs = (
      record {
        text_is = b.text_is;
        known = after p.text low high (types_of p.olds) (types_of us);
        agrees = point.denied refl refl e;
        is_typed = d;
        scope_stands = b.scope_stands;
        names_fit = b.names_fit;
        result_fits = b.result_fits;
        olds_fit = b.olds_fit;
        values_fit = (f, fs);
      },
      b.store,
    )

    -- a value is found
    pub found : (v : Value) (t u : EntityType) → t ≡ u → TasksTyped s pure r p p.tasks (u ∷ types_of p.values) → Fits s me.handler (handler_named p.environment) v t →
        AllFit s me p p.values → StandsSo s pure r me [] (record p { values = operand v t ∷ p.values })
    found v t u q d f fs = goes [] p.tasks (operand v t ∷ p.values) (subst (λ u. TasksTyped s pure r p p.tasks (u ∷ types_of p.values)) (sym q) d) (f, fs)

    -- a value that is read fits, or the entity is unset
    pub reads_fit : (v : Value) (t : EntityType) → FitsOrUnset s me.handler (handler_named p.environment) v t → TasksTyped s pure r p p.tasks (t ∷ types_of p.values) → AllFit s me p p.values →
        StepFits s pure r me (reads v t p)
    reads_fit (Integer z) t (inl f) d fs = found (Integer z) t t refl d f fs
    reads_fit (Boolean c) t (inl f) d fs = found (Boolean c) t t refl d f fs
    reads_fit (Attached o) t (inl f) d fs = found (Attached o) t t refl d f fs
    reads_fit (Integer z) t (inr u) d fs = let x : Integer z ≡ Void = u.0 in cc
    reads_fit (Boolean c) t (inr u) d fs = let x : Boolean c ≡ Void = u.0 in cc
    reads_fit (Attached o) t (inr u) d fs = let x : Attached o ≡ Void = u.0 in cc
    reads_fit Void t f d fs = by t.attached refl
      where
        reference_is : FitsOrUnset s me.handler (handler_named p.environment) Void t → is_expanded t.class ≡ false
        reference_is (inl f) = f.1
        reference_is (inr u) = u.1

        by : (c : Bool) → t.attached ≡ c → StepFits s pure r me (if c then fails cause.UnsetEntity p else gives Void t p)
        by true e = (refl, b.store)
        by false e = found Void t t refl d (e, reference_is f) fs
