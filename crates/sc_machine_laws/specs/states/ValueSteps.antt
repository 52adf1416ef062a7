-- What holds of each step of a routine, visible or not.
use Rattle.std.specs.Prelude.{◌<◌, Bool, Contains, List, None, Option, Some, [], false, length, true, ℕ, ◌∷◌, ◌≡◌}
use Rattle.sc_tree.specs.Plain as tree
use Rattle.sc_tree.specs.Plain.{DeclaredType, FeatureKind, RoutineDeclaration, System}
use Rattle.sc_class.specs.Tables.Conformance.{is_expanded}
use Rattle.sc_class.specs.Tables.Features.{DeclaredFeature}
use Rattle.sc_rules.specs.declared.entity_types.entity_type.EntityType.{EntityType}
use Rattle.sc_rules.specs.declared.entity_types.tag.Reserved.{Reserved}
use Rattle.sc_rules.specs.Names.{RoutineName}
use Rattle.sc_rules.specs.Types.{declared_type}
use Rattle.sc_model.specs.Environments.{Binding, block_values, handler_named, scope_of, separate_formals}
use Rattle.sc_model.specs.Fits.{Fits}
use Rattle.sc_model.specs.Objects.{Object}
use Rattle.sc_model.specs.Routines.{Routine, version_of}
use Rattle.sc_model.specs.Steps.{Act, CreatesHandler, Does, Enters, Fails, Goes, Point, Refuses, Requests, Step, gives}
use Rattle.sc_model.specs.Values.{Attached, Operand, Reference, Value, handler_of, values_of}
use Rattle.sc_model.specs.declared.cause.Cause.{Cause}
use Rattle.sc_model.specs.declared.cause.Cause.TheVariants as cause
use Rattle.sc_machine_laws.specs.states.Fitting.{ActualsFit}
use Rattle.sc_machine_laws.specs.states.Places.{is_routine, no_names, of_actuals}
use Rattle.sc_machine_laws.specs.states.Points.{Each, IsAmong, PointFits, StoreFits, listed, types_of}
use Rattle.sc_machine_laws.specs.states.Typed.{IsAtEntry}

-- ---- calls, on the handler of the called object

-- A result that fits its declared type there fits the type that the caller sees.
abbrev pub GivesFit : System → ℕ → (Reserved → Option ℕ) → ℕ → Option DeclaredType → Option EntityType → Type 0
GivesFit s me of k None None = Unit {0}
GivesFit s me of k (Some d) (Some t) =
    (g : EntityType) × (declared_type s [] d ≡ Some g) × (is_expanded g.class ≡ false → is_expanded t.class ≡ false)
    × ((v : Value) → Fits s k no_names v g → Fits s me of v t)
GivesFit s me of k d t = ⊥

-- The actuals fit the formals, and the result fits.
pub data KindFits (s : System) (me : ℕ) (of : Reserved → Option ℕ) (k : ℕ) (us : List Operand)
    (gives : Option EntityType) : FeatureKind → Type 0 where
  a_routine : {version : RoutineDeclaration} →
      ActualsFit s k version.formals (of_actuals (values_of us)) version.formals (values_of us) →
      GivesFit s me of k version.result_type gives → KindFits s me of k us gives (tree.Routine version)
  an_attribute : {d : DeclaredType} → us ≡ [] → GivesFit s me of k (Some d) gives →
      KindFits s me of k us gives (tree.Attribute d)

-- The class of the object has a version of the name, and the call fits this version.
pub record CallFits (s : System) (me : ℕ) (of : Reserved → Option ℕ) (o : Reference) (x : List ℕ) (us : List Operand)
    (gives : Option EntityType) : Type 0 where
  pub version : DeclaredFeature
  pub is_version : version_of s o.class x ≡ Some version
  pub fits : KindFits s me of o.handler us gives version.feature.kind

-- The call fits, and the version that it calls is a routine.
abbrev pub EntryFits : System → ℕ → (Reserved → Option ℕ) → Reference → List ℕ → List Operand →
    Option EntityType → Type 0
EntryFits s me of o x us gives = (c : CallFits s me of o x us gives) × (is_routine c.version.feature.kind ≡ true)

-- On any handler, the creation procedure of the new object takes the actuals.
abbrev pub CreationFits : System → ℕ → (Reserved → Option ℕ) → ℕ → Option (List ℕ) → List Operand → Type 0
CreationFits s me of k None us = us ≡ []
CreationFits s me of k (Some x) us = (j : ℕ) →
    EntryFits s me of (record { handler = j; number = 1; class = k }) x us None

-- An attached separate formal or the name of a separate block lies on the handler `k`.
pub data IsNamed (bs : List Binding) (k : ℕ) : Type 0 where
  by_formal : {v : Value} → Contains (separate_formals bs) v → handler_of v ≡ Some k → IsNamed bs k
  by_block : {v : Value} → Contains (block_values bs) v → handler_of v ≡ Some k → IsNamed bs k

-- ---- steps

-- the failures that no accepted system meets
abbrev pub is_excluded : Cause → Bool
is_excluded cause.NotHeld = true
is_excluded cause.ForeignObject = true
is_excluded cause.VoidTarget = true
is_excluded cause.BadCode = true
is_excluded _ = false

module _ (s : System) (pure : RoutineName → Bool) (r : Routine) (me : Reference) where
  -- The routine is at the point and its values fit, and the objects of its handler fit.
  abbrev pub StandsSo : List EntityType → Point → Type 0
  StandsSo coming p = PointFits s pure r me.handler coming p × StoreFits s me p.objects

  -- The act fits, and the routine still fits after it.
  abbrev pub ActFits : Act → Point → Type 0
  ActFits (Fails why) p = (is_excluded why ≡ false) × StoreFits s me p.objects
  ActFits (Enters c o x us gives) p =
      (o.handler ≡ me.handler) × IsAmong p.objects o × EntryFits s me.handler (handler_named p.environment) o x us gives
      × StandsSo (listed gives) p
  ActFits (Requests o x us gives passes) p =
      CallFits s me.handler (handler_named p.environment) o x us gives × StandsSo (listed gives) p
      × IsNamed p.environment o.handler
  ActFits (CreatesHandler k x us t passes) p =
      (k < length s.classes) × CreationFits s me.handler (handler_named p.environment) k x us
      × ((j : ℕ) → Fits s me.handler (handler_named p.environment)
      (Attached (record { handler = j; number = 1; class = k })) t) × StandsSo (t ∷ []) p
  ActFits (Refuses k) p = IsAtEntry s r p.text (scope_of p.environment) (types_of p.olds) × StandsSo [] p
  ActFits act p = StandsSo [] p

  abbrev pub StepFits : Step → Type 0
  StepFits (Goes p) = StandsSo [] p
  StepFits (Does act p) = ActFits act p

-- ---- conditions on all values

-- `P` holds of the value of each operand.
abbrev pub OperandsDo : (Value → Type 0) → List Operand → Type 0
OperandsDo P us = Each (λ (u : Operand). P u.value) us

abbrev pub BindingsDo : (Value → Type 0) → List Binding → Type 0
BindingsDo P bs = Each (λ (b : Binding). P b.value) bs

-- `P` holds of each value at the point.
pub record ValuesDo (P : Value → Type 0) (p : Point) : Type 0 where
  pub objects_do : Each (λ (o : Object). BindingsDo P o.attributes) p.objects
  pub names_do : BindingsDo P p.environment
  pub result_does : OperandsDo P (listed p.result)
  pub olds_do : OperandsDo P p.olds
  pub values_do : OperandsDo P p.values

-- If the value is an object of the handler `h`, it is among `objects`.
abbrev pub IsThereIfOwn : ℕ → List Object → Value → Type 0
IsThereIfOwn h objects v = (o : Reference) → v ≡ Attached o → o.handler ≡ h → IsAmong objects o
