-- What holds of a routine at each point of its run: its tasks are typed, and its values fit.
use Rattle.std.specs.Prelude.{◌++◌, ◌<◌, Bool, List, None, Option, Some, [], false, length, map, true, ℕ, ◌∷◌, ◌≡◌, ◌⊎◌}
use Rattle.sc_tree.specs.Plain.{Declaration, DeclaredType, System}
use Rattle.sc_rules.specs.declared.entity_types.entity_type.EntityType.{EntityType}
use Rattle.sc_rules.specs.Names.{Entities, RoutineName, is_local}
use Rattle.sc_rules.specs.Types.{declared_type}
use Rattle.sc_model.specs.Environments.{Binding, is_formal, known_of, scope_of}
use Rattle.sc_model.specs.Fits.{BindingFits, FitsOrUnset, OperandFits}
use Rattle.sc_model.specs.Objects.{Object, fresh_object, object_numbered}
use Rattle.sc_model.specs.Routines.{Routine}
use Rattle.sc_model.specs.Steps.{Point}
use Rattle.sc_model.specs.Values.{Boolean, Operand, Reference, operand}
use Rattle.sc_machine_laws.specs.states.Places.{no_names}
use Rattle.sc_machine_laws.specs.states.Typed.{Extends, IsTyped, Known, ScopeStands, after, at}

-- `P` holds of each element of the list.
abbrev pub Each : {A : Type 0} → (A → Type 0) → List A → Type 0
Each P [] = Unit {0}
Each P (x ∷ xs) = P x × Each P xs

abbrev pub listed : {A : Type 0} → Option A → List A
listed None = []
listed (Some x) = x ∷ []

abbrev pub types_of : List Operand → List EntityType
types_of us = map (λ (u : Operand). u.type) us

-- What is known at the point, if values of the types `coming` are still to come onto its own values.
pub data Agrees (p : Point) (coming : List EntityType) : Known → Type 0 where
  here : Agrees p coming (at p.text (scope_of p.environment) (types_of p.olds) (coming ++ types_of p.values))
  held : {n m : Entities} {t : EntityType} {us : List Operand} → coming ≡ [] →
      p.values ≡ operand (Boolean true) t ∷ us → scope_of p.environment ≡ m →
      Agrees p coming (after p.text n m (types_of p.olds) (types_of us))
  denied : {n m : Entities} {t : EntityType} {us : List Operand} → coming ≡ [] →
      p.values ≡ operand (Boolean false) t ∷ us → Extends n (scope_of p.environment) →
      Agrees p coming (after p.text n m (types_of p.olds) (types_of us))

-- ---- names

-- None of the bindings is a formal.
abbrev pub AreBehind : List Binding → Type 0
AreBehind bs = Each (λ (b : Binding). is_formal b.role ≡ false) bs

-- The type of a local is a declared one, so it names no separate block.
abbrev pub LocalIsDeclared : System → Binding → Type 0
LocalIsDeclared s b = is_local b.role ≡ true →
    (formals : List Declaration) × (d : DeclaredType) × (declared_type s formals d ≡ Some b.type)

abbrev pub NamesFit : System → ℕ → List Binding → Type 0
NamesFit s h bs = Each (BindingFits s h bs) bs

-- In each prefix that has all formals, the names fit. So the names that stay still fit when later ones are
-- forgotten.
pub record EnvironmentFits (s : System) (h : ℕ) (bs : List Binding) : Type 0 where
  pub locals_are_declared : Each (LocalIsDeclared s) bs
  pub fit : (pre post : List Binding) → bs ≡ pre ++ post → AreBehind post → NamesFit s h pre

-- In each of these prefixes the values of the `old`s fit too, since they know only the formals.
abbrev pub OldsFit : System → ℕ → List Binding → List Operand → Type 0
OldsFit s h bs us = (pre post : List Binding) → bs ≡ pre ++ post → AreBehind post → Each (OperandFits s h pre) us

-- There is a Result if the routine gives one. It is of its type or still unset, and its type names nothing.
pub data ResultFits (s : System) (h : ℕ) : Option (Option EntityType) → Option Operand → Type 0 where
  no_result : ResultFits s h None None
  a_result : {u : Operand} → FitsOrUnset s h no_names u.value u.type → ResultFits s h (Some (Some u.type)) (Some u)

-- ---- objects

-- The object has the attributes of its class, each with a value that fits or with none yet.
pub record AttributesFit (s : System) (h : ℕ) (o : Object) : Type 0 where
  pub is_of_class : o.class < length s.classes
  pub has_attributes : map known_of o.attributes ≡ map known_of (fresh_object s o.class).attributes
  pub fit : Each (λ (b : Binding). FitsOrUnset s h no_names b.value b.type) o.attributes

-- There is an object with the number of the reference, and it has the reference's class.
pub record IsAmong (objects : List Object) (r : Reference) : Type 0 where
  pub object : Object
  pub is_there : object_numbered r.number objects ≡ Some object
  pub of_class : object.class ≡ r.class

-- The objects of the handler of Current fit, and Current is one of them.
pub record StoreFits (s : System) (me : Reference) (objects : List Object) : Type 0 where
  pub fit : Each (AttributesFit s me.handler) objects
  pub current : IsAmong objects me

-- ---- the routine

-- The routine, on an object of the handler `h`, is at the point `p`, and values of the types `coming` are still to
-- come onto its own values. Its tasks are typed, and its values fit.
pub record PointFits (s : System) (pure : RoutineName → Bool) (r : Routine) (h : ℕ) (coming : List EntityType)
    (p : Point) : Type 0 where
  pub text_is : (p.text ≡ r.text) ⊎ (p.text ≡ r.contract)
  -- its tasks are typed
  pub known : Known
  pub agrees : Agrees p coming known
  pub is_typed : IsTyped s pure r p.tasks known
  pub scope_stands : ScopeStands r.text.formals (scope_of p.environment)
  -- its values fit
  pub names_fit : EnvironmentFits s h p.environment
  pub result_fits : ResultFits s h r.text.result p.result
  pub olds_fit : OldsFit s h p.environment p.olds
  pub values_fit : Each (OperandFits s h p.environment) p.values
