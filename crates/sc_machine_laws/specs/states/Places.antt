-- The places of values in a state of the machine, and the types that the text gives them there.
use Rattle.std.specs.Option.{option_and_then, option_map}
use Rattle.std.specs.Prelude.{◌<◌, Bool, Contains, List, None, Option, Some, [], false, slice_get, true, ℕ, ◌∷◌, ◌≡◌}
use Rattle.sc_tree.specs.Plain.{Attribute, Declaration, FeatureKind, System, Routine}
use Rattle.sc_class.specs.Tables.Features.{DeclaredFeature}
use Rattle.sc_rules.specs.declared.entity_types.entity_type.EntityType.{EntityType}
use Rattle.sc_rules.specs.declared.entity_types.tag.Reserved.{Reserved}
use Rattle.sc_rules.specs.declared.entity_types.tag.Reserved.TheVariants.{BlockName, Formal}
use Rattle.sc_rules.specs.Names.{is_local}
use Rattle.sc_rules.specs.Types.{declared_type}
use Rattle.sc_model.specs.Environments.{Binding, handler_named}
use Rattle.sc_model.specs.Failures.{requests_at}
use Rattle.sc_model.specs.Handlers.{Awaits, Calls, Errand, Frame, Makes, Reply, Request, World}
use Rattle.sc_model.specs.Objects.{Object}
use Rattle.sc_model.specs.Routines.{version_of}
use Rattle.sc_model.specs.Values.{Operand, Value, handler_of}

-- No name is known.
abbrev pub no_names : Reserved → Option ℕ
no_names x = None

-- the handlers of the formals, given by the actuals
abbrev pub of_actuals : List Value → Reserved → Option ℕ
of_actuals vs (Formal i) = option_and_then handler_of (slice_get vs i)
of_actuals vs (BlockName j) = None

abbrev pub is_routine : FeatureKind → Bool
is_routine (Attribute d) = false
is_routine (Routine routine) = true

abbrev pub formals_of_kind : FeatureKind → List Declaration
formals_of_kind (Attribute d) = []
formals_of_kind (Routine routine) = routine.formals

abbrev pub formals_if_any : Option DeclaredFeature → List Declaration
formals_if_any None = []
formals_if_any (Some f) = formals_of_kind f.feature.kind

abbrev pub called_name : Errand → Option (List ℕ)
called_name (Calls x) = Some x
called_name (Makes k) = k

-- the formals of what a request calls, in the version of its target's class
abbrev pub formals_of_request : System → Request → List Declaration
formals_of_request s r = formals_if_any (option_and_then (version_of s r.target.class) (called_name r.errand))

-- the type of the value that a feature of the kind gives, if it gives one
abbrev pub result_of_kind : System → FeatureKind → Option (Option EntityType)
result_of_kind s (Attribute d) = Some (declared_type s [] d)
result_of_kind s (Routine routine) = option_map (declared_type s []) routine.result_type

abbrev pub result_if_any : System → Option DeclaredFeature → Option (Option EntityType)
result_if_any s None = None
result_if_any s (Some f) = result_of_kind s f.feature.kind

-- the type of the value that the request asks for, in the version of its target's class
abbrev pub result_of_request : System → Request → Option (Option EntityType)
result_of_request s r = result_if_any s (option_and_then (version_of s r.target.class) (called_name r.errand))

-- The value is somewhere in the state and has the type, seen from the handler of the number, with these handlers
-- for names. It may be unset if the truth value is true.
pub data StandsAs (s : System) (w : World) : ℕ → (Reserved → Option ℕ) → Value → EntityType → Bool → Type 0 where
  attribute : {h : ℕ} {o : Object} {b : Binding} → h < w.count → Contains (w.handlers h).objects o →
      Contains o.attributes b → StandsAs s w h no_names b.value b.type true
  entity : {h : ℕ} {f : Frame} {b : Binding} → h < w.count → Contains (w.handlers h).stack f →
      Contains f.environment b → StandsAs s w h (handler_named f.environment) b.value b.type (is_local b.role)
  of_result : {h : ℕ} {f : Frame} {u : Operand} → h < w.count → Contains (w.handlers h).stack f →
      f.result ≡ Some u → StandsAs s w h no_names u.value u.type true
  operand : {h : ℕ} {f : Frame} {u : Operand} → h < w.count → Contains (w.handlers h).stack f →
      Contains f.values u → StandsAs s w h (handler_named f.environment) u.value u.type false
  of_old : {h : ℕ} {f : Frame} {u : Operand} → h < w.count → Contains (w.handlers h).stack f →
      Contains f.olds u → StandsAs s w h (handler_named f.environment) u.value u.type false
  actual : {h : ℕ} (i : ℕ) {r : Request} {d : Declaration} {t : EntityType} {v : Value} → h < w.count →
      Contains (requests_at (w.handlers h)) r → slice_get (formals_of_request s r) i ≡ Some d →
      declared_type s (formals_of_request s r) d.declared_type ≡ Some t → slice_get r.actuals i ≡ Some v →
      StandsAs s w h (of_actuals r.actuals) v t false
  reply : {h k : ℕ} {f : Frame} {below : List Frame} {v : Value} {t : EntityType} {is_creation : Bool} → h < w.count →
      (w.handlers h).answer ≡ Some (Reply (Some v)) → (w.handlers h).stack ≡ f ∷ below →
      f.stage ≡ Awaits k (Some t) is_creation → StandsAs s w h (handler_named f.environment) v t false
