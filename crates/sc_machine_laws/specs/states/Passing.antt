-- Laws of values that are passed on: to a type that theirs conforms to, back to a caller, and as actuals of a call.
use Rattle.std.specs.Prelude.{List, None, Option, Some, [], false, map, true, ℕ, ◌≡◌}
use Rattle.sc_tree.specs.Plain.{Declaration, DeclaredType, System}
use Rattle.sc_rules.specs.entity_types.Conformance.{conforms}
use Rattle.sc_rules.specs.declared.entity_types.entity_type.EntityType.{EntityType}
use Rattle.sc_rules.specs.declared.entity_types.tag.Reserved.{Reserved}
use Rattle.sc_rules.specs.entity_types.Combiners.{combined_result}
use Rattle.sc_rules.specs.Laws.{are_declared}
use Rattle.sc_rules.specs.Names.{formal_type}
use Rattle.sc_rules.specs.Types.{declared_type}
use Rattle.sc_model.specs.Environments.{Binding, handler_named}
use Rattle.sc_model.specs.Fits.{Fits, Lies, OperandFits}
use Rattle.sc_model.specs.Values.{Operand, Value, values_of}
use Rattle.sc_machine_laws.specs.states.Fitting.{ActualsFit}
use Rattle.sc_machine_laws.specs.states.Places.{no_names, of_actuals}
use Rattle.sc_machine_laws.specs.states.Points.{Each, types_of}
use Rattle.sc_machine_laws.specs.states.Typed.{Takes}

-- If `t` conforms to `u`, what fits `t` fits `u`.
abbrev pub FitWhereConforming : Type 0
FitWhereConforming = (s : System) (me : ℕ) (of : Reserved → Option ℕ) (v : Value) (t u : EntityType) →
    conforms s t u ≡ true → Fits s me of v t → Fits s me of v u

-- What fits the declared type of a result on the target's handler fits the combined type that the caller sees.
abbrev pub FitWhereGiven : Type 0
FitWhereGiven = (s : System) (me k : ℕ) (of : Reserved → Option ℕ) (v : Value) (t g : EntityType) (d : DeclaredType) →
    declared_type s [] d ≡ Some g → Lies t.tag me of k →
    Fits s k no_names v g → Fits s me of v (combined_result t g)

-- If the rules accept values as actuals for a target of the type `t`, and the values fit their types, they fit the
-- formals on the target's handler.
abbrev pub FitWherePassed : Type 0
FitWherePassed = (s : System) (me k : ℕ) (bs : List Binding) (t : EntityType) (formals : List Declaration)
    (us : List Operand) → Lies t.tag me (handler_named bs) k →
    are_declared s formals formals ≡ true → Takes s (types_of us) (record {
      target = t;
      formals = map (λ (d : Declaration). formal_type (declared_type s formals d.declared_type)) formals;
      gives = None;
      routine = None;
      is_secret = false;
    }) → Each (OperandFits s me bs) us → ActualsFit s k formals (of_actuals (values_of us)) formals (values_of us)
