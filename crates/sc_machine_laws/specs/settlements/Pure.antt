-- Functions that contracts may call reserve nothing.
use Rattle.std.specs.Prelude.{◌≡◌, Bool, true, List, [], Some}
use Rattle.sc_tree.specs.Plain.{System, RoutineDeclaration, Routine}
use Rattle.sc_class.specs.Tables.Features.{DeclaredFeature}
use Rattle.sc_rules.specs.Names.{RoutineName}
use Rattle.sc_rules.specs.Purity.{routine_named, IsPurity}
use Rattle.sc_model.specs.Environments.{Binding, formals_bound, separate_formals}
use Rattle.sc_model.specs.Values.{Value}

-- A function that contracts may call reserves nothing at its entry, whatever its actuals.
abbrev pub PureReserveNothing : Type 0
PureReserveNothing = (s : System) (pure : RoutineName → Bool) → IsPurity s pure → (f : RoutineName) → pure f ≡ true →
    (d : DeclaredFeature) (routine : RoutineDeclaration) → routine_named s f ≡ Some d →
    d.feature.kind ≡ Routine routine →
    (vs : List Value) (bs : List Binding) → formals_bound s routine.formals 0 routine.formals vs ≡ Some bs →
    separate_formals bs ≡ []
