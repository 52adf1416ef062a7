-- The routine that a declaration is.
use Rattle.std.specs.Prelude.{Option, Some, None}
use Rattle.sc_tree.specs.Plain.{FeatureKind, Attribute, Routine, RoutineDeclaration}

abbrev pub routine_declared : FeatureKind → Option RoutineDeclaration
routine_declared (Attribute d) = None
routine_declared (Routine routine) = Some routine
