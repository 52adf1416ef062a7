-- The formals and the locals of a feature (ECMA-367, 8.8).
use Rattle.std.specs.Prelude.{List, []}
use Rattle.sc_tree.specs.Plain.{FeatureKind, Attribute, Routine, Declaration}

-- an attribute has none
abbrev pub formals_of : FeatureKind → List Declaration
formals_of (Attribute t) = []
formals_of (Routine r) = r.formals

abbrev pub locals_of : FeatureKind → List Declaration
locals_of (Attribute t) = []
locals_of (Routine r) = r.locals
