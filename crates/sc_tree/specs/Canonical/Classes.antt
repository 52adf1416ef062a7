-- Features and classes in canonical text. Each part is left out if it is empty.
use Rattle.std.specs.Prelude.{◌&&◌, Bool, true, false, if◌then◌else◌, List, [], ◌∷◌, ◌++◌, Option, None, Some, map}
use Rattle.std.specs.Str.{bytes_eq}
use Rattle.sc_text.specs.declared.token.Terminal.TheVariants as terminal
use Rattle.sc_tree.specs.Plain.{Name, DeclaredType, Declaration, RoutineDeclaration, FeatureKind, Attribute, Routine, Feature, Parent, ClassMark, Deferred, Expanded, Frozen, Class}
use Rattle.sc_tree.specs.Canonical.Layout.{Part, word, separated, Line, line}
use Rattle.sc_tree.specs.Canonical.Expressions.{name_part, class_name_part, names_parts, class_names_parts, type_parts}
use Rattle.sc_tree.specs.Canonical.Instructions.{assertion_lines, instrs_lines}

-- ---- features

unfoldable pub declaration_parts : Declaration → List Part
declaration_parts d = name_part d.name ∷ word terminal.Colon ∷ type_parts d.declared_type

abbrev pub formals_parts : List Declaration → List Part
formals_parts [] = []
formals_parts (d ∷ ds) =
    word terminal.OpenParenthesis
    ∷ (separated (word terminal.Semicolon) declaration_parts (d ∷ ds) ++ word terminal.CloseParenthesis ∷ [])

abbrev pub result_type_parts : Option DeclaredType → List Part
result_type_parts None = []
result_type_parts (Some t) = word terminal.Colon ∷ type_parts t

abbrev pub local_line : Declaration → Line
local_line d = line 3 (declaration_parts d)

abbrev pub locals_lines : List Declaration → List Line
locals_lines [] = []
locals_lines (d ∷ ds) = line 2 (word terminal.Local ∷ []) ∷ map local_line (d ∷ ds)

abbrev pub signature_line : Name → RoutineDeclaration → Line
signature_line x r = line 1 (name_part x ∷ (formals_parts r.formals ++ result_type_parts r.result_type))

abbrev pub routine_lines : Name → RoutineDeclaration → List Line
routine_lines x r =
    signature_line x r ∷ (assertion_lines 2 terminal.Require r.precondition ++ (locals_lines r.locals
    ++ line 2 (word terminal.Do ∷ []) ∷ (instrs_lines 3 r.body ++ (assertion_lines 2 terminal.Ensure r.postcondition
    ++ line 2 (word terminal.End ∷ []) ∷ []))))

abbrev pub attribute_line : Name → DeclaredType → Line
attribute_line x t = line 1 (name_part x ∷ word terminal.Colon ∷ type_parts t)

abbrev pub kind_lines : Name → FeatureKind → List Line
kind_lines x (Attribute t) = attribute_line x t ∷ []
kind_lines x (Routine r) = routine_lines x r

unfoldable pub feature_lines : Feature → List Line
feature_lines f = kind_lines f.name f.kind

abbrev pub same_names : List Name → List Name → Bool
same_names [] [] = true
same_names [] (y ∷ ys) = false
same_names (x ∷ xs) [] = false
same_names (x ∷ xs) (y ∷ ys) = bytes_eq x.text y.text && same_names xs ys

abbrev pub exports_parts : List Name → List Part
exports_parts [] = []
exports_parts (x ∷ xs) = word terminal.OpenBrace ∷ (class_names_parts (x ∷ xs) ++ word terminal.CloseBrace ∷ [])

-- `feature`, with the classes that those below are exported to
unfoldable pub section_line : List Name → Line
section_line exports = line 0 (word terminal.Feature ∷ exports_parts exports)

-- a feature that shares its export list with the one before
abbrev pub further_feature_lines : List Name → Feature → List Line
further_feature_lines exports f =
    if same_names exports f.exports then feature_lines f else section_line f.exports ∷ feature_lines f

abbrev pub further_features_lines : List Name → List Feature → List Line
further_features_lines exports [] = []
further_features_lines exports (f ∷ fs) = further_feature_lines exports f ++ further_features_lines f.exports fs

-- Features in a row with equal export lists share one `feature`.
abbrev pub sections_lines : List Feature → List Line
sections_lines [] = []
sections_lines (f ∷ fs) = section_line f.exports ∷ (feature_lines f ++ further_features_lines f.exports fs)

-- ---- classes

abbrev pub mark_parts : Option ClassMark → List Part
mark_parts None = []
mark_parts (Some (Deferred s)) = word terminal.Deferred ∷ []
mark_parts (Some (Expanded s)) = word terminal.Expanded ∷ []
mark_parts (Some (Frozen s)) = word terminal.Frozen ∷ []

abbrev pub redefined_parts : List Name → List Part
redefined_parts [] = []
redefined_parts (n ∷ ns) = word terminal.Redefine ∷ (names_parts (n ∷ ns) ++ word terminal.End ∷ [])

unfoldable pub parent_line : Parent → Line
parent_line p = line 1 (class_name_part p.name ∷ redefined_parts p.redefined)

abbrev pub parents_lines : List Parent → List Line
parents_lines [] = []
parents_lines (p ∷ ps) = line 0 (word terminal.Inherit ∷ []) ∷ map parent_line (p ∷ ps)

abbrev pub creators_lines : List Name → List Line
creators_lines [] = []
creators_lines (n ∷ ns) = line 0 (word terminal.Create ∷ []) ∷ line 1 (names_parts (n ∷ ns)) ∷ []

abbrev pub heading_line : Option ClassMark → Name → Line
heading_line m x = line 0 (mark_parts m ++ word terminal.Class ∷ class_name_part x ∷ [])

unfoldable pub class_lines : Class → List Line
class_lines c =
    heading_line c.mark c.name ∷ (parents_lines c.parents ++ (creators_lines c.creators ++ (sections_lines c.features
    ++ (assertion_lines 0 terminal.Invariant c.invariant
    ++ line 0 (word terminal.End ∷ []) ∷ []))))

-- each after an empty line
abbrev pub further_classes_lines : List Class → List Line
further_classes_lines [] = []
further_classes_lines (c ∷ cs) = line 0 [] ∷ (class_lines c ++ further_classes_lines cs)

abbrev pub classes_lines : List Class → List Line
classes_lines [] = []
classes_lines (c ∷ cs) = class_lines c ++ further_classes_lines cs
