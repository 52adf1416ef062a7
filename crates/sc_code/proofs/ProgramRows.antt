-- A whole system with the tables that its programs have.
use Rattle.std.proofs.Common.{ℕ, ◌≡◌, Bool, true, false, List, [], ◌∷◌, Option, Some, None, map, refl, sym, ap, ◌∙◌}
use Rattle.std.specs.Prelude.{pos, codes, unwrap_or}
use Rattle.std.specs.List.{range_with_len}
use Rattle.std.specs.Option.{option_map}
use Rattle.sc_tree.specs.declared.expression.BinaryOperator.TheVariants as binary
use Rattle.sc_tree.specs.Plain.{System}
use Rattle.sc_formula.specs.declared.comparison.Comparison.TheVariants as comparison
use Rattle.sc_formula.specs.Formula as formula
use Rattle.sc_formula.specs.Formula.{PlainFormula}
use Rattle.sc_formula.specs.Term as term
use Rattle.sc_model.proofs.Texts as text
use Rattle.sc_model.proofs.Texts.{integer, number, entity, both, routine, procedure, class, application, system, heir_of, root}
use Rattle.sc_model.specs.Values as value
use Rattle.sc_rules.specs.FeatureNumbers.{all_features}
use Rattle.sc_code.specs.Operations.{Operation, PushInteger, CallRoutine, StoreAttribute, StoreResult, Exit}
use Rattle.sc_code.specs.declared.program.Image.{Image}
use Rattle.sc_code.specs.declared.program.FeatureCode.TheVariants as version
use Rattle.sc_model.specs.Invariants.{formulas_of}
use Rattle.sc_code.specs.JoinedInvariants.{joined_invariant}
use Rattle.sc_code.specs.Programs.{PlainRoutine, PlainClass, IsProgramOf, class_code_of, class_codes_of, class_in, codes_of, pool_of, routine_in}

-- a class with an invariant, and its heir, which redefines a function of it
abbrev redefining : System
redefining = system (
    application
    (text.attribute (codes "n") integer
    ∷ procedure (codes "make") [] (text.assign (codes "n") (entity (codes "step")) ∷ [])
    ∷ routine (codes "step") [] (Some integer) [] (text.assign_result (number (pos 1)) ∷ []) ∷ [])
    (both (entity (codes "n")) binary.GreaterEqual (number (pos 0)) ∷ [])
    ∷ heir_of (codes "application") (codes "step" ∷ []) (class (codes "heir") [] (routine (codes "step") [] (Some integer) [] (text.assign_result (number (pos 2)) ∷ []) ∷ []) [])
    ∷ [])

-- a procedure without formals that has these operations
abbrev plain : List Operation → PlainRoutine
plain operations = record {
  formals = 0;
  separate_formals = [];
  result = None;
  slots = 0;
  depth = 1;
  olds = 0;
  blocks = 0;
  operations = map (λ o. Some o) operations;
}

abbrev function : List Operation → PlainRoutine
function operations = record (plain operations) { result = Some (value.Integer (pos 0), true) }

-- make, and both versions of step; an attribute has no code
abbrev codes_redefining : List (Option PlainRoutine)
codes_redefining =
    None
    ∷ Some (plain (CallRoutine (record { name = codes "step"; count = 0; gives = Some true; is_own = true; passes = false }) ∷ StoreAttribute (codes "n") ∷ Exit ∷ []))
    ∷ Some (function (PushInteger (pos 1) ∷ StoreResult ∷ Exit ∷ []))
    ∷ Some (function (PushInteger (pos 2) ∷ StoreResult ∷ Exit ∷ [])) ∷ []

pub codes_of_redefining : codes_of redefining (all_features redefining) ≡ codes_redefining
codes_of_redefining = refl

-- the tables of a class in which step is the routine of this number, that conforms to these and declares these clauses
abbrev table : ℕ → List Bool → List PlainFormula → PlainClass
table step conforms invariant = record {
  attributes = (value.Integer (pos 0), true) ∷ [];
  features = Some (version.Attribute 0) ∷ Some (version.Routine step) ∷ None ∷ Some (version.Routine 1) ∷ [];
  conforms = conforms;
  invariant = invariant;
  invariant_classes = 0 ∷ [];
}

abbrev not_negative : ℕ → PlainFormula
not_negative k = formula.Compared (term.Attribute k) comparison.GreaterOrEqual (term.Integer (pos 0))

abbrev tables : List PlainClass
tables = table 2 (true ∷ false ∷ []) (not_negative 0 ∷ []) ∷ table 3 (true ∷ true ∷ []) [] ∷ []

-- where these are the names of the program; the heir keeps the clause of its parent, has what it doesn't redefine, and conforms to it
pub classes_of_redefining :
    map (class_code_of redefining (codes "n" ∷ codes "step" ∷ codes "other" ∷ codes "make" ∷ [])) (range_with_len 0 2)
    ≡ tables
classes_of_redefining = refl

-- What each program of the system is: nothing of its code is left to choose.
pub record IsRedefining (p : Image) : Type 0 where
  pub routines : map (option_map (routine_in (pool_of p.pool))) p.routines.items ≡ codes_redefining
  pub instructions : p.instructions ≡ 9
  pub root_class : p.root_class ≡ 0
  pub classes : (pool_of p.pool).names ≡ codes "n" ∷ codes "step" ∷ codes "other" ∷ codes "make" ∷ []
      → map class_in p.classes.items ≡ tables

pub programs_of_redefining : (p : Image) → IsProgramOf redefining root p → IsRedefining p
programs_of_redefining p q = record {
  routines = q.routines ∙ codes_of_redefining;
  instructions = q.instructions;
  root_class = sym (ap (λ o. unwrap_or o 0) q.root_class);
  classes = λ e. q.classes ∙ ap (λ names. map (class_code_of redefining names) (range_with_len 0 2)) e ∙ classes_of_redefining;
}

-- ---- joined invariants

-- a class with a clause; its heir, which has none and an attribute more; and that one's heir with one more of each
abbrev joining : System
joining = system (
    application (text.attribute (codes "n") integer ∷ procedure (codes "make") [] [] ∷ []) (both (entity (codes "n")) binary.GreaterEqual (number (pos 0)) ∷ [])
    ∷ heir_of (codes "application") [] (class (codes "middle") [] (text.attribute (codes "k") integer ∷ []) [])
    ∷ heir_of (codes "middle") [] (class (codes "lowest") [] (text.attribute (codes "m") integer ∷ []) (both (entity (codes "m")) binary.Less (entity (codes "n")) ∷ []))
    ∷ [])

-- In the lowest class its own attribute is the first and that of the first class the last.
abbrev joined : List PlainFormula
joined = not_negative 2 ∷ formula.Compared (term.Attribute 0) comparison.Less (term.Attribute 2) ∷ []

-- it has its own clause alone, and those two classes' make up its joined invariant
pub lowest_states : (class_code_of joining [] 2).invariant ≡ formula.Compared (term.Attribute 0) comparison.Less (term.Attribute 2) ∷ []
lowest_states = refl

pub lowest_keeps : (class_code_of joining [] 2).invariant_classes ≡ 2 ∷ 0 ∷ []
lowest_keeps = refl

pub lowest_is_joined : joined_invariant (class_codes_of joining []) 2 ≡ joined
lowest_is_joined = refl

-- which is what the machine has
pub lowest_is_known : formulas_of joining 2 ≡ Some joined
lowest_is_known = refl
