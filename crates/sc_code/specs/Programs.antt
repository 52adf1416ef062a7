-- Programs: what the code and the tables of a program are of a system.
use Rattle.std.specs.Prelude.{◌≡◌, ℕ, suc, ◌&&◌, not, Bool, false, List, [], ◌∷◌, Option, Some, None, map, length, sum, slice_get, if◌then◌else◌, string_bytes}
use Rattle.std.specs.List.{filter_map, range_with_len}
use Rattle.std.specs.Option.{option_map}
use Rattle.std.specs.declared.vec.Vec.{Vec}
use Rattle.std.specs.declared.alloc.Global.{Global}
use Rattle.sc_formula.specs.Formula.{PlainFormula}
use Rattle.sc_formula.specs.Plain.{plain_formula}
use Rattle.sc_tree.specs.Plain as tree
use Rattle.sc_tree.specs.Plain.{System, FeatureKind}
use Rattle.sc_class.specs.ClassNames.{Root, number_of}
use Rattle.sc_class.specs.declared.identity.ClassId.TheVariants as class
use Rattle.sc_class.specs.Tables.Conformance.{class_conforms, is_expanded}
use Rattle.sc_class.specs.Tables.Features.{DeclaredFeature, features}
use Rattle.sc_rules.specs.declared.entity_types.entity_type.EntityType.{EntityType}
use Rattle.sc_rules.specs.Types.{is_foreign}
use Rattle.sc_rules.specs.Names as names
use Rattle.sc_rules.specs.Names.{Entity, Entities}
use Rattle.sc_rules.specs.FeatureNumbers.{all_features, feature_number}
use Rattle.sc_model.specs.Values.{Value, default_of}
use Rattle.sc_model.specs.Environments.{Binding}
use Rattle.sc_model.specs.Objects.{fresh_attributes}
use Rattle.sc_model.specs.Routines.{Routine, routine_of, version_of}
use Rattle.sc_code.specs.declared.program.ConstantPool.{ConstantPool}
use Rattle.sc_code.specs.declared.program.ClassCode.{ClassCode}
use Rattle.sc_code.specs.declared.program.RoutineCode.{RoutineCode}
use Rattle.sc_code.specs.declared.program.AttributeCode.{AttributeCode}
use Rattle.sc_code.specs.declared.program.Image.{Image}
use Rattle.sc_code.specs.declared.program.FeatureCode.{FeatureCode}
use Rattle.sc_code.specs.declared.program.FeatureCode.TheVariants as version
use Rattle.sc_code.specs.declared.operation.DefaultValue.{DefaultValue}
use Rattle.sc_code.specs.Operations.{Operation}
use Rattle.sc_code.specs.Places.{known_type}
use Rattle.sc_code.specs.Emitted.{formals_of, routine_code, routine_depth, routine_slots}
use Rattle.sc_code.specs.Room.{routine_olds, routine_blocks}
use Rattle.sc_code.specs.View.{Pool, default_value, operation_of}
use Rattle.sc_code.specs.Attributes.{attribute_number, invariant_classes, own_formulas}

-- ---- tables

abbrev pub lists_of : List (Vec ℕ Global) → List (List ℕ)
lists_of ds = map (λ (d : Vec ℕ Global). d.items) ds

abbrev pub pool_of : ConstantPool → Pool
pool_of p = record {
  names = map string_bytes p.names.items;
  texts = map string_bytes p.texts.items;
  calls = p.calls.items;
  creations = p.creations.items;
  tests = p.tests.items;
  demands = lists_of p.demands.items;
  blocks = p.blocks.items;
}

-- ---- routines

-- A routine in flat code: how many formals it has, the slots of those that it reserves, its Result's default and
-- whether that is of an attached type, what it needs, and its operations, where the tables have what they name.
pub record PlainRoutine : Type 0 where
  pub formals : ℕ
  pub separate_formals : List ℕ
  pub result : Option (Value × Bool)
  pub slots : ℕ
  pub depth : ℕ
  pub olds : ℕ
  pub blocks : ℕ
  pub operations : List (Option Operation)

abbrev pub result_in : DefaultValue × Bool → Value × Bool
result_in r = (default_value r.0, r.1)

-- the routine that code in memory is, by these tables
abbrev pub routine_in : Pool → RoutineCode → PlainRoutine
routine_in p c = record {
  formals = c.formals;
  separate_formals = c.separate_formals.items;
  result = option_map result_in c.result;
  slots = c.slots;
  depth = c.depth;
  olds = c.olds;
  blocks = c.blocks;
  operations = map (operation_of p) c.operations.items;
}

-- of an attached type that isn't of the current handler
abbrev pub is_separate_type : EntityType → Bool
is_separate_type t = t.attached && is_foreign t.tag && not (is_expanded t.class)

abbrev pub is_separate_known : Option EntityType → Bool
is_separate_known None = false
is_separate_known (Some t) = is_separate_type t

-- the slots of the attached separate ones; the first has this slot
abbrev pub separate_slots : ℕ → Entities → List ℕ
separate_slots k [] = []
separate_slots k (e ∷ n) = if is_separate_known e.type then k ∷ separate_slots (suc k) n else separate_slots (suc k) n

abbrev pub result_of : Option EntityType → Option (Value × Bool)
result_of t = option_map (λ (u : EntityType). (default_of u.class, u.attached)) t

-- the routine in flat code
abbrev pub code_of : System → Routine → PlainRoutine
code_of s r = record {
  formals = length r.text.formals;
  separate_formals = separate_slots 0 (formals_of s r);
  result = result_of (known_type r.text.result);
  slots = routine_slots s r;
  depth = routine_depth s r;
  olds = routine_olds r;
  blocks = routine_blocks r;
  operations = map (λ o. Some o) (routine_code s r);
}

-- the features in flat code, if they are routines
abbrev pub codes_of : System → List DeclaredFeature → List (Option PlainRoutine)
codes_of s fs = map (λ f. option_map (code_of s) (routine_of s f)) fs

-- how many instructions those of the features have that are routines
abbrev pub length_of_codes : System → List DeclaredFeature → ℕ
length_of_codes s fs = sum (map (λ r. length (routine_code s r)) (filter_map (routine_of s) fs))

-- how many instructions the routines of a system have
abbrev pub code_length : System → ℕ
code_length s = length_of_codes s (all_features s)

-- ---- classes

-- A class: the defaults of its attributes and whether they are of an attached type, by number; what each name is here;
-- to which classes it conforms; the clauses of its own invariant; and the classes whose clauses make up its joined one.
pub record PlainClass : Type 0 where
  pub attributes : List (Value × Bool)
  pub features : List (Option FeatureCode)
  pub conforms : List Bool
  pub invariant : List PlainFormula
  pub invariant_classes : List ℕ

abbrev pub attribute_in : AttributeCode → Value × Bool
attribute_in a = (default_value a.default, a.is_attached)

-- the class that tables in memory are
abbrev pub class_in : ClassCode → PlainClass
class_in c =
    record {
      attributes = map attribute_in c.attributes.items;
      features = c.features.items;
      conforms = c.conforms.items;
      invariant = map plain_formula c.invariant.items;
      invariant_classes = c.invariant_classes.items;
    }

-- an attribute by its number in the class, a routine by its number among all features
abbrev pub entry_of_kind : System → ℕ → DeclaredFeature → FeatureKind → Option FeatureCode
entry_of_kind s k f (tree.Attribute d) =
    option_map version.Attribute (attribute_number f.feature.name.text (fresh_attributes s (features s k)))
entry_of_kind s k f (tree.Routine d) = option_map version.Routine (feature_number s (names.routine_of f))

abbrev pub entry_of_feature : System → ℕ → Option DeclaredFeature → Option FeatureCode
entry_of_feature s k None = None
entry_of_feature s k (Some f) = entry_of_kind s k f f.feature.kind

-- what the name is in the class at the number
abbrev pub version_entry : System → ℕ → List ℕ → Option FeatureCode
version_entry s k x = entry_of_feature s k (version_of s k x)

-- the class at the number, where names have these numbers; each table is read at one place, so dynamic binding takes
-- constant time
abbrev pub class_code_of : System → List (List ℕ) → ℕ → PlainClass
class_code_of s names k = record {
  attributes = map (λ (b : Binding). (b.value, b.type.attached)) (fresh_attributes s (features s k));
  features = map (version_entry s k) names;
  conforms = map (λ j. class_conforms s (class.Declared k) (class.Declared j)) (range_with_len 0 (length s.classes));
  invariant = own_formulas s k;
  invariant_classes = invariant_classes s k;
}

-- the classes of the system, where names have these numbers
abbrev pub class_codes_of : System → List (List ℕ) → List PlainClass
class_codes_of s names = map (class_code_of s names) (range_with_len 0 (length s.classes))

-- ---- programs

-- The image is the system in flat code, run from the root.
pub record IsProgramOf (s : System) (root : Root) (p : Image) : Type 0 where
  pub routines : map (option_map (routine_in (pool_of p.pool))) p.routines.items ≡ codes_of s (all_features s)
  pub classes : map class_in p.classes.items ≡ class_codes_of s (pool_of p.pool).names
  pub root_class : number_of s root.class ≡ Some p.root_class
  pub root_procedure : slice_get (pool_of p.pool).names p.root_procedure ≡ Some root.procedure
  pub instructions : p.instructions ≡ code_length s
