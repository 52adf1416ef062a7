-- What single functions of the lowering add and tell, of which the code of an expression consists.
use Rattle.std.specs.Prelude.{◌≡◌, ℕ, List, [], ◌∷◌, ◌++◌, Option, Some, None, length, map, if◌then◌else◌}
use Rattle.std.specs.List.{filter_map}
use Rattle.std.specs.Option.{option_map}
use Rattle.sc_tree.specs.declared.expression.BinaryOperator.{BinaryOperator}
use Rattle.sc_tree.specs.declared.expression.Call.{Call}
use Rattle.sc_tree.specs.Plain as tree
use Rattle.sc_tree.specs.Plain.{System, Declaration, DeclaredType, FeatureKind, Variable, CreationCall, Expr, Exprs, Head, Clause, Instrs}
use Rattle.sc_tree.specs.Properties.{is_print}
use Rattle.sc_tree.specs.View.{name_of, target_of, exprs_of}
use Rattle.sc_class.specs.Tables.Features.{DeclaredFeature, feature_named}
use Rattle.sc_rules.specs.declared.entity_types.entity_type.EntityType.{EntityType}
use Rattle.sc_rules.specs.CallRules.{count}
use Rattle.sc_rules.specs.Names.{Assignee, Entities, FormalType, assignee, assignee_type, formal_type, given_type, signature_of, test_type}
use Rattle.sc_rules.specs.Types.{declared_type}
use Rattle.sc_model.specs.Environments.{scope_of}
use Rattle.sc_model.specs.Instructions.{actuals_of, procedure_of}
use Rattle.sc_model.specs.Olds.{olds_of_clauses}
use Rattle.sc_model.specs.Operators.{is_short}
use Rattle.sc_model.specs.Routines.{Routine}
use Rattle.sc_routines.specs.declared.own_feature.OwnFeature.{OwnFeature}
use Rattle.sc_routines.specs.declared.own_feature.OwnFeature.TheVariants as own
use Rattle.sc_code.specs.Operations.{Operation, CallSite, PushSlot, Decide, Test, Open, Leave}
use Rattle.sc_code.specs.Places.{Setting, expr_type, exprs_types, head_types, here, known_type, with_heads, with_test}
use Rattle.sc_code.specs.Emitted.{assign_code, create_code, declare_code, expr_code, exprs_code, feature_call, formal_slot, heads_code, instruction_call, instrs_code, locals_of, names_of, olds_code, require_code, right_code, routine_call, setting, site_of, store_code, tested, variable_slot}

-- a call as an expression
abbrev pub call_in : Call → Expr
call_in c = tree.Call c.span (target_of c.target) (name_of c.name) (exprs_of c.actuals.items)

-- a call of the feature of this name after a target of this type, if there is such a feature
abbrev pub site_named : System → List ℕ → ℕ → EntityType → List EntityType → Option CallSite
site_named s x c t ts =
    option_map (λ (f : DeclaredFeature). site_of x c t ts (signature_of s t f)) (feature_named s t.class x)

-- an entity in the slot is read, if its type is known
abbrev pub slot_code : ℕ → Option EntityType → List Operation
slot_code k None = []
slot_code k (Some t) = PushSlot k t.attached ∷ []

-- what a name of the class is, after a Current of this type
abbrev pub own_kind : System → EntityType → FeatureKind → OwnFeature
own_kind s t (tree.Attribute d) = own.Attribute (given_type s t d)
own_kind s t (tree.Routine r) = own.Routine (known_type (option_map (given_type s t) r.result_type))

abbrev pub own_feature : System → EntityType → Option DeclaredFeature → OwnFeature
own_feature s t None = own.Unknown
own_feature s t (Some f) = own_kind s t f.feature.kind

-- what stands between the operands of an operator, before it is known how much a decision passes
abbrev pub opened : BinaryOperator → List Operation
opened op = if is_short op then Decide op 0 ∷ [] else []

-- It comes after the operands, and the right one begins at this place.
abbrev pub ClosesRight : BinaryOperator → ℕ → List Operation → List Operation → Type 0
ClosesRight op place code closed = (base right : List Operation) → code ≡ base ++ (opened op ++ right) →
    place ≡ length base → closed ≡ base ++ right_code op right

-- ---- calls

-- a call of a routine of Current, or of a feature after a target of this type, after its actuals
abbrev pub routine_call_code : Setting → Call → List EntityType → List Operation
routine_call_code h c ts = routine_call h (name_of c.name).text (length c.actuals.items) ts

abbrev pub feature_call_code : Setting → Call → Option EntityType → List EntityType → List Operation
feature_call_code h c t ts = feature_call h (name_of c.name).text (length c.actuals.items) t ts

-- a call that is an instruction, of what stands for the name in Current, where this is the code of its actuals
abbrev pub own_call_code : Setting → List ℕ → List Operation → ℕ → List EntityType → List Operation
own_call_code h x actuals n ts = instruction_call (is_print x) actuals (routine_call h x n ts)

-- one with a target
abbrev pub qualified_call_code : Setting → Entities → Expr → List ℕ → Exprs → List Operation
qualified_call_code h n target x es =
    expr_code h n 0 target
    ++ (exprs_code h n 0 es ++ feature_call h x (count es) (expr_type h n 0 target) (exprs_types h n 0 es))

-- the types of formals, as calls ask for them
abbrev pub formal_types : System → List Declaration → List FormalType
formal_types s ds = map (λ (d : Declaration). formal_type (declared_type s ds d.declared_type)) ds

-- ---- object tests

-- an object test after its operand, which fills this slot
abbrev pub test_code : Setting → Entities → Option DeclaredType → ℕ → List Operation
test_code h n d slot = Test (tested h n d) slot ∷ []

-- the names, and that of an object test of this type, whose operand has that type
abbrev pub with_tested : Setting → Option DeclaredType → Option EntityType → List ℕ → Entities → Entities
with_tested h d t x n = with_test x (test_type (here h) d t) n

-- ---- instructions

-- the last value becomes the variable's, which stands for this
abbrev pub stored_code : Variable → Assignee → Entities → List Operation
stored_code v a n = store_code v a (variable_slot v n)

-- a creation: its actuals, the creation itself, and the assignment of the object
abbrev pub created_code : Setting → Entities → Variable → Option CreationCall → List Operation
created_code h n v call =
    exprs_code h n 0 (actuals_of call)
    ++ (create_code h (procedure_of call) (count (actuals_of call)) (exprs_types h n 0 (actuals_of call))
    (assignee_type (assignee (here h) n v)) ++ assign_code h n v)

-- a separate block
abbrev pub block_code : Setting → Entities → List Head → Instrs → List Operation
block_code h n ds body =
    heads_code h n ds ++ Open (length n) (length ds)
    ∷ (instrs_code h (with_heads (names_of ds) (head_types h n ds) n) body ++ Leave ∷ [])

-- ---- contracts

-- the slots of those of the names that are formals
abbrev pub slots_of : Entities → List (List ℕ) → List ℕ
slots_of n xs = filter_map (λ x. formal_slot x n) xs

-- a precondition, and the `old`s of a postcondition
abbrev pub contract_code : Setting → Entities → List Clause → List Clause → List Operation
contract_code h n require ensure = require_code h n require ++ olds_code h n (olds_of_clauses ensure)

-- ---- own texts

-- the defaults of a routine's locals and its body, where `old`s of these types are kept
abbrev pub own_code : System → Routine → List EntityType → Entities → List Operation
own_code s r olds n =
    declare_code (length n) (locals_of s r) ++ instrs_code (setting s r r.text olds) (n ++ scope_of (locals_of s r)) r.body
