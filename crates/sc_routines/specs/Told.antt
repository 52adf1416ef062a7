-- What single functions of the lowering tell: the types of values, and what their code needs.
use Rattle.std.specs.Prelude.{ℕ, ◌+◌, List, ◌++◌, Option, Some, length, max}
use Rattle.std.specs.Option.{option_and_then}
use Rattle.sc_tree.specs.declared.expression.BinaryOperator.{BinaryOperator}
use Rattle.sc_tree.specs.Plain.{System, Expr, Instrs, Clause, CreationCall}
use Rattle.sc_class.specs.Tables.Features.{feature_named}
use Rattle.sc_rules.specs.declared.entity_types.entity_type.EntityType.{EntityType}
use Rattle.sc_rules.specs.Names.{Entities}
use Rattle.sc_model.specs.Environments.{scope_of}
use Rattle.sc_model.specs.Instructions.{actuals_of}
use Rattle.sc_model.specs.Olds.{olds_of_clauses}
use Rattle.sc_model.specs.Routines.{Routine}
use Rattle.sc_code.specs.Places.{Setting, binary_type, feature_type, names_given}
use Rattle.sc_code.specs.Emitted.{checks_depth, expr_depth, expr_slots, exprs_depth, instrs_depth, instrs_slots, locals_of, olds_depth, operand_depth, setting}
use Rattle.sc_routines.specs.declared.lowered.Lowered.{Lowered}
use Rattle.sc_routines.specs.declared.lowered.LoweredActuals.{LoweredActuals}

-- ---- expressions

-- what has no parts, and gives a value of this type
abbrev pub told_of_leaf : Option EntityType → ℕ → Lowered
told_of_leaf t olds = record { value = t; depth = 1; olds = olds; slots = 0 }

-- the type that the feature of this name gives after a target of this type, if both are known
abbrev pub type_behind : System → List ℕ → Option EntityType → Option EntityType
type_behind s x target =
    option_and_then (λ (t : EntityType). feature_type s t (feature_named s t.class x)) target

-- a call of a feature that gives a value of this type, after its target and its actuals
abbrev pub told_of_feature_call : Option EntityType → Lowered → LoweredActuals → Lowered
told_of_feature_call t target actuals =
    record { value = t; depth = max target.depth (actuals.depth + 1); olds = actuals.olds; slots = 0 }

-- a binary operator, after its operands
abbrev pub told_of_binary : BinaryOperator → Lowered → Lowered → Lowered
told_of_binary op left right = record {
  value = Some (binary_type op);
  depth = max left.depth (operand_depth op right.depth);
  olds = right.olds;
  slots = max left.slots right.slots;
}

-- ---- instructions

-- a condition and what stands under it
abbrev pub branch_depth : Setting → Entities → Expr → Instrs → ℕ
branch_depth h n e body = max (expr_depth h n 0 e) (instrs_depth h (names_given h n 0 e) body)

abbrev pub branch_slots : Setting → Entities → Expr → Instrs → ℕ
branch_slots h n e body = max (expr_slots h n 0 e) (instrs_slots h (names_given h n 0 e) body)

-- a creation, by this call if there is one
abbrev pub creation_depth : Setting → Entities → Option CreationCall → ℕ
creation_depth h n call = max 1 (exprs_depth h n 0 (actuals_of call))

-- ---- contracts

-- a precondition, and the `old`s of a postcondition
abbrev pub contract_depth : Setting → Entities → List Clause → List Clause → ℕ
contract_depth h n require ensure = max (checks_depth h n require) (olds_depth h n (olds_of_clauses ensure))

-- ---- own texts

-- a routine's body, where `old`s of these types are kept
abbrev pub own_depth : System → Routine → List EntityType → Entities → ℕ
own_depth s r olds n = instrs_depth (setting s r r.text olds) (n ++ scope_of (locals_of s r)) r.body

abbrev pub own_slots : System → Routine → List EntityType → Entities → ℕ
own_slots s r olds n =
    max (length n + length (locals_of s r)) (instrs_slots (setting s r r.text olds) (n ++ scope_of (locals_of s r)) r.body)
