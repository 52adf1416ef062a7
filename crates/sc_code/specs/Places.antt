-- What is known at a place of a text: types of expressions, and the slot of each name.
use Rattle.std.specs.Prelude.{ℕ, suc, ◌+◌, List, [], ◌∷◌, ◌++◌, Option, Some, None, bytes_eq, slice_get, if◌then◌else◌}
use Rattle.std.specs.Option.{option_map, option_and_then}
use Rattle.sc_tree.specs.declared.expression.UnaryOperator.{UnaryOperator}
use Rattle.sc_tree.specs.declared.expression.UnaryOperator.TheVariants as unary
use Rattle.sc_tree.specs.declared.expression.BinaryOperator.{BinaryOperator}
use Rattle.sc_tree.specs.declared.expression.BinaryOperator.TheVariants as binary
use Rattle.sc_tree.specs.Plain as tree
use Rattle.sc_tree.specs.Plain.{System, DeclaredType, Name, Expr, Exprs, no_exprs, expr_then, Head, Clause}
use Rattle.sc_class.specs.declared.identity.ClassId.TheVariants as class
use Rattle.sc_class.specs.Tables.Features.{DeclaredFeature, feature_named}
use Rattle.sc_rules.specs.declared.entity_types.entity_type.EntityType.{EntityType}
use Rattle.sc_rules.specs.entity_types.Conformance.{void, integer, boolean}
use Rattle.sc_rules.specs.declared.position.Role.TheVariants as role
use Rattle.sc_rules.specs.Names.{RoutineContext, Entities, entity, current, signature_of, test_type, block_type, blocks}
use Rattle.sc_model.specs.Routines.{Text, place_in}
use Rattle.sc_model.specs.Olds.{olds_in}

-- Where a piece of code is emitted: the text, the type of its routine's Result, if that has one, and the types of the
-- `old`s that are kept.
pub record Setting : Type 0 where
  pub system : System
  pub text : Text
  pub result : Option EntityType
  pub olds : List EntityType

abbrev pub here : Setting → RoutineContext
here h = place_in h.system h.text

-- the slot of the first of this name, and its type
abbrev pub slot_named : List ℕ → Entities → Option (ℕ × Option EntityType)
slot_named x [] = None
slot_named x (e ∷ n) =
    if bytes_eq e.name x then Some (0, e.type) else option_map (λ found. (suc found.0, found.1)) (slot_named x n)

-- ---- types

abbrev pub known_type : Option (Option EntityType) → Option EntityType
known_type None = None
known_type (Some t) = t

-- the type of the feature after a target of this type
abbrev pub feature_type : System → EntityType → Option DeclaredFeature → Option EntityType
feature_type s t None = None
feature_type s t (Some f) = known_type (signature_of s t f).gives

-- an entity, or else a feature of Current
abbrev pub name_type : Setting → List ℕ → Option (ℕ × Option EntityType) → Option EntityType
name_type h x (Some found) = found.1
name_type h x None = feature_type h.system (current (here h)) (feature_named h.system (class.Declared h.text.class) x)

abbrev pub unary_type : UnaryOperator → EntityType
unary_type unary.Not = boolean
unary_type op = integer

abbrev pub binary_type : BinaryOperator → EntityType
binary_type binary.Times = integer
binary_type binary.Quotient = integer
binary_type binary.Remainder = integer
binary_type binary.Plus = integer
binary_type binary.Minus = integer
binary_type op = boolean

-- The type of an expression's value. The number is that of the `old`s before it.
abbrev pub expr_type : Setting → Entities → ℕ → Expr → Option EntityType
expr_type h n i (tree.Integer q z) = Some integer
expr_type h n i (tree.Boolean q b) = Some boolean
expr_type h n i (tree.Void q) = Some void
expr_type h n i (tree.Current q) = Some (current (here h))
expr_type h n i (tree.Result q) = known_type h.text.result
expr_type h n i (tree.Call q tree.no_target x es) = name_type h x.text (slot_named x.text n)
expr_type h n i (tree.Call q (tree.target a) x es) =
    option_and_then (λ (t : EntityType). feature_type h.system t (feature_named h.system t.class x.text))
    (expr_type h n i a)
expr_type h n i (tree.Unary q unary.Old a) = slice_get h.olds i
expr_type h n i (tree.Unary q op a) = Some (unary_type op)
expr_type h n i (tree.Binary q op a b) = Some (binary_type op)
expr_type h n i (tree.ObjectTest q d a x) = Some boolean

-- a type before those after it, if there is one
abbrev pub with_type : Option EntityType → List EntityType → List EntityType
with_type None ts = ts
with_type (Some t) ts = t ∷ ts

abbrev pub exprs_types : Setting → Entities → ℕ → Exprs → List EntityType
exprs_types h n i no_exprs = []
exprs_types h n i (expr_then e es) = with_type (expr_type h n i e) (exprs_types h n (i + olds_in e) es)

abbrev pub head_types : Setting → Entities → List Head → List EntityType
head_types h n [] = []
head_types h n (d ∷ ds) = with_type (expr_type h n 0 d.value) (head_types h n ds)

-- the setting with one more `old` kept
abbrev pub with_old : Setting → Option EntityType → Setting
with_old h None = h
with_old h (Some t) = record h { olds = h.olds ++ t ∷ [] }

-- the types of these operands of `old`
abbrev pub old_types : Setting → Entities → List Expr → List EntityType
old_types h n [] = []
old_types h n (e ∷ es) = with_type (expr_type h n 0 e) (old_types (with_old h (expr_type h n 0 e)) n es)

-- ---- names

-- the names and that of an object test
abbrev pub with_test : List ℕ → Option EntityType → Entities → Entities
with_test x t n = n ++ entity x t role.Test ∷ []

-- what is known where the condition holds: the names of its object tests too
abbrev pub names_given : Setting → Entities → ℕ → Expr → Entities
names_given h n i (tree.ObjectTest q d a x) = with_test x.text (test_type (here h) d (expr_type h n i a)) n
names_given h n i (tree.Binary q binary.AndThen a b) = names_given h (names_given h n i a) (i + olds_in a) b
names_given h n i e = n

-- the names, and those of a separate block's heads of these types
abbrev pub with_heads : List Name → List EntityType → Entities → Entities
with_heads [] ts n = n
with_heads (x ∷ xs) [] n = n
with_heads (x ∷ xs) (t ∷ ts) n = with_heads xs ts (n ++ entity x.text (block_type (blocks n) (Some t)) role.Block ∷ [])
