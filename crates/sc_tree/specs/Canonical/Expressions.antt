-- Names, types and expressions in canonical text.
use Rattle.std.specs.Prelude.{ℕ, suc, nat_le, Bool, if◌then◌else◌, List, [], ◌∷◌, ◌++◌, map, Option, None, Some}
use Rattle.sc_text.specs.Kind.{NAME, INTEGER}
use Rattle.sc_text.specs.declared.token.Terminal.{Terminal}
use Rattle.sc_text.specs.declared.token.Terminal.TheVariants as terminal
use Rattle.sc_tree.specs.declared.expression.BinaryOperator.{BinaryOperator}
use Rattle.sc_tree.specs.Plain as plain
use Rattle.sc_tree.specs.Plain.{Name, HandlerTag, Own, Separate, HandlerOf, DeclaredType, Expr, Integer, Boolean, Void, Current, Call, Unary, Binary, ObjectTest, Target, no_target, target, Exprs, no_exprs, expr_then}
use Rattle.sc_tree.specs.Grammar.{class_below, groups, terminals_of, prefix_of}
use Rattle.sc_tree.specs.Canonical.Layout.{Part, Token, ClassName, HandlerOfName, word, separated}

-- ---- names and types

abbrev pub name_part : Name → Part
name_part n = Token (NAME n.text)

abbrev pub class_name_part : Name → Part
class_name_part n = ClassName n.text

-- names with commas between them
abbrev pub names_parts : List Name → List Part
names_parts = separated (word terminal.Comma) (λ n. name_part n ∷ [])

abbrev pub class_names_parts : List Name → List Part
class_names_parts = separated (word terminal.Comma) (λ n. class_name_part n ∷ [])

abbrev pub handler_tag_parts : HandlerTag → List Part
handler_tag_parts Own = []
handler_tag_parts Separate = word terminal.Separate ∷ []
handler_tag_parts (HandlerOf n) = word terminal.Separate ∷ HandlerOfName n.text ∷ []

-- An attached type has no mark.
abbrev pub attachment_parts : Bool → List Part
attachment_parts is_detachable = if is_detachable then word terminal.Detachable ∷ [] else []

unfoldable pub type_parts : DeclaredType → List Part
type_parts t = attachment_parts t.is_detachable ++ (handler_tag_parts t.tag ++ class_name_part t.class ∷ [])

abbrev pub tested_type_parts : Option DeclaredType → List Part
tested_type_parts None = []
tested_type_parts (Some t) = word terminal.OpenBrace ∷ (type_parts t ++ word terminal.CloseBrace ∷ [])

-- ---- expressions

-- the class of an expression's operators: 0 unless an operator is between two operands
abbrev pub class_of_expr : Expr → ℕ
class_of_expr (Binary s op a b) = suc (class_below op)
class_of_expr _ = 0

-- the greatest class that the left operand may have without parentheses
abbrev pub left_class : BinaryOperator → ℕ
left_class op = if groups (class_below op) then suc (class_below op) else class_below op

-- An expression is in parentheses only if its class is too great.
abbrev pub in_class : ℕ → ℕ → List Part → List Part
in_class class allowed ps =
    if nat_le class allowed then ps else word terminal.OpenParenthesis ∷ (ps ++ word terminal.CloseParenthesis ∷ [])

abbrev pub boolean_word : Bool → Terminal
boolean_word b = if b then terminal.True else terminal.False

unfoldable mutual
  pub expr_parts : Expr → List Part
  expr_parts (Integer s n) = Token (INTEGER n) ∷ []
  expr_parts (Boolean s b) = word (boolean_word b) ∷ []
  expr_parts (Void s) = word terminal.Void ∷ []
  expr_parts (Current s) = word terminal.Current ∷ []
  expr_parts (plain.Result s) = word terminal.Result ∷ []
  expr_parts (Call s t n es) = behind_target t (name_part n ∷ actuals_parts es)
  expr_parts (Unary s op a) = word (prefix_of op) ∷ in_class (class_of_expr a) 0 (expr_parts a)
  expr_parts (Binary s op a b) =
      in_class (class_of_expr a) (left_class op) (expr_parts a)
      ++ (map word (terminals_of op) ++ in_class (class_of_expr b) (class_below op) (expr_parts b))
  expr_parts (ObjectTest s t a n) =
      word terminal.Attached ∷ (tested_type_parts t ++ (expr_parts a ++ word terminal.As ∷ name_part n ∷ []))

  pub behind_target : Target → List Part → List Part
  behind_target no_target ps = ps
  behind_target (target a) ps = expr_parts a ++ word terminal.Dot ∷ ps

  pub actuals_parts : Exprs → List Part
  actuals_parts no_exprs = []
  actuals_parts (expr_then e es) =
      word terminal.OpenParenthesis ∷ (expr_parts e ++ (more_actuals_parts es ++ word terminal.CloseParenthesis ∷ []))

  pub more_actuals_parts : Exprs → List Part
  more_actuals_parts no_exprs = []
  more_actuals_parts (expr_then e es) = word terminal.Comma ∷ (expr_parts e ++ more_actuals_parts es)

abbrev pub call_parts : Target → Name → Exprs → List Part
call_parts t n es = behind_target t (name_part n ∷ actuals_parts es)
