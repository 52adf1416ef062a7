-- Canonical text of worked examples, by computation.
use Rattle.std.specs.Prelude.{◌≡◌, refl, ℕ, pos, true, false, List, [], ◌∷◌, ◌++◌, None, Some, codes}
use Rattle.std.specs.Fmt.{digits}
use Rattle.sc_tree.specs.declared.expression.UnaryOperator.TheVariants as unary
use Rattle.sc_tree.specs.declared.expression.BinaryOperator.TheVariants as binary
use Rattle.sc_tree.specs.Plain as plain
use Rattle.sc_tree.specs.Plain.{Name, HandlerTag, DeclaredType, Own, Separate, HandlerOf, Expr, Integer, Boolean, Void, Current, Call, Unary, Binary, ObjectTest, no_target, target, no_exprs, expr_then, Named, ResultVariable, Clause, Instr, Assign, PrintText, CallRoutine, Create, If, Loop, Check, Block, Instrs, no_instrs, instr_then, no_branches, branch_then, RoutineDeclaration, ClassMark, Deferred, Expanded, Frozen, Feature, System}
use Rattle.sc_tree.specs.Bare.{nowhere, named}
use Rattle.sc_tree.specs.Grammar.{attribute_of, routine_of, class_of, type_of}
use Rattle.sc_tree.specs.Canonical.{canonical_text}
use Rattle.sc_tree.specs.Canonical.Terminals.{terminal_text}
use Rattle.sc_tree.specs.Canonical.Layout.{text_of_part, opens, closes}
use Rattle.sc_tree.specs.Canonical.Expressions.{type_parts, expr_parts}
use Rattle.sc_tree.specs.Canonical.Instructions.{clause_line, head_parts, instr_lines}
use Rattle.sc_tree.specs.Canonical.Classes.{declaration_parts, feature_lines, section_line, parent_line, class_lines}

abbrev integer_type : DeclaredType
integer_type = type_of false Own (named (codes "integer"))

abbrev number : ℕ → Expr
number n = Integer nowhere (pos n)

abbrev local : List ℕ → Expr
local x = Call nowhere no_target (named x) no_exprs

abbrev clause : Expr → Clause
clause e = record { tag = None; condition = e }

abbrev tagged : List ℕ → Expr → Clause
tagged x e = record { tag = Some (named x); condition = e }

abbrev one : Instr → Instrs
one i = instr_then i no_instrs

-- a class with such a mark and invariant
abbrev with_invariant : ClassMark → List Clause → System
with_invariant m is = record { classes = class_of (Some m) (named (codes "a")) [] [] [] is ∷ [] }

-- ---- the example

-- if x < y + 1 * (2 + 3) then print ("a%Nb") end
abbrev conditional : Instr
conditional =
    If nowhere
    (Binary nowhere binary.Less (local (codes "x"))
    (Binary nowhere binary.Plus (local (codes "y")) (Binary nowhere binary.Times (number 1) (Binary nowhere binary.Plus (number 2) (number 3)))))
    (one (PrintText nowhere (codes "a\nb"))) no_branches no_instrs

-- a procedure with no formals
abbrev procedure : Instrs → RoutineDeclaration
procedure is = record { formals = []; result_type = None; precondition = []; locals = []; body = is; postcondition = [] }

-- class a feature x, Y: integer f do .. end end
abbrev example : System
example =
    record {
      classes =
          class_of None (named (codes "a")) [] []
          (attribute_of [] integer_type (named (codes "x")) ∷ attribute_of [] integer_type (named (codes "y"))
          ∷ routine_of [] (named (codes "f")) (procedure (one conditional)) ∷ []) [] ∷ [];
    }

example_text : canonical_text example ≡
    codes "class A\n"
    ++ codes "feature\n"
    ++ codes "\tx: INTEGER\n"
    ++ codes "\ty: INTEGER\n"
    ++ codes "\tf\n"
    ++ codes "\t\tdo\n"
    ++ codes "\t\t\tif x < y + 1 * (2 + 3) then\n"
    ++ codes "\t\t\t\tprint (\"a%Nb\")\n"
    ++ codes "\t\t\tend\n"
    ++ codes "\t\tend\n"
    ++ codes "end\n"
unfolding canonical_text digits terminal_text text_of_part opens closes type_parts expr_parts clause_line head_parts instr_lines declaration_parts feature_lines section_line parent_line class_lines
example_text = refl

nothing_text : canonical_text (record { classes = [] }) ≡ []
unfolding canonical_text
nothing_text = refl

-- ---- operators

operators_text : canonical_text (with_invariant (Deferred nowhere)
    (clause (Binary nowhere binary.Times (number 1) (number 2))
    ∷ clause (Binary nowhere binary.Quotient (number 1) (number 2))
    ∷ clause (Binary nowhere binary.Remainder (number 1) (number 2))
    ∷ clause (Binary nowhere binary.Plus (number 1) (number 2))
    ∷ clause (Binary nowhere binary.Minus (number 1) (number 2))
    ∷ clause (Binary nowhere binary.Equal (number 1) (number 2))
    ∷ clause (Binary nowhere binary.NotEqual (number 1) (number 2))
    ∷ clause (Binary nowhere binary.Less (number 1) (number 2))
    ∷ clause (Binary nowhere binary.Greater (number 1) (number 2))
    ∷ clause (Binary nowhere binary.LessEqual (number 1) (number 2))
    ∷ clause (Binary nowhere binary.GreaterEqual (number 1) (number 2))
    ∷ clause (Binary nowhere binary.And (number 1) (number 2))
    ∷ clause (Binary nowhere binary.AndThen (number 1) (number 2))
    ∷ clause (Binary nowhere binary.Or (number 1) (number 2))
    ∷ clause (Binary nowhere binary.OrElse (number 1) (number 2))
    ∷ clause (Binary nowhere binary.Xor (number 1) (number 2))
    ∷ clause (Binary nowhere binary.Implies (number 1) (number 2))
    ∷ clause (Unary nowhere unary.Not (number 1))
    ∷ clause (Unary nowhere unary.Old (number 1))
    ∷ clause (Unary nowhere unary.Plus (number 1))
    ∷ clause (Unary nowhere unary.Minus (number 1)) ∷ [])) ≡
    codes "deferred class A\n"
    ++ codes "invariant\n"
    ++ codes "\t1 * 2;\n"
    ++ codes "\t1 // 2;\n"
    ++ codes "\t1 \\\\ 2;\n"
    ++ codes "\t1 + 2;\n"
    ++ codes "\t1 - 2;\n"
    ++ codes "\t1 = 2;\n"
    ++ codes "\t1 /= 2;\n"
    ++ codes "\t1 < 2;\n"
    ++ codes "\t1 > 2;\n"
    ++ codes "\t1 <= 2;\n"
    ++ codes "\t1 >= 2;\n"
    ++ codes "\t1 and 2;\n"
    ++ codes "\t1 and then 2;\n"
    ++ codes "\t1 or 2;\n"
    ++ codes "\t1 or else 2;\n"
    ++ codes "\t1 xor 2;\n"
    ++ codes "\t1 implies 2;\n"
    ++ codes "\tnot 1;\n"
    ++ codes "\told 1;\n"
    ++ codes "\t+ 1;\n"
    ++ codes "\t- 1\n"
    ++ codes "end\n"
unfolding canonical_text digits terminal_text text_of_part opens closes type_parts expr_parts clause_line head_parts instr_lines declaration_parts feature_lines section_line parent_line class_lines
operators_text = refl

parentheses_text : canonical_text (with_invariant (Expanded nowhere)
    (clause (Binary nowhere binary.Minus (Binary nowhere binary.Minus (number 1) (number 2)) (number 3))
    ∷ clause (Binary nowhere binary.Minus (number 1) (Binary nowhere binary.Minus (number 2) (number 3)))
    ∷ clause (Binary nowhere binary.Times (Binary nowhere binary.Plus (number 1) (number 2)) (number 3))
    ∷ clause (Binary nowhere binary.Plus (number 1) (Binary nowhere binary.Times (number 2) (number 3)))
    ∷ clause (Binary nowhere binary.Equal (Binary nowhere binary.Less (number 1) (number 2)) (number 3))
    ∷ clause (Binary nowhere binary.Less (number 1) (Binary nowhere binary.Equal (number 2) (number 3)))
    ∷ clause (Binary nowhere binary.Implies (Binary nowhere binary.Implies (number 1) (number 2)) (number 3))
    ∷ clause (Binary nowhere binary.Implies (number 1) (Binary nowhere binary.Implies (number 2) (number 3)))
    ∷ clause (Unary nowhere unary.Not (Binary nowhere binary.And (local (codes "p")) (local (codes "q"))))
    ∷ clause (Binary nowhere binary.Or (Unary nowhere unary.Not (Unary nowhere unary.Not (local (codes "p")))) (local (codes "q"))) ∷ [])) ≡
    codes "expanded class A\n"
    ++ codes "invariant\n"
    ++ codes "\t1 - 2 - 3;\n"
    ++ codes "\t1 - (2 - 3);\n"
    ++ codes "\t(1 + 2) * 3;\n"
    ++ codes "\t1 + 2 * 3;\n"
    ++ codes "\t(1 < 2) = 3;\n"
    ++ codes "\t1 < (2 = 3);\n"
    ++ codes "\t1 implies 2 implies 3;\n"
    ++ codes "\t1 implies (2 implies 3);\n"
    ++ codes "\tnot (p and q);\n"
    ++ codes "\tnot not p or q\n"
    ++ codes "end\n"
unfolding canonical_text digits terminal_text text_of_part opens closes type_parts expr_parts clause_line head_parts instr_lines declaration_parts feature_lines section_line parent_line class_lines
parentheses_text = refl

-- ---- classes

abbrev attribute : List Name → List ℕ → Feature
attribute es x = attribute_of es integer_type (named x)

classes_text : canonical_text (record {
  classes =
      class_of None (named (codes "a")) [] [] [] []
      ∷ class_of (Some (Frozen nowhere)) (named (codes "b"))
      (record { name = named (codes "c"); redefined = named (codes "f") ∷ named (codes "g") ∷ [] } ∷ record { name = named (codes "any"); redefined = [] } ∷ [])
      (named (codes "make") ∷ named (codes "other") ∷ [])
      (attribute (named (codes "none") ∷ []) (codes "p") ∷ attribute (named (codes "none") ∷ []) (codes "q")
      ∷ attribute (named (codes "a") ∷ named (codes "b") ∷ []) (codes "r") ∷ attribute [] (codes "s") ∷ []) [] ∷ [];
}) ≡
    codes "class A\n"
    ++ codes "end\n"
    ++ codes "\n"
    ++ codes "frozen class B\n"
    ++ codes "inherit\n"
    ++ codes "\tC redefine f, g end\n"
    ++ codes "\tANY\n"
    ++ codes "create\n"
    ++ codes "\tmake, other\n"
    ++ codes "feature {NONE}\n"
    ++ codes "\tp: INTEGER\n"
    ++ codes "\tq: INTEGER\n"
    ++ codes "feature {A, B}\n"
    ++ codes "\tr: INTEGER\n"
    ++ codes "feature\n"
    ++ codes "\ts: INTEGER\n"
    ++ codes "end\n"
unfolding canonical_text digits terminal_text text_of_part opens closes type_parts expr_parts clause_line head_parts instr_lines declaration_parts feature_lines section_line parent_line class_lines
classes_text = refl

-- ---- each construct of a routine

abbrev tested : DeclaredType
tested = type_of true (HandlerOf (named (codes "x"))) (named (codes "a"))

abbrev creations : Instrs → Instrs
creations rest =
    instr_then (Create nowhere (record { variable = Named (named (codes "x")); call = None }))
    (instr_then (Create nowhere (record { variable = ResultVariable nowhere; call = Some (record { name = named (codes "make"); actuals = expr_then (number 0) no_exprs }) }))
    (instr_then (Assign nowhere (Named (named (codes "x")))
    (Call nowhere (target (Call nowhere (target (Current nowhere)) (named (codes "a")) no_exprs)) (named (codes "b")) (expr_then (Boolean nowhere true) (expr_then (Boolean nowhere false) no_exprs))))
    (instr_then (Assign nowhere (ResultVariable nowhere) (Void nowhere)) rest)))

abbrev choice : Instr
choice =
    If nowhere (ObjectTest nowhere (Some tested) (plain.Result nowhere) (named (codes "y"))) (one (PrintText nowhere (codes "\t%\"\n%N")))
    (branch_then (ObjectTest nowhere None (plain.Result nowhere) (named (codes "y"))) no_instrs no_branches)
    (one (CallRoutine nowhere no_target (named (codes "print")) (expr_then (number 1) no_exprs)))

abbrev iteration : Instr
iteration =
    Loop nowhere (one (Assign nowhere (Named (named (codes "i"))) (number 0))) (Binary nowhere binary.Greater (local (codes "i")) (number 9))
    (one (Check nowhere (tagged (codes "low") (local (codes "p")) ∷ clause (local (codes "q")) ∷ [])))

abbrev reservation : Instr
reservation =
    Block nowhere (record { value = local (codes "x"); name = named (codes "s") } ∷ record { value = Current nowhere; name = named (codes "t") } ∷ [])
    (one (CallRoutine nowhere (target (local (codes "s"))) (named (codes "go")) no_exprs))

abbrev whole_routine : Feature
whole_routine =
    routine_of [] (named (codes "f"))
    (record {
      formals =
          record { name = named (codes "x"); declared_type = type_of false Separate (named (codes "a")) }
          ∷ record { name = named (codes "i"); declared_type = integer_type } ∷ [];
      result_type = Some (type_of false (HandlerOf (named (codes "x"))) (named (codes "a")));
      precondition = tagged (codes "tag") (local (codes "p")) ∷ [];
      locals = record { name = named (codes "k"); declared_type = type_of true Own (named (codes "b")) } ∷ [];
      body = creations (instr_then choice (instr_then iteration (one reservation)));
      postcondition = clause (local (codes "q")) ∷ [];
    })

routine_text : canonical_text (record { classes = class_of None (named (codes "a")) [] [] (whole_routine ∷ []) [] ∷ [] }) ≡
    codes "class A\n"
    ++ codes "feature\n"
    ++ codes "\tf (x: separate A; i: INTEGER): separate <x.handler> A\n"
    ++ codes "\t\trequire\n"
    ++ codes "\t\t\ttag: p\n"
    ++ codes "\t\tlocal\n"
    ++ codes "\t\t\tk: detachable B\n"
    ++ codes "\t\tdo\n"
    ++ codes "\t\t\tcreate x\n"
    ++ codes "\t\t\tcreate Result.make (0)\n"
    ++ codes "\t\t\tx := Current.a.b (True, False)\n"
    ++ codes "\t\t\tResult := Void\n"
    ++ codes "\t\t\tif attached {detachable separate <x.handler> A} Result as y then\n"
    ++ codes "\t\t\t\tprint (\"%T%%%\"%N%%N\")\n"
    ++ codes "\t\t\telseif attached Result as y then\n"
    ++ codes "\t\t\telse\n"
    ++ codes "\t\t\t\tprint (1)\n"
    ++ codes "\t\t\tend\n"
    ++ codes "\t\t\tfrom\n"
    ++ codes "\t\t\t\ti := 0\n"
    ++ codes "\t\t\tuntil\n"
    ++ codes "\t\t\t\ti > 9\n"
    ++ codes "\t\t\tloop\n"
    ++ codes "\t\t\t\tcheck\n"
    ++ codes "\t\t\t\t\tlow: p;\n"
    ++ codes "\t\t\t\t\tq\n"
    ++ codes "\t\t\t\tend\n"
    ++ codes "\t\t\tend\n"
    ++ codes "\t\t\tseparate x as s, Current as t do\n"
    ++ codes "\t\t\t\ts.go\n"
    ++ codes "\t\t\tend\n"
    ++ codes "\t\tensure\n"
    ++ codes "\t\t\tq\n"
    ++ codes "\t\tend\n"
    ++ codes "end\n"
unfolding canonical_text digits terminal_text text_of_part opens closes type_parts expr_parts clause_line head_parts instr_lines declaration_parts feature_lines section_line parent_line class_lines
routine_text = refl
