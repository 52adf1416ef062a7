-- Rows of the grammar, each read by computation. In the comments a letter stands for each name.
use Rattle.std.proofs.Common.{◌≡◌, ℕ, ℤ, true, false, [], ◌∷◌, Option, Some, None, Ok, Err, refl}
use Rattle.sc_text.specs.Kind.{Kind, NAME, INTEGER, STRING, TERMINAL}
use Rattle.sc_text.specs.declared.token.Terminal.{Terminal}
use Rattle.sc_text.specs.declared.token.Terminal.TheVariants as terminal
use Rattle.sc_tree.specs.declared.expression.UnaryOperator.TheVariants as unary
use Rattle.sc_tree.specs.declared.expression.BinaryOperator.TheVariants as binary
use Rattle.sc_tree.specs.Plain as plain
use Rattle.sc_tree.specs.Plain.{Name, Own, Separate, HandlerOf, DeclaredType, Expr, Integer, Void, Current, Call, Unary, Binary, ObjectTest, no_target, target, no_exprs, expr_then, Named, ResultVariable, Assign, PrintText, CallRoutine, Create, Loop, Check, Block, no_instrs, instr_then, RoutineDeclaration, Deferred}
use Rattle.sc_tree.specs.Bare.{nowhere, named}
use Rattle.sc_tree.specs.Grammar.{print_name, handler_name, class_of, attribute_of, routine_of, type_of, any_name, none_name}
use Rattle.sc_tree.specs.Internal.Reading.{Wrong, Deep, same_terminal, expect, expect_word, more_names, names, attachment, handler_of, handler_tag, declared_type, tested_type, parenthesized, more_exprs, exprs, actuals, calling, chain_head, calls, chain, object_test, primary, prefixed, operand, operators, level, expr, nested, clause, clauses_from, clauses, assertion, nested_clauses, variable, nested_chain, assignment, printing, routine_call, creation, branch, branches, other, conditional, iteration, checked, checking, head, more_heads, heads, block, instr, instrs_from, body, instrs, nested_instrs, declaration, more_declarations, formals, locals_from, locals, result_type, export_list, exports, mark, parent, parents_from, parents, creators, routine, attributes, feature, features_from, sections_from, sections, class_marked, class, classes_from, system}

abbrev word : Terminal → Kind
word = TERMINAL

abbrev identifier : ℕ → Kind
identifier x = NAME (x ∷ [])

abbrev name : ℕ → Name
name x = named (x ∷ [])

abbrev local : ℕ → Expr
local x = Call nowhere no_target (name x) no_exprs

abbrev own : ℕ → DeclaredType
own x = type_of false Own (name x)

record ExpressionRows : Type 0 where
  -- a.f (1, b).c
  chain : (i : ℤ) → expr 2 6 (identifier 1 ∷ word terminal.Dot ∷ identifier 2 ∷ word terminal.OpenParenthesis ∷ INTEGER i ∷ word terminal.Comma
      ∷ identifier 3 ∷ word terminal.CloseParenthesis ∷ word terminal.Dot ∷ identifier 4 ∷ []) ≡ Ok (
        Call nowhere (target (Call nowhere (target
            (local 1)) (name 2) (expr_then (Integer nowhere i) (expr_then (local 3) no_exprs)))) (name 4) no_exprs,
        2,
        [],
      )
  -- a.b.c, one too deep
  deep_chain : expr 1 6 (identifier 1 ∷ word terminal.Dot ∷ identifier 2 ∷ word terminal.Dot ∷ identifier 4 ∷ []) ≡ Err Deep
  -- attached {detachable separate <x.handler> T} Current.a as b and then old not Void = Result
  object_test : expr 4 6 (word terminal.Attached ∷ word terminal.OpenBrace ∷ word terminal.Detachable ∷ word terminal.Separate ∷ word terminal.Less
      ∷ identifier 9 ∷ word terminal.Dot ∷ NAME handler_name ∷ word terminal.Greater ∷ identifier 8 ∷ word terminal.CloseBrace ∷ word terminal.Current
      ∷ word terminal.Dot ∷ identifier 1 ∷ word terminal.As ∷ identifier 2 ∷ word terminal.And ∷ word terminal.Then ∷ word terminal.Old
      ∷ word terminal.Not ∷ word terminal.Void ∷ word terminal.Equal ∷ word terminal.Result ∷ []) ≡ Ok (
        Binary nowhere binary.AndThen
            (ObjectTest nowhere (Some (type_of true (HandlerOf (name 9)) (name 8))) (Call nowhere (target (Current nowhere)) (name 1) no_exprs) (name 2))
            (Binary nowhere binary.Equal (Unary nowhere unary.Old (Unary nowhere unary.Not (Void nowhere))) (plain.Result nowhere)),
        4,
        [],
      )
  -- ( ) where nothing may be nested
  empty_parentheses : expr 0 6 (word terminal.OpenParenthesis ∷ word terminal.CloseParenthesis ∷ []) ≡ Err Deep
  -- (a) there
  parentheses : expr 0 6 (word terminal.OpenParenthesis ∷ identifier 1 ∷ word terminal.CloseParenthesis ∷ []) ≡ Err Deep

expression_rows : ExpressionRows
unfolding same_terminal expect expect_word more_names names attachment handler_of handler_tag declared_type tested_type parenthesized more_exprs exprs actuals calling chain_head calls chain object_test primary prefixed operand operators level expr nested
expression_rows = record { chain = λ i. refl; deep_chain = refl; object_test = refl; empty_parentheses = refl; parentheses = refl }

record InstructionRows : Type 0 where
  -- from ; x := 1 until b loop create Result.f (1) create y check end end print ("a") separate a.b as c, d as e do print (c) end Current.f Result :=
  -- x
  instructions : (i : ℤ) → instrs 3 (word terminal.From ∷ word terminal.Semicolon ∷ identifier 1 ∷ word terminal.Becomes ∷ INTEGER i
      ∷ word terminal.Until ∷ identifier 2 ∷ word terminal.Loop ∷ word terminal.Create ∷ word terminal.Result ∷ word terminal.Dot ∷ identifier 3
      ∷ word terminal.OpenParenthesis ∷ INTEGER i ∷ word terminal.CloseParenthesis ∷ word terminal.Create ∷ identifier 4 ∷ word terminal.Check
      ∷ word terminal.End ∷ word terminal.End ∷ NAME print_name ∷ word terminal.OpenParenthesis ∷ STRING (65 ∷ []) ∷ word terminal.CloseParenthesis
      ∷ word terminal.Separate ∷ identifier 5 ∷ word terminal.Dot ∷ identifier 6 ∷ word terminal.As ∷ identifier 7 ∷ word terminal.Comma
      ∷ identifier 8 ∷ word terminal.As ∷ identifier 9 ∷ word terminal.Do ∷ NAME print_name ∷ word terminal.OpenParenthesis ∷ identifier 7
      ∷ word terminal.CloseParenthesis ∷ word terminal.End ∷ word terminal.Current ∷ word terminal.Dot ∷ identifier 1 ∷ word terminal.Result
      ∷ word terminal.Becomes ∷ identifier 1 ∷ []) ≡ Ok (
        instr_then (Loop nowhere (instr_then (Assign nowhere (Named (name 1))
            (Integer nowhere i)) no_instrs) (local 2) (instr_then (Create nowhere (record {
              variable = ResultVariable nowhere;
              call = Some
                  (record { name = name 3; actuals = expr_then (Integer nowhere i) no_exprs });
            })) (instr_then (Create nowhere (record { variable = Named (name 4); call = None })) (instr_then
            (Check nowhere []) no_instrs)))) (instr_then (PrintText nowhere (65 ∷ [])) (instr_then (Block nowhere (record {
              value = Call nowhere (target
                  (local 5)) (name 6) no_exprs;
              name = name 7;
            } ∷ record { value = local 8; name = name 9 } ∷ []) (instr_then (CallRoutine nowhere no_target
            (named print_name) (expr_then (local 7) no_exprs)) no_instrs)) (instr_then (CallRoutine nowhere (target (Current nowhere)) (name 1) no_exprs)
            (instr_then (Assign nowhere (ResultVariable nowhere) (local 1)) no_instrs)))),
        2,
        [],
      )
  -- check end where nothing may be nested
  empty_check : instrs 0 (word terminal.Check ∷ word terminal.End ∷ []) ≡ Ok (instr_then (Check nowhere []) no_instrs, 0, [])
  -- check ; end there
  semicolon_check : instrs 0 (word terminal.Check ∷ word terminal.Semicolon ∷ word terminal.End ∷ []) ≡ Err Deep
  -- from end there
  from_end : instrs 0 (word terminal.From ∷ word terminal.End ∷ []) ≡ Err Deep
  -- from until a loop end there, and one less deep
  deep_loop : instrs 0 (word terminal.From ∷ word terminal.Until ∷ identifier 1 ∷ word terminal.Loop ∷ word terminal.End ∷ []) ≡ Err Deep
  fitting_loop : instrs 1 (word terminal.From ∷ word terminal.Until ∷ identifier 1 ∷ word terminal.Loop ∷ word terminal.End ∷ []) ≡ Ok (
    instr_then
        (Loop nowhere no_instrs (local 1) no_instrs) no_instrs,
    1,
    [],
  )
  -- separate do end where nothing may be nested
  empty_block : instrs 0 (word terminal.Separate ∷ word terminal.Do ∷ word terminal.End ∷ []) ≡ Err Deep
  -- separate a as b do end there
  deep_block : instrs 0 (word terminal.Separate ∷ identifier 1 ∷ word terminal.As ∷ identifier 2 ∷ word terminal.Do ∷ word terminal.End ∷ [])
      ≡ Err Deep
  -- create a.b there, and one less deep
  deep_creation : instrs 0 (word terminal.Create ∷ identifier 1 ∷ word terminal.Dot ∷ identifier 2 ∷ []) ≡ Err Deep
  fitting_creation : instrs 1 (word terminal.Create ∷ identifier 1 ∷ word terminal.Dot ∷ identifier 2 ∷ []) ≡ Ok (
    instr_then (Create nowhere (record {
      variable = Named
          (name 1);
      call = Some (record { name = name 2; actuals = no_exprs });
    })) no_instrs,
    1,
    [],
  )
  -- Current alone
  lone_current : instrs 9 (word terminal.Current ∷ []) ≡ Err Wrong
  -- print := a print.b where nothing may be nested
  print_as_name : instrs 0 (NAME print_name ∷ word terminal.Becomes ∷ identifier 1 ∷ NAME print_name ∷ word terminal.Dot ∷ identifier 2 ∷ [])
      ≡ Err Deep
  -- a + b there
  deep_clause : clauses 0 (identifier 1 ∷ word terminal.Plus ∷ identifier 2 ∷ []) ≡ Err Deep
  -- a b: c
  clauses_without_semicolon : clauses 0 (identifier 1 ∷ identifier 2 ∷ word terminal.Colon ∷ identifier 3 ∷ []) ≡ Ok
      (record { tag = None; condition = local 1 } ∷ record { tag = Some (name 2); condition = local 3 } ∷ [], 0, [])
  -- attached a as b (c)
  clause_behind_test : clauses 0 (word terminal.Attached ∷ identifier 1 ∷ word terminal.As ∷ identifier 2 ∷ word terminal.OpenParenthesis
      ∷ identifier 3 ∷ word terminal.CloseParenthesis ∷ []) ≡ Err Wrong

instruction_rows : InstructionRows
unfolding same_terminal expect expect_word more_names names attachment handler_of handler_tag declared_type tested_type parenthesized more_exprs exprs actuals calling chain_head calls chain object_test primary prefixed operand operators level expr nested clause clauses_from clauses assertion nested_clauses variable nested_chain assignment printing routine_call creation branch branches other conditional iteration checked checking head more_heads heads block instr instrs_from body instrs nested_instrs
instruction_rows = record { instructions = λ i. refl; empty_check = refl; semicolon_check = refl; from_end = refl; deep_loop = refl; fitting_loop = refl; empty_block = refl; deep_block = refl; deep_creation = refl; fitting_creation = refl; lone_current = refl; print_as_name = refl; deep_clause = refl; clauses_without_semicolon = refl; clause_behind_test = refl }

-- a routine with a result type, if any, and nothing else
abbrev without_body : Option DeclaredType → RoutineDeclaration
without_body t = record { formals = []; result_type = t; precondition = []; locals = []; body = no_instrs; postcondition = [] }

record SystemRows : Type 0 where
  -- note end x deferred class A inherit B redefine f end ; C create f feature {ANY} a, b: T; feature {} f (x: T y, z: ? T): separate T is require t:
  -- x; y local u: T; v: T do ensure x end g: T h do end invariant c note deferred end class D end
  classes : system 1 (word terminal.Note ∷ word terminal.End ∷ identifier 1 ∷ word terminal.Deferred ∷ word terminal.Class ∷ identifier 10
      ∷ word terminal.Inherit ∷ identifier 11 ∷ word terminal.Redefine ∷ identifier 1 ∷ word terminal.End ∷ word terminal.Semicolon ∷ identifier 12
      ∷ word terminal.Create ∷ identifier 1 ∷ word terminal.Feature ∷ word terminal.OpenBrace ∷ NAME any_name ∷ word terminal.CloseBrace
      ∷ identifier 2 ∷ word terminal.Comma ∷ identifier 3 ∷ word terminal.Colon ∷ identifier 20 ∷ word terminal.Semicolon ∷ word terminal.Feature
      ∷ word terminal.OpenBrace ∷ word terminal.CloseBrace ∷ identifier 4 ∷ word terminal.OpenParenthesis ∷ identifier 5 ∷ word terminal.Colon
      ∷ identifier 20 ∷ identifier 6 ∷ word terminal.Comma ∷ identifier 7 ∷ word terminal.Colon ∷ word terminal.Question ∷ identifier 20
      ∷ word terminal.CloseParenthesis ∷ word terminal.Colon ∷ word terminal.Separate ∷ identifier 20 ∷ word terminal.Is ∷ word terminal.Require
      ∷ identifier 8 ∷ word terminal.Colon ∷ identifier 5 ∷ word terminal.Semicolon ∷ identifier 6 ∷ word terminal.Local ∷ identifier 13
      ∷ word terminal.Colon ∷ identifier 20 ∷ word terminal.Semicolon ∷ identifier 14 ∷ word terminal.Colon ∷ identifier 20 ∷ word terminal.Do
      ∷ word terminal.Ensure ∷ identifier 5 ∷ word terminal.End ∷ identifier 15 ∷ word terminal.Colon ∷ identifier 20 ∷ identifier 16
      ∷ word terminal.Do ∷ word terminal.End ∷ word terminal.Invariant ∷ identifier 2 ∷ word terminal.Note ∷ word terminal.Deferred
      ∷ word terminal.End ∷ word terminal.Class ∷ identifier 21 ∷ word terminal.End ∷ []) ≡ Ok (record {
        classes = class_of (Some (Deferred nowhere))
            (name 10) (record { name = name 11; redefined = name 1 ∷ [] } ∷ record { name = name 12; redefined = [] } ∷ []) (name 1 ∷ []) (attribute_of []
            (own 20) (name 2) ∷ attribute_of [] (own 20) (name 3) ∷ routine_of (named none_name ∷ []) (name 4)
            (record {
              formals = record { name = name 5; declared_type = own 20 } ∷ record { name = name 6; declared_type = type_of true Own (name 20) }
                  ∷ record { name = name 7; declared_type = type_of true Own (name 20) } ∷ [];
              result_type = Some (type_of false Separate (name 20));
              precondition = record { tag = Some (name 8); condition = local 5 } ∷ record { tag = None; condition = local 6 } ∷ [];
              locals = record { name = name 13; declared_type = own 20 } ∷ record { name = name 14; declared_type = own 20 } ∷ [];
              body = no_instrs;
              postcondition = record { tag = None; condition = local 5 } ∷ [];
            }) ∷ attribute_of
            (named none_name ∷ []) (own 20) (name 15) ∷ routine_of (named none_name ∷ []) (name 16) (without_body None) ∷ [])
            (record { tag = None; condition = local 2 } ∷ []) ∷ class_of None (name 21) [] [] [] [] ∷ [];
      })
  -- class a feature {ANY, b} c: d end
  any_among_others : system 0 (word terminal.Class ∷ identifier 1 ∷ word terminal.Feature ∷ word terminal.OpenBrace ∷ NAME any_name
      ∷ word terminal.Comma ∷ identifier 2 ∷ word terminal.CloseBrace ∷ identifier 3 ∷ word terminal.Colon ∷ identifier 4 ∷ word terminal.End ∷ [])
      ≡ Ok (record { classes = class_of None (name 1) [] [] (attribute_of (named any_name ∷ name 2 ∷ []) (own 4) (name 3) ∷ []) [] ∷ [] })
  -- class a feature c: d do end end
  function : system 0 (word terminal.Class ∷ identifier 1 ∷ word terminal.Feature ∷ identifier 3 ∷ word terminal.Colon ∷ identifier 4
      ∷ word terminal.Do ∷ word terminal.End ∷ word terminal.End ∷ []) ≡ Ok (record {
        classes = class_of None (name 1) [] [] (routine_of []
            (name 3) (without_body (Some (own 4))) ∷ []) [] ∷ [];
      })
  -- class a feature c () do end end
  no_formals : system 0 (word terminal.Class ∷ identifier 1 ∷ word terminal.Feature ∷ identifier 3 ∷ word terminal.OpenParenthesis
      ∷ word terminal.CloseParenthesis ∷ word terminal.Do ∷ word terminal.End ∷ word terminal.End ∷ []) ≡ Err Wrong
  -- class a feature c (e: d): d end
  attribute_with_formals : system 0 (word terminal.Class ∷ identifier 1 ∷ word terminal.Feature ∷ identifier 3 ∷ word terminal.OpenParenthesis
      ∷ identifier 5 ∷ word terminal.Colon ∷ identifier 4 ∷ word terminal.CloseParenthesis ∷ word terminal.Colon ∷ identifier 4 ∷ word terminal.End
      ∷ []) ≡ Err Wrong
  -- class a feature c: d e: !d end
  two_attributes : system 0 (word terminal.Class ∷ identifier 1 ∷ word terminal.Feature ∷ identifier 3 ∷ word terminal.Colon ∷ identifier 4
      ∷ identifier 5 ∷ word terminal.Colon ∷ word terminal.Exclamation ∷ identifier 4 ∷ word terminal.End ∷ []) ≡ Ok (record {
        classes = class_of None
            (name 1) [] [] (attribute_of [] (own 4) (name 3) ∷ attribute_of [] (own 4) (name 5) ∷ []) [] ∷ [];
      })
  -- frozen class a inherit b ; ; end
  two_semicolons : system 0 (word terminal.Frozen ∷ word terminal.Class ∷ identifier 1 ∷ word terminal.Inherit ∷ identifier 2
      ∷ word terminal.Semicolon ∷ word terminal.Semicolon ∷ word terminal.End ∷ []) ≡ Err Wrong
  -- class a indexing note class end indexing end class b end
  notes : system 0 (word terminal.Class ∷ identifier 1 ∷ word terminal.Indexing ∷ word terminal.Note ∷ word terminal.Class ∷ word terminal.End
      ∷ word terminal.Indexing ∷ word terminal.End ∷ word terminal.Class ∷ identifier 2 ∷ word terminal.End ∷ []) ≡ Ok
      (record { classes = class_of None (name 1) [] [] [] [] ∷ class_of None (name 2) [] [] [] [] ∷ [] })
  -- no tokens
  nothing_at_all : system 0 [] ≡ Ok (record { classes = [] })

system_rows : SystemRows
unfolding same_terminal expect expect_word more_names names attachment handler_of handler_tag declared_type tested_type parenthesized more_exprs exprs actuals calling chain_head calls chain object_test primary prefixed operand operators level expr nested clause clauses_from clauses assertion nested_clauses variable nested_chain assignment printing routine_call creation branch branches other conditional iteration checked checking head more_heads heads block instr instrs_from body instrs nested_instrs declaration more_declarations formals locals_from locals result_type export_list exports mark parent parents_from parents creators routine attributes feature features_from sections_from sections class_marked class classes_from system
system_rows = record { classes = refl; any_among_others = refl; function = refl; no_formals = refl; attribute_with_formals = refl; two_attributes = refl; two_semicolons = refl; notes = refl; nothing_at_all = refl }
