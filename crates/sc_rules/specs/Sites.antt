-- The parts of a routine's text, and which names are in scope in each (ECMA-367, 8.17 and 8.24).
use Rattle.std.specs.Prelude.{◌≡◌, true, false, List, [], ◌∷◌, ◌++◌, Option, Some, Contains}
use Rattle.sc_text.specs.declared.token.Span.{Span}
use Rattle.sc_tree.specs.declared.expression.UnaryOperator.{UnaryOperator}
use Rattle.sc_tree.specs.declared.expression.BinaryOperator.{BinaryOperator}
use Rattle.sc_tree.specs.Plain.{DeclaredType, Clause, Head, Name, Variable, CreationCall, Creation, Expr, Call, Unary, Binary, ObjectTest, Target, target, Exprs, expr_then, Instr, Assign, CallRoutine, Create, Conditional, if_instr, Iteration, loop_instr, Check, SeparateBlock, block_instr, Instrs, instr_then, Branches, branch_then}
use Rattle.sc_rules.specs.declared.position.Context.{Context}
use Rattle.sc_rules.specs.declared.position.Context.TheVariants as context
use Rattle.sc_rules.specs.declared.position.Position.{Position}
use Rattle.sc_rules.specs.declared.position.Position.TheVariants.{Plain, Condition, Source}
use Rattle.sc_rules.specs.declared.position.Role.TheVariants as role
use Rattle.sc_rules.specs.Positions.{operand_context, operand_position, shares_names}
use Rattle.sc_rules.specs.Names.{RoutineContext, Entities, entity, blocks, block_type}
use Rattle.sc_rules.specs.Typing.{Typing, HasType, Gives}

-- A part of a routine's text, or of a clause, with the entities that are known there.
pub data Site : Type 0 where
  expression : Context → Position → Entities → Expr → Site
  instruction : Entities → Instr → Site
  instructions : Entities → Instrs → Site
  branches : Entities → Branches → Site

-- the expression is one of the actuals
pub data IsActual (e : Expr) : Exprs → Type 0 where
  first_actual : {es : Exprs} → IsActual e (expr_then e es)
  later_actual : {d : Expr} {es : Exprs} → IsActual e es → IsActual e (expr_then d es)

-- The heads of a separate block, each where the entities before it are known, give these names, known in the block's
-- body.
pub data Reserves (h : RoutineContext) (n : Entities) : Entities → List Head → Entities → Type 0 where
  no_more : {m : Entities} → Reserves h n m [] m
  one_more : {m o : Entities} {d : Head} {ds : List Head} {t : Typing} → HasType h context.Body Plain n d.value t →
      Reserves h n (m ++ entity d.name.text (block_type (blocks m) t.type) role.Block ∷ []) ds o →
      Reserves h n m (d ∷ ds) o

-- The second is a part of the first.
pub data Part (h : RoutineContext) : Site → Site → Type 0 where
  -- parts of expressions
  target_part : {c : Context} {k : Position} {n : Entities} {s : Span} {a : Expr} {x : Name} {es : Exprs} →
      Part h (expression c k n (Call s (target a) x es)) (expression c Plain n a)
  actual_part : {c : Context} {k : Position} {n : Entities} {s : Span} {t : Target} {x : Name} {es : Exprs}
      {e : Expr} → IsActual e es →
      Part h (expression c k n (Call s t x es)) (expression c Source n e)
  operand_part : {c : Context} {k : Position} {n : Entities} {s : Span} {op : UnaryOperator} {a : Expr} →
      Part h (expression c k n (Unary s op a)) (expression (operand_context op c) Plain n a)
  left_part : {c : Context} {k : Position} {n : Entities} {s : Span} {op : BinaryOperator} {a b : Expr} →
      shares_names k op ≡ false →
      Part h (expression c k n (Binary s op a b)) (expression c (operand_position op) n a)
  right_part : {c : Context} {k : Position} {n : Entities} {s : Span} {op : BinaryOperator} {a b : Expr} →
      shares_names k op ≡ false →
      Part h (expression c k n (Binary s op a b)) (expression c (operand_position op) n b)
  joined_left_part : {c : Context} {k : Position} {n : Entities} {s : Span} {op : BinaryOperator} {a b : Expr} →
      shares_names k op ≡ true →
      Part h (expression c k n (Binary s op a b)) (expression c Condition n a)
  joined_right_part : {c : Context} {k : Position} {n m : Entities} {s : Span} {op : BinaryOperator} {a b : Expr} →
      shares_names k op ≡ true → Gives h c n a m →
      Part h (expression c k n (Binary s op a b)) (expression c Condition m b)
  tested_part : {c : Context} {k : Position} {n : Entities} {s : Span} {d : Option DeclaredType} {a : Expr} {x : Name} →
      Part h (expression c k n (ObjectTest s d a x)) (expression c Plain n a)
  -- parts of instructions
  source_part : {n : Entities} {s : Span} {v : Variable} {e : Expr} →
      Part h (instruction n (Assign s v e)) (expression context.Body Source n e)
  call_target_part : {n : Entities} {s : Span} {a : Expr} {x : Name} {es : Exprs} →
      Part h (instruction n (CallRoutine s (target a) x es)) (expression context.Body Plain n a)
  call_actual_part : {n : Entities} {s : Span} {t : Target} {x : Name} {es : Exprs} {e : Expr} → IsActual e es →
      Part h (instruction n (CallRoutine s t x es)) (expression context.Body Source n e)
  creation_actual_part : {n : Entities} {s : Span} {creation : Creation} {k : CreationCall} {e : Expr} →
      creation.call ≡ Some k →
      IsActual e k.actuals → Part h (instruction n (Create s creation)) (expression context.Body Source n e)
  condition_part : {n : Entities} {s : Span} {choice : Conditional} →
      Part h (instruction n (if_instr s choice)) (expression context.Body Condition n choice.condition)
  -- the names that the condition gives are known in its `then` part
  then_part : {n m : Entities} {s : Span} {choice : Conditional} → Gives h context.Body n choice.condition m →
      Part h (instruction n (if_instr s choice)) (instructions m choice.body)
  elseif_part : {n : Entities} {s : Span} {choice : Conditional} →
      Part h (instruction n (if_instr s choice)) (branches n choice.branches)
  else_part : {n : Entities} {s : Span} {choice : Conditional} →
      Part h (instruction n (if_instr s choice)) (instructions n choice.other)
  from_part : {n : Entities} {s : Span} {loop : Iteration} →
      Part h (instruction n (loop_instr s loop)) (instructions n loop.initial)
  until_part : {n : Entities} {s : Span} {loop : Iteration} →
      Part h (instruction n (loop_instr s loop)) (expression context.Body Plain n loop.until)
  loop_part : {n : Entities} {s : Span} {loop : Iteration} →
      Part h (instruction n (loop_instr s loop)) (instructions n loop.body)
  check_part : {n : Entities} {s : Span} {ks : List Clause} {k : Clause} → Contains ks k →
      Part h (instruction n (Check s ks)) (expression context.Check Plain n k.condition)
  head_part : {n : Entities} {s : Span} {block : SeparateBlock} {d : Head} → Contains block.heads d →
      Part h (instruction n (block_instr s block)) (expression context.Body Plain n d.value)
  block_part : {n m : Entities} {s : Span} {block : SeparateBlock} → Reserves h n n block.heads m →
      Part h (instruction n (block_instr s block)) (instructions m block.body)
  -- parts of lists
  first_part : {n : Entities} {i : Instr} {is : Instrs} → Part h (instructions n (instr_then i is)) (instruction n i)
  others_part : {n : Entities} {i : Instr} {is : Instrs} → Part h (instructions n (instr_then i is)) (instructions n is)
  branch_condition_part : {n : Entities} {e : Expr} {body : Instrs} {bs : Branches} →
      Part h (branches n (branch_then e body bs)) (expression context.Body Condition n e)
  branch_part : {n m : Entities} {e : Expr} {body : Instrs} {bs : Branches} → Gives h context.Body n e m →
      Part h (branches n (branch_then e body bs)) (instructions m body)
  later_branches_part : {n : Entities} {e : Expr} {body : Instrs} {bs : Branches} →
      Part h (branches n (branch_then e body bs)) (branches n bs)

-- The second is the first itself, or is in a part of it.
pub data Within (h : RoutineContext) : Site → Site → Type 0 where
  itself : {a : Site} → Within h a a
  inside : {a b c : Site} → Part h a b → Within h b c → Within h a c
