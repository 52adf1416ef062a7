-- Which rule fails where in a routine's text (ECMA-367, 8.9, 8.17, 8.20, 8.22 to 8.24 and 8.28).
use Rattle.std.specs.Prelude.{◌≡◌, Bool, true, false, List, [], ◌∷◌, Option, Some, None, Contains}
use Rattle.sc_text.specs.declared.token.Span.{Span}
use Rattle.sc_tree.specs.declared.expression.UnaryOperator.{UnaryOperator}
use Rattle.sc_tree.specs.declared.expression.BinaryOperator.{BinaryOperator}
use Rattle.sc_tree.specs.Plain as plain
use Rattle.sc_tree.specs.Plain.{System, DeclaredType, Clause, Head, Name, Variable, Named, ResultVariable, CreationCall, Creation, Expr, Void, Call, Unary, Binary, ObjectTest, Target, no_target, Exprs, Instr, Assign, CallRoutine, Create, Conditional, if_instr, Iteration, loop_instr, Check, SeparateBlock, block_instr, Instrs, Branches, branch_then}
use Rattle.sc_class.specs.declared.identity.ClassId.{ClassId}
use Rattle.sc_class.specs.declared.identity.ClassId.TheVariants as class
use Rattle.sc_class.specs.Names.{is_listed}
use Rattle.sc_class.specs.Tables.Declared.{creators_of}
use Rattle.sc_rules.specs.declared.entity_types.tag.Tag.{Tag}
use Rattle.sc_rules.specs.declared.entity_types.tag.Tag.TheVariants as tag
use Rattle.sc_rules.specs.declared.entity_types.entity_type.EntityType.{EntityType}
use Rattle.sc_rules.specs.entity_types.Conformance.{conforms}
use Rattle.sc_rules.specs.declared.rule.Rule.{Rule}
use Rattle.sc_rules.specs.declared.rule.Rule.TheVariants.{UnknownName, ArgumentType, AssignType, ResultType, NotBoolean, OperatorType, NotAssignable, NotCreation, CreationTag, ObjectTestPlace, OldPlace, VoidUse}
use Rattle.sc_rules.specs.declared.position.Context.{Context}
use Rattle.sc_rules.specs.declared.position.Context.TheVariants as context
use Rattle.sc_rules.specs.declared.position.Position.{Position}
use Rattle.sc_rules.specs.declared.position.Position.TheVariants.{Plain, Condition, Source}
use Rattle.sc_rules.specs.declared.position.Use.TheVariants.{Value, Instruction}
use Rattle.sc_rules.specs.Types.{TypeFails, is_boolean, unary_result, binary_result}
use Rattle.sc_rules.specs.Positions.{span_of, is_old, is_ensure, is_condition, takes_void, operand_context, operand_position, shares_names}
use Rattle.sc_rules.specs.Names.{RoutineContext, Entities, Signature, named, qualified_meaning, unknown_assignee, unassignable, assignee, assignee_type, variable_span}
use Rattle.sc_rules.specs.Typing.{Typing, typing, HasType, Gives}
use Rattle.sc_rules.specs.Sites.{Site, expression, instruction, branches, Within}
use Rattle.sc_rules.specs.CallRules.{count, Mismatches, AtName, CallFails}

-- ---- expressions

-- At an expression. Types are judged if there are any.
pub data ExpressionFails (h : RoutineContext) : Context → Position → Entities → Expr → Rule → Span → Type 0 where
  void_use : {c : Context} {k : Position} {n : Entities} {s : Span} → takes_void k ≡ false →
      ExpressionFails h c k n (Void s) VoidUse s
  no_result : {c : Context} {k : Position} {n : Entities} {s : Span} → h.result ≡ None →
      ExpressionFails h c k n (plain.Result s) ResultType s
  in_call : {c : Context} {k : Position} {n : Entities} {s p : Span} {a : Target} {x : Name} {es : Exprs} {r : Rule} →
      CallFails h c n Value a x es r p →
      ExpressionFails h c k n (Call s a x es) r p
  operand : {c : Context} {k : Position} {n : Entities} {s : Span} {op : UnaryOperator} {a : Expr} {t : Typing} →
      HasType h (operand_context op c) Plain n a t →
      unary_result op t.type ≡ None → ExpressionFails h c k n (Unary s op a) OperatorType s
  operands : {c : Context} {k : Position} {n : Entities} {s : Span} {op : BinaryOperator} {a b : Expr} {t u : Typing} →
      shares_names k op ≡ false →
      HasType h c (operand_position op) n a t → HasType h c (operand_position op) n b u →
      binary_result op t.type u.type ≡ None →
      ExpressionFails h c k n (Binary s op a b) OperatorType s
  joined_operands : {c : Context} {k : Position} {n m : Entities} {s : Span} {op : BinaryOperator} {a b : Expr}
      {t u : Typing} → shares_names k op ≡ true →
      HasType h c Condition n a t → Gives h c n a m → HasType h c Condition m b u →
      binary_result op t.type u.type ≡ None →
      ExpressionFails h c k n (Binary s op a b) OperatorType s
  old_outside : {c : Context} {k : Position} {n : Entities} {s : Span} {op : UnaryOperator} {a : Expr} →
      is_old op ≡ true → is_ensure c ≡ false →
      ExpressionFails h c k n (Unary s op a) OldPlace s
  old_over_separate : {c : Context} {k : Position} {n : Entities} {s : Span} {op : UnaryOperator} {a : Expr}
      {t : Option EntityType} → is_old op ≡ true →
      HasType h (operand_context op c) Plain n a (typing t true) → ExpressionFails h c k n (Unary s op a) OldPlace s
  misplaced_test : {c : Context} {k : Position} {n : Entities} {s : Span} {d : Option DeclaredType} {a : Expr}
      {x : Name} → is_condition k ≡ false →
      ExpressionFails h c k n (ObjectTest s d a x) ObjectTestPlace s
  tested_type : {c : Context} {k : Position} {n : Entities} {s p : Span} {d : DeclaredType} {a : Expr} {x : Name}
      {r : Rule} →
      TypeFails h.system h.formals d r p → ExpressionFails h c k n (ObjectTest s (Some d) a x) r p

-- ---- what is assigned or created

-- The left side, or the entity of a `create`, means nothing, or is no attribute, no local and no Result of a
-- function.
pub data VariableFails (h : RoutineContext) (n : Entities) : Variable → Rule → Span → Type 0 where
  no_entity : {x : Name} → assignee h n (Named x) ≡ unknown_assignee → VariableFails h n (Named x) UnknownName x.span
  no_result_here : {s : Span} → h.result ≡ None → VariableFails h n (ResultVariable s) ResultType s
  not_assignable : {v : Variable} → assignee h n v ≡ unassignable → VariableFails h n v NotAssignable (variable_span v)

abbrev pub is_tagged : Tag → Bool
is_tagged (tag.With x) = true
is_tagged tag.Own = false
is_tagged tag.Any = false
is_tagged tag.None = false

abbrev pub is_empty : List Name → Bool
is_empty [] = true
is_empty (n ∷ ns) = false

-- An object of the class is made without a procedure: the class isn't ANY or expanded, and has no `create` clause.
abbrev pub is_made_without_procedure : System → ClassId → Bool
is_made_without_procedure s (class.Declared k) = is_empty (creators_of s k)
is_made_without_procedure s class.Any = false
is_made_without_procedure s class.None = false
is_made_without_procedure s class.Integer = false
is_made_without_procedure s class.Boolean = false

-- the class lists the procedure under `create`
abbrev pub is_made_by : System → ClassId → Name → Bool
is_made_by s (class.Declared k) x = is_listed x.text (creators_of s k)
is_made_by s class.Any x = false
is_made_by s class.None x = false
is_made_by s class.Integer x = false
is_made_by s class.Boolean x = false

-- In the creation of an object for an entity of this type. A creation that is separate makes an object of a new
-- handler, which isn't known: its target has the tag `any`, as the entity has.
pub data CreationFails (h : RoutineContext) (n : Entities) (v : Variable) (t : EntityType) : Option CreationCall →
    Rule → Span → Type 0 where
  tagged : {k : Option CreationCall} → is_tagged t.tag ≡ true → CreationFails h n v t k CreationTag (variable_span v)
  without_procedure : is_made_without_procedure h.system t.class ≡ false →
      CreationFails h n v t None NotCreation (variable_span v)
  creation_argument : {k : CreationCall} {g : Signature} {p : Span} → qualified_meaning h t k.name.text ≡ named g →
      Mismatches h context.Body n k.actuals g.target g.formals k.actuals p →
      CreationFails h n v t (Some k) ArgumentType p
  at_procedure : {k : CreationCall} {r : Rule} →
      AtName h context.Body no_target Instruction (qualified_meaning h t k.name.text) (count k.actuals) r →
      CreationFails h n v t (Some k) r k.name.span
  not_listed : {k : CreationCall} → is_made_by h.system t.class k.name ≡ false →
      CreationFails h n v t (Some k) NotCreation k.name.span

-- ---- conditions

-- The expression has a type that isn't BOOLEAN.
pub data NoCondition (h : RoutineContext) (c : Context) (k : Position) (n : Entities) (e : Expr) : Rule → Span →
    Type 0 where
  not_boolean : {t : EntityType} {b : Bool} → HasType h c k n e (typing (Some t) b) → is_boolean t.class ≡ false →
      NoCondition h c k n e NotBoolean (span_of e)

-- ---- instructions

-- the type that the head of a separate block has: attached `separate ANY`
abbrev pub separate_any : EntityType
separate_any = record { attached = true; tag = tag.Any; class = class.Any }

-- At an instruction.
pub data InstructionFails (h : RoutineContext) (n : Entities) : Instr → Rule → Span → Type 0 where
  left_side : {s p : Span} {v : Variable} {e : Expr} {r : Rule} → VariableFails h n v r p →
      InstructionFails h n (Assign s v e) r p
  right_side : {s : Span} {v : Variable} {e : Expr} {t a : EntityType} {b : Bool} →
      assignee_type (assignee h n v) ≡ Some t →
      HasType h context.Body Source n e (typing (Some a) b) → conforms h.system a t ≡ false →
      InstructionFails h n (Assign s v e) AssignType (span_of e)
  call_instruction : {s p : Span} {a : Target} {x : Name} {es : Exprs} {r : Rule} →
      CallFails h context.Body n Instruction a x es r p →
      InstructionFails h n (CallRoutine s a x es) r p
  created_entity : {s p : Span} {creation : Creation} {r : Rule} → VariableFails h n creation.variable r p →
      InstructionFails h n (Create s creation) r p
  creation : {s p : Span} {creation : Creation} {t : EntityType} {r : Rule} →
      assignee_type (assignee h n creation.variable) ≡ Some t →
      CreationFails h n creation.variable t creation.call r p → InstructionFails h n (Create s creation) r p
  if_condition : {s p : Span} {choice : Conditional} {r : Rule} →
      NoCondition h context.Body Condition n choice.condition r p →
      InstructionFails h n (if_instr s choice) r p
  until_condition : {s p : Span} {loop : Iteration} {r : Rule} → NoCondition h context.Body Plain n loop.until r p →
      InstructionFails h n (loop_instr s loop) r p
  check_clause : {s p : Span} {ks : List Clause} {k : Clause} {r : Rule} → Contains ks k →
      NoCondition h context.Check Plain n k.condition r p →
      InstructionFails h n (Check s ks) r p
  head : {s : Span} {block : SeparateBlock} {d : Head} {t : EntityType} {b : Bool} → Contains block.heads d →
      HasType h context.Body Plain n d.value (typing (Some t) b) → conforms h.system t separate_any ≡ false →
      InstructionFails h n (block_instr s block) ArgumentType (span_of d.value)

-- ---- all of a text

-- At this site.
pub data FailsAt (h : RoutineContext) : Site → Rule → Span → Type 0 where
  at_expression : {c : Context} {k : Position} {n : Entities} {e : Expr} {r : Rule} {p : Span} →
      ExpressionFails h c k n e r p → FailsAt h (expression c k n e) r p
  at_instruction : {n : Entities} {i : Instr} {r : Rule} {p : Span} → InstructionFails h n i r p →
      FailsAt h (instruction n i) r p
  at_branch : {n : Entities} {e : Expr} {body : Instrs} {bs : Branches} {r : Rule} {p : Span} →
      NoCondition h context.Body Condition n e r p →
      FailsAt h (branches n (branch_then e body bs)) r p

-- At this site or at one inside it.
pub data Fails (h : RoutineContext) (a : Site) (r : Rule) (p : Span) : Type 0 where
  fails : {b : Site} → Within h a b → FailsAt h b r p → Fails h a r p

-- In a clause of a contract or an invariant: in its expression, or where that isn't BOOLEAN.
pub data ClauseFails (h : RoutineContext) (c : Context) (n : Entities) (k : Clause) : Rule → Span → Type 0 where
  in_clause : {r : Rule} {p : Span} → Fails h (expression c Plain n k.condition) r p → ClauseFails h c n k r p
  clause_type : {r : Rule} {p : Span} → NoCondition h c Plain n k.condition r p → ClauseFails h c n k r p
