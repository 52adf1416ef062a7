-- The scopes of formals, locals, object tests and blocks (ECMA-367, 8.8 and 8.24), and the names that clash in them.
use Rattle.std.specs.Prelude.{◌≡◌, ℕ, List, [], ◌∷◌, ◌++◌, Option, Some, Any, map}
use Rattle.sc_text.specs.declared.token.Span.{Span}
use Rattle.sc_tree.specs.declared.expression.UnaryOperator.{UnaryOperator}
use Rattle.sc_tree.specs.declared.expression.BinaryOperator.{BinaryOperator}
use Rattle.sc_tree.specs.declared.expression.BinaryOperator.TheVariants.{AndThen}
use Rattle.sc_tree.specs.Plain.{System, Class, FeatureKind, Routine, RoutineDeclaration, Declaration, DeclaredType, Clause, Head, Name, Variable, Creation, CreationCall, Conditional, Iteration, SeparateBlock, Expr, Call, Unary, Binary, ObjectTest, Target, target, Exprs, expr_then, Instr, Assign, CallRoutine, Create, if_instr, loop_instr, Check, block_instr, Instrs, instr_then, Branches, branch_then}
use Rattle.sc_class.specs.Tables.Features.{DeclaredFeature, redefined_by, not_redefined, inherited_features, features}
use Rattle.sc_class.specs.Names.{Clashes, OneClashes}

-- The names that a condition binds if it holds: those of the object tests that it is, or that its `and then`s join.
abbrev pub tests_of : Expr → List Name
tests_of (ObjectTest s t e n) = n ∷ []
tests_of (Binary s AndThen a b) = tests_of a ++ tests_of b
tests_of _ = []

mutual
  -- In an expression, the name of an object test clashes with a known one.
  pub data ExprClashes (known : List Name) : Expr → Span → Type 0 where
    in_target : {s p : Span} {t : Target} {n : Name} {es : Exprs} → TargetClashes known t p →
        ExprClashes known (Call s t n es) p
    in_actuals : {s p : Span} {t : Target} {n : Name} {es : Exprs} → ExprsClash known es p →
        ExprClashes known (Call s t n es) p
    in_operand : {s p : Span} {op : UnaryOperator} {a : Expr} → ExprClashes known a p →
        ExprClashes known (Unary s op a) p
    in_left : {s p : Span} {op : BinaryOperator} {a b : Expr} → ExprClashes known a p →
        ExprClashes known (Binary s op a b) p
    in_right : {s p : Span} {op : BinaryOperator} {a b : Expr} → ExprClashes known b p →
        ExprClashes known (Binary s op a b) p
    in_tested : {s p : Span} {t : Option DeclaredType} {e : Expr} {n : Name} → ExprClashes known e p →
        ExprClashes known (ObjectTest s t e n) p
    test_name : {s p : Span} {t : Option DeclaredType} {e : Expr} {n : Name} → Clashes known n p →
        ExprClashes known (ObjectTest s t e n) p

  pub data TargetClashes (known : List Name) : Target → Span → Type 0 where
    in_target_value : {e : Expr} {p : Span} → ExprClashes known e p → TargetClashes known (target e) p

  pub data ExprsClash (known : List Name) : Exprs → Span → Type 0 where
    in_first : {e : Expr} {es : Exprs} {p : Span} → ExprClashes known e p → ExprsClash known (expr_then e es) p
    in_others : {e : Expr} {es : Exprs} {p : Span} → ExprsClash known es p → ExprsClash known (expr_then e es) p

-- In the condition of an `if`: the names that the left operand of an `and then` gives are known in its right one.
pub data ConditionClashes : List Name → Expr → Span → Type 0 where
  in_whole : {known : List Name} {e : Expr} {p : Span} → ExprClashes known e p → ConditionClashes known e p
  in_left_test : {known : List Name} {s p : Span} {a b : Expr} → ConditionClashes known a p →
      ConditionClashes known (Binary s AndThen a b) p
  in_right_test : {known : List Name} {s p : Span} {a b : Expr} → ConditionClashes (known ++ tests_of a) b p →
      ConditionClashes known (Binary s AndThen a b) p

-- in one of several clauses
abbrev pub ClausesClash : List Name → List Clause → Span → Type 0
ClausesClash known clauses p = Any (λ k. ExprClashes known k.condition p) clauses

abbrev pub head_names : List Head → List Name
head_names heads = map (λ h. h.name) heads

mutual
  -- in an instruction
  pub data InstrClashes : List Name → Instr → Span → Type 0 where
    in_source : {known : List Name} {s p : Span} {v : Variable} {e : Expr} → ExprClashes known e p →
        InstrClashes known (Assign s v e) p
    in_call_target : {known : List Name} {s p : Span} {t : Target} {n : Name} {es : Exprs} → TargetClashes known t p →
        InstrClashes known (CallRoutine s t n es) p
    in_call_actuals : {known : List Name} {s p : Span} {t : Target} {n : Name} {es : Exprs} → ExprsClash known es p →
        InstrClashes known (CallRoutine s t n es) p
    in_creation : {known : List Name} {s p : Span} {c : Creation} {k : CreationCall} → c.call ≡ Some k →
        ExprsClash known k.actuals p → InstrClashes known (Create s c) p
    in_if : {known : List Name} {s p : Span} {c : Conditional} → ConditionClashes known c.condition p →
        InstrClashes known (if_instr s c) p
    in_then : {known : List Name} {s p : Span} {c : Conditional} →
        InstrsClash (known ++ tests_of c.condition) c.body p → InstrClashes known (if_instr s c) p
    in_elseif : {known : List Name} {s p : Span} {c : Conditional} → BranchesClash known c.branches p →
        InstrClashes known (if_instr s c) p
    in_else : {known : List Name} {s p : Span} {c : Conditional} → InstrsClash known c.other p →
        InstrClashes known (if_instr s c) p
    in_from : {known : List Name} {s p : Span} {l : Iteration} → InstrsClash known l.initial p →
        InstrClashes known (loop_instr s l) p
    in_until : {known : List Name} {s p : Span} {l : Iteration} → ExprClashes known l.until p →
        InstrClashes known (loop_instr s l) p
    in_loop : {known : List Name} {s p : Span} {l : Iteration} → InstrsClash known l.body p →
        InstrClashes known (loop_instr s l) p
    in_check : {known : List Name} {s p : Span} {clauses : List Clause} → ClausesClash known clauses p →
        InstrClashes known (Check s clauses) p
    in_heads : {known : List Name} {s p : Span} {b : SeparateBlock} → Any (λ h. ExprClashes known h.value p) b.heads →
        InstrClashes known (block_instr s b) p
    head_name : {known : List Name} {s p : Span} {b : SeparateBlock} → OneClashes known (head_names b.heads) p →
        InstrClashes known (block_instr s b) p
    in_block : {known : List Name} {s p : Span} {b : SeparateBlock} →
        InstrsClash (known ++ head_names b.heads) b.body p → InstrClashes known (block_instr s b) p

  -- in one of several instructions
  pub data InstrsClash : List Name → Instrs → Span → Type 0 where
    in_first_instr : {known : List Name} {i : Instr} {is : Instrs} {p : Span} → InstrClashes known i p →
        InstrsClash known (instr_then i is) p
    in_other_instrs : {known : List Name} {i : Instr} {is : Instrs} {p : Span} → InstrsClash known is p →
        InstrsClash known (instr_then i is) p

  -- in an `elseif`, its condition or its instructions
  pub data BranchesClash : List Name → Branches → Span → Type 0 where
    in_branch_condition : {known : List Name} {e : Expr} {body : Instrs} {bs : Branches} {p : Span} →
        ConditionClashes known e p → BranchesClash known (branch_then e body bs) p
    in_branch : {known : List Name} {e : Expr} {body : Instrs} {bs : Branches} {p : Span} →
        InstrsClash (known ++ tests_of e) body p → BranchesClash known (branch_then e body bs) p
    in_later_branch : {known : List Name} {e : Expr} {body : Instrs} {bs : Branches} {p : Span} →
        BranchesClash known bs p → BranchesClash known (branch_then e body bs) p

abbrev pub entity_names : List Declaration → List Name
entity_names ds = map (λ d. d.name) ds

abbrev pub feature_names : List DeclaredFeature → List Name
feature_names fs = map (λ f. f.feature.name) fs

-- In a routine: its formals are known in all of it, as the features of its class are, and its locals in its body alone.
pub data RoutineClashes (known : List Name) : FeatureKind → Span → Type 0 where
  entity : {r : RoutineDeclaration} {p : Span} → OneClashes known (entity_names r.formals ++ entity_names r.locals) p →
      RoutineClashes known (Routine r) p
  in_precondition : {r : RoutineDeclaration} {p : Span} →
      ClausesClash (known ++ entity_names r.formals) r.precondition p → RoutineClashes known (Routine r) p
  in_body : {r : RoutineDeclaration} {p : Span} →
      InstrsClash (known ++ entity_names r.formals ++ entity_names r.locals) r.body p →
      RoutineClashes known (Routine r) p
  in_postcondition : {r : RoutineDeclaration} {p : Span} →
      ClausesClash (known ++ entity_names r.formals) r.postcondition p → RoutineClashes known (Routine r) p

-- the names of the features that the class at the number inherits and doesn't redefine
abbrev pub inherited_names : System → ℕ → Class → List Name
inherited_names s k c = feature_names (not_redefined (redefined_by c) (inherited_features s k))

-- In the class at the number, one of the features that it declares is like one that it inherits and doesn't redefine
-- or like one before it, or names clash in a routine of its own text or in its invariant, where its features are
-- known.
pub data ClassClashes (s : System) (k : ℕ) (c : Class) : Span → Type 0 where
  in_features : {p : Span} → OneClashes (inherited_names s k c) (map (λ f. f.name) c.features) p → ClassClashes s k c p
  in_routine : {p : Span} → Any (λ f. RoutineClashes (feature_names (features s k)) f.kind p) c.features →
      ClassClashes s k c p
  in_invariant : {p : Span} → ClausesClash (feature_names (features s k)) c.invariant p → ClassClashes s k c p
