-- The tree as definitions see it: each node with its span, and nothing of where it lies in memory.
use Rattle.std.specs.Prelude.{ℕ, ℤ, Bool, List, Option}
use Rattle.sc_text.specs.declared.token.Span.{Span}
use Rattle.sc_tree.specs.declared.expression.UnaryOperator.{UnaryOperator}
use Rattle.sc_tree.specs.declared.expression.BinaryOperator.{BinaryOperator}

-- A name, in lower case, and its place.
pub record Name : Type 0 where
  pub text : List ℕ
  pub span : Span

-- what a type says of the handler of its objects
pub data HandlerTag : Type 0 where
  Own : HandlerTag
  Separate : HandlerTag
  HandlerOf : Name → HandlerTag

pub record DeclaredType : Type 0 where
  pub span : Span
  pub is_detachable : Bool
  pub tag : HandlerTag
  pub class : Name

-- a formal argument or a local
pub record Declaration : Type 0 where
  pub name : Name
  pub declared_type : DeclaredType

mutual
  pub data Expr : Type 0 where
    Integer : Span → ℤ → Expr
    Boolean : Span → Bool → Expr
    Void : Span → Expr
    Current : Span → Expr
    Result : Span → Expr
    Call : Span → Target → Name → Exprs → Expr
    Unary : Span → UnaryOperator → Expr → Expr
    Binary : Span → BinaryOperator → Expr → Expr → Expr
    ObjectTest : Span → Option DeclaredType → Expr → Name → Expr

  -- what is before the dot of a call, if there is one
  pub data Target : Type 0 where
    no_target : Target
    target : Expr → Target

  -- expressions one after the other
  pub data Exprs : Type 0 where
    no_exprs : Exprs
    expr_then : Expr → Exprs → Exprs

-- what an assignment or a creation changes
pub data Variable : Type 0 where
  Named : Name → Variable
  ResultVariable : Span → Variable

-- the call that an object is created by
pub record CreationCall : Type 0 where
  pub name : Name
  pub actuals : Exprs

-- what a creation changes, and the call that the object is created by, if there is one
pub record Creation : Type 0 where
  pub variable : Variable
  pub call : Option CreationCall

pub record Clause : Type 0 where
  pub tag : Option Name
  pub condition : Expr

-- what a separate block reserves, and the name that it has there
pub record Head : Type 0 where
  pub value : Expr
  pub name : Name

mutual
  pub data Instr : Type 0 where
    Assign : Span → Variable → Expr → Instr
    PrintText : Span → List ℕ → Instr
    CallRoutine : Span → Target → Name → Exprs → Instr
    Create : Span → Creation → Instr
    -- its condition, body, branches and what is done otherwise, as `if_instr` names them
    If : Span → Expr → Instrs → Branches → Instrs → Instr
    -- what is done once, its exit condition and its body, as `loop_instr` names them
    Loop : Span → Instrs → Expr → Instrs → Instr
    Check : Span → List Clause → Instr
    -- its heads and body, as `block_instr` names them
    Block : Span → List Head → Instrs → Instr

  -- instructions one after the other
  pub data Instrs : Type 0 where
    no_instrs : Instrs
    instr_then : Instr → Instrs → Instrs

  -- each `elseif` with the instructions under it
  pub data Branches : Type 0 where
    no_branches : Branches
    branch_then : Expr → Instrs → Branches → Branches

-- Where an instruction holds others, its parts have names in a record beside it.

-- what is done where the condition holds, where that of a branch is the first to hold, and where none does
pub record Conditional : Type 0 where
  pub condition : Expr
  pub body : Instrs
  pub branches : Branches
  pub other : Instrs

abbrev pub if_instr : Span → Conditional → Instr
if_instr s c = If s c.condition c.body c.branches c.other

-- what is done once, and what is done again until the condition holds
pub record Iteration : Type 0 where
  pub initial : Instrs
  pub until : Expr
  pub body : Instrs

abbrev pub loop_instr : Span → Iteration → Instr
loop_instr s l = Loop s l.initial l.until l.body

-- what is done while the handlers of the heads are reserved
pub record SeparateBlock : Type 0 where
  pub heads : List Head
  pub body : Instrs

abbrev pub block_instr : Span → SeparateBlock → Instr
block_instr s b = Block s b.heads b.body

-- what a routine declares, requires, does and ensures
pub record RoutineDeclaration : Type 0 where
  pub formals : List Declaration
  pub result_type : Option DeclaredType
  pub precondition : List Clause
  pub locals : List Declaration
  pub body : Instrs
  pub postcondition : List Clause

pub data FeatureKind : Type 0 where
  Attribute : DeclaredType → FeatureKind
  Routine : RoutineDeclaration → FeatureKind

-- A feature with the classes that it is exported to: all of them where none is named.
pub record Feature : Type 0 where
  pub exports : List Name
  pub name : Name
  pub kind : FeatureKind

-- a class that another inherits from, and the features that are redefined
pub record Parent : Type 0 where
  pub name : Name
  pub redefined : List Name

-- a word before `class`
pub data ClassMark : Type 0 where
  Deferred : Span → ClassMark
  Expanded : Span → ClassMark
  Frozen : Span → ClassMark

pub record Class : Type 0 where
  pub span : Span
  pub mark : Option ClassMark
  pub name : Name
  pub parents : List Parent
  pub creators : List Name
  pub features : List Feature
  pub invariant : List Clause

-- the classes of a source text
pub record System : Type 0 where
  pub classes : List Class
