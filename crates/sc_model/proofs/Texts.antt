-- Systems as terms, without spans, for the rows.
use Rattle.std.specs.Prelude.{true, ℕ, ℤ, Bool, false, List, [], ◌∷◌, Option, Some, None, codes, map}
use Rattle.sc_text.specs.declared.token.Span.{Span}
use Rattle.sc_tree.specs.declared.expression.BinaryOperator.{BinaryOperator}
use Rattle.sc_tree.specs.declared.expression.UnaryOperator.TheVariants as unary
use Rattle.sc_tree.specs.Plain as tree
use Rattle.sc_tree.specs.Plain.{System, Class, Feature, Name, DeclaredType, Declaration, HandlerTag, Own, Separate, Clause, Expr, Exprs, no_exprs, expr_then, no_target, target, Variable, Named, ResultVariable, Instr, Instrs, no_instrs, instr_then, no_branches, RoutineDeclaration}
use Rattle.sc_class.specs.ClassNames.{Root}

abbrev pub nowhere : Span
nowhere = record { start = 0; end = 0 }

abbrev pub named : List ℕ → Name
named x = record { text = x; span = nowhere }

-- ---- types and declarations

abbrev pub type_with : HandlerTag → List ℕ → DeclaredType
type_with tag c = record { span = nowhere; is_detachable = false; tag = tag; class = named c }

-- a type of the current handler
abbrev pub own : List ℕ → DeclaredType
own c = type_with Own c

abbrev pub separate : List ℕ → DeclaredType
separate c = type_with Separate c

abbrev pub integer : DeclaredType
integer = own (codes "integer")

abbrev pub detachable : List ℕ → DeclaredType
detachable c = record (own c) { is_detachable = true }

abbrev pub declared : List ℕ → DeclaredType → Declaration
declared x t = record { name = named x; declared_type = t }

-- ---- expressions

abbrev pub each : List Expr → Exprs
each [] = no_exprs
each (e ∷ es) = expr_then e (each es)

abbrev pub number : ℤ → Expr
number z = tree.Integer nowhere z

abbrev pub truth : Bool → Expr
truth b = tree.Boolean nowhere b

abbrev pub the_current : Expr
the_current = tree.Current nowhere

abbrev pub the_result : Expr
the_result = tree.Result nowhere

abbrev pub void : Expr
void = tree.Void nowhere

abbrev pub old : Expr → Expr
old e = tree.Unary nowhere unary.Old e

-- a call without a target, an entity too
abbrev pub name : List ℕ → List Expr → Expr
name x es = tree.Call nowhere no_target (named x) (each es)

abbrev pub entity : List ℕ → Expr
entity x = name x []

-- a call on an entity
abbrev pub on : List ℕ → List ℕ → List Expr → Expr
on a x es = tree.Call nowhere (target (entity a)) (named x) (each es)

abbrev pub both : Expr → BinaryOperator → Expr → Expr
both a op b = tree.Binary nowhere op a b

-- ---- instructions

abbrev pub body : List Instr → Instrs
body [] = no_instrs
body (i ∷ is) = instr_then i (body is)

abbrev pub assign : List ℕ → Expr → Instr
assign x e = tree.Assign nowhere (Named (named x)) e

abbrev pub assign_result : Expr → Instr
assign_result e = tree.Assign nowhere (ResultVariable nowhere) e

abbrev pub call : List ℕ → List Expr → Instr
call x es = tree.CallRoutine nowhere no_target (named x) (each es)

abbrev pub print : Expr → Instr
print e = call (codes "print") (e ∷ [])

abbrev pub call_on : List ℕ → List ℕ → List Expr → Instr
call_on a x es = tree.CallRoutine nowhere (target (entity a)) (named x) (each es)

abbrev pub create : List ℕ → Instr
create x = tree.Create nowhere (record { variable = Named (named x); call = None })

abbrev pub create_by : List ℕ → List ℕ → List Expr → Instr
create_by x f es = tree.Create nowhere (record { variable = Named (named x); call = Some (record { name = named f; actuals = each es }) })

abbrev pub clause : Expr → Clause
clause e = record { tag = None; condition = e }

abbrev pub check : Expr → Instr
check e = tree.Check nowhere (clause e ∷ [])

-- a separate block of one name
abbrev pub block : Expr → List ℕ → List Instr → Instr
block e x is = tree.block_instr nowhere (record { heads = record { value = e; name = named x } ∷ []; body = body is })

-- a separate block of two names
abbrev pub block_of_two : Expr → List ℕ → Expr → List ℕ → List Instr → Instr
block_of_two e x d y is =
    tree.block_instr nowhere (record { heads = record { value = e; name = named x } ∷ record { value = d; name = named y } ∷ []; body = body is })

-- ---- features and classes

abbrev pub attribute : List ℕ → DeclaredType → Feature
attribute x t = record { exports = []; name = named x; kind = tree.Attribute t }

-- a routine that declares, requires, does and ensures nothing
abbrev pub nothing_done : RoutineDeclaration
nothing_done = record { formals = []; result_type = None; precondition = []; locals = []; body = no_instrs; postcondition = [] }

abbrev pub with_routine : List ℕ → RoutineDeclaration → Feature
with_routine x c = record { exports = []; name = named x; kind = tree.Routine c }

-- a routine with its formals, its result, the clauses of its precondition and its body
abbrev pub routine : List ℕ → List Declaration → Option DeclaredType → List Expr → List Instr → Feature
routine x formals result pre is =
    with_routine x (record nothing_done { formals = formals; result_type = result; precondition = map clause pre; body = body is })

abbrev pub procedure : List ℕ → List Declaration → List Instr → Feature
procedure x formals is = routine x formals None [] is

-- a routine with the clauses of its postcondition
abbrev pub ensuring : List ℕ → Option DeclaredType → List Instr → List Expr → Feature
ensuring x result is post = with_routine x (record nothing_done { result_type = result; body = body is; postcondition = map clause post })

abbrev pub class : List ℕ → List (List ℕ) → List Feature → List Expr → Class
class x creators fs invariant =
    record { span = nowhere; mark = None; name = named x; parents = []; creators = map named creators; features = fs; invariant = map clause invariant }

-- a class that inherits from another and redefines these
abbrev pub heir_of : List ℕ → List (List ℕ) → Class → Class
heir_of parent redefined c = record c { parents = record { name = named parent; redefined = map named redefined } ∷ [] }

abbrev pub system : List Class → System
system classes = record { classes = classes }

abbrev pub root : Root
root = record { class = codes "application"; procedure = codes "make" }

abbrev pub application : List Feature → List Expr → Class
application fs invariant = class (codes "application") (codes "make" ∷ []) fs invariant
