-- The plain tree that a tree in memory is.
use Rattle.std.specs.Prelude.{List, [], ◌∷◌, Option, Some, None, map, string_bytes}
use Rattle.std.specs.declared.boxed.Box.{Box}
use Rattle.std.specs.declared.alloc.Global.{Global}
use Rattle.sc_tree.specs.declared.expression.Name.{Name}
use Rattle.sc_tree.specs.declared.declaration.HandlerTag.{HandlerTag}
use Rattle.sc_tree.specs.declared.declaration.HandlerTag.TheVariants as handler
use Rattle.sc_tree.specs.declared.declaration.DeclaredType.{DeclaredType}
use Rattle.sc_tree.specs.declared.declaration.Declaration.{Declaration}
use Rattle.sc_tree.specs.declared.expression.Expr.{Expr, Row_of-Expr, end_of-Expr, more_of-Expr, Held-Call-target, None', Some'}
use Rattle.sc_tree.specs.declared.expression.Expr.TheVariants as expr
use Rattle.sc_tree.specs.declared.instruction.Variable.{Variable}
use Rattle.sc_tree.specs.declared.instruction.Variable.TheVariants as variable
use Rattle.sc_tree.specs.declared.instruction.CreationCall.{CreationCall}
use Rattle.sc_tree.specs.declared.instruction.Clause.{Clause}
use Rattle.sc_tree.specs.declared.instruction.Head.{Head}
use Rattle.sc_tree.specs.declared.instruction.Instr.{Instr, Row_of-Instr, end_of-Instr, more_of-Instr, Row_of-Branch, end_of-Branch, more_of-Branch}
use Rattle.sc_tree.specs.declared.instruction.Instr.TheVariants as instr
use Rattle.sc_tree.specs.declared.instruction.Branch.{Branch}
use Rattle.sc_tree.specs.declared.system.ClassMark.{ClassMark}
use Rattle.sc_tree.specs.declared.system.ClassMark.TheVariants as mark
use Rattle.sc_tree.specs.declared.system.Parent.{Parent}
use Rattle.sc_tree.specs.declared.system.Routine.{Routine}
use Rattle.sc_tree.specs.declared.system.FeatureKind.{FeatureKind}
use Rattle.sc_tree.specs.declared.system.FeatureKind.TheVariants as kind
use Rattle.sc_tree.specs.declared.system.Feature.{Feature}
use Rattle.sc_tree.specs.declared.system.Class.{Class}
use Rattle.sc_tree.specs.declared.system.System.{System}
use Rattle.sc_tree.specs.Plain as plain

abbrev pub name_of : Name → plain.Name
name_of n = record { text = string_bytes n.text.value; span = n.span }

abbrev pub handler_tag_of : HandlerTag → plain.HandlerTag
handler_tag_of handler.Own = plain.Own
handler_tag_of handler.Separate = plain.Separate
handler_tag_of (handler.HandlerOf n) = plain.HandlerOf (name_of n.value)

abbrev pub type_of : DeclaredType → plain.DeclaredType
type_of t =
    record { span = t.span; is_detachable = t.is_detachable; tag = handler_tag_of t.tag; class = name_of t.class.value }

abbrev pub type_if_any : Option DeclaredType → Option plain.DeclaredType
type_if_any None = None
type_if_any (Some t) = Some (type_of t)

abbrev pub declaration_of : Declaration → plain.Declaration
declaration_of d = record { name = name_of d.name; declared_type = type_of d.declared_type }

unfoldable mutual
  pub expr_of : Expr → plain.Expr
  expr_of (expr.Integer s n) = plain.Integer s n
  expr_of (expr.Boolean s b) = plain.Boolean s b
  expr_of (expr.Void s) = plain.Void s
  expr_of (expr.Current s) = plain.Current s
  expr_of (expr.Result s) = plain.Result s
  expr_of (expr.Call' s target n shape actuals) = plain.Call s (held_target target) (name_of n) (row_exprs actuals)
  expr_of (expr.Unary' s op p a) = plain.Unary s op (expr_of a)
  expr_of (expr.Binary' s op p a q b) = plain.Binary s op (expr_of a) (expr_of b)
  expr_of (expr.ObjectTest' s t p a n) = plain.ObjectTest s (type_if_any t) (expr_of a) (name_of n)

  pub held_target : Held-Call-target → plain.Target
  held_target None' = plain.no_target
  held_target (Some' p a) = plain.target (expr_of a)

  pub row_exprs : {m : _} → Row_of-Expr m → plain.Exprs
  row_exprs end_of-Expr = plain.no_exprs
  row_exprs (more_of-Expr e rest) = plain.expr_then (expr_of e) (row_exprs rest)

abbrev pub target_of : Option (Box Expr Global) → plain.Target
target_of None = plain.no_target
target_of (Some e) = plain.target (expr_of e.value)

abbrev pub exprs_of : List Expr → plain.Exprs
exprs_of [] = plain.no_exprs
exprs_of (e ∷ es) = plain.expr_then (expr_of e) (exprs_of es)

abbrev pub variable_of : Variable → plain.Variable
variable_of (variable.Named n) = plain.Named (name_of n)
variable_of (variable.Result s) = plain.ResultVariable s

abbrev pub creation_call_of : Option CreationCall → Option plain.CreationCall
creation_call_of None = None
creation_call_of (Some c) = Some (record { name = name_of c.name; actuals = exprs_of c.actuals.items })

abbrev pub tag_of : Option Name → Option plain.Name
tag_of None = None
tag_of (Some n) = Some (name_of n)

unfoldable pub clause_of : Clause → plain.Clause
clause_of c = record { tag = tag_of c.tag; condition = expr_of c.condition }

unfoldable pub head_of : Head → plain.Head
head_of h = record { value = expr_of h.value; name = name_of h.name }

unfoldable mutual
  pub instr_of : Instr → plain.Instr
  instr_of (instr.Assign s v e) = plain.Assign s (variable_of v) (expr_of e)
  instr_of (instr.PrintText s t) = plain.PrintText s (string_bytes t.value)
  instr_of (instr.Call c) = plain.CallRoutine c.span (target_of c.target) (name_of c.name) (exprs_of c.actuals.items)
  instr_of (instr.Create s v c) = plain.Create s (record { variable = variable_of v; call = creation_call_of c })
  instr_of (instr.If' s e body_shape body branches_shape branches other_shape other) =
      plain.If s (expr_of e) (row_instrs body) (row_branches branches) (row_instrs other)
  instr_of (instr.Loop' s initial_shape initial e body_shape body) =
      plain.Loop s (row_instrs initial) (expr_of e) (row_instrs body)
  instr_of (instr.Check s clauses) = plain.Check s (map clause_of clauses.items)
  instr_of (instr.Block' s heads body_shape body) = plain.Block s (map head_of heads.items) (row_instrs body)

  pub row_instrs : {m : _} → Row_of-Instr m → plain.Instrs
  row_instrs end_of-Instr = plain.no_instrs
  row_instrs (more_of-Instr i rest) = plain.instr_then (instr_of i) (row_instrs rest)

  pub row_branches : {m : _} → Row_of-Branch m → plain.Branches
  row_branches end_of-Branch = plain.no_branches
  row_branches (more_of-Branch e shape body rest) = plain.branch_then (expr_of e) (row_instrs body) (row_branches rest)

abbrev pub instrs_of : List Instr → plain.Instrs
instrs_of [] = plain.no_instrs
instrs_of (i ∷ is) = plain.instr_then (instr_of i) (instrs_of is)

abbrev pub branches_of : List Branch → plain.Branches
branches_of [] = plain.no_branches
branches_of (b ∷ bs) = plain.branch_then (expr_of b.condition) (instrs_of b.body.items) (branches_of bs)

abbrev pub routine_of : Routine → plain.RoutineDeclaration
routine_of r =
    record {
      formals = map declaration_of r.formals.items;
      result_type = type_if_any r.result_type;
      precondition = map clause_of r.precondition.items;
      locals = map declaration_of r.locals.items;
      body = instrs_of r.body.items;
      postcondition = map clause_of r.postcondition.items;
    }

unfoldable pub kind_of : FeatureKind → plain.FeatureKind
kind_of (kind.Attribute t) = plain.Attribute (type_of t)
kind_of (kind.Routine r) = plain.Routine (routine_of r)

unfoldable pub feature_of : Feature → plain.Feature
feature_of f = record { exports = map name_of f.exports.value.items; name = name_of f.name; kind = kind_of f.kind }

abbrev pub parent_of : Parent → plain.Parent
parent_of p = record { name = name_of p.name; redefined = map name_of p.redefined.items }

abbrev pub mark_of : ClassMark → plain.ClassMark
mark_of (mark.Deferred s) = plain.Deferred s
mark_of (mark.Expanded s) = plain.Expanded s
mark_of (mark.Frozen s) = plain.Frozen s

abbrev pub mark_if_any : Option ClassMark → Option plain.ClassMark
mark_if_any None = None
mark_if_any (Some m) = Some (mark_of m)

unfoldable pub class_of : Class → plain.Class
class_of c =
    record {
      span = c.span;
      mark = mark_if_any c.mark;
      name = name_of c.name;
      parents = map parent_of c.parents.items;
      creators = map name_of c.creators.items;
      features = map feature_of c.features.items;
      invariant = map clause_of c.invariant.items;
    }

unfoldable pub system_of : System → plain.System
system_of s = record { classes = map class_of s.classes.items }
