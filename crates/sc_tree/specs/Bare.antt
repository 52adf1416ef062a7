-- The tree without places: the same tree with every span at nought.
use Rattle.std.specs.Prelude.{ℕ, List, Option, Some, None, map}
use Rattle.sc_text.specs.declared.token.Span.{Span}
use Rattle.sc_tree.specs.Plain as plain
use Rattle.sc_tree.specs.Plain.{Name, HandlerTag, Own, Separate, HandlerOf, DeclaredType, Declaration, Expr, Integer, Boolean, Void, Current, Call, Unary, Binary, ObjectTest, Target, no_target, target, Exprs, no_exprs, expr_then, Variable, Named, ResultVariable, CreationCall, Creation, Clause, Head, Instr, Assign, PrintText, CallRoutine, Create, If, Loop, Check, Block, Instrs, no_instrs, instr_then, Branches, no_branches, branch_then, RoutineDeclaration, FeatureKind, Attribute, Routine, Feature, Parent, ClassMark, Deferred, Expanded, Frozen, Class, System}

abbrev pub nowhere : Span
nowhere = record { start = 0; end = 0 }

-- a name without a place
abbrev pub named : List ℕ → Name
named x = record { text = x; span = nowhere }

abbrev pub bare_name : Name → Name
bare_name n = named n.text

abbrev pub bare_handler_tag : HandlerTag → HandlerTag
bare_handler_tag Own = Own
bare_handler_tag Separate = Separate
bare_handler_tag (HandlerOf n) = HandlerOf (bare_name n)

abbrev pub bare_type : DeclaredType → DeclaredType
bare_type t =
    record { span = nowhere; is_detachable = t.is_detachable; tag = bare_handler_tag t.tag; class = bare_name t.class }

abbrev pub bare_type_if_any : Option DeclaredType → Option DeclaredType
bare_type_if_any None = None
bare_type_if_any (Some t) = Some (bare_type t)

abbrev pub bare_declaration : Declaration → Declaration
bare_declaration d = record { name = bare_name d.name; declared_type = bare_type d.declared_type }

unfoldable mutual
  pub bare_expr : Expr → Expr
  bare_expr (Integer s n) = Integer nowhere n
  bare_expr (Boolean s b) = Boolean nowhere b
  bare_expr (Void s) = Void nowhere
  bare_expr (Current s) = Current nowhere
  bare_expr (plain.Result s) = plain.Result nowhere
  bare_expr (Call s t n es) = Call nowhere (bare_target t) (bare_name n) (bare_exprs es)
  bare_expr (Unary s op a) = Unary nowhere op (bare_expr a)
  bare_expr (Binary s op a b) = Binary nowhere op (bare_expr a) (bare_expr b)
  bare_expr (ObjectTest s t a n) = ObjectTest nowhere (bare_type_if_any t) (bare_expr a) (bare_name n)

  pub bare_target : Target → Target
  bare_target no_target = no_target
  bare_target (target a) = target (bare_expr a)

  pub bare_exprs : Exprs → Exprs
  bare_exprs no_exprs = no_exprs
  bare_exprs (expr_then a es) = expr_then (bare_expr a) (bare_exprs es)

abbrev pub bare_variable : Variable → Variable
bare_variable (Named n) = Named (bare_name n)
bare_variable (ResultVariable s) = ResultVariable nowhere

abbrev pub bare_creation_call : Option CreationCall → Option CreationCall
bare_creation_call None = None
bare_creation_call (Some c) = Some (record { name = bare_name c.name; actuals = bare_exprs c.actuals })

abbrev pub bare_creation : Creation → Creation
bare_creation c = record { variable = bare_variable c.variable; call = bare_creation_call c.call }

abbrev pub bare_tag : Option Name → Option Name
bare_tag None = None
bare_tag (Some n) = Some (bare_name n)

abbrev pub bare_clause : Clause → Clause
bare_clause c = record { tag = bare_tag c.tag; condition = bare_expr c.condition }

abbrev pub bare_head : Head → Head
bare_head h = record { value = bare_expr h.value; name = bare_name h.name }

unfoldable mutual
  pub bare_instr : Instr → Instr
  bare_instr (Assign s v e) = Assign nowhere (bare_variable v) (bare_expr e)
  bare_instr (PrintText s t) = PrintText nowhere t
  bare_instr (CallRoutine s t n es) = CallRoutine nowhere (bare_target t) (bare_name n) (bare_exprs es)
  bare_instr (Create s c) = Create nowhere (bare_creation c)
  bare_instr (If s condition body branches other) =
      If nowhere (bare_expr condition) (bare_instrs body) (bare_branches branches) (bare_instrs other)
  bare_instr (Loop s initial until body) = Loop nowhere (bare_instrs initial) (bare_expr until) (bare_instrs body)
  bare_instr (Check s clauses) = Check nowhere (map bare_clause clauses)
  bare_instr (Block s heads body) = Block nowhere (map bare_head heads) (bare_instrs body)

  pub bare_instrs : Instrs → Instrs
  bare_instrs no_instrs = no_instrs
  bare_instrs (instr_then i is) = instr_then (bare_instr i) (bare_instrs is)

  pub bare_branches : Branches → Branches
  bare_branches no_branches = no_branches
  bare_branches (branch_then e body bs) = branch_then (bare_expr e) (bare_instrs body) (bare_branches bs)

abbrev pub bare_routine : RoutineDeclaration → RoutineDeclaration
bare_routine r =
    record {
      formals = map bare_declaration r.formals;
      result_type = bare_type_if_any r.result_type;
      precondition = map bare_clause r.precondition;
      locals = map bare_declaration r.locals;
      body = bare_instrs r.body;
      postcondition = map bare_clause r.postcondition;
    }

abbrev pub bare_kind : FeatureKind → FeatureKind
bare_kind (Attribute t) = Attribute (bare_type t)
bare_kind (Routine r) = Routine (bare_routine r)

abbrev pub bare_feature : Feature → Feature
bare_feature f = record { exports = map bare_name f.exports; name = bare_name f.name; kind = bare_kind f.kind }

abbrev pub bare_parent : Parent → Parent
bare_parent p = record { name = bare_name p.name; redefined = map bare_name p.redefined }

abbrev pub bare_mark : Option ClassMark → Option ClassMark
bare_mark None = None
bare_mark (Some (Deferred s)) = Some (Deferred nowhere)
bare_mark (Some (Expanded s)) = Some (Expanded nowhere)
bare_mark (Some (Frozen s)) = Some (Frozen nowhere)

abbrev pub bare_class : Class → Class
bare_class c =
    record {
      span = nowhere;
      mark = bare_mark c.mark;
      name = bare_name c.name;
      parents = map bare_parent c.parents;
      creators = map bare_name c.creators;
      features = map bare_feature c.features;
      invariant = map bare_clause c.invariant;
    }

abbrev pub bare_system : System → System
bare_system s = record { classes = map bare_class s.classes }
