-- What the plain tree is of what code builds, for each variant.
use Rattle.std.proofs.Common.{◌≡◌, ℤ, Bool, suc, List, [], ◌∷◌, ◌++◌, length, Option, Some, None, refl, ap, sym, ◌∙◌}
use Rattle.std.specs.Prelude.{string_bytes, map}
use Rattle.std.specs.declared.string.String.{String}
use Rattle.std.specs.declared.vec.Vec.{Vec}
use Rattle.std.specs.declared.rc.Rc.{Rc}
use Rattle.std.specs.declared.boxed.Box.{Box}
use Rattle.std.specs.declared.alloc.Global.{Global}
use Rattle.sc_text.specs.declared.token.Span.{Span}
use Rattle.sc_text.specs.declared.token.Token.{Token}
use Rattle.sc_text.specs.Kind.{kinds_of}
use Rattle.sc_tree.specs.declared.expression.Name.{Name}
use Rattle.sc_tree.specs.declared.expression.UnaryOperator.{UnaryOperator}
use Rattle.sc_tree.specs.declared.expression.BinaryOperator.{BinaryOperator}
use Rattle.sc_tree.specs.declared.declaration.DeclaredType.{DeclaredType}
use Rattle.sc_tree.specs.declared.declaration.Declaration.{Declaration}
use Rattle.sc_tree.specs.declared.expression.Expr.{Expr, Row_of-Expr, end_of-Expr, more_of-Expr, items-the_row-Expr, items_hidden-the_row-Expr-0}
use Rattle.sc_tree.specs.declared.expression.Expr.TheBlock.{hidden-the_row-Expr-0, back-Call-target}
use Rattle.sc_tree.specs.declared.expression.Expr.TheVariants as expr
use Rattle.sc_tree.specs.declared.expression.Call.{Call}
use Rattle.sc_tree.specs.declared.instruction.Variable.{Variable}
use Rattle.sc_tree.specs.declared.instruction.CreationCall.{CreationCall}
use Rattle.sc_tree.specs.declared.instruction.Clause.{Clause}
use Rattle.sc_tree.specs.declared.instruction.Head.{Head}
use Rattle.sc_tree.specs.declared.instruction.Instr.{Instr, Row_of-Instr, end_of-Instr, more_of-Instr, Row_of-Branch, end_of-Branch, more_of-Branch, items-the_row-Instr, items_hidden-the_row-Instr-0, items_shown-the_row-Instr-0}
use Rattle.sc_tree.specs.declared.instruction.Instr.TheVariants as instr
use Rattle.sc_tree.specs.declared.instruction.Instr.TheBlock.{hidden-the_row-Instr-0, shown-the_row-Instr-0, items-the_row-Branch, hidden-the_row-Branch-1, items_hidden-the_row-Branch-1}
use Rattle.sc_tree.specs.declared.instruction.Branch.{Branch}
use Rattle.sc_tree.specs.declared.system.Parent.{Parent}
use Rattle.sc_tree.specs.declared.system.FeatureKind.TheVariants as kind
use Rattle.sc_tree.specs.declared.system.Feature.{Feature}
use Rattle.sc_tree.specs.declared.system.Class.{Class}
use Rattle.sc_tree.specs.declared.system.System.{System}
use Rattle.sc_tree.specs.Plain as plain
use Rattle.sc_tree.specs.Grammar as grammar
use Rattle.sc_tree.specs.Internal.Reading.{exprs_push, instrs_push, branches_push}
use Rattle.sc_tree.specs.Bare.{nowhere, named, bare_name, bare_type, bare_handler_tag, bare_type_if_any, bare_declaration, bare_expr, bare_target, bare_exprs, bare_variable, bare_creation_call, bare_tag, bare_clause, bare_head, bare_instr, bare_instrs, bare_branches, bare_kind, bare_feature, bare_parent, bare_mark, bare_class, bare_system}
use Rattle.sc_tree.specs.View.{name_of, handler_tag_of, type_of, type_if_any, declaration_of, expr_of, held_target, row_exprs, target_of, exprs_of, variable_of, creation_call_of, tag_of, clause_of, head_of, instr_of, row_instrs, row_branches, instrs_of, branches_of, kind_of, feature_of, parent_of, mark_if_any, class_of, system_of}

-- ---- types

pub bare_type-is : (t : DeclaredType) →
    bare_type (type_of t) ≡ record { span = nowhere; is_detachable = t.is_detachable; tag = bare_handler_tag (handler_tag_of t.tag); class = named (string_bytes t.class.value.text.value) }
bare_type-is t = refl

pub bare_declaration-is : (d : Declaration) → bare_declaration (declaration_of d) ≡ grammar.declared_as (bare_type (type_of d.declared_type)) (named (string_bytes d.name.text.value))
bare_declaration-is d = refl

-- ---- expressions

pub row_exprs_of : {m : _} (row : Row_of-Expr m) → row_exprs row ≡ exprs_of (items-the_row-Expr m row)
unfolding expr_of
row_exprs_of end_of-Expr = refl
row_exprs_of (more_of-Expr e rest) = ap (plain.expr_then (expr_of e)) (row_exprs_of rest)

-- a call's actuals, as its row holds them
actuals_of : (es : Vec Expr Global) → row_exprs (hidden-the_row-Expr-0 es) ≡ exprs_of es.items
actuals_of es = row_exprs_of (hidden-the_row-Expr-0 es) ∙ ap exprs_of (items_hidden-the_row-Expr-0 es)

held_target_of : (t : Option (Box Expr Global)) → held_target (back-Call-target t) ≡ target_of t
unfolding expr_of
held_target_of None = refl
held_target_of (Some e) = refl

pub expr_of-integer : (s : Span) (n : ℤ) → expr_of (expr.Integer s n) ≡ plain.Integer s n
unfolding expr_of
expr_of-integer s n = refl

pub expr_of-boolean : (s : Span) (b : Bool) → expr_of (expr.Boolean s b) ≡ plain.Boolean s b
unfolding expr_of
expr_of-boolean s b = refl

pub expr_of-void : (s : Span) → expr_of (expr.Void s) ≡ plain.Void s
unfolding expr_of
expr_of-void s = refl

pub expr_of-current : (s : Span) → expr_of (expr.Current s) ≡ plain.Current s
unfolding expr_of
expr_of-current s = refl

pub expr_of-result : (s : Span) → expr_of (expr.Result s) ≡ plain.Result s
unfolding expr_of
expr_of-result s = refl

pub expr_of-call : (c : Call) → expr_of (expr.Call c) ≡ plain.Call c.span (target_of c.target) (name_of c.name) (exprs_of c.actuals.items)
unfolding expr_of
expr_of-call c =
    ap (λ (t : plain.Target). plain.Call c.span t (name_of c.name) (row_exprs (hidden-the_row-Expr-0 c.actuals))) (held_target_of c.target)
    ∙ ap (plain.Call c.span (target_of c.target) (name_of c.name)) (actuals_of c.actuals)

pub expr_of-unary : (s : Span) (op : UnaryOperator) (a : Box Expr Global) → expr_of (expr.Unary s op a) ≡ plain.Unary s op (expr_of a.value)
unfolding expr_of
expr_of-unary s op a = refl

pub expr_of-binary : (s : Span) (op : BinaryOperator) (a b : Box Expr Global) → expr_of (expr.Binary s op a b) ≡ plain.Binary s op (expr_of a.value) (expr_of b.value)
unfolding expr_of
expr_of-binary s op a b = refl

pub expr_of-object_test : (s : Span) (t : Option DeclaredType) (a : Box Expr Global) (n : Name) → expr_of (expr.ObjectTest s t a n) ≡ plain.ObjectTest s (type_if_any t) (expr_of a.value) (name_of n)
unfolding expr_of
expr_of-object_test s t a n = refl

pub bare_expr-integer : (s : Span) (n : ℤ) → bare_expr (expr_of (expr.Integer s n)) ≡ plain.Integer nowhere n
unfolding expr_of bare_expr
bare_expr-integer s n = refl

pub bare_expr-boolean : (s : Span) (b : Bool) → bare_expr (expr_of (expr.Boolean s b)) ≡ plain.Boolean nowhere b
unfolding expr_of bare_expr
bare_expr-boolean s b = refl

pub bare_expr-void : (s : Span) → bare_expr (expr_of (expr.Void s)) ≡ plain.Void nowhere
unfolding expr_of bare_expr
bare_expr-void s = refl

pub bare_expr-current : (s : Span) → bare_expr (expr_of (expr.Current s)) ≡ plain.Current nowhere
unfolding expr_of bare_expr
bare_expr-current s = refl

pub bare_expr-result : (s : Span) → bare_expr (expr_of (expr.Result s)) ≡ plain.Result nowhere
unfolding expr_of bare_expr
bare_expr-result s = refl

bare_call : (s : Span) (t : plain.Target) (n : plain.Name) (es : plain.Exprs) → bare_expr (plain.Call s t n es) ≡ plain.Call nowhere (bare_target t) (bare_name n) (bare_exprs es)
unfolding bare_expr
bare_call s t n es = refl

pub bare_expr-call : (c : Call) →
    bare_expr (expr_of (expr.Call c)) ≡ plain.Call nowhere (bare_target (target_of c.target)) (named (string_bytes c.name.text.value)) (bare_exprs (exprs_of c.actuals.items))
bare_expr-call c = ap bare_expr (expr_of-call c) ∙ bare_call c.span _ _ _

pub bare_target-none : bare_target (target_of None) ≡ plain.no_target
unfolding bare_expr
bare_target-none = refl

pub bare_target-some : (e : Box Expr Global) → bare_target (target_of (Some e)) ≡ plain.target (bare_expr (expr_of e.value))
unfolding bare_expr
bare_target-some e = refl

pub bare_expr-unary : (s : Span) (op : UnaryOperator) (a : Box Expr Global) → bare_expr (expr_of (expr.Unary s op a)) ≡ plain.Unary nowhere op (bare_expr (expr_of a.value))
unfolding expr_of bare_expr
bare_expr-unary s op a = refl

pub bare_expr-binary : (s : Span) (op : BinaryOperator) (a b : Box Expr Global) →
    bare_expr (expr_of (expr.Binary s op a b)) ≡ plain.Binary nowhere op (bare_expr (expr_of a.value)) (bare_expr (expr_of b.value))
unfolding expr_of bare_expr
bare_expr-binary s op a b = refl

pub bare_expr-object_test : (s : Span) (t : Option DeclaredType) (a : Box Expr Global) (n : Name) →
    bare_expr (expr_of (expr.ObjectTest s t a n)) ≡ plain.ObjectTest nowhere (bare_type_if_any (type_if_any t)) (bare_expr (expr_of a.value)) (named (string_bytes n.text.value))
unfolding expr_of bare_expr
bare_expr-object_test s t a n = refl

pub bare_exprs-none : bare_exprs (exprs_of []) ≡ plain.no_exprs
unfolding bare_expr
bare_exprs-none = refl

pub bare_exprs-push : (es : List Expr) (e : Expr) → bare_exprs (exprs_of (es ++ e ∷ [])) ≡ exprs_push (bare_exprs (exprs_of es)) (bare_expr (expr_of e))
unfolding bare_expr
bare_exprs-push [] e = refl
bare_exprs-push (u ∷ es) e = ap (plain.expr_then (bare_expr (expr_of u))) (bare_exprs-push es e)

-- ---- instructions

pub row_instrs_of : {m : _} (row : Row_of-Instr m) → row_instrs row ≡ instrs_of (items-the_row-Instr m row)
unfolding instr_of
row_instrs_of end_of-Instr = refl
row_instrs_of (more_of-Instr i rest) = ap (plain.instr_then (instr_of i)) (row_instrs_of rest)

pub row_branches_of : {m : _} (row : Row_of-Branch m) → row_branches row ≡ branches_of (items-the_row-Branch m row)
unfolding instr_of
row_branches_of end_of-Branch = refl
row_branches_of (more_of-Branch e shape body rest) =
    ap (λ (b : _). plain.branch_then (expr_of e) b (row_branches rest)) (row_instrs_of body ∙ ap instrs_of (sym (items_shown-the_row-Instr-0 shape body)))
    ∙ ap (plain.branch_then (expr_of e) (instrs_of (shown-the_row-Instr-0 shape body).items)) (row_branches_of rest)

-- instructions in a node, as its row holds them
body_of : (is : Vec Instr Global) → row_instrs (hidden-the_row-Instr-0 is) ≡ instrs_of is.items
body_of is = row_instrs_of (hidden-the_row-Instr-0 is) ∙ ap instrs_of (items_hidden-the_row-Instr-0 is)

pub instr_of-assign : (s : Span) (v : Variable) (e : Expr) → instr_of (instr.Assign s v e) ≡ plain.Assign s (variable_of v) (expr_of e)
unfolding instr_of
instr_of-assign s v e = refl

pub instr_of-print_text : (s : Span) (t : Rc (String Global) Global) → instr_of (instr.PrintText s t) ≡ plain.PrintText s (string_bytes t.value)
unfolding instr_of
instr_of-print_text s t = refl

pub instr_of-call : (c : Call) → instr_of (instr.Call c) ≡ plain.CallRoutine c.span (target_of c.target) (name_of c.name) (exprs_of c.actuals.items)
unfolding instr_of
instr_of-call c = refl

pub instr_of-create : (s : Span) (v : Variable) (c : Option CreationCall) →
    instr_of (instr.Create s v c) ≡ plain.Create s (record { variable = variable_of v; call = creation_call_of c })
unfolding instr_of
instr_of-create s v c = refl

pub instr_of-if : (s : Span) (e : Expr) (body : Vec Instr Global) (branches : Vec Branch Global) (other : Vec Instr Global) →
    instr_of (instr.If s e body branches other) ≡ plain.If s (expr_of e) (instrs_of body.items) (branches_of branches.items) (instrs_of other.items)
unfolding instr_of
instr_of-if s e body branches other =
    ap (λ (b : _). plain.If s (expr_of e) b (row_branches (hidden-the_row-Branch-1 branches)) (row_instrs (hidden-the_row-Instr-0 other))) (body_of body)
    ∙ ap (λ (b : _). plain.If s (expr_of e) (instrs_of body.items) b (row_instrs (hidden-the_row-Instr-0 other))) (row_branches_of (hidden-the_row-Branch-1 branches) ∙ ap branches_of (items_hidden-the_row-Branch-1 branches))
    ∙ ap (plain.If s (expr_of e) (instrs_of body.items) (branches_of branches.items)) (body_of other)

pub instr_of-loop : (s : Span) (initial : Vec Instr Global) (e : Expr) (body : Vec Instr Global) →
    instr_of (instr.Loop s initial e body) ≡ plain.Loop s (instrs_of initial.items) (expr_of e) (instrs_of body.items)
unfolding instr_of
instr_of-loop s initial e body =
    ap (λ (b : _). plain.Loop s b (expr_of e) (row_instrs (hidden-the_row-Instr-0 body))) (body_of initial) ∙ ap (plain.Loop s (instrs_of initial.items) (expr_of e)) (body_of body)

pub instr_of-check : (s : Span) (clauses : Vec Clause Global) → instr_of (instr.Check s clauses) ≡ plain.Check s (map clause_of clauses.items)
unfolding instr_of
instr_of-check s clauses = refl

pub instr_of-block : (s : Span) (heads : Vec Head Global) (body : Vec Instr Global) → instr_of (instr.Block s heads body) ≡ plain.Block s (map head_of heads.items) (instrs_of body.items)
unfolding instr_of
instr_of-block s heads body = ap (plain.Block s (map head_of heads.items)) (body_of body)

pub bare_instr-assign : (s : Span) (v : Variable) (e : Expr) → bare_instr (instr_of (instr.Assign s v e)) ≡ plain.Assign nowhere (bare_variable (variable_of v)) (bare_expr (expr_of e))
unfolding instr_of bare_instr
bare_instr-assign s v e = refl

pub bare_instr-print_text : (s : Span) (t : Rc (String Global) Global) → bare_instr (instr_of (instr.PrintText s t)) ≡ plain.PrintText nowhere (string_bytes t.value)
unfolding instr_of bare_instr
bare_instr-print_text s t = refl

pub bare_instr-call : (c : Call) →
    bare_instr (instr_of (instr.Call c)) ≡ plain.CallRoutine nowhere (bare_target (target_of c.target)) (named (string_bytes c.name.text.value)) (bare_exprs (exprs_of c.actuals.items))
unfolding instr_of bare_instr
bare_instr-call c = refl

pub bare_instr-create : (s : Span) (v : Variable) (c : Option CreationCall) →
    bare_instr (instr_of (instr.Create s v c)) ≡
    plain.Create nowhere (record { variable = bare_variable (variable_of v); call = bare_creation_call (creation_call_of c) })
unfolding instr_of bare_instr
bare_instr-create s v c = refl

bare_if : (s : Span) (e : plain.Expr) (body : plain.Instrs) (branches : plain.Branches) (other : plain.Instrs) →
    bare_instr (plain.If s e body branches other) ≡ plain.If nowhere (bare_expr e) (bare_instrs body) (bare_branches branches) (bare_instrs other)
unfolding bare_instr
bare_if s e body bs other = refl

pub bare_instr-if : (s : Span) (e : Expr) (body : Vec Instr Global) (branches : Vec Branch Global) (other : Vec Instr Global) →
    bare_instr (instr_of (instr.If s e body branches other))
    ≡ plain.If nowhere (bare_expr (expr_of e)) (bare_instrs (instrs_of body.items)) (bare_branches (branches_of branches.items)) (bare_instrs (instrs_of other.items))
bare_instr-if s e body branches other = ap bare_instr (instr_of-if s e body branches other) ∙ bare_if s _ _ _ _

bare_loop : (s : Span) (initial : plain.Instrs) (e : plain.Expr) (body : plain.Instrs) →
    bare_instr (plain.Loop s initial e body) ≡ plain.Loop nowhere (bare_instrs initial) (bare_expr e) (bare_instrs body)
unfolding bare_instr
bare_loop s initial e body = refl

pub bare_instr-loop : (s : Span) (initial : Vec Instr Global) (e : Expr) (body : Vec Instr Global) →
    bare_instr (instr_of (instr.Loop s initial e body)) ≡ plain.Loop nowhere (bare_instrs (instrs_of initial.items)) (bare_expr (expr_of e)) (bare_instrs (instrs_of body.items))
bare_instr-loop s initial e body = ap bare_instr (instr_of-loop s initial e body) ∙ bare_loop s _ _ _

pub bare_instr-check : (s : Span) (clauses : Vec Clause Global) → bare_instr (instr_of (instr.Check s clauses)) ≡ plain.Check nowhere (map bare_clause (map clause_of clauses.items))
unfolding instr_of bare_instr
bare_instr-check s clauses = refl

bare_block : (s : Span) (heads : List plain.Head) (body : plain.Instrs) → bare_instr (plain.Block s heads body) ≡ plain.Block nowhere (map bare_head heads) (bare_instrs body)
unfolding bare_instr
bare_block s heads body = refl

pub bare_instr-block : (s : Span) (heads : Vec Head Global) (body : Vec Instr Global) →
    bare_instr (instr_of (instr.Block s heads body)) ≡ plain.Block nowhere (map bare_head (map head_of heads.items)) (bare_instrs (instrs_of body.items))
bare_instr-block s heads body = ap bare_instr (instr_of-block s heads body) ∙ bare_block s _ _

-- ---- lists of instructions and of `elseif`s

pub bare_instrs-none : bare_instrs (instrs_of []) ≡ plain.no_instrs
unfolding bare_instr
bare_instrs-none = refl

pub bare_instrs-push : (is : List Instr) (i : Instr) →
    bare_instrs (instrs_of (is ++ i ∷ [])) ≡ instrs_push (bare_instrs (instrs_of is)) (bare_instr (instr_of i))
unfolding bare_instr
bare_instrs-push [] i = refl
bare_instrs-push (j ∷ is) i = ap (plain.instr_then (bare_instr (instr_of j))) (bare_instrs-push is i)

pub bare_branches-none : bare_branches (branches_of []) ≡ plain.no_branches
unfolding bare_instr
bare_branches-none = refl

pub bare_branches-push : (bs : List Branch) (b : Branch) →
    bare_branches (branches_of (bs ++ b ∷ [])) ≡ branches_push (bare_branches (branches_of bs)) (bare_expr (expr_of b.condition)) (bare_instrs (instrs_of b.body.items))
unfolding bare_instr
bare_branches-push [] b = refl
bare_branches-push (a ∷ bs) b = ap (plain.branch_then (bare_expr (expr_of a.condition)) (bare_instrs (instrs_of a.body.items))) (bare_branches-push bs b)

-- ---- classes

pub bare_clause-is : (c : Clause) → bare_clause (clause_of c) ≡ record { tag = bare_tag (tag_of c.tag); condition = bare_expr (expr_of c.condition) }
unfolding clause_of
bare_clause-is c = refl

pub bare_head-is : (h : Head) → bare_head (head_of h) ≡ record { value = bare_expr (expr_of h.value); name = named (string_bytes h.name.text.value) }
unfolding head_of
bare_head-is h = refl

pub bare_feature-is : (f : Feature) →
    bare_feature (feature_of f) ≡ record { exports = map bare_name (map name_of f.exports.value.items); name = named (string_bytes f.name.text.value); kind = bare_kind (kind_of f.kind) }
unfolding feature_of
bare_feature-is f = refl

pub bare_feature-attribute : (es : Rc (Vec Name Global) Global) (is_further : Bool) (n : Name) (t : DeclaredType) →
    bare_feature (feature_of (record { exports = es; is_further = is_further; name = n; kind = kind.Attribute t }))
    ≡ grammar.attribute_of (map bare_name (map name_of es.value.items)) (bare_type (type_of t)) (named (string_bytes n.text.value))
unfolding feature_of kind_of
bare_feature-attribute es is_further n t = refl

pub bare_parent-is : (p : Parent) → bare_parent (parent_of p) ≡ record { name = named (string_bytes p.name.text.value); redefined = map bare_name (map name_of p.redefined.items) }
bare_parent-is p = refl

pub bare_class-is : (c : Class) →
    bare_class (class_of c)
    ≡ grammar.class_of (bare_mark (mark_if_any c.mark)) (named (string_bytes c.name.text.value)) (map bare_parent (map parent_of c.parents.items)) (map bare_name (map name_of c.creators.items))
    (map bare_feature (map feature_of c.features.items)) (map bare_clause (map clause_of c.invariant.items))
unfolding class_of
bare_class-is c = refl

pub bare_system-is : (s : System) → bare_system (system_of s) ≡ record { classes = map bare_class (map class_of s.classes.items) }
unfolding system_of
bare_system-is s = refl

-- a list of plain values, with one more at its end
pub mapped-push : {A B C : Type 0} (f : B → C) (g : A → B) (xs : List A) (x : A) → map f (map g (xs ++ x ∷ [])) ≡ map f (map g xs) ++ f (g x) ∷ []
mapped-push f g [] x = refl
mapped-push f g (y ∷ xs) x = ap (λ (r : List _). f (g y) ∷ r) (mapped-push f g xs x)

pub length-kinds_of : (ts : List Token) → length (kinds_of ts) ≡ length ts
length-kinds_of [] = refl
length-kinds_of (t ∷ ts) = ap suc (length-kinds_of ts)
