-- What stands in each expression and each instruction, as code builds them.
use Rattle.std.proofs.Common.{◌≡◌, ◌≤◌, List, [], ◌∷◌, ◌++◌, length, map, string_bytes, Option, Some, None, refl, ap, sym, ◌∙◌, arith}
use Rattle.std.specs.List.{flat_map}
use Rattle.std.specs.declared.vec.Vec.{Vec}
use Rattle.std.specs.declared.boxed.Box.{Box}
use Rattle.std.specs.declared.rc.Rc.{Rc}
use Rattle.std.specs.declared.string.String.{String}
use Rattle.std.specs.declared.alloc.Global.{Global}
use Rattle.sc_text.specs.declared.token.Span.{Span}
use Rattle.sc_tree.specs.declared.expression.UnaryOperator.{UnaryOperator}
use Rattle.sc_tree.specs.declared.expression.BinaryOperator.{BinaryOperator}
use Rattle.sc_tree.specs.declared.expression.Name as tree
use Rattle.sc_tree.specs.declared.expression.Call.{Call}
use Rattle.sc_tree.specs.declared.expression.Expr.{Expr}
use Rattle.sc_tree.specs.declared.expression.Expr.TheVariants as expr
use Rattle.sc_tree.specs.declared.declaration.DeclaredType.{DeclaredType}
use Rattle.sc_tree.specs.declared.instruction.Clause.{Clause}
use Rattle.sc_tree.specs.declared.instruction.CreationCall.{CreationCall}
use Rattle.sc_tree.specs.declared.instruction.Head.{Head}
use Rattle.sc_tree.specs.declared.instruction.Variable.{Variable}
use Rattle.sc_tree.specs.declared.instruction.Branch.{Branch}
use Rattle.sc_tree.specs.declared.instruction.Instr.{Instr}
use Rattle.sc_tree.specs.declared.instruction.Instr.TheVariants as instr
use Rattle.sc_tree.specs.Plain as plain
use Rattle.sc_tree.specs.Plain.{Name, Target, no_target, target}
use Rattle.sc_tree.specs.View.{expr_of, exprs_of, name_of, target_of, clause_of, creation_call_of, head_of, instr_of, instrs_of, branches_of, variable_of}
use Rattle.sc_tree.proofs.ViewLemmas.{expr_of-call, expr_of-unary, expr_of-binary, expr_of-object_test, instr_of-assign, instr_of-print_text, instr_of-call, instr_of-create, instr_of-if, instr_of-loop, instr_of-check, instr_of-block}
use Rattle.sc_warnings.specs.Sites.{Names, until, names_of_heads, plain_name, asked_if_any, sites_of, sites_of_target, sites_of_each, sites_of_call, sites_of_variable, sites_of_creation, sites_of_clause, sites_of_instr, sites_of_instrs, sites_of_branches, sites_of_branch, sites_of_block}

-- a call with actuals is no name alone
pub no_name : (p : Span) (a : Target) (x : Name) (es : List Expr) → 1 ≤ length es → None ≡ plain_name (plain.Call p a x (exprs_of es))
no_name p a x [] l = absurd (omega (arith, l))
no_name p no_target x (e ∷ es) l = refl
no_name p (target b) x (e ∷ es) l = refl

pub call_name : (e : Expr) (d : Call) → e ≡ expr.Call d →
    plain_name (plain.Call d.span (target_of d.target) (name_of d.name) (exprs_of d.actuals.items)) ≡ plain_name (expr_of e)
call_name e d q = sym (ap (λ (e : Expr). plain_name (expr_of e)) q ∙ ap plain_name (expr_of-call d))

pub heads_are : (hs : List Head) → names_of_heads (map head_of hs) ≡ flat_map (λ (h : Head). string_bytes h.name.text.value ∷ []) hs
unfolding head_of
heads_are [] = refl
heads_are (h ∷ hs) = ap (λ xs. string_bytes h.name.text.value ∷ xs) (heads_are hs)

module _ (n : Names) where
  -- ---- expressions

  pub each_is : (es : List Expr) → sites_of_each n (exprs_of es) ≡ flat_map (λ (e : Expr). sites_of n (expr_of e)) es
  unfolding sites_of
  each_is [] = refl
  each_is (e ∷ es) = ap (λ ss. sites_of n (expr_of e) ++ ss) (each_is es)

  pub target_is : (t : Option (Box Expr Global)) (a : Box Expr Global) (x y : Expr) (m : tree.Name) → t ≡ Some a → x ≡ a.value → y ≡ a.value →
      asked_if_any (plain_name (expr_of x)) ++ sites_of n (expr_of y) ≡ sites_of_target n (target_of t) (name_of m)
  unfolding sites_of
  target_is t a x y m q f g =
      ap (λ (x : Expr). asked_if_any (plain_name (expr_of x)) ++ sites_of n (expr_of y)) f
      ∙ ap (λ (y : Expr). asked_if_any (plain_name (expr_of a.value)) ++ sites_of n (expr_of y)) g
      ∙ sym (ap (λ t. sites_of_target n (target_of t) (name_of m)) q)

  expr_is : (e d : Expr) (p : plain.Expr) → e ≡ d → expr_of d ≡ p → sites_of n p ≡ sites_of n (expr_of e)
  expr_is e d p q f = sym (ap (λ (e : Expr). sites_of n (expr_of e)) q ∙ ap (sites_of n) f)

  pub call_is : (e : Expr) (d : Call) → e ≡ expr.Call d →
      sites_of_call n (target_of d.target) (name_of d.name) (exprs_of d.actuals.items) ≡ sites_of n (expr_of e)
  unfolding sites_of
  call_is e d q = expr_is e (expr.Call d) _ q (expr_of-call d)

  pub unary_is : (e : Expr) (s : Span) (op : UnaryOperator) (a : Box Expr Global) (x : Expr) → e ≡ expr.Unary s op a → x ≡ a.value →
      sites_of n (expr_of x) ≡ sites_of n (expr_of e)
  unfolding sites_of
  unary_is e s op a x q f = ap (λ (x : Expr). sites_of n (expr_of x)) f ∙ expr_is e (expr.Unary s op a) _ q (expr_of-unary s op a)

  pub binary_is : (e : Expr) (s : Span) (op : BinaryOperator) (a b : Box Expr Global) (x y : Expr) → e ≡ expr.Binary s op a b → x ≡ a.value → y ≡ b.value →
      sites_of n (expr_of x) ++ sites_of n (expr_of y) ≡ sites_of n (expr_of e)
  unfolding sites_of
  binary_is e s op a b x y q f g =
      ap (λ (x : Expr). sites_of n (expr_of x) ++ sites_of n (expr_of y)) f
      ∙ ap (λ (y : Expr). sites_of n (expr_of a.value) ++ sites_of n (expr_of y)) g
      ∙ expr_is e (expr.Binary s op a b) _ q (expr_of-binary s op a b)

  pub test_is : (e : Expr) (s : Span) (t : Option DeclaredType) (a : Box Expr Global) (m : tree.Name) (x : Expr) → e ≡ expr.ObjectTest s t a m → x ≡ a.value →
      sites_of n (expr_of x) ≡ sites_of n (expr_of e)
  unfolding sites_of
  test_is e s t a m x q f = ap (λ (x : Expr). sites_of n (expr_of x)) f ∙ expr_is e (expr.ObjectTest s t a m) _ q (expr_of-object_test s t a m)

  -- ---- instructions

  pub instrs_is : (is : List Instr) → sites_of_instrs n (instrs_of is) ≡ flat_map (λ (i : Instr). sites_of_instr n (instr_of i)) is
  unfolding sites_of_instr
  instrs_is [] = refl
  instrs_is (i ∷ is) = ap (λ ss. sites_of_instr n (instr_of i) ++ ss) (instrs_is is)

  pub branches_is : (bs : List Branch) →
      sites_of_branches n (branches_of bs) ≡ flat_map (λ (b : Branch). sites_of_branch n (expr_of b.condition) (instrs_of b.body.items)) bs
  unfolding sites_of_instr
  branches_is [] = refl
  branches_is (b ∷ bs) = ap (λ ss. sites_of_branch n (expr_of b.condition) (instrs_of b.body.items) ++ ss) (branches_is bs)

  pub same_branch : (b : Branch) (is : List Instr) → is ≡ b.body.items →
      sites_of_branch n (expr_of b.condition) (instrs_of is) ≡ sites_of_branch n (expr_of b.condition) (instrs_of b.body.items)
  same_branch b is e = ap (λ (is : List Instr). sites_of_branch n (expr_of b.condition) (instrs_of is)) e

  instr_is : (i d : Instr) (p : plain.Instr) → i ≡ d → instr_of d ≡ p → sites_of_instr n p ≡ sites_of_instr n (instr_of i)
  instr_is i d p q f = sym (ap (λ (i : Instr). sites_of_instr n (instr_of i)) q ∙ ap (sites_of_instr n) f)

  pub command_is : (i : Instr) (d : Call) → i ≡ instr.Call d →
      sites_of_call n (target_of d.target) (name_of d.name) (exprs_of d.actuals.items) ≡ sites_of_instr n (instr_of i)
  unfolding sites_of_instr
  command_is i d q = instr_is i (instr.Call d) _ q (instr_of-call d)

  module _ (i : Instr) (s : Span) where
    pub assign_is : (v : Variable) (e : Expr) → i ≡ instr.Assign s v e → sites_of n (expr_of e) ≡ sites_of_instr n (instr_of i)
    unfolding sites_of_instr
    assign_is v e q = instr_is i (instr.Assign s v e) _ q (instr_of-assign s v e)

    pub print_is : (x : Rc (String Global) Global) → i ≡ instr.PrintText s x → sites_of_instr n (instr_of i) ≡ []
    unfolding sites_of_instr
    print_is x q = sym (instr_is i (instr.PrintText s x) _ q (instr_of-print_text s x))

    pub create_is : (v : Variable) (c : Option CreationCall) → i ≡ instr.Create s v c →
        sites_of_variable (variable_of v) ++ sites_of_creation n (creation_call_of c) ≡ sites_of_instr n (instr_of i)
    unfolding sites_of_instr
    create_is v c q = instr_is i (instr.Create s v c) _ q (instr_of-create s v c)

    pub check_is : (ks : Vec Clause Global) (js : List Clause) → i ≡ instr.Check s ks → js ≡ ks.items →
        flat_map (sites_of_clause n) (map clause_of js) ≡ sites_of_instr n (instr_of i)
    unfolding sites_of_instr
    check_is ks js q f =
        ap (λ (js : List Clause). flat_map (sites_of_clause n) (map clause_of js)) f ∙ instr_is i (instr.Check s ks) _ q (instr_of-check s ks)

    pub if_is : (e : Expr) (body : Vec Instr Global) (bs : Vec Branch Global) (other : Vec Instr Global) (is : List Instr) (cs : List Branch) (os : List Instr) →
        i ≡ instr.If s e body bs other → is ≡ body.items → cs ≡ bs.items → os ≡ other.items →
        sites_of_branch n (expr_of e) (instrs_of is) ++ (sites_of_branches n (branches_of cs) ++ sites_of_instrs n (instrs_of os)) ≡ sites_of_instr n (instr_of i)
    unfolding sites_of_instr
    if_is e body bs other is cs os q f g h =
        ap (λ (is : List Instr). sites_of_branch n (expr_of e) (instrs_of is) ++ (sites_of_branches n (branches_of cs) ++ sites_of_instrs n (instrs_of os))) f
        ∙ ap (λ (cs : List Branch). sites_of_branch n (expr_of e) (instrs_of body.items) ++ (sites_of_branches n (branches_of cs) ++ sites_of_instrs n (instrs_of os))) g
        ∙ ap (λ (os : List Instr). sites_of_branch n (expr_of e) (instrs_of body.items) ++ (sites_of_branches n (branches_of bs.items) ++ sites_of_instrs n (instrs_of os))) h
        ∙ instr_is i (instr.If s e body bs other) _ q (instr_of-if s e body bs other)

    pub loop_is : (initial : Vec Instr Global) (e : Expr) (body : Vec Instr Global) (is js : List Instr) →
        i ≡ instr.Loop s initial e body → is ≡ initial.items → js ≡ body.items →
        sites_of_instrs n (instrs_of is) ++ ((until (expr_of e) ∷ sites_of n (expr_of e)) ++ sites_of_instrs n (instrs_of js)) ≡ sites_of_instr n (instr_of i)
    unfolding sites_of_instr
    loop_is initial e body is js q f g =
        ap (λ (is : List Instr). sites_of_instrs n (instrs_of is) ++ ((until (expr_of e) ∷ sites_of n (expr_of e)) ++ sites_of_instrs n (instrs_of js))) f
        ∙ ap (λ (js : List Instr). sites_of_instrs n (instrs_of initial.items) ++ ((until (expr_of e) ∷ sites_of n (expr_of e)) ++ sites_of_instrs n (instrs_of js))) g
        ∙ instr_is i (instr.Loop s initial e body) _ q (instr_of-loop s initial e body)

    pub block_is : (heads : Vec Head Global) (body : Vec Instr Global) (hs : List Head) (is : List Instr) →
        i ≡ instr.Block s heads body → hs ≡ heads.items → is ≡ body.items →
        sites_of_block n (map head_of hs) (instrs_of is) ≡ sites_of_instr n (instr_of i)
    unfolding sites_of_instr
    block_is heads body hs is q f g =
        ap (λ (hs : List Head). sites_of_block n (map head_of hs) (instrs_of is)) f
        ∙ ap (λ (is : List Instr). sites_of_block n (map head_of heads.items) (instrs_of is)) g
        ∙ instr_is i (instr.Block s heads body) _ q (instr_of-block s heads body)
