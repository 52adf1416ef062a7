-- The names in each expression and each instruction, as code builds them.
use Rattle.std.proofs.Common.{◌≡◌, List, [], ◌∷◌, ◌++◌, map, Option, Some, None, refl, ap, sym, ◌∙◌}
use Rattle.std.specs.List.{flat_map}
use Rattle.std.specs.declared.vec.Vec.{Vec}
use Rattle.std.specs.declared.boxed.Box.{Box}
use Rattle.std.specs.declared.rc.Rc.{Rc}
use Rattle.std.specs.declared.string.String.{String}
use Rattle.std.specs.declared.alloc.Global.{Global}
use Rattle.sc_text.specs.declared.token.Span.{Span}
use Rattle.sc_tree.specs.declared.expression.UnaryOperator.{UnaryOperator}
use Rattle.sc_tree.specs.declared.expression.BinaryOperator.{BinaryOperator}
use Rattle.sc_tree.specs.declared.expression.Name as tree
use Rattle.sc_tree.specs.declared.expression.Call.{Call}
use Rattle.sc_tree.specs.declared.expression.Expr.{Expr}
use Rattle.sc_tree.specs.declared.expression.Expr.TheVariants as expr
use Rattle.sc_tree.specs.declared.declaration.DeclaredType.{DeclaredType}
use Rattle.sc_tree.specs.declared.instruction.Clause.{Clause}
use Rattle.sc_tree.specs.declared.instruction.CreationCall.{CreationCall}
use Rattle.sc_tree.specs.declared.instruction.Head.{Head}
use Rattle.sc_tree.specs.declared.instruction.Variable.{Variable}
use Rattle.sc_tree.specs.declared.instruction.Branch.{Branch}
use Rattle.sc_tree.specs.declared.instruction.Instr.{Instr}
use Rattle.sc_tree.specs.declared.instruction.Instr.TheVariants as instr
use Rattle.sc_tree.specs.Plain as plain
use Rattle.sc_tree.specs.View.{expr_of, exprs_of, name_of, target_of, clause_of, creation_call_of, head_of, instr_of, instrs_of, branches_of, variable_of}
use Rattle.sc_tree.proofs.ViewLemmas.{expr_of-call, expr_of-unary, expr_of-binary, expr_of-object_test, instr_of-assign, instr_of-print_text, instr_of-call, instr_of-create, instr_of-if, instr_of-loop, instr_of-check, instr_of-block}
use Rattle.sc_rules.specs.declared.position.Context.{Context}
use Rattle.sc_rules.specs.declared.position.Context.TheVariants as context
use Rattle.sc_rules.specs.Positions.{operand_context}
use Rattle.sc_rules.specs.Names.{RoutineContext}
use Rattle.sc_symbols.specs.Scopes.{Scope, TypeOf}
use Rattle.sc_symbols.specs.Mentions.{mentions_in, mentions_in_each, mentions_in_call, mentions_in_clause, mentions_of_variable, mentions_in_creation_call, mentions_in_instr, mentions_in_instrs, mentions_in_branches, mentions_in_branch, mentions_in_block}

module _ (type : TypeOf) (h : RoutineContext) where
  -- ---- expressions

  module _ (c : Context) (n : Scope) where
    pub each_is : (es : List Expr) → mentions_in_each type h c n (exprs_of es) ≡ flat_map (λ (e : Expr). mentions_in type h c n (expr_of e)) es
    unfolding mentions_in
    each_is [] = refl
    each_is (e ∷ es) = ap (λ ms. mentions_in type h c n (expr_of e) ++ ms) (each_is es)

    expr_is : (e d : Expr) (p : plain.Expr) → e ≡ d → expr_of d ≡ p → mentions_in type h c n p ≡ mentions_in type h c n (expr_of e)
    expr_is e d p q f = sym (ap (λ (e : Expr). mentions_in type h c n (expr_of e)) q ∙ ap (mentions_in type h c n) f)

    pub call_is : (e : Expr) (d : Call) → e ≡ expr.Call d →
        mentions_in_call type h c n (target_of d.target) (name_of d.name) (exprs_of d.actuals.items) ≡ mentions_in type h c n (expr_of e)
    unfolding mentions_in
    call_is e d q = expr_is e (expr.Call d) _ q (expr_of-call d)

  -- ---- instructions

  module _ (n : Scope) where
    pub instrs_is : (is : List Instr) → mentions_in_instrs type h n (instrs_of is) ≡ flat_map (λ (i : Instr). mentions_in_instr type h n (instr_of i)) is
    unfolding mentions_in_instr
    instrs_is [] = refl
    instrs_is (i ∷ is) = ap (λ ms. mentions_in_instr type h n (instr_of i) ++ ms) (instrs_is is)

    pub branches_is : (bs : List Branch) →
        mentions_in_branches type h n (branches_of bs) ≡ flat_map (λ (b : Branch). mentions_in_branch type h n (expr_of b.condition) (instrs_of b.body.items)) bs
    unfolding mentions_in_instr
    branches_is [] = refl
    branches_is (b ∷ bs) = ap (λ ms. mentions_in_branch type h n (expr_of b.condition) (instrs_of b.body.items) ++ ms) (branches_is bs)

    pub same_branch : (b : Branch) (is : List Instr) → is ≡ b.body.items →
        mentions_in_branch type h n (expr_of b.condition) (instrs_of is) ≡ mentions_in_branch type h n (expr_of b.condition) (instrs_of b.body.items)
    same_branch b is e = ap (λ (is : List Instr). mentions_in_branch type h n (expr_of b.condition) (instrs_of is)) e

    instr_is : (i d : Instr) (p : plain.Instr) → i ≡ d → instr_of d ≡ p → mentions_in_instr type h n p ≡ mentions_in_instr type h n (instr_of i)
    instr_is i d p q f = sym (ap (λ (i : Instr). mentions_in_instr type h n (instr_of i)) q ∙ ap (mentions_in_instr type h n) f)

    pub command_is : (i : Instr) (d : Call) → i ≡ instr.Call d →
        mentions_in_call type h context.Body n (target_of d.target) (name_of d.name) (exprs_of d.actuals.items) ≡ mentions_in_instr type h n (instr_of i)
    unfolding mentions_in_instr
    command_is i d q = instr_is i (instr.Call d) _ q (instr_of-call d)

    module _ (i : Instr) (s : Span) where
      pub assign_is : (v : Variable) (e : Expr) → i ≡ instr.Assign s v e →
          mentions_of_variable h n (variable_of v) ++ mentions_in type h context.Body n (expr_of e) ≡ mentions_in_instr type h n (instr_of i)
      unfolding mentions_in_instr
      assign_is v e q = instr_is i (instr.Assign s v e) _ q (instr_of-assign s v e)

      pub print_is : (x : Rc (String Global) Global) → i ≡ instr.PrintText s x → mentions_in_instr type h n (instr_of i) ≡ []
      unfolding mentions_in_instr
      print_is x q = sym (instr_is i (instr.PrintText s x) _ q (instr_of-print_text s x))

      pub create_is : (v : Variable) (c : Option CreationCall) → i ≡ instr.Create s v c →
          mentions_of_variable h n (variable_of v) ++ mentions_in_creation_call type h n (variable_of v) (creation_call_of c) ≡ mentions_in_instr type h n (instr_of i)
      unfolding mentions_in_instr
      create_is v c q = instr_is i (instr.Create s v c) _ q (instr_of-create s v c)

      pub check_is : (ks : Vec Clause Global) (js : List Clause) → i ≡ instr.Check s ks → js ≡ ks.items →
          flat_map (mentions_in_clause type h context.Check n) (map clause_of js) ≡ mentions_in_instr type h n (instr_of i)
      unfolding mentions_in_instr
      check_is ks js q f =
          ap (λ (js : List Clause). flat_map (mentions_in_clause type h context.Check n) (map clause_of js)) f
          ∙ instr_is i (instr.Check s ks) _ q (instr_of-check s ks)

      pub if_is : (e : Expr) (body : Vec Instr Global) (bs : Vec Branch Global) (other : Vec Instr Global) (is : List Instr) (cs : List Branch) (os : List Instr) →
          i ≡ instr.If s e body bs other → is ≡ body.items → cs ≡ bs.items → os ≡ other.items →
          mentions_in_branch type h n (expr_of e) (instrs_of is) ++ (mentions_in_branches type h n (branches_of cs) ++ mentions_in_instrs type h n (instrs_of os))
          ≡ mentions_in_instr type h n (instr_of i)
      unfolding mentions_in_instr
      if_is e body bs other is cs os q f g k =
          let first : List Instr → _ = λ (is : List Instr). mentions_in_branch type h n (expr_of e) (instrs_of is) in
          ap (λ (is : List Instr). first is ++ (mentions_in_branches type h n (branches_of cs) ++ mentions_in_instrs type h n (instrs_of os))) f
          ∙ ap (λ (cs : List Branch). first body.items ++ (mentions_in_branches type h n (branches_of cs) ++ mentions_in_instrs type h n (instrs_of os))) g
          ∙ ap (λ (os : List Instr). first body.items ++ (mentions_in_branches type h n (branches_of bs.items) ++ mentions_in_instrs type h n (instrs_of os))) k
          ∙ instr_is i (instr.If s e body bs other) _ q (instr_of-if s e body bs other)

      pub loop_is : (initial : Vec Instr Global) (e : Expr) (body : Vec Instr Global) (is js : List Instr) →
          i ≡ instr.Loop s initial e body → is ≡ initial.items → js ≡ body.items →
          mentions_in_instrs type h n (instrs_of is) ++ (mentions_in type h context.Body n (expr_of e) ++ mentions_in_instrs type h n (instrs_of js))
          ≡ mentions_in_instr type h n (instr_of i)
      unfolding mentions_in_instr
      loop_is initial e body is js q f g =
          ap (λ (is : List Instr). mentions_in_instrs type h n (instrs_of is)
          ++ (mentions_in type h context.Body n (expr_of e) ++ mentions_in_instrs type h n (instrs_of js))) f
          ∙ ap (λ (js : List Instr). mentions_in_instrs type h n (instrs_of initial.items)
          ++ (mentions_in type h context.Body n (expr_of e) ++ mentions_in_instrs type h n (instrs_of js))) g
          ∙ instr_is i (instr.Loop s initial e body) _ q (instr_of-loop s initial e body)

      pub block_is : (heads : Vec Head Global) (body : Vec Instr Global) (hs : List Head) (is : List Instr) →
          i ≡ instr.Block s heads body → hs ≡ heads.items → is ≡ body.items →
          mentions_in_block type h n (map head_of hs) (instrs_of is) ≡ mentions_in_instr type h n (instr_of i)
      unfolding mentions_in_instr
      block_is heads body hs is q f g =
          ap (λ (hs : List Head). mentions_in_block type h n (map head_of hs) (instrs_of is)) f
          ∙ ap (λ (is : List Instr). mentions_in_block type h n (map head_of heads.items) (instrs_of is)) g
          ∙ instr_is i (instr.Block s heads body) _ q (instr_of-block s heads body)
