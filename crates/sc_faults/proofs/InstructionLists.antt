-- What is listed of an instruction, from what is listed of its parts.
use Rattle.std.proofs.Common.{◌≡◌, ℕ, ◌+◌, ◌<◌, ◌≤◌, List, ◌++◌, length, drop, get_or, map, Option, Result, refl, ap, sym, ◌∙◌}
use Rattle.std.specs.Prelude.{OnOk}
use Rattle.std.specs.declared.vec.Vec.{Vec}
use Rattle.std.specs.declared.rc.Rc.{Rc}
use Rattle.std.specs.declared.string.String.{String}
use Rattle.std.specs.declared.alloc.Global.{Global}
use Rattle.std.specs.declared.alloc.AllocError.{AllocError}
use Rattle.sc_text.specs.declared.token.Span.{Span}
use Rattle.sc_tree.specs.declared.expression.Expr.{Expr}
use Rattle.sc_tree.specs.declared.expression.Call.{Call}
use Rattle.sc_tree.specs.declared.instruction.Head.{Head}
use Rattle.sc_tree.specs.declared.instruction.Instr.{Instr}
use Rattle.sc_tree.specs.declared.instruction.Instr.TheVariants as instr
use Rattle.sc_tree.specs.declared.instruction.Branch.{Branch}
use Rattle.sc_tree.specs.declared.instruction.Clause.{Clause}
use Rattle.sc_tree.specs.declared.instruction.CreationCall.{CreationCall}
use Rattle.sc_tree.specs.declared.instruction.Variable.{Variable}
use Rattle.sc_tree.specs.Plain as plain
use Rattle.sc_tree.specs.View.{branches_of, clause_of, creation_call_of, expr_of, exprs_of, head_of, instr_of, instrs_of, name_of, target_of, variable_of}
use Rattle.sc_tree.proofs.ViewLemmas.{instr_of-assign, instr_of-print_text, instr_of-call, instr_of-create, instr_of-if, instr_of-loop, instr_of-check, instr_of-block}
use Rattle.sc_class.proofs.Anys.{at, drop_end}
use Rattle.sc_rules.specs.declared.fault.Fault.{Fault}
use Rattle.sc_rules.specs.declared.position.Context.TheVariants as context
use Rattle.sc_rules.specs.declared.position.Position.TheVariants.{Plain}
use Rattle.sc_rules.specs.Names.{RoutineContext, Entities}
use Rattle.sc_faults.specs.Internal.Listing.{faults_of_each, faults_of_clause, faults_of_condition, faults_of_simple, faults_of_instr, faults_of_instrs, faults_of_branches, faults_of_branch, faults_of_block}
use Rattle.sc_faults.proofs.Adding.{both_if_ok, named_if_ok, next, end}

module _ (h : RoutineContext) (n : Entities) (i : Instr) (r : Result Unit AllocError) (old new : List Fault) where
  -- what was added is what is listed of the instruction
  simple_added : (j : plain.Instr) → instr_of i ≡ j → faults_of_simple h n j ≡ faults_of_instr h n j →
      OnOk r (new ≡ old ++ faults_of_simple h n (instr_of i)) → OnOk r (new ≡ old ++ faults_of_instr h n (instr_of i))
  simple_added j e w p =
      named_if_ok r old new (faults_of_simple h n (instr_of i)) (faults_of_instr h n (instr_of i))
      (ap (λ j. faults_of_simple h n j) e ∙ w ∙ sym (ap (faults_of_instr h n) e)) p

  pub assign_added : (s : Span) (v : Variable) (e : Expr) → i ≡ instr.Assign s v e →
      OnOk r (new ≡ old ++ faults_of_simple h n (instr_of i)) → OnOk r (new ≡ old ++ faults_of_instr h n (instr_of i))
  unfolding faults_of_instr
  assign_added s v e q p = simple_added (plain.Assign s (variable_of v) (expr_of e)) (ap instr_of q ∙ instr_of-assign s v e) refl p

  pub print_added : (s : Span) (t : Rc (String Global) Global) → i ≡ instr.PrintText s t →
      OnOk r (new ≡ old ++ faults_of_simple h n (instr_of i)) → OnOk r (new ≡ old ++ faults_of_instr h n (instr_of i))
  unfolding faults_of_instr
  print_added s t q p = simple_added _ (ap instr_of q ∙ instr_of-print_text s t) refl p

  pub call_added : (c : Call) → i ≡ instr.Call c →
      OnOk r (new ≡ old ++ faults_of_simple h n (instr_of i)) → OnOk r (new ≡ old ++ faults_of_instr h n (instr_of i))
  unfolding faults_of_instr
  call_added c q p =
      simple_added (plain.CallRoutine c.span (target_of c.target) (name_of c.name) (exprs_of c.actuals.items))
      (ap instr_of q ∙ instr_of-call c) refl p

  pub create_added : (s : Span) (v : Variable) (k : Option CreationCall) → i ≡ instr.Create s v k →
      OnOk r (new ≡ old ++ faults_of_simple h n (instr_of i)) → OnOk r (new ≡ old ++ faults_of_instr h n (instr_of i))
  unfolding faults_of_instr
  create_added s v k q p =
      simple_added (plain.Create s (record { variable = variable_of v; call = creation_call_of k })) (ap instr_of q ∙ instr_of-create s v k) refl p

  pub check_added : (s : Span) (ks : Vec Clause Global) (cs : List Clause) → i ≡ instr.Check s ks → cs ≡ ks.items →
      OnOk r (new ≡ old ++ faults_of_each (faults_of_clause h context.Check n) (map clause_of cs)) →
      OnOk r (new ≡ old ++ faults_of_instr h n (instr_of i))
  unfolding faults_of_instr
  check_added s ks cs q e p =
      named_if_ok r old new (faults_of_each (faults_of_clause h context.Check n) (map clause_of cs)) (faults_of_instr h n (instr_of i))
      (ap (λ (cs : List Clause). faults_of_each (faults_of_clause h context.Check n) (map clause_of cs)) e
      ∙ sym (ap (faults_of_instr h n) (ap instr_of q ∙ instr_of-check s ks))) p

  pub block_added : (s : Span) (heads : Vec Head Global) (body : Vec Instr Global) (ds : List Head) (is : List Instr) →
      i ≡ instr.Block s heads body → ds ≡ heads.items → is ≡ body.items →
      OnOk r (new ≡ old ++ faults_of_block h n (map head_of ds) (instrs_of is)) →
      OnOk r (new ≡ old ++ faults_of_instr h n (instr_of i))
  unfolding faults_of_instr
  block_added s heads body ds is q d e p =
      named_if_ok r old new (faults_of_block h n (map head_of ds) (instrs_of is)) (faults_of_instr h n (instr_of i))
      (ap (λ (ds : List Head). faults_of_block h n (map head_of ds) (instrs_of is)) d
      ∙ ap (λ (is : List Instr). faults_of_block h n (map head_of heads.items) (instrs_of is)) e
      ∙ sym (ap (faults_of_instr h n) (ap instr_of q ∙ instr_of-block s heads body))) p

  pub if_added : (s : Span) (e : Expr) (body : Vec Instr Global) (bs : Vec Branch Global) (other : Vec Instr Global)
      (is : List Instr) (cs : List Branch) (os : List Instr) (first second : List Fault) → i ≡ instr.If s e body bs other →
      is ≡ body.items → cs ≡ bs.items → os ≡ other.items →
      first ≡ old ++ faults_of_branch h n (expr_of e) (instrs_of is) →
      second ≡ first ++ faults_of_branches h n (branches_of cs) →
      OnOk r (new ≡ second ++ faults_of_instrs h n (instrs_of os)) →
      OnOk r (new ≡ old ++ faults_of_instr h n (instr_of i))
  unfolding faults_of_instr
  if_added s e body bs other is cs os first second q a b c p1 p2 p3 =
      let branch : List Instr → List Fault = λ is. faults_of_branch h n (expr_of e) (instrs_of is) in
      let later : List Branch → List Fault = λ cs. faults_of_branches h n (branches_of cs) in
      let last : List Instr → List Fault = λ os. faults_of_instrs h n (instrs_of os) in
      named_if_ok r old new (branch is ++ (later cs ++ last os)) (faults_of_instr h n (instr_of i))
      (ap (λ (is : List Instr). branch is ++ (later cs ++ last os)) a
      ∙ ap (λ (cs : List Branch). branch body.items ++ (later cs ++ last os)) b
      ∙ ap (λ (os : List Instr). branch body.items ++ (later bs.items ++ last os)) c
      ∙ sym (ap (faults_of_instr h n) (ap instr_of q ∙ instr_of-if s e body bs other)))
      (both_if_ok r old first new (branch is) (later cs ++ last os) p1
      (both_if_ok r first second new (later cs) (last os) p2 p3))

  pub loop_added : (s : Span) (initial : Vec Instr Global) (e : Expr) (body : Vec Instr Global) (is os : List Instr)
      (first second : List Fault) → i ≡ instr.Loop s initial e body → is ≡ initial.items → os ≡ body.items →
      first ≡ old ++ faults_of_instrs h n (instrs_of is) →
      second ≡ first ++ faults_of_condition h context.Body Plain n (expr_of e) →
      OnOk r (new ≡ second ++ faults_of_instrs h n (instrs_of os)) →
      OnOk r (new ≡ old ++ faults_of_instr h n (instr_of i))
  unfolding faults_of_instr
  loop_added s initial e body is os first second q a c p1 p2 p3 =
      let list : List Instr → List Fault = λ is. faults_of_instrs h n (instrs_of is) in
      let exit : List Fault = faults_of_condition h context.Body Plain n (expr_of e) in
      named_if_ok r old new (list is ++ (exit ++ list os)) (faults_of_instr h n (instr_of i))
      (ap (λ (is : List Instr). list is ++ (exit ++ list os)) a
      ∙ ap (λ (os : List Instr). list initial.items ++ (exit ++ list os)) c
      ∙ sym (ap (faults_of_instr h n) (ap instr_of q ∙ instr_of-loop s initial e body)))
      (both_if_ok r old first new (list is) (exit ++ list os) p1
      (both_if_ok r first second new exit (list os) p2 p3))

-- ---- one after the other

pub instrs_next : (h : RoutineContext) (n : Entities) (xs : List Instr) (k : ℕ) (x : Instr) (total now new : List Fault) →
    k < length xs → x ≡ get_or xs k x → total ≡ now ++ faults_of_instrs h n (instrs_of (drop k xs)) →
    new ≡ now ++ faults_of_instr h n (instr_of x) → total ≡ new ++ faults_of_instrs h n (instrs_of (drop (k + 1) xs))
unfolding faults_of_instr
instrs_next h n xs k x total now new l g inv q =
    next total now new (faults_of_instr h n (instr_of x)) (faults_of_instrs h n (instrs_of (drop k xs)))
    (faults_of_instrs h n (instrs_of (drop (k + 1) xs))) (ap (λ ys. faults_of_instrs h n (instrs_of ys)) (at xs k x l g)) inv q

pub instrs_end : (h : RoutineContext) (n : Entities) (xs : List Instr) (k : ℕ) (total now : List Fault) → length xs ≤ k →
    total ≡ now ++ faults_of_instrs h n (instrs_of (drop k xs)) → now ≡ total
unfolding faults_of_instr
instrs_end h n xs k total now l inv =
    end total now (faults_of_instrs h n (instrs_of (drop k xs))) (ap (λ ys. faults_of_instrs h n (instrs_of ys)) (drop_end xs k l)) inv

pub branches_next : (h : RoutineContext) (n : Entities) (xs : List Branch) (k : ℕ) (x : Branch) (is : List Instr)
    (total now new : List Fault) → k < length xs → x ≡ get_or xs k x → is ≡ x.body.items →
    total ≡ now ++ faults_of_branches h n (branches_of (drop k xs)) →
    new ≡ now ++ faults_of_branch h n (expr_of x.condition) (instrs_of is) →
    total ≡ new ++ faults_of_branches h n (branches_of (drop (k + 1) xs))
unfolding faults_of_instr
branches_next h n xs k x is total now new l g e inv q =
    next total now new (faults_of_branch h n (expr_of x.condition) (instrs_of x.body.items)) (faults_of_branches h n (branches_of (drop k xs)))
    (faults_of_branches h n (branches_of (drop (k + 1) xs))) (ap (λ ys. faults_of_branches h n (branches_of ys)) (at xs k x l g)) inv
    (q ∙ ap (λ (is : List Instr). now ++ faults_of_branch h n (expr_of x.condition) (instrs_of is)) e)

pub branches_end : (h : RoutineContext) (n : Entities) (xs : List Branch) (k : ℕ) (total now : List Fault) → length xs ≤ k →
    total ≡ now ++ faults_of_branches h n (branches_of (drop k xs)) → now ≡ total
unfolding faults_of_instr
branches_end h n xs k total now l inv =
    end total now (faults_of_branches h n (branches_of (drop k xs))) (ap (λ ys. faults_of_branches h n (branches_of ys)) (drop_end xs k l)) inv
