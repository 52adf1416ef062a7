-- What follows of judging an instruction from what is ensured of its parts.
use Rattle.std.proofs.Common.{◌≡◌, ℕ, List, Option, Result, Ok, Err, ◌+◌, ◌<◌, refl, ap, sym, subst, ◌∙◌, length, get_or, drop, take, map}
use Rattle.std.proofs.lemmas.List.{length-map, take-map}
use Rattle.std.specs.declared.vec.Vec.{Vec}
use Rattle.std.specs.declared.alloc.Global.{Global}
use Rattle.sc_text.specs.declared.token.Span.{Span}
use Rattle.sc_tree.specs.declared.expression.Expr.{Expr}
use Rattle.sc_tree.specs.declared.instruction.Head.{Head}
use Rattle.sc_tree.specs.declared.instruction.Instr.{Instr}
use Rattle.sc_tree.specs.declared.instruction.Instr.TheVariants as instr
use Rattle.sc_tree.specs.declared.instruction.Branch.{Branch}
use Rattle.sc_tree.specs.declared.instruction.Clause.{Clause}
use Rattle.sc_tree.specs.declared.instruction.CreationCall.{CreationCall}
use Rattle.sc_tree.specs.declared.instruction.Variable.{Variable}
use Rattle.sc_tree.specs.declared.expression.Call.{Call}
use Rattle.sc_tree.specs.Plain as plain
use Rattle.sc_tree.specs.View.{branches_of, clause_of, creation_call_of, expr_of, exprs_of, head_of, instr_of, instrs_of, name_of, target_of, variable_of}
use Rattle.sc_tree.proofs.ViewLemmas.{instr_of-assign, instr_of-call, instr_of-create, instr_of-if, instr_of-loop, instr_of-check, instr_of-block}
use Rattle.sc_class.proofs.Anys.{at}
use Rattle.sc_rules.specs.declared.position.Context.TheVariants as context
use Rattle.sc_rules.specs.declared.position.Position.TheVariants.{Plain, Condition}
use Rattle.sc_rules.specs.declared.position.Use.TheVariants.{Instruction}
use Rattle.sc_rules.specs.Names.{RoutineContext, Entities, variable_span}
use Rattle.sc_rules.specs.declared.entity_types.entity_type.EntityType.{EntityType}
use Rattle.sc_rules.specs.Judging.{Judged, ◌>>=◌, judged_actuals, judge_called, judge_each, judge_given, judge_receiver}
use Rattle.sc_rules.specs.JudgingText.{judge_clause, judge_condition, judge_creation, judge_variable, judge_heads, judge_instr, judge_instrs, judge_branches}
use Rattle.sc_typing.specs.declared.fault.CheckFault.{CheckFault}
use Rattle.sc_typing.specs.declared.declarations.names.Entity.{Entity}
use Rattle.sc_typing.specs.Views.{entity_of}
use Rattle.sc_typing.specs.Judges.{Faults, Passes}
use Rattle.sc_check.specs.Internal.Parts.{judge_assignment, judge_command, judge_if, judge_loop, judge_branch, judge_block}
use Rattle.sc_typing.proofs.Steps.{faults_along, faults_first, passes_along}
use Rattle.sc_check.proofs.Behind.{Behind, given, heads_given, had_back}

-- ---- what is had back

module _ (h : RoutineContext) (n m : Entities) where
  known_as : (j : Judged Entities) → j ≡ Ok m → Behind n j → Behind n (Ok m)
  known_as j q b = subst (Behind n) q b

  part_left : (e : plain.Expr) → judge_given h context.Body n e ≡ Ok m → take (length n) m ≡ n
  part_left e q = had_back n m (known_as (judge_given h context.Body n e) q (given h context.Body n e))

  block_left : (ds : List plain.Head) → judge_heads h n n ds ≡ Ok m → take (length n) m ≡ n
  block_left ds q = had_back n m (known_as (judge_heads h n n ds) q (heads_given h n n ds))

module _ (h : RoutineContext) (old mid done new : List Entity) (k : ℕ) (kq : k ≡ length old)
    (kept : map entity_of done ≡ map entity_of mid) (cut : new ≡ take k done) where
  left : take (length (map entity_of old)) (map entity_of mid) ≡ map entity_of old → map entity_of new ≡ map entity_of old
  left q =
      ap (map entity_of) cut ∙ sym (take-map entity_of k done) ∙ ap (take k) kept
      ∙ ap (λ k. take k (map entity_of mid)) (kq ∙ sym (length-map old entity_of)) ∙ q

  -- behind a part under a condition
  pub part_kept : (e : plain.Expr) → judge_given h context.Body (map entity_of old) e ≡ Ok (map entity_of mid) → map entity_of new ≡ map entity_of old
  part_kept e q = left (part_left h (map entity_of old) (map entity_of mid) e q)

  -- behind a block
  pub block_kept : (ds : List plain.Head) → judge_heads h (map entity_of old) (map entity_of old) ds ≡ Ok (map entity_of mid) →
      map entity_of new ≡ map entity_of old
  block_kept ds q = left (block_left h (map entity_of old) (map entity_of mid) ds q)

-- ---- each instruction

in_turn : {A B C : Type 0} (j : Judged A) (f : A → Judged B) (g : B → Judged C) → (j >>= λ x. f x >>= g) ≡ (j >>= f) >>= g
in_turn (Ok x) f g = refl
in_turn (Err e) f g = refl

if_is : (h : RoutineContext) (n : Entities) (e : plain.Expr) (body : plain.Instrs) (rest : Judged (Unit {0})) →
    (judge_condition h context.Body Condition n e >>= λ u. judge_given h context.Body n e >>= λ m. judge_instrs h m body >>= λ u. rest)
    ≡ judge_branch h n e body >>= λ u. rest
if_is h n e body rest =
    ap (λ j. judge_condition h context.Body Condition n e >>= λ u. j) (in_turn (judge_given h context.Body n e) (λ m. judge_instrs h m body) (λ u. rest))
    ∙ in_turn (judge_condition h context.Body Condition n e) (λ u. judge_given h context.Body n e >>= λ m. judge_instrs h m body) (λ u. rest)

module _ (h : RoutineContext) (n : Entities) (i : Instr) where
  assign_plain : (s : Span) (v : Variable) (e : Expr) → judge_instr h n (instr_of (instr.Assign s v e)) ≡ judge_assignment h n (variable_of v) (expr_of e)
  unfolding judge_instr
  assign_plain s v e = ap (judge_instr h n) (instr_of-assign s v e)

  pub assign_passes : (s : Span) (v : Variable) (e : Expr) (m : Entities) (r : Result Unit CheckFault) → i ≡ instr.Assign s v e → m ≡ n →
      Passes (judge_assignment h m (variable_of v) (expr_of e)) r → Passes (judge_instr h n (instr_of i)) r
  assign_passes s v e m r q mq f =
      passes_along _ (judge_assignment h m (variable_of v) (expr_of e)) r
      (ap (λ (i : Instr). judge_instr h n (instr_of i)) q ∙ assign_plain s v e ∙ ap (λ m. judge_assignment h m (variable_of v) (expr_of e)) (sym mq)) f

  call_plain : (d : Call) → judge_instr h n (instr_of (instr.Call d)) ≡ judge_command h n (target_of d.target) (name_of d.name) (exprs_of d.actuals.items)
  unfolding judge_instr
  call_plain d =
      ap (judge_instr h n) (instr_of-call d)
      ∙ in_turn (judge_receiver h context.Body n (target_of d.target))
      (λ r. judge_called h context.Body n Instruction (target_of d.target) (name_of d.name) (judged_actuals h context.Body n (exprs_of d.actuals.items)) r) (λ u. Ok tt)

  pub call_passes : (d : Call) (m : Entities) (r : Result Unit CheckFault) → i ≡ instr.Call d → m ≡ n →
      Passes (judge_command h m (target_of d.target) (name_of d.name) (exprs_of d.actuals.items)) r → Passes (judge_instr h n (instr_of i)) r
  call_passes d m r q mq f =
      passes_along _ (judge_command h m (target_of d.target) (name_of d.name) (exprs_of d.actuals.items)) r
      (ap (λ (i : Instr). judge_instr h n (instr_of i)) q ∙ call_plain d
      ∙ ap (λ m. judge_command h m (target_of d.target) (name_of d.name) (exprs_of d.actuals.items)) (sym mq)) f

  create_plain : (s : Span) (v : Variable) (k : Option CreationCall) →
      judge_instr h n (instr_of (instr.Create s v k)) ≡ judge_variable h n (variable_of v) >>= λ t. judge_creation h n (variable_span (variable_of v)) t (creation_call_of k)
  unfolding judge_instr
  create_plain s v k = ap (judge_instr h n) (instr_of-create s v k)

  module _ (s : Span) (v : Variable) (k : Option CreationCall) (q : i ≡ instr.Create s v k) (m : Entities) (mq : m ≡ n) where
    create_same : judge_instr h n (instr_of i) ≡ judge_variable h m (variable_of v) >>= λ t. judge_creation h n (variable_span (variable_of v)) t (creation_call_of k)
    create_same =
        ap (λ (i : Instr). judge_instr h n (instr_of i)) q ∙ create_plain s v k
        ∙ ap (λ m. judge_variable h m (variable_of v) >>= λ t. judge_creation h n (variable_span (variable_of v)) t (creation_call_of k)) (sym mq)

    pub create_fails : (f : CheckFault) → Faults (judge_variable h m (variable_of v)) f → Faults (judge_instr h n (instr_of i)) f
    create_fails f g =
        faults_along _ (judge_variable h m (variable_of v) >>= λ t. judge_creation h n (variable_span (variable_of v)) t (creation_call_of k)) f create_same
        (faults_first (judge_variable h m (variable_of v)) (λ t. judge_creation h n (variable_span (variable_of v)) t (creation_call_of k)) f g)

    pub create_passes : (t : Option EntityType) (p : Span) (o : Entities) (r : Result Unit CheckFault) → judge_variable h m (variable_of v) ≡ Ok t →
        p ≡ variable_span (variable_of v) → o ≡ n → Passes (judge_creation h o p t (creation_call_of k)) r → Passes (judge_instr h n (instr_of i)) r
    create_passes t p o r g pq oq f =
        passes_along _ (judge_creation h o p t (creation_call_of k)) r
        (create_same ∙ ap (λ j. j >>= λ t. judge_creation h n (variable_span (variable_of v)) t (creation_call_of k)) g
        ∙ ap (λ o. judge_creation h o (variable_span (variable_of v)) t (creation_call_of k)) (sym oq)
        ∙ ap (λ p. judge_creation h o p t (creation_call_of k)) (sym pq)) f

  check_plain : (s : Span) (ks : Vec Clause Global) → judge_instr h n (instr_of (instr.Check s ks)) ≡ judge_each (judge_clause h context.Check n) (map clause_of ks.items)
  unfolding judge_instr
  check_plain s ks = ap (judge_instr h n) (instr_of-check s ks)

  pub check_passes : (s : Span) (ks : Vec Clause Global) (m : Entities) (cs : List Clause) (r : Result Unit CheckFault) → i ≡ instr.Check s ks → m ≡ n → cs ≡ ks.items →
      Passes (judge_each (judge_clause h context.Check m) (map clause_of cs)) r → Passes (judge_instr h n (instr_of i)) r
  check_passes s ks m cs r q mq a f =
      passes_along _ (judge_each (judge_clause h context.Check m) (map clause_of cs)) r
      (ap (λ (i : Instr). judge_instr h n (instr_of i)) q ∙ check_plain s ks
      ∙ ap (λ m. judge_each (judge_clause h context.Check m) (map clause_of ks.items)) (sym mq)
      ∙ ap (λ (cs : List Clause). judge_each (judge_clause h context.Check m) (map clause_of cs)) (sym a)) f

  if_plain : (s : Span) (e : Expr) (body : Vec Instr Global) (bs : Vec Branch Global) (other : Vec Instr Global) →
      judge_instr h n (instr_of (instr.If s e body bs other)) ≡ judge_if h n (expr_of e) (instrs_of body.items) (branches_of bs.items) (instrs_of other.items)
  unfolding judge_instr
  if_plain s e body bs other =
      ap (judge_instr h n) (instr_of-if s e body bs other)
      ∙ if_is h n (expr_of e) (instrs_of body.items) (judge_branches h n (branches_of bs.items) >>= λ u. judge_instrs h n (instrs_of other.items))

  module _ (s : Span) (e : Expr) (body : Vec Instr Global) (bs : Vec Branch Global) (other : Vec Instr Global)
      (q : i ≡ instr.If s e body bs other) (is : List Instr) (a : is ≡ body.items) where
    -- what stands behind the first part
    abbrev else_judged : Judged (Unit {0})
    else_judged = judge_branches h n (branches_of bs.items) >>= λ u. judge_instrs h n (instrs_of other.items)

    if_same : judge_instr h n (instr_of i) ≡ judge_branch h n (expr_of e) (instrs_of is) >>= λ u. else_judged
    if_same =
        ap (λ (i : Instr). judge_instr h n (instr_of i)) q ∙ if_plain s e body bs other
        ∙ ap (λ (is : List Instr). judge_if h n (expr_of e) (instrs_of is) (branches_of bs.items) (instrs_of other.items)) (sym a)

    pub if_branch_fails : (f : CheckFault) → Faults (judge_branch h n (expr_of e) (instrs_of is)) f → Faults (judge_instr h n (instr_of i)) f
    if_branch_fails f g =
        faults_along _ (judge_branch h n (expr_of e) (instrs_of is) >>= λ u. else_judged) f if_same
        (faults_first (judge_branch h n (expr_of e) (instrs_of is)) (λ u. else_judged) f g)

    module _ (p : judge_branch h n (expr_of e) (instrs_of is) ≡ Ok tt) (m : Entities) (mq : m ≡ n) (cs : List Branch) (b : cs ≡ bs.items) where
      branches_same : judge_instr h n (instr_of i) ≡ judge_branches h m (branches_of cs) >>= λ u. judge_instrs h n (instrs_of other.items)
      branches_same =
          if_same ∙ ap (λ j. j >>= λ u. else_judged) p
          ∙ ap (λ m. judge_branches h m (branches_of bs.items) >>= λ u. judge_instrs h n (instrs_of other.items)) (sym mq)
          ∙ ap (λ (cs : List Branch). judge_branches h m (branches_of cs) >>= λ u. judge_instrs h n (instrs_of other.items)) (sym b)

      pub if_branches_fail : (f : CheckFault) → Faults (judge_branches h m (branches_of cs)) f → Faults (judge_instr h n (instr_of i)) f
      if_branches_fail f g =
          faults_along _ (judge_branches h m (branches_of cs) >>= λ u. judge_instrs h n (instrs_of other.items)) f branches_same
          (faults_first (judge_branches h m (branches_of cs)) (λ u. judge_instrs h n (instrs_of other.items)) f g)

      pub if_done : judge_branches h m (branches_of cs) ≡ Ok tt → (o : Entities) → o ≡ m → (os : List Instr) (r : Result Unit CheckFault) →
          os ≡ other.items → Passes (judge_instrs h o (instrs_of os)) r → Passes (judge_instr h n (instr_of i)) r
      if_done g o oq os r c x =
          passes_along _ (judge_instrs h o (instrs_of os)) r
          (branches_same ∙ ap (λ j. j >>= λ u. judge_instrs h n (instrs_of other.items)) g
          ∙ ap (λ o. judge_instrs h o (instrs_of other.items)) (sym (oq ∙ mq)) ∙ ap (λ (os : List Instr). judge_instrs h o (instrs_of os)) (sym c)) x

  loop_plain : (s : Span) (initial : Vec Instr Global) (e : Expr) (body : Vec Instr Global) →
      judge_instr h n (instr_of (instr.Loop s initial e body)) ≡ judge_loop h n (instrs_of initial.items) (expr_of e) (instrs_of body.items)
  unfolding judge_instr
  loop_plain s initial e body = ap (judge_instr h n) (instr_of-loop s initial e body)

  module _ (s : Span) (initial : Vec Instr Global) (e : Expr) (body : Vec Instr Global) (q : i ≡ instr.Loop s initial e body)
      (is : List Instr) (a : is ≡ initial.items) where
    -- what stands behind the initialization, where these names are known
    abbrev rest_judged : Entities → Judged (Unit {0})
    rest_judged m = judge_condition h context.Body Plain m (expr_of e) >>= λ u. judge_instrs h m (instrs_of body.items)

    loop_same : judge_instr h n (instr_of i) ≡ judge_instrs h n (instrs_of is) >>= λ u. rest_judged n
    loop_same =
        ap (λ (i : Instr). judge_instr h n (instr_of i)) q ∙ loop_plain s initial e body
        ∙ ap (λ (is : List Instr). judge_loop h n (instrs_of is) (expr_of e) (instrs_of body.items)) (sym a)

    pub loop_initial_fails : (f : CheckFault) → Faults (judge_instrs h n (instrs_of is)) f → Faults (judge_instr h n (instr_of i)) f
    loop_initial_fails f g =
        faults_along _ (judge_instrs h n (instrs_of is) >>= λ u. rest_judged n) f loop_same
        (faults_first (judge_instrs h n (instrs_of is)) (λ u. rest_judged n) f g)

    module _ (p : judge_instrs h n (instrs_of is) ≡ Ok tt) (m : Entities) (mq : m ≡ n) where
      until_same : judge_instr h n (instr_of i) ≡ rest_judged m
      until_same = loop_same ∙ ap (λ j. j >>= λ u. rest_judged n) p ∙ ap rest_judged (sym mq)

      pub loop_until_fails : (f : CheckFault) → Faults (judge_condition h context.Body Plain m (expr_of e)) f → Faults (judge_instr h n (instr_of i)) f
      loop_until_fails f g =
          faults_along _ (rest_judged m) f until_same
          (faults_first (judge_condition h context.Body Plain m (expr_of e)) (λ u. judge_instrs h m (instrs_of body.items)) f g)

      pub loop_done : judge_condition h context.Body Plain m (expr_of e) ≡ Ok tt → (o : Entities) → o ≡ m → (bs : List Instr) (r : Result Unit CheckFault) →
          bs ≡ body.items → Passes (judge_instrs h o (instrs_of bs)) r → Passes (judge_instr h n (instr_of i)) r
      loop_done g o oq bs r b x =
          passes_along _ (judge_instrs h o (instrs_of bs)) r
          (until_same ∙ ap (λ j. j >>= λ u. judge_instrs h m (instrs_of body.items)) g
          ∙ ap (λ o. judge_instrs h o (instrs_of body.items)) (sym oq) ∙ ap (λ (bs : List Instr). judge_instrs h o (instrs_of bs)) (sym b)) x

  block_plain : (s : Span) (heads : Vec Head Global) (body : Vec Instr Global) →
      judge_instr h n (instr_of (instr.Block s heads body)) ≡ judge_block h n (map head_of heads.items) (instrs_of body.items)
  unfolding judge_instr
  block_plain s heads body = ap (judge_instr h n) (instr_of-block s heads body)

  pub block_passes : (s : Span) (heads : Vec Head Global) (body : Vec Instr Global) (ds : List Head) (bs : List Instr) (r : Result Unit CheckFault) →
      i ≡ instr.Block s heads body → ds ≡ heads.items → bs ≡ body.items →
      Passes (judge_block h n (map head_of ds) (instrs_of bs)) r → Passes (judge_instr h n (instr_of i)) r
  block_passes s heads body ds bs r q a b f =
      passes_along _ (judge_block h n (map head_of ds) (instrs_of bs)) r
      (ap (λ (i : Instr). judge_instr h n (instr_of i)) q ∙ block_plain s heads body
      ∙ ap (λ (ds : List Head). judge_block h n (map head_of ds) (instrs_of body.items)) (sym a)
      ∙ ap (λ (bs : List Instr). judge_block h n (map head_of ds) (instrs_of bs)) (sym b)) f

-- ---- an `elseif`

-- the part at a branch
pub branch_fails : (h : RoutineContext) (n : Entities) (bs : List Branch) (k : ℕ) (b : Branch) (is : List Instr) (m : Entities) (f : CheckFault) →
    k < length bs → b ≡ get_or bs k b → is ≡ b.body.items → m ≡ n → judge_branches h n (branches_of bs) ≡ judge_branches h n (branches_of (drop k bs)) →
    Faults (judge_branch h m (expr_of b.condition) (instrs_of is)) f → Faults (judge_branches h n (branches_of bs)) f
unfolding judge_instr
branch_fails h n bs k b is m f l g a q inv x =
    faults_along (judge_branches h n (branches_of bs))
    (judge_branch h m (expr_of b.condition) (instrs_of is) >>= λ u. judge_branches h n (branches_of (drop (k + 1) bs))) f
    (inv ∙ ap (λ (bs : List Branch). judge_branches h n (branches_of bs)) (at bs k b l g)
    ∙ if_is h n (expr_of b.condition) (instrs_of b.body.items) (judge_branches h n (branches_of (drop (k + 1) bs)))
    ∙ ap (λ (is : List Instr). judge_branch h n (expr_of b.condition) (instrs_of is) >>= λ u. judge_branches h n (branches_of (drop (k + 1) bs))) (sym a)
    ∙ ap (λ m. judge_branch h m (expr_of b.condition) (instrs_of is) >>= λ u. judge_branches h n (branches_of (drop (k + 1) bs))) (sym q))
    (faults_first (judge_branch h m (expr_of b.condition) (instrs_of is)) (λ u. judge_branches h n (branches_of (drop (k + 1) bs))) f x)
