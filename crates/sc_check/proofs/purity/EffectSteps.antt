-- Effects that are put behind others, part after part.
use Rattle.std.proofs.Common.{◌≡◌, Bool, true, false, List, [], ◌∷◌, Option, Result, Ok, Err, ◌++◌, map, refl, ap, sym, subst, ◌∙◌, append_assoc}
use Rattle.std.proofs.lemmas.List.{append-nil}
use Rattle.std.specs.Prelude.{◌||◌}
use Rattle.std.specs.declared.vec.Vec.{Vec}
use Rattle.std.specs.declared.alloc.Global.{Global}
use Rattle.std.specs.declared.string.String.{String}
use Rattle.std.specs.declared.rc.Rc.{Rc}
use Rattle.sc_text.specs.declared.token.Span.{Span}
use Rattle.sc_tree.specs.declared.expression.UnaryOperator.{UnaryOperator}
use Rattle.sc_tree.specs.declared.expression.BinaryOperator.{BinaryOperator}
use Rattle.sc_tree.specs.declared.expression.Expr.{Expr}
use Rattle.sc_tree.specs.declared.expression.Expr.TheVariants as expr
use Rattle.sc_tree.specs.declared.expression.Call.{Call}
use Rattle.sc_tree.specs.declared.instruction.Clause.{Clause}
use Rattle.sc_tree.specs.declared.instruction.CreationCall.{CreationCall}
use Rattle.sc_tree.specs.declared.instruction.Head.{Head}
use Rattle.sc_tree.specs.declared.instruction.Variable.{Variable}
use Rattle.sc_tree.specs.declared.instruction.Branch.{Branch}
use Rattle.sc_tree.specs.declared.instruction.Instr.{Instr}
use Rattle.sc_tree.specs.declared.instruction.Instr.TheVariants as instr
use Rattle.sc_tree.specs.Plain as plain
use Rattle.sc_tree.specs.Plain.{DeclaredType, Name, Target, no_target, target}
use Rattle.sc_tree.specs.View.{expr_of, exprs_of, name_of, target_of, clause_of, creation_call_of, head_of, instr_of, instrs_of, branches_of, variable_of}
use Rattle.sc_tree.proofs.ViewLemmas.{expr_of-call, instr_of-assign, instr_of-print_text, instr_of-call, instr_of-create, instr_of-if, instr_of-loop, instr_of-check, instr_of-block}
use Rattle.sc_rules.specs.declared.entity_types.entity_type.EntityType.{EntityType}
use Rattle.sc_rules.specs.declared.fault.Fault.{Fault}
use Rattle.sc_rules.specs.declared.position.Context.{Context}
use Rattle.sc_rules.specs.declared.position.Context.TheVariants as context
use Rattle.sc_rules.specs.declared.position.Position.{Position}
use Rattle.sc_rules.specs.declared.position.Position.TheVariants.{Plain, Condition, Source}
use Rattle.sc_rules.specs.declared.position.Use.TheVariants.{Value}
use Rattle.sc_rules.specs.Positions.{span_of, is_condition, operand_context, operand_position}
use Rattle.sc_rules.specs.Names.{RoutineContext, Entities, Meaning, meaning_of, Assignee, assignee}
use Rattle.sc_rules.specs.Typing as typing
use Rattle.sc_rules.specs.Typing.{is_foreign_type}
use Rattle.sc_rules.specs.Judging.{Judged, ◌>>=◌, JudgedActual, judged_type, judge_target, judge_actuals_and_name, judge_called, judge, judge_receiver, judged_actuals}
use Rattle.sc_rules.specs.JudgingPurity as judging
use Rattle.sc_check.specs.declared.purity.effects.Effect.{Effect}
use Rattle.sc_typing.specs.declared.fault.CheckFault.{CheckFault}
use Rattle.sc_typing.specs.declared.fault.CheckFault.TheVariants.{OutOfMemory, Refused}
use Rattle.sc_typing.specs.declared.expressions.typing.Typing.{Typing}
use Rattle.sc_typing.specs.declared.expressions.typing.JudgedActual as code
use Rattle.sc_typing.specs.Views.{actual_in, typing_of}
use Rattle.sc_typing.specs.Judges.{Judges, fault_kept, judge_call}
use Rattle.sc_check.specs.purity.Internal.Effects.{effect_of, Adds, IsFound, target_found, received, judge_met, judge_behind_operand, judge_behind_operands, judge_misplaced, effects_in_call, effects_of_create, effects_of_branch, effects_of_heads_and_body, effects_of_if, effects_of_loop, effects_of_block}
use Rattle.sc_typing.proofs.CallSteps.{judge_call-is}

pub added_two : (old mid new : List Effect) (a b : List judging.Effect) → map effect_of mid ≡ map effect_of old ++ a → map effect_of new ≡ map effect_of mid ++ b →
    map effect_of new ≡ map effect_of old ++ (a ++ b)
added_two old mid new a b e f = f ∙ ap (λ (ds : List judging.Effect). ds ++ b) e ∙ append_assoc (map effect_of old) a b

pub added_three : (old one two new : List Effect) (a b c : List judging.Effect) → map effect_of one ≡ map effect_of old ++ a → map effect_of two ≡ map effect_of one ++ b →
    map effect_of new ≡ map effect_of two ++ c → map effect_of new ≡ map effect_of old ++ (a ++ (b ++ c))
added_three old one two new a b c e f g = added_two old one new a (b ++ c) e (added_two one two new b c f g)

pub none_added : (old : List Effect) (ds : List judging.Effect) → ds ≡ [] → map effect_of old ≡ map effect_of old ++ ds
none_added old ds q = sym (ap (λ (ds : List judging.Effect). map effect_of old ++ ds) q ∙ append-nil (map effect_of old))

pub added_same : {A : Type 0} (old new : List Effect) (a b : List judging.Effect) (r : Result A CheckFault) → a ≡ b → Adds old new a r → Adds old new b r
added_same old new a b r q f = subst (λ (ds : List judging.Effect). Adds old new ds r) q f

-- an expression that is a call
effects_in_call-are : (h : RoutineContext) (c : Context) (k : Position) (n : Entities) (d : Call) →
    judging.effects h c k n (expr_of (expr.Call d)) ≡ effects_in_call h c n (target_of d.target) (name_of d.name) (exprs_of d.actuals.items)
unfolding judging.effects
effects_in_call-are h c k n d = ap (judging.effects h c k n) (expr_of-call d)

pub in_call : (h : RoutineContext) (c : Context) (k : Position) (n : Entities) (e : Expr) (d : Call) (old new : List Effect) (r : Result (Result Typing Fault) CheckFault) → e ≡ expr.Call d →
    Adds old new (effects_in_call h c n (target_of d.target) (name_of d.name) (exprs_of d.actuals.items)) r → Adds old new (judging.effects h c k n (expr_of e)) r
in_call h c k n e d old new r q f =
    subst (λ ds. Adds old new ds r) (sym (ap (λ (e : Expr). judging.effects h c k n (expr_of e)) q ∙ effects_in_call-are h c k n d)) f

-- ---- a call, behind its target and its actuals

receiver_is : (h : RoutineContext) (c : Context) (n : Entities) (a : Target) → judged_type (target_found h c n a) ≡ judging.receiver_type h c n a
receiver_is h c n no_target = refl
receiver_is h c n (target a) = refl

pub in_parts : (h : RoutineContext) (c : Context) (n : Entities) (a : Target) (x : Name) (es ds : List Expr) → ds ≡ es → (j : Judged typing.Typing) (t : Option EntityType) →
    j ≡ target_found h c n a → t ≡ judged_type j → (old one two new : List Effect) → map effect_of one ≡ map effect_of old ++ judging.effects_of_target h c n a →
    map effect_of two ≡ map effect_of one ++ judging.effects_of_actuals h c n (exprs_of ds) → map effect_of new ≡ map effect_of two ++ judging.effects_of_name h n a t x →
    map effect_of new ≡ map effect_of old ++ effects_in_call h c n a x (exprs_of es)
in_parts h c n a x es ds dq j t jq tq old one two new f g k =
    added_three old one two new _ _ _ f g k
    ∙ ap (λ (ds : List Expr). map effect_of old ++ (judging.effects_of_target h c n a ++ (judging.effects_of_actuals h c n (exprs_of ds) ++ judging.effects_of_name h n a t x))) dq
    ∙ ap (λ t. map effect_of old ++ (judging.effects_of_target h c n a ++ (judging.effects_of_actuals h c n (exprs_of es) ++ judging.effects_of_name h n a t x)))
    (tq ∙ ap judged_type jq ∙ receiver_is h c n a)

-- what is found is kept
pub kept_adds : (old new : List Effect) (ds : List judging.Effect) (r : Result Typing CheckFault) (k : Result (Result Typing Fault) CheckFault) → k ≡ fault_kept r →
    map effect_of new ≡ map effect_of old ++ ds → Adds old new ds k
kept_adds old new ds (Ok t) k q e = subst (Adds old new ds) (sym q) e
kept_adds old new ds (Err (Refused f)) k q e = subst (Adds old new ds) (sym q) e
kept_adds old new ds (Err OutOfMemory) k q e = subst (Adds old new ds) (sym q) refl

pub kept_found : (j : Judged typing.Typing) (r : Result Typing CheckFault) (k : Result (Result Typing Fault) CheckFault) → k ≡ fault_kept r → Judges typing_of j r → IsFound j k
kept_found j (Ok t) k q f = subst (IsFound j) (sym q) (sym f)
kept_found j (Err (Refused e)) k q f = subst (IsFound j) (sym q) (sym f)
kept_found j (Err OutOfMemory) k q f = subst (IsFound j) (sym q) refl

module _ (h : RoutineContext) (c : Context) (n : Entities) where
  -- the type of the target is the one that judging the call finds
  met_is : (a : Target) (x : Name) (rs : List JudgedActual) (j : Judged typing.Typing) →
      judge_met h c a (meaning_of h n a (judged_type j) x) x.span rs j ≡ (j >>= λ t. received a t >>= λ r. judge_called h c n Value a x rs r)
  met_is a x rs (Err f) = refl
  met_is no_target x rs (Ok t) = refl
  met_is (target b) x rs (Ok t) = by (judge_target (span_of b) t.type)
    where
      by : (k : Judged (Unit {0})) →
          ((k >>= λ u. Ok (typing.typing t.type (t.is_separate || is_foreign_type t.type))) >>= λ r. judge_actuals_and_name h c Value (target b) (meaning_of h n (target b) t.type x) x.span rs r)
          ≡ ((k >>= λ u. Ok (typing.typing t.type (t.is_separate || is_foreign_type t.type))) >>= λ r. judge_called h c n Value (target b) x rs r)
      by (Ok u) = refl
      by (Err e) = refl

  receiver_met : (a : Target) (f : typing.Typing → Judged typing.Typing) → (target_found h c n a >>= λ t. received a t >>= f) ≡ (judge_receiver h c n a >>= f)
  unfolding judge
  receiver_met no_target f = refl
  receiver_met (target b) f = by (judge h c Plain n b)
    where
      by : (j : Judged typing.Typing) → (j >>= λ t. received (target b) t >>= f) ≡ ((j >>= λ t. received (target b) t) >>= f)
      by (Ok t) = refl
      by (Err e) = refl

  pub call_found : (a : Target) (x : Name) (es ds : List Expr) (fs gs : List code.JudgedActual) (j : Judged typing.Typing) (t : Option EntityType) (m : Meaning)
      (r : Result Typing CheckFault) (k : Result (Result Typing Fault) CheckFault) → j ≡ target_found h c n a → t ≡ judged_type j → m ≡ meaning_of h n a t x →
      ds ≡ es → map actual_in fs ≡ judged_actuals h c n (exprs_of ds) → gs ≡ fs → k ≡ fault_kept r → Judges typing_of (judge_met h c a m x.span (map actual_in gs) j) r →
      IsFound (judge_call h c n Value a x (exprs_of es)) k
  call_found a x es ds fs gs j t m r k jq tq mq dq fq gq kq f =
      subst (λ i. IsFound i k)
      (ap (λ m. judge_met h c a m x.span (map actual_in gs) j) (mq ∙ ap (λ t. meaning_of h n a t x) tq)
      ∙ met_is a x (map actual_in gs) j
      ∙ ap (λ (fs : List code.JudgedActual). j >>= λ t. received a t >>= λ r. judge_called h c n Value a x (map actual_in fs) r) gq
      ∙ ap (λ rs. j >>= λ t. received a t >>= λ r. judge_called h c n Value a x rs r) fq
      ∙ ap (λ (ds : List Expr). j >>= λ t. received a t >>= λ r. judge_called h c n Value a x (judged_actuals h c n (exprs_of ds)) r) dq
      ∙ ap (λ j. j >>= λ t. received a t >>= λ r. judge_called h c n Value a x (judged_actuals h c n (exprs_of es)) r) jq
      ∙ receiver_met a (λ r. judge_called h c n Value a x (judged_actuals h c n (exprs_of es)) r))
      (kept_found (judge_met h c a m x.span (map actual_in gs) j) r k kq f)

  pub found_in_call : (s : Position) (e : Expr) (d : Call) (k : Result (Result Typing Fault) CheckFault) → e ≡ expr.Call d →
      IsFound (judge_call h c n Value (target_of d.target) (name_of d.name) (exprs_of d.actuals.items)) k → IsFound (judge h c s n (expr_of e)) k
  found_in_call s e d k q f = subst (λ j. IsFound j k) (sym (ap (λ (e : Expr). judge h c s n (expr_of e)) q ∙ judge_call-is h c n s d)) f

  -- what stands in no condition
  binary_is : (k : Position) (s : Span) (op : BinaryOperator) (a b : plain.Expr) → is_condition k ≡ false →
      judge_behind_operands s op (judge h c (operand_position op) n a) (judge h c (operand_position op) n b) ≡ judge h c k n (plain.Binary s op a b)
  unfolding judge
  binary_is Plain s op a b i = refl
  binary_is Source s op a b i = refl
  binary_is Condition s op a b i = cc

  misplaced_is : (k : Position) (s : Span) (d : Option DeclaredType) (a : plain.Expr) (x : Name) → is_condition k ≡ false →
      judge_misplaced h s d (judge h c Plain n a) ≡ judge h c k n (plain.ObjectTest s d a x)
  unfolding judge
  misplaced_is Plain s d a x i = refl
  misplaced_is Source s d a x i = refl
  misplaced_is Condition s d a x i = cc

  pub found_in_binary : (k : Position) (e : plain.Expr) (s : Span) (op : BinaryOperator) (a b : plain.Expr) (i j : Judged typing.Typing) (r : Result Typing CheckFault)
      (v : Result (Result Typing Fault) CheckFault) → is_condition k ≡ false → e ≡ plain.Binary s op a b → i ≡ judge h c (operand_position op) n a → j ≡ judge h c (operand_position op) n b →
      v ≡ fault_kept r → Judges typing_of (judge_behind_operands s op i j) r → IsFound (judge h c k n e) v
  found_in_binary k e s op a b i j r v z q iq jq vq f =
      subst (λ j. IsFound j v)
      (ap (λ i. judge_behind_operands s op i j) iq ∙ ap (λ j. judge_behind_operands s op (judge h c (operand_position op) n a) j) jq ∙ binary_is k s op a b z ∙ ap (λ e. judge h c k n e) (sym q))
      (kept_found (judge_behind_operands s op i j) r v vq f)

  pub found_in_test : (k : Position) (e : plain.Expr) (s : Span) (d : Option DeclaredType) (a : plain.Expr) (x : Name) (j : Judged typing.Typing) (r : Result Typing CheckFault)
      (v : Result (Result Typing Fault) CheckFault) → is_condition k ≡ false → e ≡ plain.ObjectTest s d a x → j ≡ judge h c Plain n a →
      v ≡ fault_kept r → Judges typing_of (judge_misplaced h s d j) r → IsFound (judge h c k n e) v
  found_in_test k e s d a x j r v z q jq vq f =
      subst (λ j. IsFound j v) (ap (λ j. judge_misplaced h s d j) jq ∙ misplaced_is k s d a x z ∙ ap (λ e. judge h c k n e) (sym q))
      (kept_found (judge_misplaced h s d j) r v vq f)

  pub found_in_unary : (i : Context) (k : Position) (e : plain.Expr) (s : Span) (op : UnaryOperator) (a b : plain.Expr) (j : Judged typing.Typing) (r : Result Typing CheckFault)
      (v : Result (Result Typing Fault) CheckFault) → e ≡ plain.Unary s op b → i ≡ operand_context op c → a ≡ b → j ≡ judge h i Plain n a →
      v ≡ fault_kept r → Judges typing_of (judge_behind_operand c s op j) r → IsFound (judge h c k n e) v
  unfolding judge
  found_in_unary i k e s op a b j r v q iq aq jq vq f =
      subst (λ j. IsFound j v)
      (ap (judge_behind_operand c s op) (jq ∙ ap (λ (i : Context). judge h i Plain n a) iq ∙ ap (judge h (operand_context op c) Plain n) aq) ∙ sym (ap (judge h c k n) q))
      (kept_found (judge_behind_operand c s op j) r v vq f)

  -- ---- what is done in operands

  pub effects_in_unary : (i : Context) (k : Position) (e : plain.Expr) (s : Span) (op : UnaryOperator) (a b : plain.Expr) → e ≡ plain.Unary s op b →
      i ≡ operand_context op c → a ≡ b → judging.effects h i Plain n a ≡ judging.effects h c k n e
  unfolding judging.effects
  effects_in_unary i k e s op a b q iq aq =
      ap (λ (i : Context). judging.effects h i Plain n a) iq ∙ ap (judging.effects h (operand_context op c) Plain n) aq ∙ sym (ap (judging.effects h c k n) q)

  binary_effects : (k : Position) (s : Span) (op : BinaryOperator) (a b : plain.Expr) → is_condition k ≡ false →
      judging.effects h c (operand_position op) n a ++ judging.effects h c (operand_position op) n b ≡ judging.effects h c k n (plain.Binary s op a b)
  unfolding judging.effects
  binary_effects Plain s op a b i = refl
  binary_effects Source s op a b i = refl
  binary_effects Condition s op a b i = cc

  pub effects_in_binary : (k side : Position) (e : plain.Expr) (s : Span) (op : BinaryOperator) (a b x y : plain.Expr) → is_condition k ≡ false → e ≡ plain.Binary s op x y →
      side ≡ operand_position op → a ≡ x → b ≡ y → judging.effects h c side n a ++ judging.effects h c side n b ≡ judging.effects h c k n e
  effects_in_binary k side e s op a b x y z q w f g =
      ap (λ (k : Position). judging.effects h c k n a ++ judging.effects h c k n b) w
      ∙ ap (λ (a : plain.Expr). judging.effects h c (operand_position op) n a ++ judging.effects h c (operand_position op) n b) f
      ∙ ap (λ (b : plain.Expr). judging.effects h c (operand_position op) n x ++ judging.effects h c (operand_position op) n b) g
      ∙ binary_effects k s op x y z ∙ sym (ap (judging.effects h c k n) q)

  pub effects_in_test : (k : Position) (e : plain.Expr) (s : Span) (d : Option DeclaredType) (a b : plain.Expr) (x : Name) → e ≡ plain.ObjectTest s d b x → a ≡ b →
      judging.effects h c Plain n a ≡ judging.effects h c k n e
  unfolding judging.effects
  effects_in_test k e s d a b x q aq = ap (judging.effects h c Plain n) aq ∙ sym (ap (judging.effects h c k n) q)

-- ---- instructions with parts in rows

module _ (h : RoutineContext) (n : Entities) (i : Instr) where
  if_effects : (s : Span) (e : Expr) (body : Vec Instr Global) (bs : Vec Branch Global) (other : Vec Instr Global) → i ≡ instr.If s e body bs other →
      effects_of_if h n (expr_of e) (instrs_of body.items) (branches_of bs.items) (instrs_of other.items) ≡ judging.effects_of_instr h n (instr_of i)
  unfolding judging.effects_of_instr
  if_effects s e body bs other q =
      append_assoc (judging.effects h context.Body Condition n (expr_of e)) (judging.effects_of_instrs h (judging.given_anyway h context.Body n (expr_of e)) (instrs_of body.items))
      (judging.effects_of_branches h n (branches_of bs.items) ++ judging.effects_of_instrs h n (instrs_of other.items))
      ∙ sym (ap (λ (i : Instr). judging.effects_of_instr h n (instr_of i)) q ∙ ap (judging.effects_of_instr h n) (instr_of-if s e body bs other))

  loop_effects : (s : Span) (initial : Vec Instr Global) (e : Expr) (body : Vec Instr Global) → i ≡ instr.Loop s initial e body →
      effects_of_loop h n (instrs_of initial.items) (expr_of e) (instrs_of body.items) ≡ judging.effects_of_instr h n (instr_of i)
  unfolding judging.effects_of_instr
  loop_effects s initial e body q =
      sym (ap (λ (i : Instr). judging.effects_of_instr h n (instr_of i)) q ∙ ap (judging.effects_of_instr h n) (instr_of-loop s initial e body))

  block_effects : (s : Span) (heads : Vec Head Global) (body : Vec Instr Global) → i ≡ instr.Block s heads body →
      effects_of_block h n (map head_of heads.items) (instrs_of body.items) ≡ judging.effects_of_instr h n (instr_of i)
  unfolding judging.effects_of_instr
  block_effects s heads body q =
      sym (ap (λ (i : Instr). judging.effects_of_instr h n (instr_of i)) q ∙ ap (judging.effects_of_instr h n) (instr_of-block s heads body))

  instr_effects : (p : plain.Instr) (d : Instr) → i ≡ d → instr_of d ≡ p → judging.effects_of_instr h n p ≡ judging.effects_of_instr h n (instr_of i)
  instr_effects p d q e = sym (ap (λ (i : Instr). judging.effects_of_instr h n (instr_of i)) q ∙ ap (judging.effects_of_instr h n) e)

  pub in_assign : (s : Span) (v : Variable) (e : Expr) → i ≡ instr.Assign s v e → (to : Assignee) (b : Bool) → to ≡ assignee h n (variable_of v) → b ≡ judging.is_to_attribute to →
      (old one new : List Effect) → map effect_of one ≡ map effect_of old ++ judging.side_effect_if b →
      map effect_of new ≡ map effect_of one ++ judging.effects h context.Body Source n (expr_of e) →
      map effect_of new ≡ map effect_of old ++ judging.effects_of_instr h n (instr_of i)
  unfolding judging.effects_of_instr
  in_assign s v e q to b tq bq old one new f g =
      added_two old one new _ _ f g
      ∙ ap (λ (ds : List judging.Effect). map effect_of old ++ ds)
      (ap (λ (b : Bool). judging.side_effect_if b ++ judging.effects h context.Body Source n (expr_of e)) (bq ∙ ap judging.is_to_attribute tq)
      ∙ instr_effects _ (instr.Assign s v e) q (instr_of-assign s v e))

  pub print_effects : (s : Span) (x : Rc (String Global) Global) → i ≡ instr.PrintText s x → judging.side_effect_if true ≡ judging.effects_of_instr h n (instr_of i)
  unfolding judging.effects_of_instr
  print_effects s x q = instr_effects _ (instr.PrintText s x) q (instr_of-print_text s x)

  pub command_effects : (d : Call) → i ≡ instr.Call d →
      effects_in_call h context.Body n (target_of d.target) (name_of d.name) (exprs_of d.actuals.items) ≡ judging.effects_of_instr h n (instr_of i)
  unfolding judging.effects_of_instr
  command_effects d q = instr_effects _ (instr.Call d) q (instr_of-call d)

  pub create_effects : (s : Span) (v : Variable) (k : Option CreationCall) → i ≡ instr.Create s v k →
      effects_of_create h n (creation_call_of k) ≡ judging.effects_of_instr h n (instr_of i)
  unfolding judging.effects_of_instr
  create_effects s v k q = instr_effects _ (instr.Create s v k) q (instr_of-create s v k)

  pub check_effects : (s : Span) (clauses : Vec Clause Global) → i ≡ instr.Check s clauses → (ks : List Clause) → ks ≡ clauses.items →
      judging.effects_of_clauses h n (map clause_of ks) ≡ judging.effects_of_instr h n (instr_of i)
  unfolding judging.effects_of_instr
  check_effects s clauses q ks e =
      ap (λ (ks : List Clause). judging.effects_of_clauses h n (map clause_of ks)) e ∙ instr_effects _ (instr.Check s clauses) q (instr_of-check s clauses)

  pub in_if : (s : Span) (e : Expr) (body : Vec Instr Global) (bs : Vec Branch Global) (other : Vec Instr Global) → i ≡ instr.If s e body bs other →
      (is : List Instr) → is ≡ body.items → (cs : List Branch) → cs ≡ bs.items → (os : List Instr) → os ≡ other.items → (old one two new : List Effect) →
      map effect_of one ≡ map effect_of old ++ effects_of_branch h n (expr_of e) (instrs_of is) →
      map effect_of two ≡ map effect_of one ++ judging.effects_of_branches h n (branches_of cs) →
      map effect_of new ≡ map effect_of two ++ judging.effects_of_instrs h n (instrs_of os) →
      map effect_of new ≡ map effect_of old ++ judging.effects_of_instr h n (instr_of i)
  in_if s e body bs other q is a cs b os d old one two new f g k =
      added_three old one two new _ _ _ f g k
      ∙ ap (λ (ds : List judging.Effect). map effect_of old ++ ds)
      (ap (λ (is : List Instr). effects_of_if h n (expr_of e) (instrs_of is) (branches_of cs) (instrs_of os)) a
      ∙ ap (λ (cs : List Branch). effects_of_if h n (expr_of e) (instrs_of body.items) (branches_of cs) (instrs_of os)) b
      ∙ ap (λ (os : List Instr). effects_of_if h n (expr_of e) (instrs_of body.items) (branches_of bs.items) (instrs_of os)) d
      ∙ if_effects s e body bs other q)

  pub in_loop : (s : Span) (initial : Vec Instr Global) (e : Expr) (body : Vec Instr Global) → i ≡ instr.Loop s initial e body →
      (is : List Instr) → is ≡ initial.items → (js : List Instr) → js ≡ body.items → (old one two new : List Effect) →
      map effect_of one ≡ map effect_of old ++ judging.effects_of_instrs h n (instrs_of is) →
      map effect_of two ≡ map effect_of one ++ judging.effects h context.Body Plain n (expr_of e) →
      map effect_of new ≡ map effect_of two ++ judging.effects_of_instrs h n (instrs_of js) →
      map effect_of new ≡ map effect_of old ++ judging.effects_of_instr h n (instr_of i)
  in_loop s initial e body q is a js b old one two new f g k =
      added_three old one two new _ _ _ f g k
      ∙ ap (λ (ds : List judging.Effect). map effect_of old ++ ds)
      (ap (λ (is : List Instr). effects_of_loop h n (instrs_of is) (expr_of e) (instrs_of js)) a
      ∙ ap (λ (js : List Instr). effects_of_loop h n (instrs_of initial.items) (expr_of e) (instrs_of js)) b
      ∙ loop_effects s initial e body q)

  pub in_block : (s : Span) (heads : Vec Head Global) (body : Vec Instr Global) → i ≡ instr.Block s heads body →
      (ds : List Head) → ds ≡ heads.items → (is : List Instr) → is ≡ body.items → (old one new : List Effect) →
      map effect_of one ≡ map effect_of old ++ judging.side_effect_if true →
      map effect_of new ≡ map effect_of one ++ effects_of_heads_and_body h n (map head_of ds) (instrs_of is) →
      map effect_of new ≡ map effect_of old ++ judging.effects_of_instr h n (instr_of i)
  in_block s heads body q ds a is d old one new f g =
      added_two old one new _ _ f g
      ∙ ap (λ (es : List judging.Effect). map effect_of old ++ (judging.side_effect ∷ es))
      (ap (λ (ds : List Head). effects_of_heads_and_body h n (map head_of ds) (instrs_of is)) a
      ∙ ap (λ (is : List Instr). effects_of_heads_and_body h n (map head_of heads.items) (instrs_of is)) d)
      ∙ ap (λ (es : List judging.Effect). map effect_of old ++ es) (block_effects s heads body q)
