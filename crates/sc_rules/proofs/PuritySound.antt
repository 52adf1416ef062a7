-- What stands in a site's list of effects is done within it.
use Rattle.std.proofs.Common.{◌≡◌, ◌<◌, suc, arith, Bool, true, false, List, [], ◌∷◌, Option, Some, None, Ok, Err, refl, sym, ◌∙◌, subst}
use Rattle.std.specs.Prelude.{not, ◌++◌, is_some, Contains, length, if◌then◌else◌}
use Rattle.sc_text.specs.declared.token.Span.{Span}
use Rattle.sc_tree.specs.declared.expression.BinaryOperator.{BinaryOperator}
use Rattle.sc_tree.specs.Plain as plain
use Rattle.sc_tree.specs.Plain.{Clause, Head, Name, Variable, CreationCall, Creation, Expr, Integer, Boolean, Void, Current, Call, Unary, Binary, ObjectTest, Target, no_target, target, Exprs, no_exprs, expr_then, Instr, Assign, PrintText, CallRoutine, Create, If, Loop, Check, Block, SeparateBlock, block_instr, Instrs, no_instrs, instr_then, Branches, no_branches, branch_then}
use Rattle.sc_rules.specs.declared.entity_types.entity_type.EntityType.{EntityType}
use Rattle.sc_rules.specs.declared.rule.Rule.{Rule}
use Rattle.sc_rules.specs.declared.fault.Fault.{Fault}
use Rattle.sc_rules.specs.declared.position.Context.{Context}
use Rattle.sc_rules.specs.declared.position.Context.TheVariants as context
use Rattle.sc_rules.specs.declared.position.Position.{Position}
use Rattle.sc_rules.specs.declared.position.Position.TheVariants.{Plain, Condition, Source}
use Rattle.sc_rules.specs.declared.position.Role.TheVariants as role
use Rattle.sc_rules.specs.Positions.{is_and_then, operand_context, operand_position, shares_names}
use Rattle.sc_rules.specs.Names.{RoutineContext, Entities, entity, blocks, block_type, Signature, Meaning, unknown, target_untyped, named, current, meaning_of, Assignee, unknown_assignee, unassignable, to_local, to_attribute, assignee}
use Rattle.sc_rules.specs.Typing.{Typing, is_foreign_type, HasType, implicit, explicit}
use Rattle.sc_rules.specs.Sites.{Site, expression, instruction, instructions, branches, IsActual, first_actual, later_actual, Part, target_part, actual_part, operand_part, left_part, right_part, joined_left_part, tested_part, source_part, call_target_part, call_actual_part, creation_actual_part, condition_part, elseif_part, else_part, from_part, until_part, loop_part, check_part, head_part, first_part, others_part, branch_condition_part, later_branches_part}
use Rattle.sc_rules.specs.Purity.{HasTypeIfAny, of_type, of_none, GivesAnyway, by_test, by_both, nothing, ReservesAnyway, no_more, one_more, PartAnyway, part, held_part, then_part, branch_part, block_part, itself, inside, IsCall, as_value, as_instruction, Calls, calls, assigns, creates, prints, opens, calls_procedure, calls_separately}
use Rattle.sc_rules.specs.Judging.{Judged, judged_type, judge}
use Rattle.sc_rules.specs.JudgingPurity.{Effect, side_effect, side_effect_if, call_if_any, effects_of_meaning, effects_of_name, effects_of_call, is_to_attribute, given_anyway, reserved_anyway, effects, effects_of_target, effects_of_actuals, effects_of_creation, effects_of_clauses, effects_of_heads, effects_of_instr, effects_of_instrs, effects_of_branches, effects_at, Lists, first, later, HasEffect, of_side_effect, of_routine_call, HasEffectWithin}
use Rattle.sc_rules.proofs.Complete as complete
use Rattle.sc_rules.proofs.PurityLists.{in_either, from_side_effect_if, from_call_if_any, AmongEach, among, from_each}
use Rattle.sc_rules.proofs.Refusals.{Gave, gave, refuses}
use Rattle.sc_rules.proofs.Sound.{told}

-- what judging gives is so
given_so : {A : Type 0} {Q : A → Type 0} {P : Rule → Span → Type 0} {j : Judged A} → Gave Q P j → (x : A) → j ≡ Ok x →
    Q x
given_so {A} {Q} (gave {x = y} q) x e = subst Q (same e) q
  where
    same : ◌≡◌ {A = Judged A} (Ok y) (Ok x) → y ≡ x
    same e = cc
given_so (refuses f) x e = cc

pub sound : {h : RoutineContext} {c : Context} {k : Position} {n : Entities} {e : Expr} {t : Typing} →
    judge h c k n e ≡ Ok t → HasType h c k n e t
sound {h} {c} {k} {n} {e} {t} i = given_so (told h c k n e) t i

-- ---- what stands behind a mistake

type_if_any : (h : RoutineContext) (c : Context) (n : Entities) (e : Expr) →
    HasTypeIfAny h c n e (judged_type (judge h c Plain n e))
type_if_any h c n e = by (judge h c Plain n e) refl
  where
    refused : (f : Fault) (t : Typing) → ◌≡◌ {A = Judged Typing} (Err f) (Ok t) → ⊥
    refused f t q = cc

    by : (j : Judged Typing) → judge h c Plain n e ≡ j → HasTypeIfAny h c n e (judged_type j)
    by (Ok t) i = of_type (sound i)
    by (Err f) i = of_none (λ t d. refused f t (sym i ∙ complete.typed d))

gives_anyway : (h : RoutineContext) (c : Context) (n : Entities) (e : Expr) → GivesAnyway h c n e (given_anyway h c n e)
gives_anyway h c n (Integer s v) = nothing refl
gives_anyway h c n (Boolean s v) = nothing refl
gives_anyway h c n (Void s) = nothing refl
gives_anyway h c n (Current s) = nothing refl
gives_anyway h c n (plain.Result s) = nothing refl
gives_anyway h c n (Call s t x es) = nothing refl
gives_anyway h c n (Unary s op a) = nothing refl
gives_anyway h c n (Binary s op a b) = by (is_and_then op) refl (gives_anyway h c n a)
    (gives_anyway h c (given_anyway h c n a) b)
  where
    by : (x : Bool) → is_and_then op ≡ x → GivesAnyway h c n a (given_anyway h c n a) →
        GivesAnyway h c (given_anyway h c n a) b (given_anyway h c (given_anyway h c n a) b) →
        GivesAnyway h c n (Binary s op a b) (if x then given_anyway h c (given_anyway h c n a) b else n)
    by true i g k = by_both i g k
    by false i g k = nothing i
gives_anyway h c n (ObjectTest s d a x) = by_test (type_if_any h c n a)

reserves_anyway : (h : RoutineContext) (n m : Entities) (ds : List Head) →
    ReservesAnyway h n m ds (reserved_anyway h n m ds)
reserves_anyway h n m [] = no_more
reserves_anyway h n m (d ∷ ds) =
    one_more (type_if_any h context.Body n d.value)
    (reserves_anyway h n (m ++ entity d.name.text (block_type (blocks m) (judged_type (judge h context.Body Plain n d.value))) role.Block ∷ []) ds)

done_here : {h : RoutineContext} {a : Site} {d : Effect} → HasEffect h a d → HasEffectWithin h a d
done_here {a} k = record { site = a; within = itself; does = k }

farther : {h : RoutineContext} {a b : Site} {d : Effect} → PartAnyway h a b → HasEffectWithin h b d →
    HasEffectWithin h a d
farther i k = record { site = k.site; within = inside i k.within; does = k.does }

deeper : {h : RoutineContext} {a b : Site} {d : Effect} → Part h a b → HasEffectWithin h b d → HasEffectWithin h a d
deeper i k = farther (part i) k

-- ---- calls

none_given : (o : Option (Option EntityType)) → not (is_some o) ≡ true → o ≡ None
none_given None e = refl
none_given (Some t) e = cc

-- a call of what is meant
of_meaning : (h : RoutineContext) (a : Site) (m : Meaning) → ((g : Signature) → m ≡ named g → Calls h a g) →
    {d : Effect} → Lists d (effects_of_meaning m) → HasEffect h a d
of_meaning h a unknown f p = elim p [ ]
of_meaning h a target_untyped f p = elim p [ ]
of_meaning h a (named g) f p = in_either (side_effect_if (not (is_some g.gives))) (call_if_any g.routine) p
    (from_side_effect_if (HasEffect h a) (not (is_some g.gives)) (λ e. of_side_effect (calls_procedure (f g refl) (none_given g.gives e))))
    (from_call_if_any (HasEffect h a) g.routine (λ r e. of_routine_call (f g refl) e))

-- a call on a target, of which judging finds this
on_target : (h : RoutineContext) (a : Site) (c : Context) (n : Entities) (b : Expr) (x : Name) →
    IsCall a c n (target b) x → (j : Judged Typing) →
    judge h c Plain n b ≡ j → {d : Effect} →
    Lists d (effects_of_name h n (target b) (judged_type j) x) → HasEffect h a d
on_target h a c n b x i (Err f) e p = elim p [ ]
on_target h a c n b x i (Ok t) e p = in_either (side_effect_if (is_foreign_type t.type))
    (effects_of_meaning (meaning_of h n (target b) t.type x)) p
    (from_side_effect_if (HasEffect h a) (is_foreign_type t.type) (λ g. of_side_effect (calls_separately i (sound e) g)))
    (of_meaning h a (meaning_of h n (target b) t.type x) (λ g m. calls i (explicit (sound e)) m))

of_call : (h : RoutineContext) (a : Site) (c : Context) (n : Entities) (t : Target) (x : Name) → IsCall a c n t x →
    {d : Effect} → Lists d (effects_of_call h c n t x) →
    HasEffect h a d
of_call h a c n no_target x i p = of_meaning h a (meaning_of h n no_target (Some (current h)) x)
    (λ g m. calls i implicit m) p
of_call h a c n (target b) x i p = on_target h a c n b x i (judge h c Plain n b) refl p

attribute_of : (a : Assignee) → is_to_attribute a ≡ true → (t : Option EntityType) × (a ≡ to_attribute t)
attribute_of unknown_assignee e = cc
attribute_of unassignable e = cc
attribute_of (to_local t) e = cc
attribute_of (to_attribute t) e = (t, refl)

-- ---- parts

-- what is done in one of the actuals
record DoneAmong (h : RoutineContext) (c : Context) (n : Entities) (es : Exprs) (d : Effect) : Type 0 where
  actual : Expr
  is_one : IsActual actual es
  done_there : HasEffectWithin h (expression c Source n actual) d

among_actuals : {h : RoutineContext} {a : Site} {c : Context} {n : Entities} {es : Exprs} {d : Effect} →
    ((e : Expr) → IsActual e es →
    Part h a (expression c Source n e)) → DoneAmong h c n es d →
    HasEffectWithin h a d
among_actuals f k = deeper (f k.actual k.is_one) k.done_there

module _ (h : RoutineContext) (c : Context) (k : Position) (n : Entities) (s : Span) (op : BinaryOperator) (a b : Expr)
    (d : Effect) where
  of_operands : (j : Bool) → shares_names k op ≡ j →
      (Lists d (effects h c Condition n a) → HasEffectWithin h (expression c Condition n a) d) →
      (Lists d (effects h c Condition (given_anyway h c n a) b) → HasEffectWithin h (expression c Condition (given_anyway h c n a) b) d) →
      (Lists d (effects h c (operand_position op) n a) → HasEffectWithin h (expression c (operand_position op) n a) d) → (Lists d (effects h c (operand_position op) n b) → HasEffectWithin h (expression c (operand_position op) n b) d) →
      Lists d (if j then effects h c Condition n a ++ effects h c Condition (given_anyway h c n a) b else effects h c (operand_position op) n a ++ effects h c (operand_position op) n b) →
      HasEffectWithin h (expression c k n (Binary s op a b)) d
  of_operands true j f g u v p = in_either (effects h c Condition n a)
      (effects h c Condition (given_anyway h c n a) b) p
      (λ q. deeper (joined_left_part j) (f q))
      (λ q. farther (held_part j (gives_anyway h c n a)) (g q))
  of_operands false j f g u v p = in_either (effects h c (operand_position op) n a)
      (effects h c (operand_position op) n b) p
      (λ q. deeper (left_part j) (u q))
      (λ q. deeper (right_part j) (v q))

mutual
  unfolding effects

  of_expr : (h : RoutineContext) (c : Context) (k : Position) (n : Entities) (e : Expr) {d : Effect} →
      Lists d (effects h c k n e) → HasEffectWithin h (expression c k n e) d
  of_expr h c k n (Integer s v) p = elim p [ ]
  of_expr h c k n (Boolean s v) p = elim p [ ]
  of_expr h c k n (Void s) p = elim p [ ]
  of_expr h c k n (Current s) p = elim p [ ]
  of_expr h c k n (plain.Result s) p = elim p [ ]
  of_expr h c k n (Call s no_target x es) p = in_either (effects_of_actuals h c n es)
      (effects_of_call h c n no_target x) p
      (λ q. among_actuals (λ e i. actual_part i) (of_actuals h c n es q))
      (λ q. done_here (of_call h (expression c k n (Call s no_target x es)) c n no_target x as_value q))
  of_expr h c k n (Call s (target a) x es) p = in_either (effects h c Plain n a)
      (effects_of_actuals h c n es ++ effects_of_call h c n (target a) x) p
      (λ q. deeper target_part (of_expr h c Plain n a q))
      (λ q. in_either (effects_of_actuals h c n es) (effects_of_call h c n (target a) x) q
      (λ r. among_actuals (λ e i. actual_part i) (of_actuals h c n es r))
      (λ r. done_here (of_call h (expression c k n (Call s (target a) x es)) c n (target a) x as_value r)))
  of_expr h c k n (Unary s op a) p = deeper operand_part (of_expr h (operand_context op c) Plain n a p)
  of_expr h c k n (Binary s op a b) {d} p = of_operands h c k n s op a b d (shares_names k op) refl
      (λ q. of_expr h c Condition n a q) (λ q. of_expr h c Condition (given_anyway h c n a) b q)
      (λ q. of_expr h c (operand_position op) n a q) (λ q. of_expr h c (operand_position op) n b q) p
  of_expr h c k n (ObjectTest s t a x) p = deeper tested_part (of_expr h c Plain n a p)

  of_actuals : (h : RoutineContext) (c : Context) (n : Entities) (es : Exprs) {d : Effect} →
      Lists d (effects_of_actuals h c n es) → DoneAmong h c n es d
  of_actuals h c n no_exprs p = elim p [ ]
  of_actuals h c n (expr_then e es) p = in_either (effects h c Source n e) (effects_of_actuals h c n es) p
      (λ q. record { actual = e; is_one = first_actual; done_there = of_expr h c Source n e q })
      (λ q. later_among (of_actuals h c n es q))
    where
      later_among : {d : Effect} → DoneAmong h c n es d → DoneAmong h c n (expr_then e es) d
      later_among k = record { actual = k.actual; is_one = later_actual k.is_one; done_there = k.done_there }

-- ---- instructions

-- an element of a list is contained in it
held : {A : Type 0} {x : A} {xs : List A} → Lists x xs → Contains xs x
held (first {xs}) = (0, omega arith, refl)
held {x} (later {y} {xs} p) = next (held p)
  where
    next : Contains xs x → Contains (y ∷ xs) x
    next (k, l, e) = (suc k, more l, e)
      where
        more : k < length xs → suc k < suc (length xs)
        more l = omega arith

of_clauses : (h : RoutineContext) (n : Entities) (s : Span) (ks : List Clause) {d : Effect} →
    Lists d (effects_of_clauses h n ks) → HasEffectWithin h (instruction n (Check s ks)) d
of_clauses h n s ks {d} p = by_one (from_each (λ (k : Clause). effects h context.Check Plain n k.condition) ks p)
  where
    by_one : AmongEach (λ (k : Clause). effects h context.Check Plain n k.condition) d ks →
        HasEffectWithin h (instruction n (Check s ks)) d
    by_one (among k i q) = deeper (check_part (held i)) (of_expr h context.Check Plain n k.condition q)

of_heads : (h : RoutineContext) (n : Entities) (s : Span) (b : SeparateBlock) {d : Effect} →
    Lists d (effects_of_heads h n b.heads) →
    HasEffectWithin h (instruction n (block_instr s b)) d
of_heads h n s b {d} p = by_one (from_each (λ (x : Head). effects h context.Body Plain n x.value) b.heads p)
  where
    by_one : AmongEach (λ (x : Head). effects h context.Body Plain n x.value) d b.heads →
        HasEffectWithin h (instruction n (block_instr s b)) d
    by_one (among x i q) = deeper (head_part (held i)) (of_expr h context.Body Plain n x.value q)

of_creation : (h : RoutineContext) (n : Entities) (s : Span) (v : Creation) (o : Option CreationCall) → v.call ≡ o →
    {d : Effect} →
    Lists d (effects_of_creation h n o) → HasEffectWithin h (instruction n (Create s v)) d
of_creation h n s v None c p = elim p [ ]
of_creation h n s v (Some k) c p = among_actuals (λ e i. creation_actual_part c i)
    (of_actuals h context.Body n k.actuals p)

assigning : (h : RoutineContext) (n : Entities) (s : Span) (v : Variable) (e : Expr) →
    is_to_attribute (assignee h n v) ≡ true →
    HasEffectWithin h (instruction n (Assign s v e)) side_effect
assigning h n s v e i = done_here (of_side_effect (assigns (attribute_of (assignee h n v) i).1))

of_target : (h : RoutineContext) (n : Entities) (s : Span) (t : Target) (x : Name) (es : Exprs) {d : Effect} →
    Lists d (effects_of_target h context.Body n t) →
    HasEffectWithin h (instruction n (CallRoutine s t x es)) d
unfolding effects
of_target h n s no_target x es p = elim p [ ]
of_target h n s (target a) x es p = deeper call_target_part (of_expr h context.Body Plain n a p)

mutual
  unfolding effects_of_instr

  of_instr : (h : RoutineContext) (n : Entities) (i : Instr) {d : Effect} → Lists d (effects_of_instr h n i) →
      HasEffectWithin h (instruction n i) d
  of_instr h n (Assign s v e) p = in_either (side_effect_if (is_to_attribute (assignee h n v)))
      (effects h context.Body Source n e) p
      (from_side_effect_if (HasEffectWithin h (instruction n (Assign s v e))) (is_to_attribute (assignee h n v)) (assigning h n s v e))
      (λ q. deeper source_part (of_expr h context.Body Source n e q))
  of_instr h n (PrintText s x) first = done_here (of_side_effect prints)
  of_instr h n (PrintText s x) (later p) = elim p [ ]
  of_instr h n (CallRoutine s t x es) p = in_either (effects_of_target h context.Body n t)
      (effects_of_actuals h context.Body n es ++ effects_of_call h context.Body n t x) p
      (λ q. of_target h n s t x es q)
      (λ q. in_either (effects_of_actuals h context.Body n es) (effects_of_call h context.Body n t x) q
      (λ r. among_actuals (λ e i. call_actual_part i) (of_actuals h context.Body n es r))
      (λ r. done_here (of_call h (instruction n (CallRoutine s t x es)) context.Body n t x as_instruction r)))
  of_instr h n (Create s v) first = done_here (of_side_effect creates)
  of_instr h n (Create s v) (later p) = of_creation h n s v v.call refl p
  of_instr h n (If s e body bs other) p =
      in_either (effects h context.Body Condition n e)
      (effects_of_instrs h (given_anyway h context.Body n e) body ++ (effects_of_branches h n bs ++ effects_of_instrs h n other)) p
      (λ q. deeper condition_part (of_expr h context.Body Condition n e q))
      (λ q. in_either (effects_of_instrs h (given_anyway h context.Body n e) body) (effects_of_branches h n bs ++ effects_of_instrs h n other) q
      (λ r. farther (then_part (gives_anyway h context.Body n e)) (of_instrs h (given_anyway h context.Body n e) body r))
      (λ r. in_either (effects_of_branches h n bs) (effects_of_instrs h n other) r
      (λ t. deeper elseif_part (of_branches h n bs t))
      (λ t. deeper else_part (of_instrs h n other t))))
  of_instr h n (Loop s initial e body) p =
      in_either (effects_of_instrs h n initial) (effects h context.Body Plain n e ++ effects_of_instrs h n body) p
      (λ q. deeper from_part (of_instrs h n initial q))
      (λ q. in_either (effects h context.Body Plain n e) (effects_of_instrs h n body) q
      (λ r. deeper until_part (of_expr h context.Body Plain n e r))
      (λ r. deeper loop_part (of_instrs h n body r)))
  of_instr h n (Check s ks) p = of_clauses h n s ks p
  of_instr h n (Block s ds body) first = done_here (of_side_effect opens)
  of_instr h n (Block s ds body) (later p) =
      in_either (effects_of_heads h n ds) (effects_of_instrs h (reserved_anyway h n n ds) body) p
      (λ q. of_heads h n s (record { heads = ds; body = body }) q)
      (λ q. farther (block_part (reserves_anyway h n n ds)) (of_instrs h (reserved_anyway h n n ds) body q))

  of_instrs : (h : RoutineContext) (n : Entities) (is : Instrs) {d : Effect} → Lists d (effects_of_instrs h n is) →
      HasEffectWithin h (instructions n is) d
  of_instrs h n no_instrs p = elim p [ ]
  of_instrs h n (instr_then i is) p = in_either (effects_of_instr h n i) (effects_of_instrs h n is) p
      (λ q. deeper first_part (of_instr h n i q))
      (λ q. deeper others_part (of_instrs h n is q))

  of_branches : (h : RoutineContext) (n : Entities) (bs : Branches) {d : Effect} →
      Lists d (effects_of_branches h n bs) → HasEffectWithin h (branches n bs) d
  of_branches h n no_branches p = elim p [ ]
  of_branches h n (branch_then e body bs) p =
      in_either (effects h context.Body Condition n e)
      (effects_of_instrs h (given_anyway h context.Body n e) body ++ effects_of_branches h n bs) p
      (λ q. deeper branch_condition_part (of_expr h context.Body Condition n e q))
      (λ q. in_either (effects_of_instrs h (given_anyway h context.Body n e) body) (effects_of_branches h n bs) q
      (λ r. farther (branch_part (gives_anyway h context.Body n e)) (of_instrs h (given_anyway h context.Body n e) body r))
      (λ r. deeper later_branches_part (of_branches h n bs r)))

-- what is listed is done there, or in a part
pub done : (h : RoutineContext) (a : Site) {d : Effect} → Lists d (effects_at h a) → HasEffectWithin h a d
done h (expression c k n e) p = of_expr h c k n e p
done h (instruction n i) p = of_instr h n i p
done h (instructions n is) p = of_instrs h n is p
done h (branches n bs) p = of_branches h n bs p
