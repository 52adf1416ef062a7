-- What is done within a site stands in its list of effects.
use Rattle.std.proofs.Common.{◌≡◌, zero, suc, ◌<◌, true, false, List, [], ◌∷◌, length, Option, Some, None, Ok, Err, refl, ap, sym, ◌∙◌, subst, arith}
use Rattle.std.specs.Prelude.{not, ◌++◌, is_some, Contains}
use Rattle.sc_text.specs.declared.token.Span.{Span}
use Rattle.sc_tree.specs.declared.expression.BinaryOperator.{BinaryOperator}
use Rattle.sc_tree.specs.Plain.{Clause, Head, Name, Expr, Binary, ObjectTest, Target, target, Exprs, Conditional, if_instr, SeparateBlock, block_instr, Instrs, Branches, branch_then}
use Rattle.sc_rules.specs.declared.entity_types.entity_type.EntityType.{EntityType}
use Rattle.sc_rules.specs.declared.position.Context.{Context}
use Rattle.sc_rules.specs.declared.position.Context.TheVariants as context
use Rattle.sc_rules.specs.declared.position.Position.{Position}
use Rattle.sc_rules.specs.declared.position.Position.TheVariants.{Plain, Condition, Source}
use Rattle.sc_rules.specs.declared.position.Role.TheVariants as role
use Rattle.sc_rules.specs.Positions.{shares_names, may_give}
use Rattle.sc_rules.specs.Names.{RoutineName, RoutineContext, Entities, entity, test_type, blocks, block_type, Signature, named, meaning_of, assignee}
use Rattle.sc_rules.specs.Typing.{Typing, is_foreign_type, HasType, HasReceiver, implicit, explicit, Gives}
use Rattle.sc_rules.specs.Sites.{Site, IsActual, first_actual, later_actual, Reserves, no_more, one_more, Part, target_part, actual_part, operand_part, left_part, right_part, joined_left_part, joined_right_part, tested_part, source_part, call_target_part, call_actual_part, creation_actual_part, condition_part, then_part, elseif_part, else_part, from_part, until_part, loop_part, check_part, head_part, block_part, first_part, others_part, branch_condition_part, branch_part, later_branches_part}
use Rattle.sc_rules.specs.Typing as typing
use Rattle.sc_rules.specs.Purity as anyway
use Rattle.sc_rules.specs.Purity.{HasTypeIfAny, of_type, of_none, GivesAnyway, ReservesAnyway, PartAnyway, WithinAnyway, IsCall, as_value, as_instruction, Calls, calls, HasSideEffect, assigns, creates, prints, opens, calls_procedure, calls_separately}
use Rattle.sc_rules.specs.Judging.{Judged, judged_type, judge}
use Rattle.sc_rules.specs.JudgingPurity.{Effect, side_effect, routine_call, side_effect_if, call_if_any, effects_of_meaning, receiver_type, effects_of_name, effects_of_call, is_to_attribute, given_anyway, reserved_anyway, effects, effects_of_target, effects_of_actuals, effects_of_creation, effects_of_heads, effects_of_instr, effects_of_instrs, effects_of_branches, effects_at, Lists, first, later, HasEffect, of_side_effect, of_routine_call, HasEffectWithin}
use Rattle.sc_rules.proofs.Complete.{typed}
use Rattle.sc_rules.proofs.PuritySound.{sound}
use Rattle.sc_rules.proofs.PurityLists.{in_left, in_right, in_side_effect_if, in_call_if_any, in_each}

-- ---- calls

pub receiver_found : {h : RoutineContext} {c : Context} {n : Entities} {a : Target} {r : Typing} →
    HasReceiver h c n a r → receiver_type h c n a ≡ r.type
receiver_found implicit = refl
receiver_found (explicit d) = ap judged_type (typed d)

-- what is meant, where the target has this type, is what the call is of
call_is : {h : RoutineContext} {c : Context} {n : Entities} {a : Target} (x : Name) {r : Typing} {g : Signature} →
    HasReceiver h c n a r →
    meaning_of h n a r.type x ≡ named g →
    effects_of_call h c n a x ≡ side_effect_if (is_foreign_type r.type) ++ effects_of_meaning (named g)
call_is {h} {n} {a} x {r} v e = ap (effects_of_name_of h n a x)
    (receiver_found v) ∙ ap (λ m. side_effect_if (is_foreign_type r.type) ++ effects_of_meaning m) e
  where
    effects_of_name_of : RoutineContext → Entities → Target → Name → Option EntityType → List Effect
    effects_of_name_of h n a x t = effects_of_name h n a t x

at_call : (h : RoutineContext) {a : Site} {c : Context} {n : Entities} {t : Target} {x : Name} → IsCall a c n t x →
    (d : Effect) → Lists d (effects_of_call h c n t x) →
    Lists d (effects_at h a)
unfolding effects effects_of_instr
at_call h (as_value {c} {k} {n} {s} {t} {x} {es}) d p = in_right (effects_of_target h c n t)
    (in_right (effects_of_actuals h c n es) p)
at_call h (as_instruction {n} {s} {t} {x} {es}) d p = in_right (effects_of_target h context.Body n t)
    (in_right (effects_of_actuals h context.Body n es) p)

no_gift : (o : Option (Option EntityType)) → o ≡ None → not (is_some o) ≡ true
no_gift None e = refl
no_gift (Some t) e = cc

procedure_called : {h : RoutineContext} {a : Site} {g : Signature} → Calls h a g → g.gives ≡ None →
    Lists side_effect (effects_at h a)
procedure_called {h} {g} (calls {x} {r} i v m) e =
    at_call h i side_effect (subst (Lists side_effect) (sym (call_is x v m))
    (in_right (side_effect_if (is_foreign_type r.type)) (in_left (call_if_any g.routine) (in_side_effect_if (not (is_some g.gives)) (no_gift g.gives e)))))

routine_called : {h : RoutineContext} {a : Site} {g : Signature} {f : RoutineName} → Calls h a g → g.routine ≡ Some f →
    Lists (routine_call f) (effects_at h a)
routine_called {h} {g} {f} (calls {x} {r} i v m) e =
    at_call h i (routine_call f) (subst (Lists (routine_call f)) (sym (call_is x v m))
    (in_right (side_effect_if (is_foreign_type r.type)) (in_right (side_effect_if (not (is_some g.gives))) (in_call_if_any g.routine f e))))

separately : {h : RoutineContext} {c : Context} {n : Entities} {b : Expr} (x : Name) {t : Typing} →
    HasType h c Plain n b t → is_foreign_type t.type ≡ true →
    Lists side_effect (effects_of_call h c n (target b) x)
separately {h} {c} {n} {b} x {t} d e =
    in_left (effects_of_meaning (meaning_of h n (target b) (receiver_type h c n (target b)) x))
    (in_side_effect_if (is_foreign_type (receiver_type h c n (target b))) (ap (λ j. is_foreign_type (judged_type j)) (typed d) ∙ e))

acts_listed : {h : RoutineContext} {a : Site} → HasSideEffect h a → Lists side_effect (effects_at h a)
unfolding effects effects_of_instr
acts_listed {h} (assigns {n} {s} {v} {e} i) = in_left (effects h context.Body Source n e)
    (in_side_effect_if (is_to_attribute (assignee h n v)) (ap is_to_attribute i))
acts_listed creates = first
acts_listed prints = first
acts_listed opens = first
acts_listed (calls_procedure k e) = procedure_called k e
acts_listed {h} (calls_separately {x} i d e) = at_call h i side_effect (separately x d e)

does_listed : {h : RoutineContext} {a : Site} {d : Effect} → HasEffect h a d → Lists d (effects_at h a)
does_listed (of_side_effect k) = acts_listed k
does_listed (of_routine_call k e) = routine_called k e

-- ---- parts

actual_listed : (h : RoutineContext) (c : Context) (n : Entities) {e : Expr} {es : Exprs} {d : Effect} →
    IsActual e es → Lists d (effects h c Source n e) →
    Lists d (effects_of_actuals h c n es)
unfolding effects
actual_listed h c n (first_actual {es}) p = in_left (effects_of_actuals h c n es) p
actual_listed h c n (later_actual {d} i) p = in_right (effects h c Source n d) (actual_listed h c n i p)

contained : {A : Type 0} (x : A) (xs : List A) → Contains xs x → Lists x xs
contained x [] (k, l, e) = absurd (omega (arith, l))
contained x (y ∷ ys) (zero, l, e) = subst (λ y. Lists x (y ∷ ys)) (sym e) first
contained x (y ∷ ys) (suc k, l, e) = later (contained x ys (k, less l, e))
  where
    less : suc k < suc (length ys) → k < length ys
    less l = omega arith

-- ---- what stands behind a mistake

nothing_given : (h : RoutineContext) (c : Context) (n : Entities) (e : Expr) → may_give e ≡ false →
    given_anyway h c n e ≡ n
nothing_given h c n (ObjectTest s d a x) i = cc
nothing_given h c n (Binary s op a b) i = simp i refl
nothing_given h c n e i = refl

type_is : {h : RoutineContext} {c : Context} {n : Entities} {e : Expr} {t : Option EntityType} →
    HasTypeIfAny h c n e t → judged_type (judge h c Plain n e) ≡ t
type_is (of_type d) = ap judged_type (typed d)
type_is {h} {c} {n} {e} (of_none f) = by (judge h c Plain n e) refl
  where
    by : (j : Judged Typing) → judge h c Plain n e ≡ j → judged_type j ≡ None
    by (Ok t) i = absurd (f t (sound i))
    by (Err r) i = refl

given_is : {h : RoutineContext} {c : Context} {n m : Entities} {e : Expr} → GivesAnyway h c n e m →
    given_anyway h c n e ≡ m
given_is {h} (anyway.by_test {n} {s} {d} {a} {x} i) = ap (λ t. n ++ entity x.text (test_type h d t) role.Test ∷ [])
    (type_is i)
given_is {h} {c} (anyway.by_both {n} {m} {o} {s} {op} {a} {b} i g k) =
    simp i (ap (λ m. given_anyway h c m b) (given_is g) ∙ given_is k)
given_is {h} {c} (anyway.nothing {n} {e} i) = nothing_given h c n e i

reserved_is : {h : RoutineContext} {n m o : Entities} {ds : List Head} → ReservesAnyway h n m ds o →
    reserved_anyway h n m ds ≡ o
reserved_is anyway.no_more = refl
reserved_is {h} {n} (anyway.one_more {m} {o} {d} {ds} i r) =
    ap (λ t. reserved_anyway h n (m ++ entity d.name.text (block_type (blocks m) t) role.Block ∷ []) ds)
    (type_is i) ∙ reserved_is r

-- what is given where no rule fails is given anyway
pub anyway_given : {h : RoutineContext} {c : Context} {n m : Entities} {e : Expr} → Gives h c n e m →
    GivesAnyway h c n e m
anyway_given (typing.by_test d) = anyway.by_test (of_type d)
anyway_given (typing.by_both i g k) = anyway.by_both i (anyway_given g) (anyway_given k)
anyway_given (typing.nothing i) = anyway.nothing i

pub anyway_reserved : {h : RoutineContext} {n m o : Entities} {ds : List Head} → Reserves h n m ds o →
    ReservesAnyway h n m ds o
anyway_reserved no_more = anyway.no_more
anyway_reserved (one_more d r) = anyway.one_more (of_type d) (anyway_reserved r)

held_listed : {h : RoutineContext} {c : Context} {n m : Entities} {a : Expr} {d : Effect} (k : Position) (s : Span)
    (op : BinaryOperator) (b : Expr) → shares_names k op ≡ true →
    GivesAnyway h c n a m → Lists d (effects h c Condition m b) → Lists d (effects h c k n (Binary s op a b))
unfolding effects
held_listed {h} {c} {n} {m} {a} {d} k s op b j g p =
    rw j (in_right (effects h c Condition n a) (subst (λ m. Lists d (effects h c Condition m b)) (sym (given_is g)) p))

then_listed : {h : RoutineContext} {n m : Entities} {d : Effect} (s : Span) (c : Conditional) →
    GivesAnyway h context.Body n c.condition m →
    Lists d (effects_of_instrs h m c.body) → Lists d (effects_of_instr h n (if_instr s c))
unfolding effects_of_instr
then_listed {h} {n} {m} {d} s c g p =
    in_right (effects h context.Body Condition n c.condition)
    (in_left (effects_of_branches h n c.branches ++ effects_of_instrs h n c.other) (subst (λ m. Lists d (effects_of_instrs h m c.body)) (sym (given_is g)) p))

branch_listed : {h : RoutineContext} {n m : Entities} {e : Expr} {d : Effect} (body : Instrs) (bs : Branches) →
    GivesAnyway h context.Body n e m →
    Lists d (effects_of_instrs h m body) → Lists d (effects_of_branches h n (branch_then e body bs))
unfolding effects_of_instr
branch_listed {h} {n} {m} {e} {d} body bs g p =
    in_right (effects h context.Body Condition n e)
    (in_left (effects_of_branches h n bs) (subst (λ m. Lists d (effects_of_instrs h m body)) (sym (given_is g)) p))

block_listed : {h : RoutineContext} {n m : Entities} {d : Effect} (s : Span) (b : SeparateBlock) →
    ReservesAnyway h n n b.heads m →
    Lists d (effects_of_instrs h m b.body) → Lists d (effects_of_instr h n (block_instr s b))
unfolding effects_of_instr
block_listed {h} {n} {m} {d} s b r p =
    later (in_right (effects_of_heads h n b.heads) (subst (λ m. Lists d (effects_of_instrs h m b.body)) (sym (reserved_is r)) p))

part_listed : {h : RoutineContext} {a b : Site} {d : Effect} → Part h a b → Lists d (effects_at h b) →
    Lists d (effects_at h a)
unfolding effects effects_of_instr
part_listed target_part p = in_left _ p
part_listed (actual_part i) p = in_right _ (in_left _ (actual_listed _ _ _ i p))
part_listed operand_part p = p
part_listed (left_part j) p = rw j (in_left _ p)
part_listed (right_part j) p = rw j (in_right _ p)
part_listed (joined_left_part j) p = rw j (in_left _ p)
part_listed (joined_right_part {k} {s} {op} {b} j g) p = held_listed k s op b j (anyway_given g) p
part_listed tested_part p = p
part_listed source_part p = in_right _ p
part_listed call_target_part p = in_left _ p
part_listed (call_actual_part i) p = in_right _ (in_left _ (actual_listed _ _ _ i p))
part_listed {h} {d} (creation_actual_part {n} {s} {creation} c i) p =
    later (subst (λ o. Lists d (effects_of_creation h n o)) (sym c) (actual_listed _ _ _ i p))
part_listed condition_part p = in_left _ p
part_listed (then_part {s} {choice} g) p = then_listed s choice (anyway_given g) p
part_listed elseif_part p = in_right _ (in_right _ (in_left _ p))
part_listed {h} (else_part {n} {s} {choice}) p =
    in_right (effects h context.Body Condition n choice.condition)
    (in_right (effects_of_instrs h (given_anyway h context.Body n choice.condition) choice.body) (in_right (effects_of_branches h n choice.branches) p))
part_listed from_part p = in_left _ p
part_listed until_part p = in_right _ (in_left _ p)
part_listed loop_part p = in_right _ (in_right _ p)
part_listed {h} (check_part {n} {s} {ks} {k} i) p =
    in_each (λ (k : Clause). effects h context.Check Plain n k.condition) (contained k ks i) p
part_listed {h} (head_part {n} {s} {block} {d} i) p =
    later (in_left _ (in_each (λ (d : Head). effects h context.Body Plain n d.value) (contained d block.heads i) p))
part_listed (block_part {s} {block} r) p = block_listed s block (anyway_reserved r) p
part_listed first_part p = in_left _ p
part_listed others_part p = in_right _ p
part_listed branch_condition_part p = in_left _ p
part_listed (branch_part {body} {bs} g) p = branch_listed body bs (anyway_given g) p
part_listed later_branches_part p = in_right _ (in_right _ p)

anyway_listed : {h : RoutineContext} {a b : Site} {d : Effect} → PartAnyway h a b → Lists d (effects_at h b) →
    Lists d (effects_at h a)
anyway_listed (anyway.part i) p = part_listed i p
anyway_listed (anyway.held_part {k} {s} {op} {b} j g) p = held_listed k s op b j g p
anyway_listed (anyway.then_part {s} {choice} g) p = then_listed s choice g p
anyway_listed (anyway.branch_part {body} {bs} g) p = branch_listed body bs g p
anyway_listed (anyway.block_part {s} {block} r) p = block_listed s block r p

within_listed : {h : RoutineContext} {a b : Site} {d : Effect} → WithinAnyway h a b → Lists d (effects_at h b) →
    Lists d (effects_at h a)
within_listed anyway.itself p = p
within_listed (anyway.inside i w) p = anyway_listed i (within_listed w p)

-- what is done there, or in a part, is listed
pub listed : {h : RoutineContext} {a : Site} {d : Effect} → HasEffectWithin h a d → Lists d (effects_at h a)
listed k = within_listed k.within (does_listed k.does)
