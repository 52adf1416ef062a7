-- What is typed, called and done where contracts may call pure functions alone is so where they may call any, as where
-- purity is told; so the bodies of pure functions have no effect.
use Rattle.std.proofs.Common.{◌≡◌, ℕ, Bool, true, false, not, ◌||◌, List, [], ◌∷◌, ◌++◌, Option, Some, None, refl, sym, subst, ◌∙◌}
use Rattle.std.specs.Prelude.{if◌then◌else◌}
use Rattle.sc_tree.specs.Plain.{ObjectTest, DeclaredType, FeatureKind, Attribute, Routine, Expr, Exprs, Target, no_target, target, Name, Head, Variable, Named, ResultVariable}
use Rattle.sc_class.specs.declared.identity.ClassId.TheVariants as class
use Rattle.sc_tree.specs.Properties.{is_print}
use Rattle.sc_class.specs.Tables.Features.{DeclaredFeature, feature_named}
use Rattle.sc_rules.specs.declared.entity_types.entity_type.EntityType.{EntityType}
use Rattle.sc_rules.specs.declared.position.Context.{Context}
use Rattle.sc_rules.specs.declared.position.Position.{Position}
use Rattle.sc_rules.specs.declared.position.Role.TheVariants as role
use Rattle.sc_rules.specs.Positions.{wants_pure}
use Rattle.sc_rules.specs.Names.{RoutineName, RoutineContext, Entity, Entities, entity, entity_named, test_type, Signature, entity_or, meaning_of, unassignable, assignee_of_kind, assignee_of_feature, assignee_or, assignee}
use Rattle.sc_rules.specs.Purity as anyway
use Rattle.sc_rules.specs.Purity.{body, WithinAnyway, Calls, calls, HasSideEffect, assigns, creates, prints, opens, calls_procedure, calls_separately, has_side_effect, by_call}
use Rattle.sc_rules.specs.PurityLaws.{in_body, PureBodiesHaveNoEffect, PureBodiesCallPure}
use Rattle.sc_rules.specs.Typing.{Typing, may_call, is_testable, HasType, number, truth, void, current_object, result, call, untyped_target_call, unary, binary, and_then, test, HasReceiver, implicit, explicit, HasTypes, none, more, Gives, by_test, by_both, nothing}
use Rattle.sc_rules.specs.Sites.{Site, Reserves, no_more, one_more, Part, target_part, actual_part, operand_part, left_part, right_part, joined_left_part, joined_right_part, tested_part, source_part, call_target_part, call_actual_part, creation_actual_part, condition_part, then_part, elseif_part, else_part, from_part, until_part, loop_part, check_part, head_part, block_part, first_part, others_part, branch_condition_part, branch_part, later_branches_part, Within, itself, inside}

abbrev pub free : RoutineContext → RoutineContext
free h = record { system = h.system; class = h.class; formals = h.formals; result = h.result; pure = λ g. true }

near_same : (h : RoutineContext) (x : List ℕ) (o : Option Entity) → entity_or h x o ≡ entity_or (free h) x o
near_same h x (Some e) = refl
near_same h x None = refl

meaning_same : (h : RoutineContext) (n : Entities) (a : Target) (t : Option EntityType) (x : Name) →
    meaning_of h n a t x ≡ meaning_of (free h) n a t x
meaning_same h n no_target t x = near_same h x.text (entity_named x.text n)
meaning_same h n (target a) (Some t) x = refl
meaning_same h n (target a) None x = refl

may_call_any : (h : RoutineContext) (c : Context) (o : Option RoutineName) → may_call (free h) c o ≡ true
may_call_any h c None = refl
may_call_any h c (Some f) = by (wants_pure c)
  where
    by : (b : Bool) → (not b || true) ≡ true
    by true = refl
    by false = refl

testable_same : (h : RoutineContext) (d : Option DeclaredType) → is_testable h d ≡ is_testable (free h) d
testable_same h None = refl
testable_same h (Some d) = refl

test_same : (h : RoutineContext) (d : Option DeclaredType) (t : Option EntityType) →
    test_type (free h) d t ≡ test_type h d t
test_same h None t = refl
test_same h (Some d) t = refl

mutual
  pub freely : {h : RoutineContext} {c : Context} {k : Position} {n : Entities} {e : Expr} {t : Typing} →
      HasType h c k n e t → HasType (free h) c k n e t
  freely number = number
  freely truth = truth
  freely (void e) = void e
  freely current_object = current_object
  freely (result e) = result e
  freely {h} {c} {n} (call {a} {x} {r} {g} d m s ts f p l v y w) =
      call (freely_received d) m (sym (meaning_same h n a r.type x) ∙ s)
      (freely_all ts) f p l v (may_call_any h c g.routine) w
  freely (untyped_target_call d e ts) = untyped_target_call (freely_received d) e (freely_all ts)
  freely (unary d o e) = unary (freely d) o e
  freely (binary j d e f) = binary j (freely d) (freely e) f
  freely (and_then j d g e f) = and_then j (freely d) (freely_given g) (freely e) f
  freely {h} (test {d = tested} e d) = test (sym (testable_same h tested) ∙ e) (freely d)

  freely_received : {h : RoutineContext} {c : Context} {n : Entities} {a : Target} {t : Typing} →
      HasReceiver h c n a t → HasReceiver (free h) c n a t
  freely_received implicit = implicit
  freely_received (explicit d) = explicit (freely d)

  freely_all : {h : RoutineContext} {c : Context} {n : Entities} {es : Exprs} {ts : List Typing} →
      HasTypes h c n es ts → HasTypes (free h) c n es ts
  freely_all none = none
  freely_all (more d ds) = more (freely d) (freely_all ds)

  pub freely_given : {h : RoutineContext} {c : Context} {n m : Entities} {e : Expr} → Gives h c n e m →
      Gives (free h) c n e m
  freely_given {h} {c} {n} (by_test {s} {d = tested} {a} {x} {t} d) =
      subst (λ u. Gives (free h) c n (ObjectTest s tested a x) (n ++ entity x.text u role.Test ∷ []))
      (test_same h tested t.type) (by_test (freely d))
  freely_given (by_both j g k) = by_both j (freely_given g) (freely_given k)
  freely_given (nothing e) = nothing e

freely_reserved : {h : RoutineContext} {n m o : Entities} {ds : List Head} → Reserves h n m ds o →
    Reserves (free h) n m ds o
freely_reserved no_more = no_more
freely_reserved (one_more d w) = one_more (freely d) (freely_reserved w)

part_freely : {h : RoutineContext} {a b : Site} → Part h a b → Part (free h) a b
part_freely target_part = target_part
part_freely (actual_part i) = actual_part i
part_freely operand_part = operand_part
part_freely (left_part j) = left_part j
part_freely (right_part j) = right_part j
part_freely (joined_left_part j) = joined_left_part j
part_freely (joined_right_part j g) = joined_right_part j (freely_given g)
part_freely tested_part = tested_part
part_freely source_part = source_part
part_freely call_target_part = call_target_part
part_freely (call_actual_part i) = call_actual_part i
part_freely (creation_actual_part c i) = creation_actual_part c i
part_freely condition_part = condition_part
part_freely (then_part g) = then_part (freely_given g)
part_freely elseif_part = elseif_part
part_freely else_part = else_part
part_freely from_part = from_part
part_freely until_part = until_part
part_freely loop_part = loop_part
part_freely (check_part i) = check_part i
part_freely (head_part i) = head_part i
part_freely (block_part w) = block_part (freely_reserved w)
part_freely first_part = first_part
part_freely others_part = others_part
part_freely branch_condition_part = branch_condition_part
part_freely (branch_part g) = branch_part (freely_given g)
part_freely later_branches_part = later_branches_part

pub within_freely : {h : RoutineContext} {a b : Site} → Within h a b → Within (free h) a b
within_freely itself = itself
within_freely (inside d w) = inside (part_freely d) (within_freely w)

-- ---- what is called and done

within_anyway : {h : RoutineContext} {a b : Site} → Within h a b → WithinAnyway h a b
within_anyway itself = anyway.itself
within_anyway (inside d w) = anyway.inside (anyway.part d) (within_anyway w)

calls_freely : {h : RoutineContext} {a : Site} {g : Signature} → Calls h a g → Calls (free h) a g
calls_freely {h} (calls {n} {t} {x} {r} i v m) = calls i (freely_received v) (sym (meaning_same h n t r.type x) ∙ m)

assignee_or_same : (h : RoutineContext) (x : List ℕ) (o : Option Entity) → assignee_or h x o ≡ assignee_or (free h) x o
assignee_or_same h x (Some e) = refl
assignee_or_same h x None = by (is_print x) (feature_named h.system (class.Declared h.class) x)
  where
    by : (b : Bool) (o : Option DeclaredFeature) →
        (if b then unassignable else assignee_of_feature h o) ≡ (if b then unassignable else assignee_of_feature (free h) o)
    by true o = refl
    by false None = refl
    by false (Some f) = of_kind f.feature.kind
      where
        of_kind : (k : FeatureKind) → assignee_of_kind h k ≡ assignee_of_kind (free h) k
        of_kind (Attribute d) = refl
        of_kind (Routine r) = refl

assignee_same : (h : RoutineContext) (n : Entities) (v : Variable) → assignee h n v ≡ assignee (free h) n v
assignee_same h n (Named x) = assignee_or_same h x.text (entity_named x.text n)
assignee_same h n (ResultVariable s) = refl

effect_freely : {h : RoutineContext} {a : Site} → HasSideEffect h a → HasSideEffect (free h) a
effect_freely {h} (assigns {n} {v} e) = assigns (sym (assignee_same h n v) ∙ e)
effect_freely creates = creates
effect_freely prints = prints
effect_freely opens = opens
effect_freely (calls_procedure c e) = calls_procedure (calls_freely c) e
effect_freely (calls_separately i d e) = calls_separately i (freely d) e

-- ---- bodies of pure functions

pub pure_bodies_have_no_effect : PureBodiesHaveNoEffect
pure_bodies_have_no_effect s pure f h b c p (in_body e k w) a =
    (c f p).0 (has_side_effect (body e k) (within_anyway (within_freely w)) (effect_freely a))

pub pure_bodies_call_pure : PureBodiesCallPure
pure_bodies_call_pure s pure f r h b g c p (in_body e k w) a i =
    (c f p).1 r (by_call (body e k) (within_anyway (within_freely w)) (calls_freely a) i)
