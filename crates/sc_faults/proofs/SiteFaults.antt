-- The faults that are listed of a site are among those of each site that it is in, and so there is one at each place at which a
-- rule fails.
use Rattle.std.proofs.Common.{◌≡◌, Bool, true, false, List, [], ◌∷◌, ◌++◌, Option, Ok, refl, sym, subst, ◌∙◌}
use Rattle.std.specs.Prelude.{Any, if◌then◌else◌}
use Rattle.sc_text.specs.declared.token.Span.{Span}
use Rattle.sc_tree.specs.declared.expression.BinaryOperator.{BinaryOperator}
use Rattle.sc_tree.specs.Plain.{Head, Name, Creation, CreationCall, Expr, Call, Unary, Binary, ObjectTest, Target, target, Exprs, Assign, CallRoutine, Create, Instrs}
use Rattle.sc_class.proofs.Anys.{any_left, any_right}
use Rattle.sc_rules.specs.declared.rule.Rule.{Rule}
use Rattle.sc_rules.specs.declared.fault.Fault.{Fault}
use Rattle.sc_rules.specs.declared.position.Context.{Context}
use Rattle.sc_rules.specs.declared.position.Context.TheVariants as context
use Rattle.sc_rules.specs.declared.position.Position.{Position}
use Rattle.sc_rules.specs.declared.position.Position.TheVariants.{Plain, Condition, Source}
use Rattle.sc_rules.specs.declared.position.Role.TheVariants as role
use Rattle.sc_rules.specs.declared.position.Use.{Use}
use Rattle.sc_rules.specs.declared.position.Use.TheVariants.{Value, Instruction}
use Rattle.sc_rules.specs.Positions.{span_of, operand_context, operand_position, shares_names}
use Rattle.sc_rules.specs.Names.{RoutineContext, Entities, entity, blocks, block_type, FormalType, Meaning, variable_span}
use Rattle.sc_rules.specs.Sites.{Site, expression, instruction, instructions, branches, IsActual, first_actual, later_actual, Reserves, no_more, one_more, Part, target_part, actual_part, operand_part, left_part, right_part, joined_left_part, joined_right_part, tested_part, source_part, call_target_part, call_actual_part, creation_actual_part, condition_part, then_part, elseif_part, else_part, from_part, until_part, loop_part, check_part, head_part, block_part, first_part, others_part, branch_condition_part, branch_part, later_branches_part, Within, itself, inside}
use Rattle.sc_rules.specs.TextRules.{FailsAt, at_expression, at_instruction, at_branch, Fails, fails}
use Rattle.sc_rules.specs.Judging.{Judged, JudgedActual, formals_of, rest, judge, judge_given}
use Rattle.sc_rules.specs.JudgingText.{creation_meaning, judge_condition, judge_instr}
use Rattle.sc_rules.specs.JudgingPurity.{receiver_type}
use Rattle.sc_rules.proofs.Refusals.{bind_ok}
use Rattle.sc_rules.proofs.Complete.{typed, given}
use Rattle.sc_faults.specs.Internal.Listing.{faults_at, where_known, faults_of_each, faults_of_type_if_any, judge_before, judge_passed_to, meant, faults_in, faults_in_target, faults_in_actuals, faults_in_creation, created_type, faults_in_instr, faults_of, faults_of_call, faults_of_condition, faults_of_clause, judge_value, faults_of_head, judge_reserved, faults_of_instr, faults_of_instrs, faults_of_branches}
use Rattle.sc_faults.proofs.ReportedFaults.{Holds, at_any, known_any, each_any}
use Rattle.sc_faults.proofs.Places.{At}
use Rattle.sc_faults.proofs.SitePlaces.{expression_place, instruction_place, branch_place}

-- what is listed of a site
abbrev pub listed : RoutineContext → Site → List Fault
listed h (expression c k n e) = faults_of h c k n e
listed h (instruction n i) = faults_of_instr h n i
listed h (instructions n is) = faults_of_instrs h n is
listed h (branches n bs) = faults_of_branches h n bs

-- ---- parts

reserved_is : {h : RoutineContext} {n m o : Entities} {ds : List Head} → Reserves h n m ds o →
    judge_reserved h n m ds ≡ Ok o
reserved_is no_more = refl
reserved_is {h} {n} (one_more {m} {o} {d} {ds} {t} a b) =
    bind_ok (λ t. judge_reserved h n (m ++ entity d.name.text (block_type (blocks m) t.type) role.Block ∷ []) ds) (typed a)
    ∙ reserved_is b

module _ (P : Rule → Span → Type 0) where
  abbrev Among : List Fault → Type 0
  Among = Any (Holds P)

  -- under what gives these entities
  under_any : (h : RoutineContext) (j : Judged Entities) (m : Entities) (is : Instrs) → j ≡ Ok m →
      Among (faults_of_instrs h m is) → Among (where_known j (λ m. faults_of_instrs h m is))
  under_any h j m is e a = known_any P j m (λ m. faults_of_instrs h m is) e a

  -- in the operands of an expression
  inner_any : (h : RoutineContext) (c : Context) (k : Position) (n : Entities) (e : Expr) → Among (faults_in h c k n e) →
      Among (faults_of h c k n e)
  inner_any h c k n e a = at_any P (judge h c k n e) (faults_in h c k n e) a

  condition_any : (h : RoutineContext) (c : Context) (k : Position) (n : Entities) (e : Expr) → Among (faults_of h c k n e) →
      Among (faults_of_condition h c k n e)
  condition_any h c k n e a = at_any P (judge_condition h c k n e) (faults_of h c k n e) a

  actual_any : (h : RoutineContext) (c : Context) (n : Entities) (pass : List FormalType → JudgedActual → Judged (Unit {0}))
      {e : Expr} (fs : List FormalType) {es : Exprs} → IsActual e es → Among (faults_of h c Source n e) →
      Among (faults_in_actuals h c n pass fs es)
  unfolding faults_in
  actual_any h c n pass {e} fs (first_actual {es}) x =
      any_left _ (faults_in_actuals h c n pass (rest fs) es)
      (at_any P (pass fs (span_of e, judge h c Source n e)) (faults_of h c Source n e) x)
  actual_any h c n pass fs (later_actual {d} {es} i) x =
      any_right _ (faults_in_actuals h c n pass (rest fs) es) (actual_any h c n pass (rest fs) i x)

  -- an actual of a call, and the expression before its dot
  argument_any : (h : RoutineContext) (c : Context) (n : Entities) (u : Use) (a : Target) (x : Name) {e : Expr} {es : Exprs} →
      IsActual e es → Among (faults_of h c Source n e) → Among (faults_of_call h c n u a x es)
  argument_any h c n u a x {e} {es} i y =
      any_right (faults_in_target h c n a) _
      (any_left (faults_in_actuals h c n (judge_passed_to h c n (receiver_type h c n a) (meant h c n a x) es) (formals_of (meant h c n a x)) es) _
      (actual_any h c n (judge_passed_to h c n (receiver_type h c n a) (meant h c n a x) es) (formals_of (meant h c n a x)) i y))

  before_any : (h : RoutineContext) (c : Context) (n : Entities) (u : Use) (a : Expr) (x : Name) (es : Exprs) →
      Among (faults_of h c Plain n a) → Among (faults_of_call h c n u (target a) x es)
  unfolding faults_in
  before_any h c n u a x es y =
      any_left (faults_at (judge_before h c n a) (faults_of h c Plain n a)) _ (at_any P (judge_before h c n a) (faults_of h c Plain n a) y)

  where_true : (b : Bool) (fs gs : List Fault) → b ≡ true → Among fs → Among (if b then fs else gs)
  where_true true fs gs e x = x
  where_true false fs gs e x = cc

  where_false : (b : Bool) (fs gs : List Fault) → b ≡ false → Among gs → Among (if b then fs else gs)
  where_false true fs gs e x = cc
  where_false false fs gs e x = x

  -- the operands of a binary operator
  module _ (h : RoutineContext) (c : Context) (k : Position) (n : Entities) (op : BinaryOperator) (a b : Expr) where
    abbrev joint : List Fault
    joint = faults_of h c Condition n a ++ where_known (judge_given h c n a) (λ m. faults_of h c Condition m b)

    abbrev apart : List Fault
    apart = faults_of h c (operand_position op) n a ++ faults_of h c (operand_position op) n b

    abbrev Operands : Type 0
    Operands = Among (if shares_names k op then joint else apart)

    left_any : shares_names k op ≡ false → Among (faults_of h c (operand_position op) n a) → Operands
    left_any j x =
        where_false (shares_names k op) joint apart j
        (any_left (faults_of h c (operand_position op) n a) (faults_of h c (operand_position op) n b) x)

    right_any : shares_names k op ≡ false → Among (faults_of h c (operand_position op) n b) → Operands
    right_any j x =
        where_false (shares_names k op) joint apart j
        (any_right (faults_of h c (operand_position op) n a) (faults_of h c (operand_position op) n b) x)

    joined_left_any : shares_names k op ≡ true → Among (faults_of h c Condition n a) → Operands
    joined_left_any j x =
        where_true (shares_names k op) joint apart j
        (any_left (faults_of h c Condition n a) (where_known (judge_given h c n a) (λ m. faults_of h c Condition m b)) x)

    joined_right_any : (m : Entities) → shares_names k op ≡ true → judge_given h c n a ≡ Ok m →
        Among (faults_of h c Condition m b) → Operands
    joined_right_any m j g x =
        where_true (shares_names k op) joint apart j
        (any_right (faults_of h c Condition n a) (where_known (judge_given h c n a) (λ m. faults_of h c Condition m b))
        (known_any P (judge_given h c n a) m (λ m. faults_of h c Condition m b) g x))

  expression_any : {h : RoutineContext} {c : Context} {k : Position} {n : Entities} {e : Expr} {b : Site} →
      Part h (expression c k n e) b → Among (listed h b) → Among (faults_of h c k n e)
  unfolding faults_in
  expression_any {h} (target_part {c} {k} {n} {s} {a} {x} {es}) i =
      inner_any h c k n (Call s (target a) x es) (before_any h c n Value a x es i)
  expression_any {h} (actual_part {c} {k} {n} {s} {t} {x} {es} {e} j) i =
      inner_any h c k n (Call s t x es) (argument_any h c n Value t x j i)
  expression_any {h} (operand_part {c} {k} {n} {s} {op} {a}) i =
      inner_any h c k n (Unary s op a) (any_left (faults_of h (operand_context op c) Plain n a) _ i)
  expression_any {h} (left_part {c} {k} {n} {s} {op} {a} {b} j) i =
      inner_any h c k n (Binary s op a b) (left_any h c k n op a b j i)
  expression_any {h} (right_part {c} {k} {n} {s} {op} {a} {b} j) i =
      inner_any h c k n (Binary s op a b) (right_any h c k n op a b j i)
  expression_any {h} (joined_left_part {c} {k} {n} {s} {op} {a} {b} j) i =
      inner_any h c k n (Binary s op a b) (joined_left_any h c k n op a b j i)
  expression_any {h} (joined_right_part {c} {k} {n} {m} {s} {op} {a} {b} j g) i =
      inner_any h c k n (Binary s op a b) (joined_right_any h c k n op a b m j (given g) i)
  expression_any {h} (tested_part {c} {k} {n} {s} {d} {a} {x}) i =
      inner_any h c k n (ObjectTest s d a x) (any_right (faults_of_type_if_any h.system h.formals d) _ (any_left (faults_of h c Plain n a) _ i))

  abbrev made : RoutineContext → Entities → Creation → CreationCall → Meaning
  made h n creation k = creation_meaning h (created_type h n creation.variable) k.name

  part_any : {h : RoutineContext} {a b : Site} → Part h a b → Among (listed h b) → Among (listed h a)
  unfolding faults_of_instr faults_in
  part_any (target_part) x = expression_any target_part x
  part_any (actual_part i) x = expression_any (actual_part i) x
  part_any (operand_part) x = expression_any operand_part x
  part_any (left_part j) x = expression_any (left_part j) x
  part_any (right_part j) x = expression_any (right_part j) x
  part_any (joined_left_part j) x = expression_any (joined_left_part j) x
  part_any (joined_right_part j g) x = expression_any (joined_right_part j g) x
  part_any (tested_part) x = expression_any tested_part x
  part_any {h} (source_part {n} {s} {v} {e}) i =
      at_any P (judge_instr h n (Assign s v e)) (faults_in_instr h n (Assign s v e)) i
  part_any {h} (call_target_part {n} {s} {a} {x} {es}) i =
      at_any P (judge_instr h n (CallRoutine s (target a) x es)) (faults_in_instr h n (CallRoutine s (target a) x es))
      (before_any h context.Body n Instruction a x es i)
  part_any {h} (call_actual_part {n} {s} {t} {x} {es} {e} j) i =
      at_any P (judge_instr h n (CallRoutine s t x es)) (faults_in_instr h n (CallRoutine s t x es))
      (argument_any h context.Body n Instruction t x j i)
  part_any {h} (creation_actual_part {n} {s} {creation} {k} {e} c j) i =
      at_any P (judge_instr h n (Create s creation)) (faults_in_instr h n (Create s creation))
      (subst (λ (o : Option CreationCall). Among (faults_in_creation h n (variable_span creation.variable) (created_type h n creation.variable) o))
      (sym c)
      (any_right _ _ (any_left _ _
      (actual_any h context.Body n (judge_passed_to h context.Body n (created_type h n creation.variable) (made h n creation k) k.actuals)
      (formals_of (made h n creation k)) j i))))
  part_any {h} (condition_part {n} {s} {choice}) x =
      any_left (faults_of_condition h context.Body Condition n choice.condition ++ where_known (judge_given h context.Body n choice.condition)
      (λ m. faults_of_instrs h m choice.body)) _
      (any_left (faults_of_condition h context.Body Condition n choice.condition) _ (condition_any h context.Body Condition n choice.condition x))
  part_any {h} (then_part {n} {m} {s} {choice} g) x =
      any_left (faults_of_condition h context.Body Condition n choice.condition ++ where_known (judge_given h context.Body n choice.condition)
      (λ m. faults_of_instrs h m choice.body)) _
      (any_right (faults_of_condition h context.Body Condition n choice.condition) _
      (under_any h (judge_given h context.Body n choice.condition) m choice.body (given g) x))
  part_any {h} (elseif_part {n} {s} {choice}) x =
      any_right (faults_of_condition h context.Body Condition n choice.condition ++ where_known (judge_given h context.Body n choice.condition)
      (λ m. faults_of_instrs h m choice.body)) _
      (any_left (faults_of_branches h n choice.branches) _ x)
  part_any {h} (else_part {n} {s} {choice}) x =
      any_right (faults_of_condition h context.Body Condition n choice.condition ++ where_known (judge_given h context.Body n choice.condition)
      (λ m. faults_of_instrs h m choice.body)) _
      (any_right (faults_of_branches h n choice.branches) _ x)
  part_any {h} (from_part {n} {s} {loop}) x = any_left (faults_of_instrs h n loop.initial) _ x
  part_any {h} (until_part {n} {s} {loop}) x =
      any_right (faults_of_instrs h n loop.initial) _
      (any_left (faults_of_condition h context.Body Plain n loop.until) _ (condition_any h context.Body Plain n loop.until x))
  part_any {h} (loop_part {n} {s} {loop}) x =
      any_right (faults_of_instrs h n loop.initial) _ (any_right (faults_of_condition h context.Body Plain n loop.until) _ x)
  part_any {h} (check_part {n} {s} {ks} {k} i) x =
      each_any P (faults_of_clause h context.Check n) ks k i (condition_any h context.Check Plain n k.condition x)
  part_any {h} (head_part {n} {s} {block} {d} i) x =
      any_left (faults_of_each (faults_of_head h n) block.heads) _
      (each_any P (faults_of_head h n) block.heads d i
      (at_any P (judge_value h n d) (faults_of h context.Body Plain n d.value) x))
  part_any {h} (block_part {n} {m} {s} {block} v) x =
      any_right (faults_of_each (faults_of_head h n) block.heads) _ (under_any h (judge_reserved h n n block.heads) m block.body (reserved_is v) x)
  part_any {h} (first_part {n} {i} {is}) x = any_left (faults_of_instr h n i) _ x
  part_any {h} (others_part {n} {i} {is}) x = any_right (faults_of_instr h n i) _ x
  part_any {h} (branch_condition_part {n} {e} {body} {bs}) x =
      any_left (faults_of_condition h context.Body Condition n e ++ where_known (judge_given h context.Body n e) (λ m. faults_of_instrs h m body)) _
      (any_left (faults_of_condition h context.Body Condition n e) _ (condition_any h context.Body Condition n e x))
  part_any {h} (branch_part {n} {m} {e} {body} {bs} g) x =
      any_left (faults_of_condition h context.Body Condition n e ++ where_known (judge_given h context.Body n e) (λ m. faults_of_instrs h m body)) _
      (any_right (faults_of_condition h context.Body Condition n e) _ (under_any h (judge_given h context.Body n e) m body (given g) x))
  part_any {h} (later_branches_part {n} {e} {body} {bs}) x =
      any_right (faults_of_condition h context.Body Condition n e ++ where_known (judge_given h context.Body n e)
      (λ m. faults_of_instrs h m body)) _ x

  pub within_any : {h : RoutineContext} {a b : Site} → Within h a b → Among (listed h b) → Among (listed h a)
  within_any itself x = x
  within_any (inside d w) x = part_any d (within_any w x)

-- ---- places

site_place : {h : RoutineContext} {a : Site} {r : Rule} {p : Span} → FailsAt h a r p → Any (Holds (At p)) (listed h a)
site_place {h} (at_expression f) = expression_place h f
site_place (at_instruction f) = instruction_place f
site_place (at_branch {body = body} {bs} f) = branch_place body bs f

pub fails_place : {h : RoutineContext} {a : Site} {r : Rule} {p : Span} → Fails h a r p → Any (Holds (At p)) (listed h a)
fails_place {p = p} (fails w f) = within_any (At p) w (site_place f)
