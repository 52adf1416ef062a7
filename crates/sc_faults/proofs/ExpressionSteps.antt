-- What the walk through an expression has added after each of its steps.
use Rattle.std.proofs.Common.{◌≡◌, ℕ, zero, suc, ◌+◌, ◌<◌, ◌≤◌, ℤ, Bool, true, false, List, [], ◌∷◌, ◌++◌, length, drop, get_or, Option, Some, None, Result, Ok, Err, refl, ap, sym, subst, ◌∙◌, arith}
use Rattle.std.specs.Prelude.{OnOk, if◌then◌else◌, string_bytes}
use Rattle.std.specs.declared.alloc.AllocError.{AllocError}
use Rattle.std.specs.declared.alloc.Global.{Global}
use Rattle.std.specs.declared.boxed.Box.{Box}
use Rattle.std.specs.declared.vec.Vec.{Vec}
use Rattle.std.specs.declared.rc.Rc.{Rc}
use Rattle.std.specs.declared.string.String.{String}
use Rattle.sc_text.specs.declared.token.Span.{Span}
use Rattle.sc_tree.specs.declared.declaration.DeclaredType.{DeclaredType}
use Rattle.sc_tree.specs.declared.expression.Name.{Name}
use Rattle.sc_tree.specs.declared.expression.UnaryOperator.{UnaryOperator}
use Rattle.sc_tree.specs.declared.expression.BinaryOperator.{BinaryOperator}
use Rattle.sc_tree.specs.declared.expression.Expr.{Expr}
use Rattle.sc_tree.specs.declared.expression.Expr.TheVariants as expr
use Rattle.sc_tree.specs.declared.expression.Call.{Call}
use Rattle.sc_tree.specs.declared.instruction.Variable.{Variable}
use Rattle.sc_tree.specs.declared.instruction.CreationCall.{CreationCall}
use Rattle.sc_tree.specs.declared.instruction.Head.{Head}
use Rattle.sc_tree.specs.declared.instruction.Clause.{Clause}
use Rattle.sc_tree.specs.declared.instruction.Branch.{Branch}
use Rattle.sc_tree.specs.declared.instruction.Instr.{Instr}
use Rattle.sc_tree.specs.declared.instruction.Instr.TheVariants as instr
use Rattle.sc_tree.specs.Plain as plain
use Rattle.sc_tree.specs.Plain.{Target, Exprs}
use Rattle.sc_tree.specs.View.{creation_call_of, expr_of, exprs_of, instr_of, name_of, target_of, type_if_any, variable_of}
use Rattle.sc_tree.proofs.ViewLemmas.{expr_of-call, expr_of-unary, expr_of-binary, expr_of-object_test, instr_of-assign, instr_of-print_text, instr_of-call, instr_of-create, instr_of-if, instr_of-loop, instr_of-check, instr_of-block}
use Rattle.sc_class.proofs.Anys.{at, drop_end}
use Rattle.sc_rules.specs.declared.fault.Fault.{Fault}
use Rattle.sc_rules.specs.declared.position.Context.{Context}
use Rattle.sc_rules.specs.declared.position.Context.TheVariants as context
use Rattle.sc_rules.specs.declared.position.Position.{Position}
use Rattle.sc_rules.specs.declared.position.Position.TheVariants.{Plain, Condition, Source}
use Rattle.sc_rules.specs.declared.entity_types.entity_type.EntityType.{EntityType}
use Rattle.sc_rules.specs.declared.rule.Rule.TheVariants.{CreationTag}
use Rattle.sc_rules.specs.declared.position.Use.{Use}
use Rattle.sc_rules.specs.declared.position.Use.TheVariants.{Value, Instruction}
use Rattle.sc_rules.specs.Positions.{span_of, operand_context, operand_position, shares_names}
use Rattle.sc_rules.specs.Names.{RoutineContext, Entities, FormalType, Meaning, meaning_of, variable_span}
use Rattle.sc_rules.specs.CallRules.{count}
use Rattle.sc_rules.specs.Judging.{Judged, required, JudgedActual, judged_types, formals_of, target_of as called_type, rest, judge, judged_actuals, judge_given}
use Rattle.sc_rules.specs.JudgingText.{is_untagged, creation_meaning}
use Rattle.sc_rules.specs.JudgingPurity.{receiver_type}
use Rattle.sc_typing.specs.declared.expressions.typing.Typing.{Typing}
use Rattle.sc_typing.specs.declared.fault.CheckFault.{CheckFault}
use Rattle.sc_typing.specs.declared.fault.CheckFault.TheVariants.{Refused}
use Rattle.sc_typing.specs.Views.{typing_of}
use Rattle.sc_typing.specs.Judges.{Faults, Judges, Knows, Passes}
use Rattle.sc_faults.specs.Internal.Adding.{AddsFaults}
use Rattle.sc_faults.specs.Internal.Listing.{with_first, faults_at, where_known, faults_of_type_if_any, judge_before, judge_passed, judge_passed_to, judge_named, judge_old, judge_place, faults_in, faults_in_target, faults_in_actuals, faults_of, faults_of_call, judge_made, faults_in_creation, created_type, faults_in_instr}
use Rattle.sc_faults.proofs.Adding.{both_if_ok, named_if_ok, nothing_added, next, end}
use Rattle.sc_faults.proofs.ExpressionFaults.{none_within}

module _ (h : RoutineContext) (c : Context) (k : Position) (n : Entities) (e : Expr) (r : Result Unit AllocError)
    (old new : List Fault) where
  -- of an expression that is judged
  pub typed_added : (judged : Result Typing CheckFault) (t : Typing) → judged ≡ Ok t →
      Judges typing_of (judge h c k n (expr_of e)) judged → old ≡ old ++ faults_of h c k n (expr_of e)
  typed_added judged t q j =
      nothing_added old old refl
      ∙ ap (λ fs. old ++ fs) (sym (ap (λ j. faults_at j (faults_in h c k n (expr_of e))) given
      ∙ none_within h c k n (expr_of e) (typing_of t) given))
    where
      given : judge h c k n (expr_of e) ≡ Ok (typing_of t)
      given = subst (Judges typing_of (judge h c k n (expr_of e))) q j

  pub untyped_added : (judged : Result Typing CheckFault) (f : CheckFault) (g : Fault) (operands : List Fault) → judged ≡ Err f →
      f ≡ Refused g → Judges typing_of (judge h c k n (expr_of e)) judged → operands ≡ faults_in h c k n (expr_of e) →
      OnOk r (new ≡ old ++ with_first g operands) → OnOk r (new ≡ old ++ faults_of h c k n (expr_of e))
  untyped_added judged f g operands q w j o p =
      named_if_ok r old new (with_first g operands) (faults_of h c k n (expr_of e))
      (ap (with_first g) o
      ∙ sym (ap (λ j. faults_at j (faults_in h c k n (expr_of e)))
      (subst (Faults (judge h c k n (expr_of e))) w (subst (Judges typing_of (judge h c k n (expr_of e))) q j)))) p

  -- what was added is what is listed of an expression of this form
  formed : (x : plain.Expr) (fs : List Fault) → expr_of e ≡ x → fs ≡ faults_in h c k n x → OnOk r (new ≡ old ++ fs) →
      OnOk r (new ≡ old ++ faults_in h c k n (expr_of e))
  formed x fs q w p = named_if_ok r old new fs (faults_in h c k n (expr_of e)) (w ∙ sym (ap (faults_in h c k n) q)) p

  -- an expression without operands
  atom : (x : plain.Expr) → expr_of e ≡ x → faults_in h c k n x ≡ [] → old ≡ old ++ faults_in h c k n (expr_of e)
  atom x q w = nothing_added old old refl ∙ ap (λ fs. old ++ fs) (sym (ap (faults_in h c k n) q ∙ w))

  pub integer_added : (s : Span) (v : ℤ) → e ≡ expr.Integer s v → old ≡ old ++ faults_in h c k n (expr_of e)
  unfolding faults_in expr_of
  integer_added s v q = atom (plain.Integer s v) (ap expr_of q) refl

  pub boolean_added : (s : Span) (v : Bool) → e ≡ expr.Boolean s v → old ≡ old ++ faults_in h c k n (expr_of e)
  unfolding faults_in expr_of
  boolean_added s v q = atom (plain.Boolean s v) (ap expr_of q) refl

  pub void_added : (s : Span) → e ≡ expr.Void s → old ≡ old ++ faults_in h c k n (expr_of e)
  unfolding faults_in expr_of
  void_added s q = atom (plain.Void s) (ap expr_of q) refl

  pub current_added : (s : Span) → e ≡ expr.Current s → old ≡ old ++ faults_in h c k n (expr_of e)
  unfolding faults_in expr_of
  current_added s q = atom (plain.Current s) (ap expr_of q) refl

  pub result_added : (s : Span) → e ≡ expr.Result s → old ≡ old ++ faults_in h c k n (expr_of e)
  unfolding faults_in expr_of
  result_added s q = atom (plain.Result s) (ap expr_of q) refl

  pub call_added : (y : Call) → e ≡ expr.Call y →
      OnOk r (new ≡ old ++ faults_of_call h c n Value (target_of y.target) (name_of y.name) (exprs_of y.actuals.items)) →
      OnOk r (new ≡ old ++ faults_in h c k n (expr_of e))
  unfolding faults_in
  call_added y q p =
      formed (plain.Call y.span (target_of y.target) (name_of y.name) (exprs_of y.actuals.items))
      (faults_of_call h c n Value (target_of y.target) (name_of y.name) (exprs_of y.actuals.items)) (ap expr_of q ∙ expr_of-call y) refl p

  pub unary_added : (s : Span) (op : UnaryOperator) (a : Box Expr Global) (inside : Context) (x : Expr) (mid : List Fault)
      (judged : Result Unit CheckFault) → e ≡ expr.Unary s op a → inside ≡ operand_context op c → x ≡ a.value →
      mid ≡ old ++ faults_of h inside Plain n (expr_of x) → Passes (judge_old c op s) judged → AddsFaults judged [] r mid new →
      OnOk r (new ≡ old ++ faults_in h c k n (expr_of e))
  unfolding faults_in
  unary_added s op a inside x mid judged q i d p1 j p2 =
      let after : List Fault = faults_at (judge_old c op s) [] in
      formed (plain.Unary s op (expr_of a.value)) (faults_of h inside Plain n (expr_of x) ++ after) (ap expr_of q ∙ expr_of-unary s op a)
      (ap (λ i. faults_of h i Plain n (expr_of x) ++ after) i
      ∙ ap (λ (x : Expr). faults_of h (operand_context op c) Plain n (expr_of x) ++ after) d)
      (both_if_ok r old mid new (faults_of h inside Plain n (expr_of x)) after p1 (p2 (judge_old c op s) j))

  pub test_added : (s : Span) (t : Option DeclaredType) (a : Box Expr Global) (y : Name) (x : Expr) (mid later : List Fault)
      (judged : Result Unit CheckFault) → e ≡ expr.ObjectTest s t a y → x ≡ a.value →
      mid ≡ old ++ faults_of_type_if_any h.system h.formals (type_if_any t) → later ≡ mid ++ faults_of h c Plain n (expr_of x) →
      Passes (judge_place k s) judged → AddsFaults judged [] r later new → OnOk r (new ≡ old ++ faults_in h c k n (expr_of e))
  unfolding faults_in
  test_added s t a y x mid later judged q d p1 p2 j p3 =
      let of_type : List Fault = faults_of_type_if_any h.system h.formals (type_if_any t) in
      let after : List Fault = faults_at (judge_place k s) [] in
      formed (plain.ObjectTest s (type_if_any t) (expr_of a.value) (name_of y)) (of_type ++ (faults_of h c Plain n (expr_of x) ++ after))
      (ap expr_of q ∙ expr_of-object_test s t a y) (ap (λ (x : Expr). of_type ++ (faults_of h c Plain n (expr_of x) ++ after)) d)
      (both_if_ok r old mid new of_type (faults_of h c Plain n (expr_of x) ++ after) p1
      (both_if_ok r mid later new (faults_of h c Plain n (expr_of x)) after p2 (p3 (judge_place k s) j)))

  -- ---- binary operators

  where_true : (b : Bool) (fs gs : List Fault) → b ≡ true → fs ≡ (if b then fs else gs)
  where_true true fs gs i = refl
  where_true false fs gs i = cc

  where_false : (b : Bool) (fs gs : List Fault) → b ≡ false → gs ≡ (if b then fs else gs)
  where_false true fs gs i = cc
  where_false false fs gs i = refl

  module _ (s : Span) (op : BinaryOperator) (a b : Box Expr Global) (q : e ≡ expr.Binary s op a b) (x y : Expr) (d1 : x ≡ a.value)
      (d2 : y ≡ b.value) (mid : List Fault) where
    abbrev joint : Expr → Expr → Expr → List Fault
    joint x z y =
        faults_of h c Condition n (expr_of x) ++ where_known (judge_given h c n (expr_of z)) (λ m. faults_of h c Condition m (expr_of y))

    abbrev apart : Position → Expr → Expr → List Fault
    apart side x y = faults_of h c side n (expr_of x) ++ faults_of h c side n (expr_of y)

    pub apart_added : (side : Position) → shares_names k op ≡ false → side ≡ operand_position op →
        mid ≡ old ++ faults_of h c side n (expr_of x) → OnOk r (new ≡ mid ++ faults_of h c side n (expr_of y)) →
        OnOk r (new ≡ old ++ faults_in h c k n (expr_of e))
    unfolding faults_in
    apart_added side i o p1 p2 =
        formed (plain.Binary s op (expr_of a.value) (expr_of b.value)) (apart side x y) (ap expr_of q ∙ expr_of-binary s op a b)
        (ap (λ side. apart side x y) o ∙ ap (λ (x : Expr). apart (operand_position op) x y) d1
        ∙ ap (λ (y : Expr). apart (operand_position op) a.value y) d2
        ∙ where_false (shares_names k op) (joint a.value a.value b.value) (apart (operand_position op) a.value b.value) i)
        (both_if_ok r old mid new (faults_of h c side n (expr_of x)) (faults_of h c side n (expr_of y)) p1 p2)

    pub joint_added : (z : Expr) → z ≡ a.value → shares_names k op ≡ true → mid ≡ old ++ faults_of h c Condition n (expr_of x) →
        OnOk r (new ≡ mid ++ where_known (judge_given h c n (expr_of z)) (λ m. faults_of h c Condition m (expr_of y))) →
        OnOk r (new ≡ old ++ faults_in h c k n (expr_of e))
    unfolding faults_in
    joint_added z d3 i p1 p2 =
        formed (plain.Binary s op (expr_of a.value) (expr_of b.value)) (joint x z y) (ap expr_of q ∙ expr_of-binary s op a b)
        (ap (λ (x : Expr). joint x z y) d1 ∙ ap (λ (z : Expr). joint a.value z y) d3 ∙ ap (λ (y : Expr). joint a.value a.value y) d2
        ∙ where_true (shares_names k op) (joint a.value a.value b.value) (apart (operand_position op) a.value b.value) i)
        (both_if_ok r old mid new (faults_of h c Condition n (expr_of x))
        (where_known (judge_given h c n (expr_of z)) (λ m. faults_of h c Condition m (expr_of y))) p1 p2)

-- ---- where names are known

module _ (h : RoutineContext) (c : Context) (e : plain.Expr) (given : Result Unit CheckFault) (known : Entities) (j : Judged Entities)
    (r : Result Unit AllocError) (old new : List Fault) where
  pub known_added : (u : Unit) → given ≡ Ok u → Knows j given known → OnOk r (new ≡ old ++ faults_of h c Condition known e) →
      OnOk r (new ≡ old ++ where_known j (λ m. faults_of h c Condition m e))
  known_added u q i p =
      named_if_ok r old new (faults_of h c Condition known e) (where_known j (λ m. faults_of h c Condition m e))
      (sym (ap (λ j. where_known j (λ m. faults_of h c Condition m e)) (subst (λ g. Knows j g known) q i))) p

  pub unknown_added : (f : CheckFault) (g : Fault) → given ≡ Err f → f ≡ Refused g → Knows j given known →
      old ≡ old ++ where_known j (λ m. faults_of h c Condition m e)
  unknown_added f g q w i =
      nothing_added old old refl
      ∙ ap (λ j. old ++ where_known j (λ m. faults_of h c Condition m e)) (sym (subst (Faults j) w (subst (λ g. Knows j g known) q i)))

-- ---- targets and actuals

pub no_target_added : (h : RoutineContext) (c : Context) (n : Entities) (t : Option (Box Expr Global)) (old : List Fault) → t ≡ None →
    old ≡ old ++ faults_in_target h c n (target_of t)
unfolding faults_in
no_target_added h c n t old q =
    nothing_added old old refl
    ∙ ap (λ fs. old ++ fs) (sym (ap (λ (t : Option (Box Expr Global)). faults_in_target h c n (target_of t)) q))

pub target_added : (h : RoutineContext) (c : Context) (n : Entities) (t : Option (Box Expr Global)) (b : Box Expr Global) (x y : Expr)
    (judged : Result Unit CheckFault) (operands : List Fault) (r : Result Unit AllocError) (old new : List Fault) → t ≡ Some b →
    x ≡ b.value → y ≡ b.value → operands ≡ faults_of h c Plain n (expr_of x) → Passes (judge_before h c n (expr_of y)) judged →
    AddsFaults judged operands r old new → OnOk r (new ≡ old ++ faults_in_target h c n (target_of t))
unfolding faults_in
target_added h c n t b x y judged operands r old new q d w o j p =
    named_if_ok r old new (faults_at (judge_before h c n (expr_of y)) operands) (faults_in_target h c n (target_of t))
    (ap (faults_at (judge_before h c n (expr_of y))) o
    ∙ ap (λ (x : Expr). faults_at (judge_before h c n (expr_of y)) (faults_of h c Plain n (expr_of x))) d
    ∙ ap (λ (y : Expr). faults_at (judge_before h c n (expr_of y)) (faults_of h c Plain n (expr_of b.value))) w
    ∙ sym (ap (λ (t : Option (Box Expr Global)). faults_in_target h c n (target_of t)) q)) (p (judge_before h c n (expr_of y)) j)

rest_drop : (fs : List FormalType) (i : ℕ) → rest (drop i fs) ≡ drop (suc i) fs
rest_drop [] zero = refl
rest_drop [] (suc i) = refl
rest_drop (f ∷ fs) zero = refl
rest_drop (f ∷ fs) (suc i) = rest_drop fs i

one_more : (i : ℕ) → suc i ≡ i + 1
one_more i = omega arith

drop_rest : (fs : List FormalType) (i : ℕ) → rest (drop i fs) ≡ drop (i + 1) fs
drop_rest fs i = rest_drop fs i ∙ ap (λ k. drop k fs) (one_more i)

-- the actuals of a call, each with its formal
module _ (h : RoutineContext) (c : Context) (n : Entities) (pass : List FormalType → JudgedActual → Judged (Unit {0}))
    (fs : List FormalType) (xs : List Expr) (i : ℕ) where
  abbrev from : ℕ → List Fault
  from i = faults_in_actuals h c n pass (drop i fs) (exprs_of (drop i xs))

  here : (x : Expr) → i < length xs → x ≡ get_or xs i x →
      from i ≡ faults_at (pass (drop i fs) (span_of (expr_of x), judge h c Source n (expr_of x))) (faults_of h c Source n (expr_of x)) ++ from (i + 1)
  unfolding faults_in
  here x l g =
      ap (λ (ys : List Expr). faults_in_actuals h c n pass (drop i fs) (exprs_of ys)) (at xs i x l g)
      ∙ ap (λ fs'. faults_at (pass (drop i fs) (span_of (expr_of x), judge h c Source n (expr_of x))) (faults_of h c Source n (expr_of x))
      ++ faults_in_actuals h c n pass fs' (exprs_of (drop (i + 1) xs))) (drop_rest fs i)

  pub actuals_next : (x : Expr) (total now new operands : List Fault) (judged : Result Unit CheckFault) → i < length xs →
      x ≡ get_or xs i x → total ≡ now ++ from i → operands ≡ faults_of h c Source n (expr_of x) →
      Passes (pass (drop i fs) (span_of (expr_of x), judge h c Source n (expr_of x))) judged →
      AddsFaults judged operands (Ok tt) now new → total ≡ new ++ from (i + 1)
  actuals_next x total now new operands judged l g inv o j p =
      let judge_it : Judged (Unit {0}) = pass (drop i fs) (span_of (expr_of x), judge h c Source n (expr_of x)) in
      next total now new (faults_at judge_it (faults_of h c Source n (expr_of x))) (from i) (from (i + 1)) (here x l g) inv
      (p judge_it j ∙ ap (λ os. now ++ faults_at judge_it os) o)

  pub actuals_end : (total now : List Fault) → length xs ≤ i → total ≡ now ++ from i → now ≡ total
  unfolding faults_in
  actuals_end total now l inv =
      end total now (from i) (ap (λ (ys : List Expr). faults_in_actuals h c n pass (drop i fs) (exprs_of ys)) (drop_end xs i l)) inv

-- the actuals of a call that means this
pub arguments_added : (h : RoutineContext) (c : Context) (n : Entities) (o : Option EntityType) (m : Meaning) (es : Exprs) (t : EntityType)
    (ts : List (Option EntityType)) (fs : List FormalType) (r : Result Unit AllocError) (old new : List Fault) → t ≡ called_type h m →
    ts ≡ judged_types (judged_actuals h c n es) → fs ≡ formals_of m →
    OnOk r (new ≡ old ++ faults_in_actuals h c n (judge_passed h c o t ts) fs es) →
    OnOk r (new ≡ old ++ faults_in_actuals h c n (judge_passed_to h c n o m es) (formals_of m) es)
arguments_added h c n o m es t ts fs r old new a b d p =
    named_if_ok r old new (faults_in_actuals h c n (judge_passed h c o t ts) fs es)
    (faults_in_actuals h c n (judge_passed_to h c n o m es) (formals_of m) es)
    (ap (λ t. faults_in_actuals h c n (judge_passed h c o t ts) fs es) a
    ∙ ap (λ ts. faults_in_actuals h c n (judge_passed h c o (called_type h m) ts) fs es) b
    ∙ ap (λ fs. faults_in_actuals h c n (judge_passed_to h c n o m es) fs es) d) p

pub counted : (xs : List Expr) → length xs ≡ count (exprs_of xs)
counted [] = refl
counted (x ∷ xs) = ap suc (counted xs)

-- what a call means by its target, its actuals and its name
pub call_steps : (h : RoutineContext) (c : Context) (n : Entities) (u : Use) (a : Target) (x : plain.Name) (xs : List Expr)
    (o : Option EntityType) (m : Meaning) (k : ℕ) (judged : Result Unit CheckFault) (r : Result Unit AllocError)
    (old mid later new : List Fault) → o ≡ receiver_type h c n a → m ≡ meaning_of h n a o x → k ≡ length xs →
    mid ≡ old ++ faults_in_target h c n a →
    later ≡ mid ++ faults_in_actuals h c n (judge_passed_to h c n o m (exprs_of xs)) (formals_of m) (exprs_of xs) →
    Passes (judge_named h c u a m k x.span) judged → AddsFaults judged [] r later new →
    OnOk r (new ≡ old ++ faults_of_call h c n u a x (exprs_of xs))
call_steps h c n u a x xs o m k judged r old mid later new oq mq kq p1 p2 j p3 =
    let es : Exprs = exprs_of xs in
    let listed : Option EntityType → Meaning → ℕ → List Fault =
    λ o m k. faults_in_actuals h c n (judge_passed_to h c n o m es) (formals_of m) es ++ faults_at (judge_named h c u a m k x.span) [] in
    named_if_ok r old new (faults_in_target h c n a ++ listed o m k) (faults_of_call h c n u a x es)
    (ap (λ k. faults_in_target h c n a ++ listed o m k) (kq ∙ counted xs)
    ∙ ap (λ m. faults_in_target h c n a ++ listed o m (count es)) mq
    ∙ ap (λ o. faults_in_target h c n a ++ listed o (meaning_of h n a o x) (count es)) oq)
    (both_if_ok r old mid new (faults_in_target h c n a) (listed o m k) p1
    (both_if_ok r mid later new (faults_in_actuals h c n (judge_passed_to h c n o m es) (formals_of m) es)
    (faults_at (judge_named h c u a m k x.span) []) p2 (p3 (judge_named h c u a m k x.span) j)))

-- ---- operands of instructions

module _ (h : RoutineContext) (n : Entities) (i : Instr) (r : Result Unit AllocError) (old new : List Fault) where
  of_instr : (x : plain.Instr) (fs : List Fault) → instr_of i ≡ x → fs ≡ faults_in_instr h n x → OnOk r (new ≡ old ++ fs) →
      OnOk r (new ≡ old ++ faults_in_instr h n (instr_of i))
  of_instr x fs q w p = named_if_ok r old new fs (faults_in_instr h n (instr_of i)) (w ∙ sym (ap (faults_in_instr h n) q)) p

  pub source_added : (s : Span) (v : Variable) (e : Expr) → i ≡ instr.Assign s v e →
      OnOk r (new ≡ old ++ faults_of h context.Body Source n (expr_of e)) → OnOk r (new ≡ old ++ faults_in_instr h n (instr_of i))
  source_added s v e q p =
      of_instr (plain.Assign s (variable_of v) (expr_of e)) (faults_of h context.Body Source n (expr_of e))
      (ap instr_of q ∙ instr_of-assign s v e) refl p

  pub command_added : (y : Call) → i ≡ instr.Call y →
      OnOk r (new ≡ old ++ faults_of_call h context.Body n Instruction (target_of y.target) (name_of y.name) (exprs_of y.actuals.items)) →
      OnOk r (new ≡ old ++ faults_in_instr h n (instr_of i))
  command_added y q p =
      of_instr (plain.CallRoutine y.span (target_of y.target) (name_of y.name) (exprs_of y.actuals.items))
      (faults_of_call h context.Body n Instruction (target_of y.target) (name_of y.name) (exprs_of y.actuals.items))
      (ap instr_of q ∙ instr_of-call y) refl p

  pub creation_added : (s : Span) (v : Variable) (o q : Option CreationCall) → i ≡ instr.Create s v o → q ≡ o →
      OnOk r (new ≡ old ++ faults_in_creation h n (variable_span (variable_of v)) (created_type h n (variable_of v)) (creation_call_of q)) →
      OnOk r (new ≡ old ++ faults_in_instr h n (instr_of i))
  creation_added s v o q e w p =
      let listed : Option CreationCall → List Fault =
      λ (o : Option CreationCall). faults_in_creation h n (variable_span (variable_of v)) (created_type h n (variable_of v)) (creation_call_of o) in
      of_instr (plain.Create s (record { variable = variable_of v; call = creation_call_of o })) (listed q)
      (ap instr_of e ∙ instr_of-create s v o) (ap listed w) p

  without : (x : plain.Instr) → instr_of i ≡ x → faults_in_instr h n x ≡ [] → old ≡ old ++ faults_in_instr h n (instr_of i)
  without x q w = nothing_added old old refl ∙ ap (λ fs. old ++ fs) (sym (ap (faults_in_instr h n) q ∙ w))

  pub print_added : (s : Span) (t : Rc (String Global) Global) → i ≡ instr.PrintText s t → old ≡ old ++ faults_in_instr h n (instr_of i)
  print_added s t q = without (plain.PrintText s (string_bytes t.value)) (ap instr_of q ∙ instr_of-print_text s t) refl

  pub if_added : (s : Span) (e : Expr) (body : Vec Instr Global) (bs : Vec Branch Global) (other : Vec Instr Global) →
      i ≡ instr.If s e body bs other → old ≡ old ++ faults_in_instr h n (instr_of i)
  if_added s e body bs other q = without _ (ap instr_of q ∙ instr_of-if s e body bs other) refl

  pub loop_added : (s : Span) (initial : Vec Instr Global) (e : Expr) (body : Vec Instr Global) → i ≡ instr.Loop s initial e body →
      old ≡ old ++ faults_in_instr h n (instr_of i)
  loop_added s initial e body q = without _ (ap instr_of q ∙ instr_of-loop s initial e body) refl

  pub check_added : (s : Span) (ks : Vec Clause Global) → i ≡ instr.Check s ks → old ≡ old ++ faults_in_instr h n (instr_of i)
  check_added s ks q = without _ (ap instr_of q ∙ instr_of-check s ks) refl

  pub block_added : (s : Span) (heads : Vec Head Global) (body : Vec Instr Global) → i ≡ instr.Block s heads body →
      old ≡ old ++ faults_in_instr h n (instr_of i)
  block_added s heads body q = without _ (ap instr_of q ∙ instr_of-block s heads body) refl

module _ (h : RoutineContext) (n : Entities) (p : Span) (t : Option EntityType) (o : Option CreationCall) (r : Result Unit AllocError)
    (old new : List Fault) where
  pub no_call_added : o ≡ None → old ≡ old ++ faults_in_creation h n p t (creation_call_of o)
  no_call_added q =
      nothing_added old old refl
      ∙ ap (λ fs. old ++ fs) (sym (ap (λ (o : Option CreationCall). faults_in_creation h n p t (creation_call_of o)) q))

  pub made_added : (y : CreationCall) (z : Option EntityType) → o ≡ Some y → z ≡ t →
      OnOk r (new ≡ old ++ faults_in_creation h n p z (creation_call_of (Some y))) → OnOk r (new ≡ old ++ faults_in_creation h n p t (creation_call_of o))
  made_added y z q w a =
      named_if_ok r old new (faults_in_creation h n p z (creation_call_of (Some y))) (faults_in_creation h n p t (creation_call_of o))
      (ap (λ z. faults_in_creation h n p z (creation_call_of (Some y))) w
      ∙ sym (ap (λ (o : Option CreationCall). faults_in_creation h n p t (creation_call_of o)) q)) a

-- the tag of what is created, then its call
pub made_steps : (h : RoutineContext) (n : Entities) (p : Span) (t : Option EntityType) (y : CreationCall) (xs : List Expr) (m : Meaning) (k : ℕ)
    (tagged judged : Result Unit CheckFault) (r : Result Unit AllocError) (old mid later new : List Fault) →
    m ≡ creation_meaning h t (name_of y.name) → xs ≡ y.actuals.items → k ≡ length y.actuals.items →
    Passes (required (is_untagged t) CreationTag p) tagged → AddsFaults tagged [] (Ok tt) old mid →
    later ≡ mid ++ faults_in_actuals h context.Body n (judge_passed_to h context.Body n t m (exprs_of xs)) (formals_of m) (exprs_of xs) →
    Passes (judge_made h t m (name_of y.name) k) judged → AddsFaults judged [] r later new →
    OnOk r (new ≡ old ++ faults_in_creation h n p t (creation_call_of (Some y)))
made_steps h n p t y xs m k tagged judged r old mid later new mq xq kq tj p1 p2 j p3 =
    let first : List Fault = faults_at (required (is_untagged t) CreationTag p) [] in
    let actuals : Meaning → List Expr → List Fault =
    λ m xs. faults_in_actuals h context.Body n (judge_passed_to h context.Body n t m (exprs_of xs)) (formals_of m) (exprs_of xs) in
    let name : Meaning → ℕ → List Fault = λ m k. faults_at (judge_made h t m (name_of y.name) k) [] in
    named_if_ok r old new (first ++ (actuals m xs ++ name m k)) (faults_in_creation h n p t (creation_call_of (Some y)))
    (ap (λ (xs : List Expr). first ++ (actuals m xs ++ name m k)) xq
    ∙ ap (λ k. first ++ (actuals m y.actuals.items ++ name m k)) (kq ∙ counted y.actuals.items)
    ∙ ap (λ m. first ++ (actuals m y.actuals.items ++ name m (count (exprs_of y.actuals.items)))) mq)
    (both_if_ok r old mid new first (actuals m xs ++ name m k) (p1 (required (is_untagged t) CreationTag p) tj)
    (both_if_ok r mid later new (actuals m xs) (name m k) p2 (p3 (judge_made h t m (name_of y.name) k) j)))
