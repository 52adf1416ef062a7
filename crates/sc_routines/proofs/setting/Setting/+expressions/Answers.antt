use Rattle.std.proofs.Common.{◌≡◌, ◌≤◌, ◌++◌, OnOk, IfOk, length, map, true, false, refl, sym, ap, subst, ◌∙◌, ◌+◌, ℕ, List, Some, rules, drop, max, arith}
use Rattle.std.proofs.lemmas.List.{length-map, at_drop_all, at_drop_more}
use Rattle.sc_tree.specs.declared.expression.Expr.{Expr}
use Rattle.sc_tree.specs.Plain as tree
use Rattle.sc_tree.specs.Properties.{is_old}
use Rattle.sc_tree.specs.View.{expr_of, exprs_of, name_of, type_if_any, target_of}
use Rattle.sc_tree.proofs.ViewLemmas.{expr_of-boolean, expr_of-void, expr_of-current, expr_of-call, expr_of-result, expr_of-unary, expr_of-binary, expr_of-object_test}
use Rattle.sc_model.specs.Olds.{olds_in, olds_of_each}
use Rattle.sc_typing.specs.Views.{entity_of}
use Rattle.sc_rules.specs.declared.entity_types.entity_type.EntityType.{EntityType}
use Rattle.sc_rules.specs.entity_types.Conformance.{boolean, void}
use Rattle.sc_rules.specs.Names.{current}
use Rattle.sc_routines.specs.Settings.{setting_in}
use Rattle.sc_code.specs.Places.{expr_type, here, names_given, exprs_types, slot_named}
use Rattle.sc_code.specs.Emitted.{expr_code, expr_depth, expr_slots, exprs_code, exprs_depth}
use Rattle.sc_routines.proofs.Given.{forgotten_in}
use Rattle.sc_routines.proofs.Ends.{all_found}
use Rattle.sc_routines.proofs.ExpressionParts.{next_code, next_types, next_depth, next_olds}
use Rattle.sc_routines.proofs.LoweredExpressions.{always, leaf_code, leaf_told, result_code, result_told, old_code, old_told, unary_code, unary_told, unary_names, test_code, test_names, test_told, close_code, close_told, close_names, place_within, Told, routine_code_left, routine_told, feature_code_left, feature_told}
use Rattle.sc_typing.specs.declared.declarations.names.Entity.{Entity}
use Rattle.sc_routines.specs.Named.{own_named, routine_given}
use Rattle.sc_routines.specs.Parts.{call_in}
use Rattle.std.specs.Ordering.{nat_cmp, ord_max}
use Rattle.sc_routines.proofs.setting.Setting.+expressions.Goals as goal

pub lower_condition-returns-in-Boolean : goal.lower_condition-returns-in-Boolean
lower_condition-returns-in-Boolean t c =
    let h = setting_in c.args.self.now in
    let n = map entity_of c.args.names.now.items in
    let i = c.args.olds in
    let q = tree.Boolean c.in-Boolean.span c.in-Boolean.value in
    let ep : expr_of c.args.e.now ≡ q = ap expr_of c.in-Boolean.is ∙ expr_of-boolean c.in-Boolean.span c.in-Boolean.value in
    let r = c.push_boolean.result in
    let told = leaf_told h n i (expr_of c.args.e.now) q r ep boolean _ refl refl refl (omega arith) refl c.push_boolean.ensures.told in
    record {
      code = leaf_code h n i (expr_of c.args.e.now) q r ep _ c.args.code.now c.push_boolean.new.code refl c.push_boolean.ensures.code;
      names = always r (sym (ap (names_given h n i) ep));
      value = told.value;
      depth = told.depth;
      olds = told.olds;
      slots = told.slots;
    }

pub lower_condition-returns-in-Void : goal.lower_condition-returns-in-Void
lower_condition-returns-in-Void t c =
    let h = setting_in c.args.self.now in
    let n = map entity_of c.args.names.now.items in
    let i = c.args.olds in
    let q = tree.Void c.in-Void.span in
    let ep : expr_of c.args.e.now ≡ q = ap expr_of c.in-Void.is ∙ expr_of-void c.in-Void.span in
    let r = c.push_void.result in
    let told = leaf_told h n i (expr_of c.args.e.now) q r ep void _ refl refl refl (omega arith) refl c.push_void.ensures.told in
    record {
      code = leaf_code h n i (expr_of c.args.e.now) q r ep _ c.args.code.now c.push_void.new.code refl c.push_void.ensures.code;
      names = always r (sym (ap (names_given h n i) ep));
      value = told.value;
      depth = told.depth;
      olds = told.olds;
      slots = told.slots;
    }

pub lower_condition-returns-in-Current : goal.lower_condition-returns-in-Current
lower_condition-returns-in-Current t c =
    let h = setting_in c.args.self.now in
    let n = map entity_of c.args.names.now.items in
    let i = c.args.olds in
    let q = tree.Current c.in-Current.span in
    let ep : expr_of c.args.e.now ≡ q = ap expr_of c.in-Current.is ∙ expr_of-current c.in-Current.span in
    let r = c.push_current.result in
    let told = leaf_told h n i (expr_of c.args.e.now) q r ep (current (here h)) _ refl refl refl (omega arith) refl c.push_current.ensures.told in
    record {
      code = leaf_code h n i (expr_of c.args.e.now) q r ep _ c.args.code.now c.push_current.new.code refl c.push_current.ensures.code;
      names = always r (sym (ap (names_given h n i) ep));
      value = told.value;
      depth = told.depth;
      olds = told.olds;
      slots = told.slots;
    }

pub lower_condition-returns-in-Result : goal.lower_condition-returns-in-Result
lower_condition-returns-in-Result t c =
    let h = setting_in c.args.self.now in
    let n = map entity_of c.args.names.now.items in
    let p = expr_of c.args.e.now in
    let q = c.in-Result.span in
    let ep : p ≡ tree.Result q = ap expr_of c.in-Result.is ∙ expr_of-result q in
    let r = c.lower_result.result in
    let told = result_told h n c.args.olds p q r ep c.lower_result.ensures.told in
    record {
      code = result_code h n c.args.olds p q r c.args.code.now c.lower_result.new.code ep c.lower_result.ensures.code;
      names = always r (sym (ap (names_given h n c.args.olds) ep));
      value = told.value;
      depth = told.depth;
      olds = told.olds;
      slots = told.slots;
    }

pub lower_condition-returns-in-Call : goal.lower_condition-returns-in-Call
lower_condition-returns-in-Call t c =
    let h = setting_in c.args.self.now in
    let n = map entity_of c.args.names.now.items in
    let i = c.args.olds in
    let r = c.lower_call.result in
    let e = sym (ap expr_of c.in-Call.is ∙ expr_of-call c.in-Call.call) in
    record {
      code = subst (λ (p : tree.Expr). OnOk r (c.lower_call.new.code ≡ c.args.code.now ++ expr_code h n i p)) e c.lower_call.ensures.code;
      names = subst (λ (p : tree.Expr). OnOk r (map entity_of c.lower_call.new.names.items ≡ names_given h n i p)) e c.lower_call.ensures.names;
      value = subst (λ (p : tree.Expr). IfOk r (λ l. l.value ≡ expr_type h n i p)) e c.lower_call.ensures.value;
      depth = subst (λ (p : tree.Expr). IfOk r (λ l. l.depth ≡ expr_depth h n i p)) e c.lower_call.ensures.depth;
      olds = subst (λ (p : tree.Expr). IfOk r (λ l. l.olds ≡ i + olds_in p)) e c.lower_call.ensures.olds;
      slots = subst (λ (p : tree.Expr). IfOk r (λ l. l.slots ≡ expr_slots h n i p)) e c.lower_call.ensures.slots;
    }

pub lower_condition-returns-then-is_old : goal.lower_condition-returns-then-is_old
lower_condition-returns-then-is_old t c =
    let h = setting_in c.args.self.now in
    let n = map entity_of c.args.names.now.items in
    let a = expr_of c.in-Unary.operand.value in
    let p = expr_of c.args.e.now in
    let op = c.in-Unary.operator in
    let q = c.in-Unary.span in
    let ep : p ≡ tree.Unary q op a = ap expr_of c.in-Unary.is ∙ expr_of-unary q op c.in-Unary.operand in
    let e : is_old op ≡ true = sym c.is_old.ensures ∙ c.if-is_old.true in
    let r = c.lower_old.result in
    let told = old_told h n c.args.olds q a r p op ep e c.lower_old.ensures.told in
    record {
      code = old_code h n c.args.olds q a r p op ep c.args.code.now c.lower_old.new.code e c.lower_old.ensures.code;
      names = always r (unary_names h n c.args.olds q a r p op ep);
      value = told.value;
      depth = told.depth;
      olds = told.olds;
      slots = told.slots;
    }

pub lower_condition-returns-in_ok-operand-in-Unary : goal.lower_condition-returns-in_ok-operand-in-Unary
lower_condition-returns-in_ok-operand-in-Unary t c =
    let h = setting_in c.args.self.now in
    let first = c.args.names.now.items in
    let n = map entity_of first in
    let i = c.args.olds in
    let a = expr_of c.deref.result.now in
    let p = expr_of c.args.e.now in
    let op = c.in-Unary.operator in
    let q = c.in-Unary.span in
    let ep : p ≡ tree.Unary q op a =
    ap expr_of c.in-Unary.is ∙ expr_of-unary q op c.in-Unary.operand ∙ ap (λ (e : Expr). tree.Unary q op (expr_of e)) (sym c.deref.ensures) in
    let e : is_old op ≡ false = sym c.is_old.ensures ∙ c.if-is_old.false in
    let lowered = c.in_ok-operand-in-Unary.ensures in
    let r = c.close_unary.result in
    let told = unary_told h n i q a r p op ep c.in_ok-operand-in-Unary.operand e lowered.depth lowered.olds c.close_unary.ensures.told in
    record {
      code = unary_code h n i q a r p op ep c.args.code.now c.lower_condition.new.code c.close_unary.new.code e lowered.code c.close_unary.ensures.code;
      names = always r (forgotten_in h i a first first c.lower_condition.new.names.items c.truncate.new.self.items c.len-count.result refl lowered.names
          (c.len-count.ensures ∙ c.args.names.now.ok.0) c.truncate.ensures.items ∙ unary_names h n i q a r p op ep);
      value = told.value;
      depth = told.depth;
      olds = told.olds;
      slots = told.slots;
    }

pub lower_condition-returns-in_ok-tested-in-ObjectTest : goal.lower_condition-returns-in_ok-tested-in-ObjectTest
lower_condition-returns-in_ok-tested-in-ObjectTest t c =
    let h = setting_in c.args.self.now in
    let first = c.args.names.now.items in
    let n = map entity_of first in
    let i = c.args.olds in
    let a = expr_of c.deref-in-ObjectTest.result.now in
    let p = expr_of c.args.e.now in
    let q = c.in-ObjectTest.span in
    let d = type_if_any c.in-ObjectTest.declared in
    let x = name_of c.in-ObjectTest.name in
    let ep : p ≡ tree.ObjectTest q d a x =
    ap expr_of c.in-ObjectTest.is ∙ expr_of-object_test q c.in-ObjectTest.declared c.in-ObjectTest.tested c.in-ObjectTest.name
    ∙ ap (λ (e : Expr). tree.ObjectTest q d (expr_of e) x) (sym c.deref-in-ObjectTest.ensures) in
    let lowered = c.in_ok-tested-in-ObjectTest.ensures in
    let l = c.in_ok-tested-in-ObjectTest.tested in
    let left = c.truncate-in-ObjectTest.new.self.items in
    let m = map entity_of left in
    let em = forgotten_in h i a first first c.lower_condition-in-ObjectTest.new.names.items left c.len-count.result refl lowered.names
    (c.len-count.ensures ∙ c.args.names.now.ok.0) c.truncate-in-ObjectTest.ensures.items in
    let r = c.close_test.result in
    let told = test_told h n m i q d a x r p l ep em lowered.value (length left) lowered.depth lowered.olds (sym (length-map left entity_of)) c.close_test.ensures.told in
    record {
      code = test_code h n m i q d a x r p l ep em lowered.value c.args.code.now c.lower_condition-in-ObjectTest.new.code c.close_test.new.code (length left) lowered.code (sym (length-map left entity_of)) c.close_test.ensures.code;
      names = test_names h n m i q d a x r p l ep em lowered.value _ c.close_test.ensures.names;
      value = told.value;
      depth = told.depth;
      olds = told.olds;
      slots = told.slots;
    }

pub lower_condition-close_binary-requires : goal.lower_condition-close_binary-requires
lower_condition-close_binary-requires t c =
    place_within c.in-Binary.operator c.lower_condition-in-Binary.new.code c.open_right.new.code c.lower_condition-in-Binary-2.new.code _ c.len-place.result
    c.len-place.ensures c.in_ok-open_right-in-Binary.ensures c.in_ok-right-in-Binary.ensures.code

pub lower_condition-returns-in_ok-right-in-Binary : goal.lower_condition-returns-in_ok-right-in-Binary
lower_condition-returns-in_ok-right-in-Binary t c =
    let h = setting_in c.args.self.now in
    let first = c.args.names.now.items in
    let n = map entity_of first in
    let i = c.args.olds in
    let a = expr_of c.deref-in-Binary.result.now in
    let b = expr_of c.deref-in-Binary-2.result.now in
    let p = expr_of c.args.e.now in
    let op = c.in-Binary.operator in
    let q = c.in-Binary.span in
    let ep : p ≡ tree.Binary q op a b =
    ap expr_of c.in-Binary.is ∙ expr_of-binary q op c.in-Binary.left c.in-Binary.right
    ∙ ap (λ (e : Expr). tree.Binary q op (expr_of e) (expr_of c.in-Binary.right.value)) (sym c.deref-in-Binary.ensures)
    ∙ ap (λ (e : Expr). tree.Binary q op a (expr_of e)) (sym c.deref-in-Binary-2.ensures) in
    let one = c.in_ok-left-in-Binary.ensures in
    let other = c.in_ok-right-in-Binary.ensures in
    let left = c.in_ok-left-in-Binary.left in
    let right = c.in_ok-right-in-Binary.right in
    let given = c.lower_condition-in-Binary.new.names.items in
    let m = map entity_of given in
    let r = c.close_binary.result in
    let told = close_told h n m i q op a b p r left right ep one.names one.olds one.depth other.depth one.slots other.slots other.olds c.close_binary.ensures.told in
    record {
      code = close_code h n m i q op a b p r left right ep one.names one.olds c.args.code.now c.lower_condition-in-Binary.new.code c.open_right.new.code
          c.lower_condition-in-Binary-2.new.code c.close_binary.new.code c.len-place.result one.code c.len-place.ensures c.in_ok-open_right-in-Binary.ensures other.code c.close_binary.ensures.code;
      names = always r (close_names h n m i q op a b p r left right ep one.names one.olds first given c.lower_condition-in-Binary-2.new.names.items c.close_binary.new.names.items
          c.len-count.result refl refl other.names (c.len-count.ensures ∙ c.args.names.now.ok.0) c.close_binary.ensures.both c.close_binary.ensures.none);
      value = told.value;
      depth = told.depth;
      olds = told.olds;
      slots = told.slots;
    }

pub lower_call-returns-in_default : goal.lower_call-returns-in_default
lower_call-returns-in_default t c =
    let h = setting_in c.args.self.now in
    let n = map entity_of c.args.names.now.items in
    let i = c.args.olds in
    let call = c.args.call.now in
    let x = name_of call.name in
    let es = call.actuals.items in
    let found = c.in_ok-passed.ensures in
    let passed = c.in_ok-passed.passed in
    let r = c.close_routine_call.result in
    let given_type = c.in-Some-routine_named.value in
    let given : Some given_type ≡ routine_given (slot_named x.text n) (own_named h x.text) =
    c.in-Some-routine_named.ensures
    ∙ ap (λ (s : List ℕ). routine_given (slot_named s (map entity_of c.deref.result.now)) (own_named h s)) c.as_str.ensures.value
    ∙ ap (λ (l : List Entity). routine_given (slot_named x.text (map entity_of l)) (own_named h x.text)) c.deref.ensures.value in
    let e = ap (λ (target : _). tree.Call call.span (target_of target) x (exprs_of es)) c.in_default.is in
    let actuals = c.deref-in_default.ensures.value in
    let told : Told h n i (call_in call) r = subst (λ (p : tree.Expr). Told h n i p r) (sym e)
    (routine_told h n i call.span x es r given_type given passed.depth passed.olds (found.depth ∙ ap (λ (es : List Expr). exprs_depth h n i (exprs_of es)) actuals)
    (found.olds ∙ ap (λ (es : List Expr). i + length (olds_of_each (exprs_of es))) actuals) c.close_routine_call.ensures.told) in
    record {
      code = subst (λ (p : tree.Expr). OnOk r (c.close_routine_call.new.code ≡ c.args.code.now ++ expr_code h n i p)) (sym e)
          (routine_code_left h n i call.span x es r given_type given c.args.code.now c.lower_actuals.new.code c.close_routine_call.new.code passed.types.items
          (found.types ∙ ap (λ (es : List Expr). exprs_types h n i (exprs_of es)) actuals)
          (found.code ∙ ap (λ (es : List Expr). c.args.code.now ++ exprs_code h n i (exprs_of es)) actuals) c.close_routine_call.ensures.code);
      names = always r found.names;
      value = told.value;
      depth = told.depth;
      olds = told.olds;
      slots = told.slots;
    }

pub lower_call-returns : goal.lower_call-returns
lower_call-returns t c =
    let h = setting_in c.args.self.now in
    let first = c.args.names.now.items in
    let n = map entity_of first in
    let i = c.args.olds in
    let call = c.args.call.now in
    let x = name_of call.name in
    let es = call.actuals.items in
    let a = expr_of c.deref-2.result.now in
    let lowered = c.in_ok-target.ensures in
    let l = c.in_ok-target.target in
    let found = c.in_ok-actuals.ensures in
    let passed = c.in_ok-actuals.actuals in
    let left = c.truncate.new.self.items in
    let m = map entity_of left in
    let r = c.close_feature_call.result in
    let em = forgotten_in h i a first first c.lower_condition.new.names.items left c.len-count.result refl lowered.names
    (c.len-count.ensures ∙ c.args.names.now.ok.0) c.truncate.ensures.items in
    let e = ap (λ (target : _). tree.Call call.span (target_of target) x (exprs_of es)) c.in-Some.is
    ∙ ap (λ (e : Expr). tree.Call call.span (tree.target (expr_of e)) x (exprs_of es)) (sym c.deref-2.ensures) in
    let actuals = c.deref-3.ensures.value in
    let types = found.types ∙ ap (λ (es : List Expr). exprs_types h m l.olds (exprs_of es)) actuals in
    let told : Told h n i (call_in call) r = subst (λ (p : tree.Expr). Told h n i p r) (sym e)
    (feature_told h n m i call.span a x es l passed.types.items r em lowered.olds lowered.value types passed.depth passed.olds lowered.depth
    (found.depth ∙ ap (λ (es : List Expr). exprs_depth h m l.olds (exprs_of es)) actuals)
    (found.olds ∙ ap (λ (es : List Expr). l.olds + length (olds_of_each (exprs_of es))) actuals) c.close_feature_call.ensures.told) in
    record {
      code = subst (λ (p : tree.Expr). OnOk r (c.close_feature_call.new.code ≡ c.args.code.now ++ expr_code h n i p)) (sym e)
          (feature_code_left h n m i call.span a x es l passed.types.items r em lowered.olds lowered.value types
          c.args.code.now c.lower_condition.new.code c.lower_actuals-2.new.code c.close_feature_call.new.code lowered.code
          (found.code ∙ ap (λ (es : List Expr). c.lower_condition.new.code ++ exprs_code h m l.olds (exprs_of es)) actuals) c.close_feature_call.ensures.code);
      names = always r (found.names ∙ em);
      value = told.value;
      depth = told.depth;
      olds = told.olds;
      slots = told.slots;
    }

greater : (a b r : ℕ) → r ≡ ord_max nat_cmp a b → r ≡ max a b
greater a b r e = search rules

pub lower_actuals-loop-number-preserved : goal.lower_actuals-loop-number-preserved
lower_actuals-loop-number-preserved t c =
    let h = setting_in c.args.self.now in
    let first = c.args.names.now.items in
    let n = map entity_of first in
    let es = c.args.actuals.now in
    let number = c.loop-number.number in
    let i = c.loop-number.passed in
    let old = c.loop-number.names.items in
    let m = map entity_of old in
    let e = c.index-actuals-number.result in
    let l = c.in_ok-actual.actual in
    let lowered = c.in_ok-actual.ensures in
    let before = c.loop-number.invariant in
    let rest = exprs_of (drop (number + 1) es) in
    let step : exprs_of (drop number es) ≡ tree.expr_then (expr_of e) rest =
    at_drop_more exprs_of es number e (omega (arith, c.loop-number-test.true))
    ∙ ap (λ (e : Expr). tree.expr_then (expr_of e) rest) (sym c.index-actuals-number.is) in
    let back = sym step in
    let deep = next_depth h n m i l.olds (expr_of e) rest l.depth c.loop-number.depth c.in_ok-sum.field-0 (exprs_depth h n c.args.olds (exprs_of es)) number
    before.names lowered.olds lowered.depth c.in_ok-sum.ensures (ap (λ (es : tree.Exprs). max c.loop-number.depth (number + exprs_depth h n i es)) back ∙ before.depth) in
    record {
      names = forgotten_in h i (expr_of e) first old c.lower_condition.new.names.items c.truncate.new.self.items c.len-count.result before.names lowered.names
          (c.len-count.ensures ∙ c.args.names.now.ok.0) c.truncate.ensures.items;
      code = next_code h n m i l.olds (expr_of e) rest c.loop-number.code c.lower_condition.new.code (c.args.code.now ++ exprs_code h n c.args.olds (exprs_of es))
          before.names lowered.olds lowered.code (ap (λ (es : tree.Exprs). c.loop-number.code ++ exprs_code h n i es) back ∙ before.code);
      types = next_types h n m i l.olds (expr_of e) rest l.value c.loop-number.types.items c.push_type.new.types.items (exprs_types h n c.args.olds (exprs_of es))
          before.names lowered.olds lowered.value c.in_ok-push_type.ensures (ap (λ (es : tree.Exprs). c.loop-number.types.items ++ exprs_types h n i es) back ∙ before.types);
      depth = omega (arith, greater c.loop-number.depth c.in_ok-sum.field-0 c.max-depth.result c.max-depth.ensures, deep);
      passed = next_olds i l.olds i (c.args.olds + length (olds_of_each (exprs_of es))) (expr_of e) rest lowered.olds
          (ap (λ (es : tree.Exprs). i + length (olds_of_each es)) back ∙ before.passed);
    }

pub lower_actuals-loop-number-init : goal.lower_actuals-loop-number-init
lower_actuals-loop-number-init t c =
    let h = setting_in c.args.self.now in
    let n = map entity_of c.args.names.now.items in
    record {
      names = refl;
      code = refl;
      types = ap (λ (l : List EntityType). l ++ exprs_types h n c.args.olds (exprs_of c.args.actuals.now)) c.new-types.ensures.items;
      depth = omega arith;
      passed = refl;
    }

pub lower_actuals-returns : goal.lower_actuals-returns
lower_actuals-returns t c =
    let h = setting_in c.args.self.now in
    let n = map entity_of c.args.names.now.items in
    let es = c.args.actuals.now in
    let number = c.loop-number.number in
    let i = c.loop-number.passed in
    let before = c.loop-number.invariant in
    let past : length es ≤ number = omega (arith, c.loop-number-test.false) in
    let no_depth = at_drop_all (λ (es : List Expr). exprs_depth h n i (exprs_of es)) es number past in
    let no_olds = at_drop_all (λ (es : List Expr). length (olds_of_each (exprs_of es))) es number past in
    record {
      code = all_found (λ (es : List Expr). exprs_code h n i (exprs_of es)) es number c.loop-number.code _ past refl before.code;
      names = before.names;
      types = all_found (λ (es : List Expr). exprs_types h n i (exprs_of es)) es number c.loop-number.types.items _ past refl before.types;
      depth = omega (arith, c.max.ensures, past, no_depth, before.depth);
      olds = omega (arith, no_olds, before.passed);
    }
