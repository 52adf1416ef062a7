use Rattle.std.proofs.Common.{◌≡◌, ◌+◌, ◌++◌, ◌∷◌, [], ℕ, List, drop, map, sym, ap, ◌∙◌, append_assoc, arith}
use Rattle.std.specs.List.{filter_map}
use Rattle.std.proofs.lemmas.List.{at_drop_more}
use Rattle.sc_tree.specs.declared.expression.Expr.{Expr}
use Rattle.sc_tree.specs.Plain as tree
use Rattle.sc_tree.specs.View.{expr_of, exprs_of}
use Rattle.sc_tree.proofs.ViewLemmas.{expr_of-binary}
use Rattle.sc_typing.specs.Views.{entity_of}
use Rattle.sc_model.specs.Preconditions.{names_in, names_in_each}
use Rattle.sc_code.specs.Emitted.{formal_slot}
use Rattle.sc_routines.proofs.FormalNames.{both_added, formals_joined, names_in_own, names_in_qualified}
use Rattle.sc_routines.proofs.routine.formals.+names.Goals as goal

pub add_formals_in-returns-in_ok-add_formals_in-in-Binary : goal.add_formals_in-returns-in_ok-add_formals_in-in-Binary
add_formals_in-returns-in_ok-add_formals_in-in-Binary t c =
    let q = c.in-Binary.field-0 in
    let op = c.in-Binary.field-1 in
    both_added c.add_formals_in-in-Binary-2.result (λ (x : List ℕ). formal_slot x (map entity_of c.args.names.now)) c.args.slots.now.items c.add_formals_in-in-Binary.new.slots.items
    c.add_formals_in-in-Binary-2.new.slots.items (names_in (expr_of c.deref-in-Binary.result.now)) (names_in (expr_of c.deref-in-Binary-2.result.now)) (names_in (expr_of c.args.e.now))
    c.in_ok-add_formals_in-in-Binary.ensures c.add_formals_in-in-Binary-2.ensures
    (ap names_in (ap expr_of c.in-Binary.is ∙ expr_of-binary q op c.in-Binary.left c.in-Binary.right
    ∙ ap (λ (e : Expr). tree.Binary q op (expr_of e) (expr_of c.in-Binary.right.value)) (sym c.deref-in-Binary.ensures)
    ∙ ap (λ (e : Expr). tree.Binary q op (expr_of c.deref-in-Binary.result.now) (expr_of e)) (sym c.deref-in-Binary-2.ensures)))

pub add_formals_in_call-returns-in_ok-add_formal-in-None : goal.add_formals_in_call-returns-in_ok-add_formal-in-None
add_formals_in_call-returns-in_ok-add_formal-in-None t c =
    both_added c.add_formals_in_each.result (λ (x : List ℕ). formal_slot x (map entity_of c.args.names.now)) c.args.slots.now.items c.add_formal.new.slots.items
    c.add_formals_in_each.new.slots.items (c.as_str.result.now ∷ []) (names_in_each (exprs_of c.deref.result.now)) _
    c.in_ok-add_formal-in-None.ensures c.add_formals_in_each.ensures
    (names_in_own c.args.call.now c.in-None.is
    ∙ ap (λ (x : List ℕ). x ∷ names_in_each (exprs_of c.args.call.now.actuals.items)) (sym c.as_str.ensures.value)
    ∙ ap (λ (es : List Expr). c.as_str.result.now ∷ names_in_each (exprs_of es)) (sym c.deref.ensures.value))

pub add_formals_in_call-returns-in_ok-add_formals_in-in-Some : goal.add_formals_in_call-returns-in_ok-add_formals_in-in-Some
add_formals_in_call-returns-in_ok-add_formals_in-in-Some t c =
    both_added c.add_formals_in_each-in-Some.result (λ (x : List ℕ). formal_slot x (map entity_of c.args.names.now)) c.args.slots.now.items c.add_formals_in.new.slots.items
    c.add_formals_in_each-in-Some.new.slots.items (names_in (expr_of c.deref-in-Some.result.now)) (names_in_each (exprs_of c.deref-in-Some-2.result.now)) _
    c.in_ok-add_formals_in-in-Some.ensures c.add_formals_in_each-in-Some.ensures
    (names_in_qualified c.args.call.now c.in-Some.target c.in-Some.is
    ∙ ap (λ (e : Expr). names_in (expr_of e) ++ names_in_each (exprs_of c.args.call.now.actuals.items)) (sym c.deref-in-Some.ensures)
    ∙ ap (λ (es : List Expr). names_in (expr_of c.deref-in-Some.result.now) ++ names_in_each (exprs_of es)) (sym c.deref-in-Some-2.ensures.value))

pub add_formals_in_each-loop-actual-preserved : goal.add_formals_in_each-loop-actual-preserved
add_formals_in_each-loop-actual-preserved t c =
    let f = λ (x : List ℕ). formal_slot x (map entity_of c.args.names.now) in
    let es = c.args.actuals.now in
    let number = c.loop-actual.actual-index in
    let e = c.actual-item.result in
    let s0 = c.loop-actual.slots.items in
    let rest = exprs_of (drop (number + 1) es) in
    let step : exprs_of (drop number es) ≡ tree.expr_then (expr_of e) rest =
    at_drop_more exprs_of es number e (omega (arith, c.loop-actual-test.true)) ∙ ap (λ (e : Expr). tree.expr_then (expr_of e) rest) (sym c.actual-item.is) in
    ap (λ (l : List ℕ). l ++ filter_map f (names_in_each rest)) c.in_ok-add_formals_in.ensures
    ∙ append_assoc s0 (filter_map f (names_in (expr_of e))) (filter_map f (names_in_each rest))
    ∙ ap (λ (l : List ℕ). s0 ++ l) (sym (formals_joined f (names_in (expr_of e)) (names_in_each rest)))
    ∙ ap (λ (es : tree.Exprs). s0 ++ filter_map f (names_in_each es)) (sym step)
    ∙ c.loop-actual.invariant
