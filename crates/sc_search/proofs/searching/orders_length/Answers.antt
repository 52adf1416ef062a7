use Rattle.std.proofs.Common.{◌≡◌, ◌<◌, ◌∙◌, false, length, true, sym, subst, arith}
use Rattle.sc_search.specs.Lengths.{IsLength}
use Rattle.sc_search.specs.Views.{met_of, orders_of, states_of, statuses_of}
use Rattle.sc_search.proofs.Lengths.{is_length, none_first, says_none}
use Rattle.sc_search.proofs.searching.orders_length.Goals as goal
use Rattle.sc_search.proofs.searching.orders_length.Goals.{else-is_all-via-then-is_all+else-first-gt0, else-is_all-via-else-is_all}

pub returns : goal.returns
returns c = λ all joined explored reached.
    let x = c.args.progress.now in
    let p = c.args.subject.program.now.image in
    let v = c.args.subject.version in
    let some : 0 < length (states_of x) = omega (arith, c.if-len-eq0.false, c.len.ensures) in
    let none : length c.in_ok-order.field-0.items ≡ 0 = elim c.else-is_all.branch [
      | else-is_all-via-then-is_all+else-first-gt0 w ↦ omega (arith, w.if-first-gt0.false, c.len-first.ensures)
      | else-is_all-via-else-is_all w ↦ let other : false ≡ true = sym w.if-is_all.false ∙ all in cc
    ] in
    subst (IsLength p v joined) (sym c.length_from.ensures)
    (is_length c.kept_alike_read_alike.ensures c.openings_are_of_their_program.ensures c.runs_stay_of_their_program.ensures p v joined (met_of x) explored
    c.args.subject.aim (orders_of x) (statuses_of x) x.turns c.in_ok-length.length reached.reached some
    (λ order at. none_first (orders_of x) c.in_ok-order.field-0.items order c.in_ok-order.ensures none at)
    (says_none c.min.result c.deref.result.now x.edges.items c.in_ok-length.length (omega (arith, c.min.ensures, c.len-first.ensures, none)) c.deref.ensures.value
    c.in_ok-length.ensures))
