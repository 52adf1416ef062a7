use Rattle.std.proofs.Common.{◌≡◌, ◌<◌, ◌+◌, ◌-◌, Bool, Some, subst, length, get_or, slice_get, sym, arith}
use Rattle.std.proofs.lemmas.Option.{slice_get-get_or}
use Rattle.sc_orders.proofs.Swept.{Swept, swept_none, swept_same, swept_set}
use Rattle.sc_orders.proofs.edges.sweep.Goals.{else-go_back, then-go_back}
use Rattle.sc_orders.proofs.edges.sweep.Goals as goal

pub loop-done-init : goal.loop-done-init
loop-done-init c = swept_none c.args.edges.now c.args.moves.now.items

pub loop-done-preserved : goal.loop-done-preserved
loop-done-preserved c =
    let edges = c.args.edges.now in
    let first = c.args.moves.now.items in
    let moves = c.loop-done.moves.items in
    let done = c.loop-done.done in
    let place = length edges - 1 - done in
    let below : done < length edges = c.loop-done-test.true in
    let edge = get_or edges place (record { from = 0; to = 0; turns = 0 }) in
    let at : slice_get edges place ≡ Some edge = slice_get-get_or edges place (record { from = 0; to = 0; turns = 0 }) (omega arith) in
    let here : place + done + 1 ≡ length edges = omega arith in
    elim c.if-go_back.branch [
      | then-go_back w ↦
          let was = c.go_back.ensures.was w.if-go_back.true in
          subst (λ (b : Bool). Swept edges first c.go_back.new.moves.items b (done + 1)) (sym w.has_changed-is)
          (swept_set edges first moves c.go_back.new.moves.items c.loop-done.has_changed done place edge c.loop-done.invariant at
          (c.requires place edge at).0 (c.go_back.ensures.set w.if-go_back.true) was.0 was.1)
      | else-go_back w ↦
          subst (λ (b : Bool). Swept edges first c.go_back.new.moves.items b (done + 1)) (sym w.has_changed-is)
          (swept_same edges first moves c.go_back.new.moves.items c.loop-done.has_changed done place edge c.loop-done.invariant at here
          (c.go_back.ensures.same w.if-go_back.false) (c.go_back.ensures.leads w.if-go_back.false))
    ]
