use Rattle.std.proofs.Common.{◌≡◌, ◌<◌, ◌∙◌, ℕ, List, inl, inr, get_or, length, slice_get, take, sym, subst, arith}
use Rattle.sc_handler.specs.declared.settlement.Settlement.{Settlement}
use Rattle.sc_handler.specs.Logged.{settlements_of}
use Rattle.sc_recording.specs.Comparing.{Counted, EndsAt, Walked}
use Rattle.sc_recording.specs.Recorded.{settlements_for}
use Rattle.sc_recording.proofs.Comparisons.{all_agree, all_walked, counted, counted_off, handled, opened_zeros, take_every, take_few, take_more, take_past, unhandled}
use Rattle.std.proofs.lemmas.Option.{get_or_from_slice_get}
use Rattle.sc_recording.proofs.compare.first_difference.Goals as goal
use Rattle.sc_recording.proofs.compare.first_difference.Goals.{then-least-handler-via-then-least-handler, then-least-handler-via-else-least-handler+then-ends_at}

pub loop-place-init : goal.loop-place-init
loop-place-init c = opened_zeros c.args.regions.now

pub loop-place-preserved-in_default : goal.loop-place-preserved-in_default
loop-place-preserved-in_default c =
    let es = settlements_of c.args.settlements.now in
    subst (λ (fs : List Settlement). Walked c.args.regions.now fs c.loop-place.next c.loop-place.least)
    (sym (take_past es c.loop-place.place (unhandled (slice_get es c.loop-place.place) (sym c.in_default.is ∙ c.handler_at.ensures)))) c.loop-place.invariant

pub loop-place-preserved : goal.loop-place-preserved
loop-place-preserved c =
    let es = settlements_of c.args.settlements.now in
    let few : length (take c.loop-place.place es) < 18446744073709551615 =
    omega (arith, take_few es c.loop-place.place, c.loop-place-test.true, c.len-place-end.type_inv) in
    let found = handled (slice_get es c.loop-place.place) c.in-Some.handler (sym c.in-Some.is ∙ c.handler_at.ensures) in
    subst (λ (fs : List Settlement). Walked c.args.regions.now fs c.walk-least.new.next c.walk-least.result)
    (sym (take_more es c.loop-place.place found.0 found.1))
    (c.walk-least.ensures (take c.loop-place.place es) found.0 found.1 found.2 few c.loop-place.invariant)

pub loop-handler-init : goal.loop-handler-init
loop-handler-init c =
    let es = settlements_of c.args.settlements.now in
    let all : take c.loop-place.place es ≡ es = take_every es c.loop-place.place (omega (arith, c.loop-place-test.false, c.len-place-end.ensures)) in
    let w = subst (λ (fs : List Settlement). Walked c.args.regions.now fs c.loop-place.next c.loop-place.least) all c.loop-place.invariant in
    (all_walked c.args.regions.now es c.loop-place.next c.loop-place.least c.requires w, w.cursors)

pub loop-handler-preserved-then-least-handler : goal.loop-handler-preserved-then-least-handler
loop-handler-preserved-then-least-handler c =
    let es = settlements_of c.args.settlements.now in
    let k = c.loop-handler.handler in
    let place : get_or c.loop-place.next k 0 ≡ length (settlements_for k es) =
    get_or_from_slice_get c.loop-place.next k (length (settlements_for k es)) 0 (c.loop-handler.invariant.1 k c.loop-handler-test.true) in (
      counted c.args.regions.now es k c.loop-handler.least c.loop-handler.invariant.0
          (elim c.then-least-handler.branch [
            | then-least-handler-via-then-least-handler w ↦ inr w.if-least-handler.true
            | then-least-handler-via-else-least-handler+then-ends_at w ↦
                inl (subst (λ (n : ℕ). EndsAt c.args.regions.now k n) place (w.ends_at.ensures.yes w.if-ends_at.true))
          ]),
      c.loop-handler.invariant.1,
    )

pub loop-handler-preserved : goal.loop-handler-preserved
loop-handler-preserved c =
    let es = settlements_of c.args.settlements.now in
    let k = c.loop-handler.handler in
    let place : get_or c.loop-place.next k 0 ≡ length (settlements_for k es) =
    get_or_from_slice_get c.loop-place.next k (length (settlements_for k es)) 0 (c.loop-handler.invariant.1 k c.loop-handler-test.true) in (
      counted_off c.args.regions.now es k c.loop-handler.least c.loop-handler.invariant.0 c.if-least-handler.false
          (λ ends. c.ends_at.ensures.no c.if-ends_at.false (subst (λ (n : ℕ). EndsAt c.args.regions.now k n) (sym place) ends))
          c.requires,
      c.loop-handler.invariant.1,
    )

pub returns-else-least-lt512-clause-none : goal.returns-else-least-lt512-clause-none
returns-else-least-lt512-clause-none c =
    let all : c.loop-handler.handler ≡ 512 = omega (arith, c.loop-handler-test.false, c.loop-handler.auto.handler-end) in
    all_agree c.args.regions.now (settlements_of c.args.settlements.now) c.loop-handler.least c.requires c.if-least-lt512.false
    (subst (λ (k : ℕ). Counted c.args.regions.now (settlements_of c.args.settlements.now) k c.loop-handler.least) all c.loop-handler.invariant.0)
