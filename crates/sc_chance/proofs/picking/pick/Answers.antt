use Rattle.std.proofs.Common.{◌≡◌, ◌⊎◌, ◌<◌, ◌+◌, ◌∙◌, ℕ, Some, None, IfNone, IfSome, is_some, true, Option, arith, ap, subst, sym}
use Rattle.sc_request.specs.Cores.{center_of}
use Rattle.sc_request.specs.Logs.{Center, pick_for}
use Rattle.sc_chance.proofs.Runs.{none_of, none_up_to, picked_has, picked_is_some}
use Rattle.sc_chance.proofs.picking.pick.Goals as goal
use Rattle.sc_chance.proofs.picking.pick.Goals.{then-is_some, else-is_some}

pub returns-clause-none : goal.returns-clause-none
returns-clause-none c =
    none_of c.loop-place.picked (center_of c.args.core.now) c.loop-place.place c.loop-place.invariant.none
    (omega (arith, c.loop-place-test.false, c.handler_count-place-end.ensures.count))

pub loop-place-preserved : goal.loop-place-preserved
loop-place-preserved c =
    let core : Center = center_of c.args.core.now in
    let n : ℕ = c.loop-place.place in
    let before : Option ℕ = c.loop-place.picked in
    elim c.if-is_some.branch [
      | then-is_some w ↦
          let is : (c.if-is_some.picked ≡ Some n) ⊎ ((is_some before ≡ true) × (c.if-is_some.picked ≡ before)) =
          subst (λ (o : Option ℕ). (o ≡ Some n) ⊎ ((is_some before ≡ true) × (o ≡ before))) (sym w.picked-is) w.later_of-picked.ensures in
          record {
            has =
                picked_has core n before c.if-is_some.picked c.loop-place.invariant.has
                (sym (ap is_some c.pick_for.ensures) ∙ sym c.is_some.ensures ∙ w.if-is_some.true) is;
            none = picked_is_some _ n before c.if-is_some.picked is;
          }
      | else-is_some w ↦ record {
        has =
            subst (λ (o : Option ℕ). IfSome o (λ handler. is_some (pick_for handler core) ≡ true)) (sym w.picked-is)
            c.loop-place.invariant.has;
        none =
            subst (λ (o : Option ℕ). IfNone o ((h : ℕ) → h < n + 1 → pick_for h core ≡ None)) (sym w.picked-is)
            (none_up_to core n before c.loop-place.invariant.none
            (sym (ap is_some c.pick_for.ensures) ∙ sym c.is_some.ensures ∙ w.if-is_some.false));
      }
    ]
