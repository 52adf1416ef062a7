use Rattle.std.proofs.Common.{◌≡◌, ◌++◌, ◌∷◌, [], ℕ, Some, inl, inr, slice_get, slice_set, subst, sym}
use Rattle.sc_recording.specs.Comparing.{StandsAt, Walked}
use Rattle.sc_recording.proofs.Comparisons.{got_none, got_some, walked_off, walked_on, walked_past}
use Rattle.sc_recording.proofs.compare.walk.Goals as goal

pub returns-in_default : goal.returns-in_default
returns-in_default c = λ es e there own few w.
    walked_past c.args.regions.now es c.args.next.now c.args.least e w
    (rw own (got_none c.args.next.now c.args.handler c.get.result c.get.ensures.lookup c.in_default.is))

pub returns-then-least-handler : goal.returns-then-least-handler
returns-then-least-handler c = λ es e there own few w.
    let rs = c.args.regions.now in
    let next = c.args.next.now in
    let n = c.saturating_add.result in
    let place = c.in-Some.place.now in
    let at = subst (λ (k : ℕ). slice_get next k ≡ Some place) (sym own)
    (got_some next c.args.handler c.get.result c.in-Some.place c.get.ensures.lookup c.in-Some.is) in
    subst (λ (k : ℕ). Walked rs (es ++ e ∷ []) (slice_set next k n) c.args.least) own
    (walked_on rs es next c.args.least e w place n at few c.saturating_add.ensures
    (elim c.if-least-handler.either [
      | inl found ↦ inl (subst (λ (k : ℕ). StandsAt rs k place e) (sym own) (c.stands_at.ensures.yes e there found))
      | inr behind ↦ inr (rw own behind.1)
    ]))

pub returns-else-least-handler : goal.returns-else-least-handler
returns-else-least-handler c = λ es e there own few w.
    let rs = c.args.regions.now in
    let next = c.args.next.now in
    let n = c.saturating_add.result in
    let place = c.in-Some.place.now in
    let at = subst (λ (k : ℕ). slice_get next k ≡ Some place) (sym own)
    (got_some next c.args.handler c.get.result c.in-Some.place c.get.ensures.lookup c.in-Some.is) in
    subst (λ (k : ℕ). Walked rs (es ++ e ∷ []) (slice_set next k n) k) own
    (walked_off rs es next c.args.least e w place n at few c.saturating_add.ensures
    (λ stands. c.stands_at.ensures.no e there c.if-least-handler.false.0 (subst (λ (k : ℕ). StandsAt rs k place e) own stands))
    (rw own c.if-least-handler.false.1))
