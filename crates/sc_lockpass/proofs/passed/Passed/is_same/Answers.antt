use Rattle.std.proofs.Common.{◌∙◌, true≢false, refl, subst, sym, arith, ◌≤◌}
use Rattle.sc_lockpass.specs.Tables.{passed_of}
use Rattle.sc_lockpass.proofs.Alike.{IsWithin, alike_below_same, alike_next, same_alike}
use Rattle.sc_lockpass.proofs.passed.Passed.is_same.Goals as goal

pub returns-then-not-lists_alike : goal.returns-then-not-lists_alike
returns-then-not-lists_alike c = (
  λ e. absurd (true≢false (sym e)),
  λ e. sym c.if-not-lists_alike.true ∙ c.lists_alike.ensures.1 (same_alike _ _ c.loop-k.k e),
)

pub loop-k-preserved : goal.loop-k-preserved
loop-k-preserved c = λ j h.
    alike_next (passed_of c.args.self.now) (passed_of c.args.other.now) c.loop-k.k j c.loop-k.invariant (c.lists_alike.ensures.0 c.if-not-lists_alike.false) h

pub returns : goal.returns
returns c =
    let it = c.self.invariant in
    let its = c.other.invariant in
    let within = subst (IsWithin c.self.inside.reach) c.self.view_is (record { client = it.client; queues = it.queues; tops = it.tops }) in
    let its_within = subst (IsWithin c.other.inside.reach) c.other.view_is (record { client = its.client; queues = its.queues; tops = its.tops }) in
    let least : c.self.inside.reach ≤ c.loop-k.k = omega (arith, c.max-k-end.ensures, c.loop-k-test.false) in
    let its_least : c.other.inside.reach ≤ c.loop-k.k = omega (arith, c.max-k-end.ensures, c.loop-k-test.false) in
    (λ e. alike_below_same _ _ _ _ c.loop-k.k within its_within least its_least c.loop-k.invariant, λ e. refl)
