use Rattle.std.proofs.Common.{◌≡◌, ◌<◌, ◌∙◌, inl, inr, ℕ, false, true, refl, ap, arith}
use Rattle.std.proofs.lemmas.Bool.{cases_lt}
use Rattle.sc_request.specs.Cores.{center_of, state_of}
use Rattle.sc_world.proofs.ReportParts.{refused-is}
use Rattle.sc_search.proofs.judging.has_refused.Goals as goal

pub loop-handler-preserved : goal.loop-handler-preserved
loop-handler-preserved c = λ h few. elim (cases_lt h c.loop-handler.handler) [
  | inl less ↦ c.loop-handler.invariant h less
  | inr past ↦
      let core = c.args.core.now in
      let k : ℕ = c.loop-handler.handler in
      let below : k < (state_of core).count = omega (arith, c.loop-handler-test.true, c.handler_count-handler-end.ensures.count) in
      let is : c.unwrap_or.result ≡ ((state_of core).handlers k).refused =
      c.unwrap_or.ensures ∙ refused-is k (center_of core) c.refused.result below c.refused.ensures in
      let none : ((state_of core).handlers k).refused ≡ 0 = omega (arith, is, c.if-unwrap_or-gt0.false) in
      let last : h ≡ k = omega (arith, few, past) in
      ap (λ (i : ℕ). ((state_of core).handlers i).refused) last ∙ none
]

pub returns-then-unwrap_or-gt0 : goal.returns-then-unwrap_or-gt0
returns-then-unwrap_or-gt0 c =
    let core = c.args.core.now in
    let k : ℕ = c.loop-handler.handler in
    let below : k < (state_of core).count = omega (arith, c.loop-handler-test.true, c.handler_count-handler-end.ensures.count) in
    let is : c.unwrap_or.result ≡ ((state_of core).handlers k).refused =
    c.unwrap_or.ensures ∙ refused-is k (center_of core) c.refused.result below c.refused.ensures in
    (λ e. record { handler = k; there = below; some = omega (arith, is, c.if-unwrap_or-gt0.true) }, λ one. refl)

pub returns : goal.returns
returns c = (
  λ e. let no : false ≡ true = e in cc,
  λ one.
      let none = c.loop-handler.invariant one.handler (omega (arith, one.there, c.loop-handler-test.false, c.handler_count-handler-end.ensures.count)) in
      absurd (omega (arith, one.some, none)),
)
