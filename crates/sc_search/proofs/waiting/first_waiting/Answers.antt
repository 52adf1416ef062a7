use Rattle.std.proofs.Common.{inl, inr, arith}
use Rattle.std.proofs.lemmas.Bool.{cases_lt}
use Rattle.sc_states.specs.RowViews.{rows_of}
use Rattle.sc_search.proofs.Waits.{none_from, none_waits_past}
use Rattle.sc_search.proofs.waiting.first_waiting.Goals as goal

pub returns-clause-none : goal.returns-clause-none
returns-clause-none c =
    none_from c.loop-handler.first
    (λ e h number. elim (cases_lt h c.loop-handler.handler) [
      | inl less ↦ c.loop-handler.invariant.none e h number less
      | inr past ↦ λ waits.
          absurd (none_waits_past h (rows_of c.args.statuses.now)
          (λ i row at. let few = c.most_handlers-handler-end.ensures i row at in omega (arith, few, past, c.loop-handler-test.false)) number waits)
    ])
