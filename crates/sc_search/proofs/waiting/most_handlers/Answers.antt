use Rattle.std.proofs.Common.{◌≡◌, ◌≤◌, ◌∙◌, inl, inr, ℕ, List, length, slice_get, sym, subst, ap, arith}
use Rattle.std.proofs.lemmas.Bool.{cases_lt}
use Rattle.std.proofs.lemmas.Option.{slice_get_within}
use Rattle.sc_model.specs.declared.status.Status.{Status}
use Rattle.sc_states.specs.RowViews.{rows_of}
use Rattle.sc_search.proofs.KeptStates.{same_some}
use Rattle.sc_search.proofs.waiting.most_handlers.Goals as goal

pub loop-number-preserved : goal.loop-number-preserved
loop-number-preserved c = λ i row at few. elim (cases_lt i c.loop-number.number) [
  | inl less ↦ let before = c.loop-number.invariant i row at less in omega (arith, before, c.larger-most.ensures.first)
  | inr more ↦
      let rows = rows_of c.args.statuses.now in
      let last : i ≡ c.loop-number.number = omega (arith, few, more) in
      let same : row ≡ c.row.result.now = same_some row c.row.result.now (sym at ∙ ap (λ (k : ℕ). slice_get rows k) last ∙ c.row.ensures) in
      let long : length c.row.result.now ≤ c.larger-most.result = omega (arith, c.larger-most.ensures.second) in
      subst (λ (r : List Status). length r ≤ c.larger-most.result) (sym same) long
]

pub returns : goal.returns
returns c = λ i row at.
    let there = slice_get_within (rows_of c.args.statuses.now) i row at in
    c.loop-number.invariant i row at (omega (arith, there, c.loop-number-test.false, c.len-number-end.ensures))
