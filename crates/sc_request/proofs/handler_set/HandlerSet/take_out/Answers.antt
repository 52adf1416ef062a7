use Rattle.std.proofs.Common.{◌/◌, arith, inl, inr}
use Rattle.std.proofs.lemmas.Bool.{cases_lt}
use Rattle.std.proofs.lemmas.List.{get_or_past}
use Rattle.sc_request.proofs.Bits.{taken_out_here, taken_out_past}
use Rattle.sc_request.proofs.handler_set.HandlerSet.take_out.Goals as goal

pub returns : goal.returns
returns c = λ k.
    let l = c.loop-at in
    let old = c.args.self.now.words in
    let others = c.args.others.now.words in
    let end = c.loop-at-test.false in
    elim (cases_lt (k / 64) l.at) [
      | inl below ↦ taken_out_here old others l.self.words k (l.invariant.done (k / 64) below)
      | inr past ↦ taken_out_past old others l.self.words k (l.invariant.rest (k / 64) past) (get_or_past others (k / 64) 0 (omega (arith, end, past)))
    ]
