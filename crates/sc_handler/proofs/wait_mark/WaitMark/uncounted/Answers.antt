use Rattle.std.proofs.Common.{◌∙◌, sym, ap}
use Rattle.sc_handler.specs.Canonical.{marked_in}
use Rattle.sc_handler.proofs.ReadAlike.{marked_of}
use Rattle.sc_handler.proofs.wait_mark.WaitMark.uncounted.Goals as goal

pub invariant_of-result : goal.invariant_of-result
invariant_of-result c = (c.listed.ensures ∙ sym (marked_of (λ k. 0) c.args.reserved.now) ∙ ap marked_in (sym c.uncounted.ensures), tt)
