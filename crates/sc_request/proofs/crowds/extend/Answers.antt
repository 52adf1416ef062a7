use Rattle.std.proofs.Common.{◌∙◌, List, ap}
use Rattle.sc_lockpass.specs.Tables.{is_member}
use Rattle.sc_request.specs.Crowds.{crowd_at}
use Rattle.sc_request.specs.declared.handler_set.HandlerSet.{HandlerSet}
use Rattle.sc_request.proofs.Waiters.{empty_added}
use Rattle.sc_request.proofs.crowds.extend.Goals as goal

pub loop-crowds-preserved : goal.loop-crowds-preserved
loop-crowds-preserved c = λ b k.
    ap (λ (xs : List HandlerSet). is_member (crowd_at xs b) k) c.push_reserved.ensures.items
    ∙ empty_added c.loop-crowds.crowds.items c.new.result c.new.ensures b k ∙ c.loop-crowds.invariant b k
