use Rattle.std.proofs.Common.{◌∙◌, ◌++◌, ◌∷◌, [], List, ap, arith}
use Rattle.std.proofs.lemmas.Option.{slice_get_past, slice_get_read}
use Rattle.sc_handler.specs.declared.settlement.Settlement.{Settlement}
use Rattle.sc_plant.proofs.Locks.{noted, unnoted}
use Rattle.sc_plant.proofs.sharing.note.Goals as goal

pub returns-then-at-len-clause-logs : goal.returns-then-at-len-clause-logs
returns-then-at-len-clause-logs c = λ es logs.
    unnoted c.args.logs.now.items es c.args.settlement.now
    (slice_get_past c.args.logs.now.items c.args.settlement.now.handler (omega (arith, c.if-at-len.true, c.len.ensures, c.args.logs.now.ok.0))) logs

pub returns-clause-logs : goal.returns-clause-logs
returns-clause-logs c = λ es logs.
    noted c.args.logs.now.items es c.args.settlement.now c.index_mut-log.result.now c.push.new.self
    (slice_get_read c.args.logs.now.items _ c.args.settlement.now.handler c.index_mut-log.result.now c.args.logs.now.ok.0
    (omega (arith, c.if-at-len.false, c.len.ensures)) c.index_mut-log.ensures.value)
    (c.push.ensures.settlements ∙ ap (λ (fs : List Settlement). fs ++ c.args.settlement.now ∷ []) c.reserve.ensures.settlements) logs
