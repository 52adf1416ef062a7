use Rattle.std.proofs.Common.{Err}
use Rattle.sc_audit.specs.declared.beginning.ReadFault.TheVariants as fault
use Rattle.sc_audit.specs.Reading.{IsReadFault}
use Rattle.sc_audit.proofs.ReadingLemmas.{ended-err, err-told, fits-of, gave-up, read-fault, reads-fitting, reads-no-more, reads-up-to}
use Rattle.sc_audit.proofs.reading.read_record.Goals as goal

pub returns-in_err-read_block-clause-err : goal.returns-in_err-read_block-clause-err
returns-in_err-read_block-clause-err g c =
    err-told (IsReadFault (g.R.Read.remaining c.args.reader.now) (g.R.Read.remaining c.read_block.new.reader)) c.from_residual.result c.in_err-read_block.field-0.0
    c.from_residual.ensures.1
    (read-fault _ _ _ c.loop.beginning c.in_err-read_block.ensures.block.bytes c.in_err-read_block.field-0.0 c.loop.invariant.kept c.loop.invariant.consumed
    c.in_err-read_block.ensures.block.consumed c.in_err-read_block.ensures.block.outcome)

pub returns-in_err-read_block-clause-stops : goal.returns-in_err-read_block-clause-stops
returns-in_err-read_block-clause-stops g c =
    reads-up-to 8192 _ _ _ c.loop.beginning c.read_block.ensures.block.bytes c.loop.invariant.kept c.loop.invariant.consumed
    c.read_block.ensures.block.consumed c.read_block.ensures.block.few

pub returns-in-End-clause-stops : goal.returns-in-End-clause-stops
returns-in-End-clause-stops g c =
    reads-up-to 8192 _ _ _ c.loop.beginning c.read_block.ensures.block.bytes c.loop.invariant.kept c.loop.invariant.consumed
    c.read_block.ensures.block.consumed c.read_block.ensures.block.few

pub returns-clause-err : goal.returns-clause-err
returns-clause-err g c = (gave-up c.from.result c.from.ensures, reads-fitting _ _ c.loop.beginning c.loop.invariant.kept c.loop.invariant.consumed)

pub returns-clause-stops : goal.returns-clause-stops
returns-clause-stops g c = reads-no-more 8192 _ _ c.loop.beginning c.loop.invariant.kept c.loop.invariant.consumed

pub returns-in_err-read_block-clause-fits : goal.returns-in_err-read_block-clause-fits
returns-in_err-read_block-clause-fits g c = fits-of _ _ c.from_residual.result (returns-in_err-read_block-clause-err g c)

pub returns-in-End-clause-fits : goal.returns-in-End-clause-fits
returns-in-End-clause-fits g c =
    let block = c.in_ok-read_block.ensures.block in
    fits-of _ _ c.end.result (ended-err _ _ _ c.loop.beginning c.read_block.new.beginning block.bytes c.end.result c.loop.invariant.consumed
    block.consumed block.outcome.1 (c.in_ok-read_block.ensures.end c.in-End.is) c.end.ensures)

pub returns-clause-fits : goal.returns-clause-fits
returns-clause-fits g c = fits-of {T = Unit {0}} _ _ (Err (fault.Unreadable c.from.result)) (returns-clause-err g c)
