use Rattle.std.proofs.Common.{rules, ◌≡◌, ◌<◌, ◌+◌, ◌-◌, slice_index_or, arith}
use Rattle.std.proofs.lemmas.Grind.{common_steps}
use Rattle.sc_audit.specs.declared.line.RecordLine.{RecordLine}
use Rattle.sc_audit.specs.Records.{most_lines}
use Rattle.sc_driver.specs.Misfits.{IsLine}
use Rattle.sc_driver.proofs.Misfits.{fits-more, left-more}
use Rattle.sc_driver.proofs.lines.first_misfit.Goals as goal

pub loop-place-preserved : goal.loop-place-preserved
loop-place-preserved c =
    let v = c.args.version in
    let ls = c.args.lines.now in
    let i = c.loop-place.place in
    let left = c.loop-place.turns_left in
    let d : RecordLine = record { handler = 0; turns = 0 } in
    let line = slice_index_or ls i d in
    let is : IsLine v left line = first_of (search rules, grind (arith, common_steps)) in
    let few : i < most_lines = omega (arith, c.if-place-ge-MOST_LINES.false) in
    let rest : left - line.turns + line.turns ≡ left = omega (arith, is.few) in
    let sum = c.loop-place.invariant.sum in
    record {
      fits = fits-more v ls i left d c.loop-place-test.true sum few is c.loop-place.invariant.fits;
      sum = left-more v ls i left d c.loop-place-test.true sum (left - line.turns) rest;
    }
