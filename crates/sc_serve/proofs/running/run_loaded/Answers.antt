use Rattle.std.proofs.Common.{refl}
use Rattle.sc_lower.specs.Lowerings.{image_of}
use Rattle.sc_world.specs.Reports.{report}
use Rattle.sc_plant.specs.Left.{world_of}
use Rattle.sc_serve.proofs.RunReports.{judged_after, reported}
use Rattle.sc_serve.proofs.running.run_loaded.Goals as goal

-- the report of what the run left, with what its audit adds, and its record
pub returns-clause-answer : goal.returns-clause-answer
returns-clause-answer g c =
    let left = c.in_ok-left.field-0.left in
    let text = report (world_of left) in
    let judged = rw c.as_slice.ensures.value at c.in_ok-audited.ensures in
    let all = reported text _ _ _ _ c.in_ok-text.ensures.report c.as_slice-3.ensures.value
    c.in_ok-extend_from_slice.ensures.items in
    record {
      turns = c.in_ok-left.field-0.turns;
      lines = left.lines.items;
      hows = c.in_ok-left.field-0.statuses.items;
      report = text;
      is_run = c.in_ok-left.ensures.ran;
      told = (
        left,
        c.in_ok-left.ensures.left,
        refl,
        judged_after (image_of c.args.program.now) c.args.options.now.is_audited left text _ _ _ _ judged all,
      );
      kept = rw c.in_ok-text.ensures.lines at c.recording_of.ensures;
    }
