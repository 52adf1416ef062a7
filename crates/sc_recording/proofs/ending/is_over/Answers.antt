use Rattle.std.proofs.Common.{◌∙◌}
use Rattle.sc_request.specs.Cores.{center_of}
use Rattle.sc_recording.proofs.Dues.{same_below, same_center, same_lines, same_none, stays_plays}
use Rattle.sc_recording.proofs.ending.is_over.Goals as goal

pub invariant_of-recorded : goal.invariant_of-recorded
invariant_of-recorded g c =
    let a = c.args.recorded.now.core in
    let b = c.is_idle_or_full.new.core in
    record {
      plays = λ p is. stays_plays p a b (same_center a b c.is_idle_or_full.ensures.center c.is_idle_or_full.ensures.log) (c.args.recorded.now.plays p is);
      recorded = same_lines a b c.args.recorded.now.lines.items c.is_idle_or_full.ensures.log c.args.recorded.now.recorded;
      below = same_below a b c.is_idle_or_full.ensures.log c.args.recorded.now.below;
      none = same_none (center_of a) (center_of b) c.is_idle_or_full.ensures.center c.args.recorded.now.none;
      version = c.is_idle_or_full.ensures.version ∙ c.args.recorded.now.version;
    }
