use Rattle.std.proofs.Common.{◌∙◌}
use Rattle.sc_recording.proofs.Dues.{put_none, put_state, same_below, same_lines, stays_plays}
use Rattle.sc_recording.proofs.recorded_core.RecordedCore.put_back.Goals as goal

pub invariant_of-self : goal.invariant_of-self
invariant_of-self g c = record {
  plays = λ p is.
      stays_plays p c.args.self.now.core c.put_back.new.self
      (record { state = put_state c.args.handler c.args.self.now.core c.put_back.new.self c.put_back.ensures.center c.args.self.now.none; log = c.put_back.ensures.log })
      (c.args.self.now.plays p is);
  recorded = same_lines c.args.self.now.core c.put_back.new.self c.args.self.now.lines.items c.put_back.ensures.log c.args.self.now.recorded;
  below = same_below c.args.self.now.core c.put_back.new.self c.put_back.ensures.log c.args.self.now.below;
  none = put_none c.args.handler c.args.self.now.core c.put_back.new.self c.put_back.ensures.center c.args.self.now.none;
  version = c.put_back.ensures.version ∙ c.args.self.now.version;
}
