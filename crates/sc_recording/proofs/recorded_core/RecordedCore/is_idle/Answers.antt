use Rattle.std.proofs.Common.{◌∙◌}
use Rattle.sc_request.specs.Cores.{center_of}
use Rattle.sc_recording.proofs.Dues.{same_below, same_center, same_lines, same_none, stays_plays}
use Rattle.sc_recording.proofs.recorded_core.RecordedCore.is_idle.Goals as goal

pub invariant_of-self : goal.invariant_of-self
invariant_of-self g c = record {
  plays = λ p is.
      stays_plays p c.args.self.now.core c.comes_again.new.self
      (same_center c.args.self.now.core c.comes_again.new.self c.comes_again.ensures.center c.comes_again.ensures.log) (c.args.self.now.plays p is);
  recorded = same_lines c.args.self.now.core c.comes_again.new.self c.args.self.now.lines.items c.comes_again.ensures.log c.args.self.now.recorded;
  below = same_below c.args.self.now.core c.comes_again.new.self c.comes_again.ensures.log c.args.self.now.below;
  none = same_none (center_of c.args.self.now.core) (center_of c.comes_again.new.self) c.comes_again.ensures.center c.args.self.now.none;
  version = c.comes_again.ensures.version ∙ c.args.self.now.version;
}
