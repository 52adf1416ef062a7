use Rattle.std.proofs.Common.{◌++◌, ◌∷◌, [], List, ◌∙◌, ap}
use Rattle.sc_audit.specs.declared.line.RecordLine.{RecordLine}
use Rattle.sc_recording.proofs.Dues.{settled_below, settled_lines, settled_plays}
use Rattle.sc_recording.proofs.recorded_core.RecordedCore.settle.Goals as goal

pub invariant_of-self-2 : goal.invariant_of-self-2
invariant_of-self-2 g c =
    let is = c.in_ok-settle_due.ensures.settled in
    let line : RecordLine = record { handler = c.args.handler; turns = c.args.turns } in
    record {
      plays = λ p e. settled_plays p c.args.handler c.args.turns c.args.want.now c.args.self.now.core c.settle_due.new.core is (c.args.self.now.plays p e);
      recorded = settled_lines c.args.handler c.args.turns c.args.want.now c.args.self.now.core c.settle_due.new.core c.args.self.now.lines.items _ is
          c.args.self.now.recorded (c.push_reserved.ensures.items ∙ ap (λ (ls : List RecordLine). ls ++ line ∷ []) c.reserve.ensures.items);
      below = settled_below c.args.handler c.args.turns c.args.want.now c.args.self.now.core c.settle_due.new.core is c.args.self.now.below;
      none = c.settle_due.ensures.none;
      version = c.settle_due.ensures.version;
    }
