use Rattle.std.proofs.Common.{◌≡◌, ◌+◌, ◌∙◌, ℕ, List, true, is_some, inl, length, ap, arith, subst, sym}
use Rattle.std.specs.List.{flat_map}
use Rattle.sc_audit.specs.Records.{turns_of}
use Rattle.sc_audit.specs.declared.line.RecordLine.{RecordLine}
use Rattle.sc_driver.specs.Execution.{line_turns}
use Rattle.sc_request.specs.Cores.{center_of}
use Rattle.sc_request.specs.Logs.{Center, pick_for}
use Rattle.sc_world.specs.Views.{world_in}
use Rattle.sc_chance.specs.Runs.{IsReachedBy}
use Rattle.sc_chance.proofs.Runs.{ends_there, reached_first, reached_more}
use Rattle.sc_chance.proofs.playing.play_turns.Goals as goal

-- no turn is made yet
pub loop-init : goal.loop-init
loop-init c =
    let p = c.args.program.now.image in
    let w = world_in c.args.configuration.now in
    record {
      reached =
          subst (λ (lines : List RecordLine). IsReachedBy p (flat_map line_turns lines) w) (sym c.new-lines.ensures.items)
          (reached_first p w c.openings_are_of_their_program.ensures c.requires.of c.requires.opening);
      count = ap turns_of c.new-lines.ensures.items;
      short = omega (arith, ap length c.new-lines.ensures.items);
    }

-- one more turn is made, of the one that was picked
pub loop-preserved : goal.loop-preserved
loop-preserved c = record {
  reached =
      reached_more c.args.program.now.image (flat_map line_turns c.loop.lines.items) _ c.in-Some.handler (world_in c.loop.configuration)
      (world_in c.turn.new.self) c.runs_stay_of_their_program.ensures c.kept_alike_read_alike.ensures c.kept_alike_turn_alike.ensures
      c.in_ok-push_turn.ensures.turns c.loop.invariant.reached
      (subst (λ (d : Center). is_some (pick_for c.in-Some.handler d) ≡ true) c.core.ensures.center c.in-Some.ensures.some) c.in_ok-turn.ensures.ok;
  count = c.in_ok-push_turn.ensures.count ∙ ap (λ (n : ℕ). n + 1) c.loop.invariant.count;
  short = omega (arith, c.in_ok-push_turn.ensures.few, c.if-len-ge-MOST_LINES.false, c.len.ensures);
}

-- none has a turn any more
pub returns-in_default : goal.returns-in_default
returns-in_default c =
    let w = world_in c.loop.configuration in
    let reached = c.loop.invariant.reached in
    record {
      reached = reached;
      few = omega (arith, c.loop.invariant.count, c.loop-test.true);
      short = c.loop.invariant.short;
      ends =
          inl (ends_there c.args.program.now.image (flat_map line_turns c.loop.lines.items) w (center_of c.core.result.now)
          c.kept_alike_read_alike.ensures reached c.core.ensures.center c.in_default.ensures.none);
    }
