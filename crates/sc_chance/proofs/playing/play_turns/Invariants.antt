use Rattle.std.proofs.Common.{◌≡◌, ◌≤◌, length}
use Rattle.std.specs.List.{flat_map}
use Rattle.sc_audit.specs.Records.{most_lines, turns_of}
use Rattle.sc_driver.specs.Execution.{line_turns}
use Rattle.sc_world.specs.Views.{world_in}
use Rattle.sc_chance.specs.Runs.{IsReachedBy}
use Rattle.sc_chance.proofs.playing.play_turns.Given as goal

-- the turns of the lines were made, as many as there were passes, and they fit in a record
abbrev pub invariant-loop : goal.invariant-loop
invariant-loop l = record {
  reached : IsReachedBy l.program.image (flat_map line_turns l.lines.items) (world_in l.configuration);
  count : turns_of l.lines.items ≡ l.counter;
  short : length l.lines.items ≤ most_lines;
}
