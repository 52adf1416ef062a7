use Rattle.std.proofs.Common.{◌≡◌, ◌≤◌, [], vec_capacity, vec_len}
use Rattle.sc_plant.specs.Sharing.{AreLogs}
use Rattle.sc_plant.proofs.sharing.new_logs.Given as goal

abbrev pub invariant-loop : goal.invariant-loop
invariant-loop l = record {
  len : vec_len l.logs ≡ l.counter;
  room : 512 ≤ vec_capacity l.logs;
  logs : AreLogs l.logs.items [];
}
