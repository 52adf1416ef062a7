use Rattle.std.proofs.Common.{◌≡◌, take, vec_len}
use Rattle.sc_handler.specs.Logged.{settlements_of}
use Rattle.sc_plant.specs.Sharing.{AreLogs}
use Rattle.sc_plant.proofs.sharing.logs_of.Given as goal

abbrev pub invariant-loop-place : goal.invariant-loop-place
invariant-loop-place l = record {
  count : vec_len l.logs ≡ 512;
  logs : AreLogs l.logs.items (take l.place (settlements_of l.settlements));
}
