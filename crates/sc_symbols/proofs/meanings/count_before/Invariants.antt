use Rattle.std.proofs.Common.{◌≡◌, ◌+◌, ◌≤◌, drop}
use Rattle.sc_symbols.specs.Renaming.{count_before}
use Rattle.sc_symbols.proofs.meanings.count_before.Given as goal

abbrev pub invariant-loop-used : goal.invariant-loop-used
invariant-loop-used l = record {
  few : l.count ≤ l.used-index;
  counted : count_before l.offset l.uses ≡ l.count + count_before l.offset (drop l.used-index l.uses);
}
