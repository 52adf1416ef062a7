use Rattle.std.proofs.Common.{◌≡◌, take}
use Rattle.std.specs.List.{flat_map}
use Rattle.sc_serve.specs.Refusal.{refused_line}
use Rattle.sc_serve.proofs.fault_list.refused_lines.Given as goal

-- the lines of those before
abbrev pub invariant-loop-one : goal.invariant-loop-one
invariant-loop-one l = l.lines.items ≡ flat_map (refused_line l.places) (take l.one-index l.refused)
