use Rattle.std.proofs.Common.{◌≡◌, ◌-◌, ℕ}
use Rattle.sc_parse.specs.Reading.Instructions as spec
use Rattle.sc_parse.specs.Reading.Reads.{ahead, heads_in}
use Rattle.sc_parse.proofs.cursor.Parser.heads.Given as goal

abbrev pub invariant-loop-turn : goal.invariant-loop-turn
invariant-loop-turn l = (high : ℕ)
    × (spec.more_heads l.room (spec.nested_instrs l.room) (l._turn-end - l._turn) (heads_in l.found) high (ahead l.self) ≡ spec.heads l.room (spec.nested_instrs l.room) (ahead l.fn.self))
