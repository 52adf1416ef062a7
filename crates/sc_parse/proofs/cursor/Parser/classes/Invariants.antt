use Rattle.std.proofs.Common.{◌≡◌, ◌-◌, ℕ, []}
use Rattle.sc_parse.specs.Reading.Looks.{left, left}
use Rattle.sc_parse.specs.Reading.Classes as spec
use Rattle.sc_parse.specs.Reading.Reads.{ahead, classes_in}
use Rattle.sc_parse.proofs.cursor.Parser.classes.Given as goal

abbrev pub invariant-loop-turn : goal.invariant-loop-turn
invariant-loop-turn l =
    (high : ℕ)
    × (spec.classes_from l.room (l._turn-end - l._turn) (classes_in l.found) high (ahead l.self)
    ≡ spec.classes_from l.room (left (ahead l.fn.self)) [] 0 (ahead l.fn.self))
