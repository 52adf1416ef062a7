use Rattle.std.proofs.Common.{◌≡◌, ◌-◌}
use Rattle.sc_parse.specs.Reading.Looks.{left, left}
use Rattle.sc_parse.specs.Reading.Classes as spec
use Rattle.sc_parse.specs.Reading.Reads.{ahead, declarations_in}
use Rattle.sc_parse.proofs.cursor.Parser.more_declarations.Given as goal

abbrev pub invariant-loop-turn : goal.invariant-loop-turn
invariant-loop-turn l =
    spec.more_declarations (l._turn-end - l._turn) (declarations_in l.found) (ahead l.self)
    ≡ spec.more_declarations (left (ahead l.fn.self)) (declarations_in l.fn.first) (ahead l.fn.self)
