use Rattle.std.proofs.Common.{◌≡◌, ◌-◌, [], ◌∷◌}
use Rattle.sc_parse.specs.Reading.Looks.{left, left}
use Rattle.sc_parse.specs.Reading.Types as spec
use Rattle.sc_parse.specs.Reading.Reads.{ahead, name_in, names_in}
use Rattle.sc_parse.proofs.cursor.Parser.more_names.Given as goal

abbrev pub invariant-loop-turn : goal.invariant-loop-turn
invariant-loop-turn l =
    spec.more_names (l._turn-end - l._turn) (names_in l.names) (ahead l.self)
    ≡ spec.more_names (left (ahead l.fn.self)) (name_in l.fn.first ∷ []) (ahead l.fn.self)
