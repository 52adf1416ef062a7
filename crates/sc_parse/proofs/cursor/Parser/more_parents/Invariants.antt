use Rattle.std.proofs.Common.{◌≡◌, ◌-◌, [], ◌∷◌}
use Rattle.sc_text.specs.declared.token.Terminal.TheVariants as terminal
use Rattle.sc_parse.specs.Reading.Looks.{left, left, skip}
use Rattle.sc_parse.specs.Reading.Classes as spec
use Rattle.sc_parse.specs.Reading.Reads.{ahead, parent_in, parents_in}
use Rattle.sc_parse.proofs.cursor.Parser.more_parents.Given as goal

abbrev pub invariant-loop-turn : goal.invariant-loop-turn
invariant-loop-turn l =
    spec.parents_from (l.count - l._turn) (parents_in l.found) (ahead l.self)
    ≡ spec.parents_from (left (ahead l.fn.self)) (parent_in l.fn.first ∷ []) (skip terminal.Semicolon (ahead l.fn.self))
