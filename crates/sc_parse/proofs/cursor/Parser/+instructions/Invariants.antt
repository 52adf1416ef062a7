use Rattle.std.proofs.Common.{◌≡◌, ◌+◌, ◌-◌, ◌*◌, ℕ}
use Rattle.sc_parse.specs.Reading.Looks.{left, left}
use Rattle.sc_tree.specs.Plain.{no_branches}
use Rattle.sc_parse.specs.Reading.Instructions as spec
use Rattle.sc_parse.specs.Reading.Reads.{ahead, instrs_in, branches_in}
use Rattle.sc_parse.proofs.cursor.Parser.+instructions.Given as goal

abbrev pub decreases-instructions_inside : goal.decreases-instructions_inside
decreases-instructions_inside l = l.room * 16

abbrev pub decreases-instructions_up_to : goal.decreases-instructions_up_to
decreases-instructions_up_to l = l.room * 16 + 1

abbrev pub decreases-branch : goal.decreases-branch
decreases-branch l = l.room * 16 + 2

abbrev pub decreases-other : goal.decreases-other
decreases-other l = l.room * 16 + 2

abbrev pub decreases-iteration : goal.decreases-iteration
decreases-iteration l = l.room * 16 + 3

abbrev pub decreases-block : goal.decreases-block
decreases-block l = l.room * 16 + 3

abbrev pub decreases-branches : goal.decreases-branches
decreases-branches l = l.room * 16 + 3

abbrev pub decreases-conditional : goal.decreases-conditional
decreases-conditional l = l.room * 16 + 4

abbrev pub decreases-instruction : goal.decreases-instruction
decreases-instruction l = l.room * 16 + 5

abbrev pub decreases-instructions : goal.decreases-instructions
decreases-instructions l = l.room * 16 + 6

abbrev pub invariant-instructions-loop-turn : goal.invariant-instructions-loop-turn
invariant-instructions-loop-turn l =
    (high : ℕ) × (spec.instrs_from l.room (spec.nested_instrs l.room) (l._turn-end - l._turn) (instrs_in l.found) high (ahead l.self) ≡ spec.instrs l.room (ahead l.fn.self))

abbrev pub invariant-branches-loop-turn : goal.invariant-branches-loop-turn
invariant-branches-loop-turn l =
    (high : ℕ)
    × (spec.branches l.room (spec.nested_instrs l.room) (l._turn-end - l._turn) (branches_in l.found) high (ahead l.self)
    ≡ spec.branches l.room (spec.nested_instrs l.room) (left (ahead l.fn.self)) no_branches 0 (ahead l.fn.self))
