use Rattle.std.proofs.Common.{◌≡◌, ◌≤◌, ◌<◌, ◌+◌, ◌-◌, ◌*◌}
use Rattle.sc_parse.specs.Reading.Looks.{left, left}
use Rattle.sc_parse.specs.Reading.Expressions as spec
use Rattle.sc_parse.specs.Reading.Reads.{ahead, expr_in, exprs_in}
use Rattle.sc_parse.proofs.cursor.Parser.+expression.Given as goal

abbrev pub decreases-nested : goal.decreases-nested
decreases-nested l = l.room * 1024

abbrev pub decreases-operators : goal.decreases-operators
decreases-operators l = l.room * 1024 + 1

abbrev pub decreases-exprs : goal.decreases-exprs
decreases-exprs l = l.room * 1024 + 1

abbrev pub decreases-actuals : goal.decreases-actuals
decreases-actuals l = l.room * 1024 + 2

abbrev pub decreases-calling : goal.decreases-calling
decreases-calling l = l.room * 1024 + 3

abbrev pub decreases-calls : goal.decreases-calls
decreases-calls l = l.room * 1024 + 4

abbrev pub decreases-chain : goal.decreases-chain
decreases-chain l = l.room * 1024 + 5

abbrev pub decreases-object_test : goal.decreases-object_test
decreases-object_test l = l.room * 1024 + 6

abbrev pub decreases-primary : goal.decreases-primary
decreases-primary l = l.room * 1024 + 7

abbrev pub decreases-operand : goal.decreases-operand
decreases-operand l = l.room * 1024 + 8

abbrev pub decreases-operators_up_to : goal.decreases-operators_up_to
decreases-operators_up_to l = l.room * 1024 + (l.class - l.least) + 2

abbrev pub decreases-expr : goal.decreases-expr
decreases-expr l = l.room * 1024 + l.class + 9

abbrev pub invariant-operators-loop-turn : goal.invariant-operators-loop-turn
invariant-operators-loop-turn l = record {
  high : l.height ≤ l.room;
  same : spec.operators (spec.nested l.room) l.room l.class (l._turn-end - l._turn) (expr_in l.left) l.height (ahead l.self)
      ≡ spec.operators (spec.nested l.room) l.room l.class (left (ahead l.fn.self)) (expr_in l.fn.first) l.first_height (ahead l.fn.self);
}

abbrev pub invariant-calls-loop-turn : goal.invariant-calls-loop-turn
invariant-calls-loop-turn l = record {
  high : l.height ≤ l.room;
  same : spec.calls (spec.nested l.room) l.room (l._turn-end - l._turn) (expr_in l.chain) l.height (ahead l.self)
      ≡ spec.calls (spec.nested l.room) l.room (left (ahead l.fn.self)) (expr_in l.fn.first) l.first_height (ahead l.fn.self);
}

abbrev pub invariant-exprs-loop-turn : goal.invariant-exprs-loop-turn
invariant-exprs-loop-turn l = record {
  high : l.height < l.room;
  same : spec.more_exprs (spec.nested l.room) (l._turn-end - l._turn) (exprs_in l.found) l.height (ahead l.self) ≡ spec.exprs (spec.nested l.room) (ahead l.fn.self);
}
