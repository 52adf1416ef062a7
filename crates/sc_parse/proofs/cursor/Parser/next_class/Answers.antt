use Rattle.std.proofs.Common.{arith}
use Rattle.sc_parse.specs.Reading.Reads.{ahead}
use Rattle.sc_parse.proofs.Levels.{free_of_none, free_above, free_below}
use Rattle.sc_parse.proofs.cursor.Parser.next_class.Goals as goal

pub returns-in_default : goal.returns-in_default
returns-in_default c = free_of_none c.args.least c.args.class (ahead c.args.self.now) _ c.any_operator.ensures c.in_default.not-Some

pub returns-then-below-least : goal.returns-then-below-least
returns-then-below-least c =
    free_above c.args.least c.args.class (ahead c.args.self.now) _ _ _ c.any_operator.ensures c.in-Some.is c.class_below-below.ensures c.if-below-least.true

pub returns-then-class-below : goal.returns-then-class-below
returns-then-class-below c =
    free_below c.args.least c.args.class (ahead c.args.self.now) _ _ _ c.any_operator.ensures c.in-Some.is c.class_below-below.ensures c.if-class-below.true

pub returns : goal.returns
returns c = (
  c.if-below-least.false,
  c.if-class-below.false,
  free_below c.args.least c.class_below-below.result (ahead c.args.self.now) _ _ _ c.any_operator.ensures c.in-Some.is c.class_below-below.ensures (omega arith),
)
