use Rattle.std.proofs.Common.{sym, ◌∙◌}
use Rattle.sc_parse.specs.Reading.Reads.{ahead}
use Rattle.sc_parse.proofs.Turns.{semicolons_none}
use Rattle.sc_parse.proofs.cursor.Parser.skip_semicolons.Goals as goal

pub returns : goal.returns
returns c = sym (semicolons_none (ahead c.loop-self.self) (sym c.sees.ensures ∙ c.loop-self-test.false)) ∙ c.loop-self.invariant
