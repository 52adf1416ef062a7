use Rattle.std.proofs.Common.{◌≡◌}
use Rattle.sc_parse.specs.Reading.Looks.{left}
use Rattle.sc_parse.specs.Reading.Classes as spec
use Rattle.sc_parse.specs.Reading.Reads.{ahead, ends_note}
use Rattle.sc_parse.proofs.cursor.Parser.skip_note.Given as goal

abbrev pub invariant-loop-token : goal.invariant-loop-token
invariant-loop-token l = spec.past_free (ends_note l.is_first) l.self.last l.self.rest.now ≡ spec.past_note (ends_note l.is_first) (ahead l.fn.self)

abbrev pub decreases-loop-token : goal.decreases-loop-token
decreases-loop-token l = left (ahead l.self)
