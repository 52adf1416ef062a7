use Rattle.sc_parse.proofs.Verdict.{parses, found, stands}
use Rattle.sc_parse.proofs.system.parse_within.Goals as goal

pub returns-clause-answer : goal.returns-clause-answer
returns-clause-answer c = parses c.args.room c.args.tokens.now _ c.read_within.ensures

pub returns-clause-found : goal.returns-clause-found
returns-clause-found c = found c.args.room c.args.tokens.now _ c.read_within.ensures

pub returns-clause-placed : goal.returns-clause-placed
returns-clause-placed c = stands c.args.room c.args.tokens.now _ c.read_within.ensures
