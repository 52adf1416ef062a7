use Rattle.std.proofs.Common.{ap, ◌∙◌}
use Rattle.sc_tree.proofs.ViewLemmas.{expr_of-call, instr_of-call}
use Rattle.sc_parse.specs.Reading.Instructions.{nested_instrs}
use Rattle.sc_parse.specs.Reading.Reads.{ahead, expr_in}
use Rattle.sc_parse.proofs.Steps.{routine_call_is, routine_call_fails}
use Rattle.sc_parse.proofs.cursor.Parser.routine_call.Goals as goal

pub returns-in-Some : goal.returns-in-Some
returns-in-Some c = (
  c.in_ok-chain.field-0-1,
  routine_call_is c.args.room (nested_instrs c.args.room) (ahead c.args.self.now) _ _ _ _ _ _ _ _ c.in_ok-chain.ensures.read (ap expr_in c.in-Some.ensures ∙ expr_of-call _) (instr_of-call _),
)

pub returns-in-None : goal.returns-in-None
returns-in-None c = routine_call_fails c.args.room (nested_instrs c.args.room) (ahead c.args.self.now) _ _ _ c.in_ok-chain.ensures.read c.in-None.ensures
