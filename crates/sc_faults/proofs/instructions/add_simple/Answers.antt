use Rattle.std.proofs.Common.{map, List, subst}
use Rattle.sc_tree.specs.View.{instr_of}
use Rattle.sc_rules.specs.JudgingText.{judge_instr}
use Rattle.sc_typing.specs.declared.declarations.names.Entity.{Entity}
use Rattle.sc_typing.specs.Views.{routine_in, entity_of}
use Rattle.sc_typing.specs.Judges.{Passes}
use Rattle.sc_faults.specs.Internal.Listing.{faults_in_instr}
use Rattle.sc_faults.proofs.Adding.{from_none}
use Rattle.sc_faults.proofs.Steps.{site_added}
use Rattle.sc_faults.proofs.instructions.add_simple.Goals as goal

pub returns : goal.returns
returns c =
    let h = routine_in c.args.routine.now in
    let n = map entity_of c.args.names.now in
    let i = instr_of c.args.instruction.now in
    site_added (judge_instr h n i) (faults_in_instr h n i) c.judge_instruction-judged.result c.add.result
    c.add_operands.new.faults.items c.args.faults.now.items c.add.new.faults.items
    (from_none c.new-operands.result.items (faults_in_instr h n i) c.add_operands.new.faults.items c.new-operands.ensures.items c.in_ok-add_operands.ensures)
    (subst (λ (ns : List Entity). Passes (judge_instr h (map entity_of ns) i) c.judge_instruction-judged.result) c.in_ok-known.ensures.items
    c.judge_instruction-judged.ensures.judged)
    c.add.ensures
