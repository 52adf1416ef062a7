use Rattle.std.proofs.Common.{arith}
use Rattle.std.specs.Char.{to_ascii_uppercase}
use Rattle.sc_tree.proofs.PrintingParts.{one_more_mapped, all_mapped}
use Rattle.sc_tree.proofs.print.Printer.upper_case.Goals as goal

pub loop-byte-preserved : goal.loop-byte-preserved
loop-byte-preserved c = (
  one_more_mapped to_ascii_uppercase c.args.text.now _ _ _ c.loop-byte.byte-index 0 _ (omega arith) c.loop-byte.invariant.0 c.in_ok-push.ensures.items c.to_ascii_uppercase.ensures.value,
  c.loop-byte.invariant.1,
)

pub returns-clause-text : goal.returns-clause-text
returns-clause-text c = all_mapped to_ascii_uppercase c.args.text.now _ _ c.loop-byte.byte-index (omega arith) c.loop-byte.invariant.0
