use Rattle.sc_language_server.specs.Messages.{WritesMessages}
use Rattle.sc_language_server.proofs.serving.publish_system.Given as goal

abbrev pub invariant-loop-index : goal.invariant-loop-index
invariant-loop-index g l = record {
  written : WritesMessages (g.W.Write.contents l.fn.out) (g.W.Write.contents l.out);
}
