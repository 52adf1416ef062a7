use Rattle.sc_language_server.specs.Messages.{WritesMessages}
use Rattle.sc_language_server.proofs.serving.publish.Given as goal

abbrev pub invariant-loop-system : goal.invariant-loop-system
invariant-loop-system g l = record {
  written : WritesMessages (g.W.Write.contents l.fn.out) (g.W.Write.contents l.out);
}
