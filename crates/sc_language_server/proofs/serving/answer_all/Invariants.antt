use Rattle.sc_language_server.specs.Messages.{WritesMessages}
use Rattle.sc_language_server.proofs.serving.answer_all.Given as goal

abbrev pub invariant-loop : goal.invariant-loop
invariant-loop g l = record {
  written : WritesMessages (g.W.Write.contents l.fn.out) (g.W.Write.contents l.out);
}
