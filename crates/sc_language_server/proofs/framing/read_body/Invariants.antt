use Rattle.sc_language_server.proofs.framing.read_body.Given as goal

abbrev pub decreases-loop-left : goal.decreases-loop-left
decreases-loop-left g l = l.left
