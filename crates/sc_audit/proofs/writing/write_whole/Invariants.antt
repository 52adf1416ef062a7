use Rattle.sc_audit.specs.Writing.{Writes}
use Rattle.sc_audit.proofs.writing.write_whole.Given as goal

-- what is left isn't written yet
abbrev pub invariant-loop : goal.invariant-loop
invariant-loop g l = Writes (g.W.Write.contents l.fn.writer) (g.W.Write.contents l.writer) l.bytes l.rest
