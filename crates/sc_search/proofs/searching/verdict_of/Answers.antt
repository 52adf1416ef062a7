use Rattle.std.proofs.Common.{subst, sym}
use Rattle.sc_search.specs.declared.verdict.Length.{Length}
use Rattle.sc_search.specs.Lengths.{IsLength}
use Rattle.sc_search.proofs.searching.verdict_of.Goals as goal
use Rattle.sc_search.proofs.searching.verdict_of.Goals.{in-None+in_ok-length-in-None, in-Some}

pub returns-clause-long : goal.returns-clause-long
returns-clause-long c = λ all joined explored reached.
    let so : Length → Type 0 = λ length. IsLength c.args.subject.program.now.image c.args.subject.version joined length in
    elim c.match-stop.branch [
      | in-None+in_ok-length-in-None w ↦ subst so (sym w.length-is) (w.in_ok-length-in-None.ensures all joined explored reached)
      | in-Some w ↦ subst so (sym w.length-is) tt
    ]
