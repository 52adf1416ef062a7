use Rattle.std.proofs.Common.{subst}
use Rattle.sc_chance.specs.Found.{IsFound, IsFoundRun}
use Rattle.sc_chance.specs.declared.judging.Sought.{Sought}
use Rattle.sc_chance.specs.declared.running.Found.{Found}
use Rattle.sc_lower.specs.Lowerings.{image_of}
use Rattle.sc_serve.proofs.ChanceLemmas.{run_told}
use Rattle.sc_serve.proofs.chance.play_loaded.Goals as goal

-- the run that was found shows what was asked for
pub returns-in-Run-clause-answer : goal.returns-in-Run-clause-answer
returns-in-Run-clause-answer c =
    let program = image_of c.args.program.now in
    let limit = c.args.options.now.turns in
    let found =
    subst (λ (f : Found). IsFound program limit c.args.options.now.times c.sought_of-sought.result f) c.in-Run.is
    c.in_ok-seed.ensures in
    run_told program c.args.options.now c.in-Run.run' c.answer_found.result
    (subst (λ (s : Sought). IsFoundRun program limit s c.in-Run.run') c.sought_of-sought.ensures found) c.answer_found.ensures.answer
