use Rattle.std.proofs.Common.{sym, subst, ◌∙◌}
use Rattle.sc_region.specs.declared.job.Job.{Job}
use Rattle.sc_request.specs.Cores.{center_of}
use Rattle.sc_play.specs.Regions.{Plays, outcome}
use Rattle.sc_world.proofs.Outs.{job-is, one-job}
use Rattle.sc_plant.proofs.alone.play_out.Goals as goal

pub returns-clause-ok : goal.returns-clause-ok
returns-clause-ok c = λ j is.
    let out = job-is ((center_of c.args.core.now).out c.args.handler) c.job_out.result c.in-Some.job c.job_out.ensures c.in-Some.is in
    let one = one-job c.in-Some.job.now j (sym out ∙ is) in
    let asked = outcome c.args.region.now.handler c.in-Ok.turns c.play_asking.new.asked in
    record {
      settled = c.settle_out.ensures.settled j is;
      plays = subst (λ (k : Job). Plays c.args.limit k c.args.region.now c.play_asking.new.self asked) one c.in-Ok.ensures.ok;
    }

pub returns-in_default-play_asking-clause-err : goal.returns-in_default-play_asking-clause-err
returns-in_default-play_asking-clause-err c = record {
  center = c.put_back.ensures.center;
  log = c.put_back.ensures.log;
  job = c.in-Some.job.now;
  refused = c.in_default-play_asking.ensures.err;
}
