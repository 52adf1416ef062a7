use Rattle.std.proofs.Common.{ap, not, sym, subst, ◌∙◌, arith}
use Rattle.sc_plant.specs.Left.{IsStopped}
use Rattle.sc_plant.proofs.Bare.{bare_stopped, bare_way}
use Rattle.sc_plant.proofs.OnWay.{way_stopped}
use Rattle.sc_plant.proofs.Locks.{way_of}
use Rattle.sc_plant.proofs.EndedRuns.{none_is}
use Rattle.sc_plant.proofs.running.play_shared.Goals as goal

pub difference-requires : goal.difference-requires
difference-requires g c = c.left_of-logged_left.ensures.count

pub without_logs-left-requires-clause-room : goal.without_logs-left-requires-clause-room
without_logs-left-requires-clause-room g c =
    let some = c.in-Ok.ensures.bare.0 in
    omega (arith, c.left_of-logged_left.ensures.count, c.left_of-logged_left.result.0.regions.ok.0, some)

pub returns-in-Err-clause-err : goal.returns-in-Err-clause-err
returns-in-Err-clause-err g c = λ p is.
    subst (IsStopped p) (sym c.in-Err.ensures.same) (way_stopped p c.args.left (way_of g.P.OfProgram.image c.args.left p c.requires is))

pub returns-in-Some-clause-err : goal.returns-in-Some-clause-err
returns-in-Some-clause-err g c = λ p is. (c.left_of-logged_left.ensures.left p is, c.in-Some.ensures.some.0, c.in-Some.ensures.some.1)

pub returns-then-is_refused-clause-err : goal.returns-then-is_refused-clause-err
returns-then-is_refused-clause-err g c = λ p is.
    bare_stopped p c.left_of-logged_left.result.0 c.without_logs-left.result c.without_logs-left.ensures.version c.without_logs-left.ensures.regions
    c.without_logs-left.ensures.core (ap (λ v. v.items) c.without_logs-left.ensures.lines) (c.left_of-logged_left.ensures.left p is)
    c.in_default-difference.ensures.none (rw (c.left_of-logged_left.ensures.core) c.rounds-recorded.ensures.home)

pub returns-clause-on : goal.returns-clause-on
returns-clause-on g c =
    let p = c.requires.program in
    let is = c.requires.named in
    record {
      program = p;
      named = is;
      way = bare_way p c.left_of-logged_left.result.0 c.without_logs-left.result c.without_logs-left.ensures.version c.without_logs-left.ensures.regions
          c.without_logs-left.ensures.core (ap (λ v. v.items) c.without_logs-left.ensures.lines) (c.left_of-logged_left.ensures.left p is)
          c.in_default-difference.ensures.none (rw (c.left_of-logged_left.ensures.core) c.rounds-recorded.result.0.version)
          (rw (c.left_of-logged_left.ensures.core) c.rounds-recorded.ensures.home) (c.left_of-logged_left.ensures.made c.if-is_refused.false);
    }

pub returns-clause-over : goal.returns-clause-over
returns-clause-over g c = λ none.
    let over = c.rounds-recorded.ensures.over (none_is c.rounds-recorded.result.1 (c.is_none.ensures ∙ ap not none)) in
    rw (c.without_logs-left.ensures.core, c.without_logs-left.ensures.lines, c.left_of-logged_left.ensures.core, c.left_of-logged_left.ensures.lines) over
