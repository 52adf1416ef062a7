use Rattle.std.proofs.Common.{◌∙◌, List, take, sym, subst, arith}
use Rattle.sc_handler.specs.declared.settlement.Settlement.{Settlement}
use Rattle.sc_handler.specs.Logged.{settlements_of}
use Rattle.sc_plant.specs.Sharing.{AreLogs}
use Rattle.sc_recording.proofs.Comparisons.{take_every, take_more, take_past}
use Rattle.sc_plant.proofs.sharing.logs_of.Goals as goal

pub loop-place-init : goal.loop-place-init
loop-place-init c = record { count = c.in_ok-logs.ensures.count; logs = c.in_ok-logs.ensures.logs }

pub loop-place-preserved-in_default : goal.loop-place-preserved-in_default
loop-place-preserved-in_default c =
    let es = settlements_of c.args.settlements.now in
    record {
      count = c.loop-place.invariant.count;
      logs = subst (λ (fs : List Settlement). AreLogs c.loop-place.logs.items fs)
          (sym (take_past es c.loop-place.place (sym c.get.ensures ∙ c.in_default.is))) c.loop-place.invariant.logs;
    }

pub loop-place-preserved : goal.loop-place-preserved
loop-place-preserved c =
    let es = settlements_of c.args.settlements.now in
    record {
      count = c.note.ensures.count ∙ c.loop-place.invariant.count;
      logs = subst (λ (fs : List Settlement). AreLogs c.note.new.logs.items fs)
          (sym (take_more es c.loop-place.place c.in-Some.settlement (sym c.get.ensures ∙ c.in-Some.is)))
          (c.in_ok-note.ensures.logs (take c.loop-place.place es) c.loop-place.invariant.logs);
    }

pub returns-clause-logs : goal.returns-clause-logs
returns-clause-logs c =
    let es = settlements_of c.args.settlements.now in
    subst (λ (fs : List Settlement). AreLogs c.loop-place.logs.items fs)
    (take_every es c.loop-place.place (omega (arith, c.loop-place-test.false, c.len-place-end.ensures))) c.loop-place.invariant.logs
