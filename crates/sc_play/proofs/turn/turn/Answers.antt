use Rattle.std.proofs.Common.{Some, sym, ap, ◌∙◌}
use Rattle.sc_region.specs.declared.frame.Stage.{Stage}
use Rattle.sc_play.proofs.FurtherTurns.{stops_ahead}
use Rattle.sc_play.proofs.turn.turn.Goals as goal

pub returns-in-Some-Runs-clause-err : goal.returns-in-Some-Runs-clause-err
returns-in-Some-Runs-clause-err c =
    stops_ahead c.run_on.result c.args.store.now c.run_on.new.store
    (sym c.top_stage.ensures ∙ c.in-Some-Runs.is ∙ ap (λ (s : Stage). Some s) c.in-Some-Runs.field-0-is) c.run_on.ensures.leads c.run_on.ensures.remains
