use Rattle.std.proofs.Common.{◌++◌, ◌∷◌, [], ap, sym, ◌∙◌}
use Rattle.sc_play.specs.Regions.{PlainRegion, outcome}
use Rattle.sc_handler.specs.Logged.{settlements_of}
use Rattle.sc_worklog.specs.Replaying.{entry_of}
use Rattle.sc_worklog.proofs.KeptLogs.{played_kept, refused_kept}
use Rattle.sc_worklog.proofs.logged_region.LoggedRegion.play_asking.Goals as goal

pub invariant_of-self-in-Break-branch-2 : goal.invariant_of-self-in-Break-branch-2
invariant_of-self-in-Break-branch-2 c = record {
  numbered = ap (λ (r : PlainRegion). r.handler) c.in_err-turns.ensures.err.same ∙ c.args.self.now.numbered;
  replays = refused_kept c.args.job.now (settlements_of c.args.self.now.log) (settlements_of c.reserve.new.self)
      c.args.self.now.region c.play_asking.new.self c.in_err-turns.ensures.err c.reserve.ensures.settlements
      c.args.self.now.replays;
}

pub invariant_of-self-2 : goal.invariant_of-self-2
invariant_of-self-2 c =
    let x = c.args.self.now.region in
    let w = c.play_asking.new.asked in
    let n = c.in_ok-turns.turns in
    let o = outcome x.handler n w in
    let one_more = c.note.ensures
    ∙ ap (λ h. settlements_of c.reserve.new.self ++ entry_of c.args.job.now (outcome h n w) ∷ []) (sym c.args.self.now.numbered)
    ∙ ap (λ es. es ++ entry_of c.args.job.now o ∷ []) c.reserve.ensures.settlements in
    record {
      numbered = c.play_asking.ensures.handler ∙ c.args.self.now.numbered;
      replays = played_kept c.args.limit c.args.job.now o (settlements_of c.args.self.now.log)
          (settlements_of c.note.new.log) x c.play_asking.new.self c.in_ok-turns.ensures.ok one_more c.args.self.now.replays;
    }
