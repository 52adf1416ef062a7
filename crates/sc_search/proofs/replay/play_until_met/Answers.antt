use Rattle.std.proofs.Common.{◌+◌, ◌∙◌, ℕ, List, get_or, take, ap, subst}
use Rattle.std.proofs.lemmas.List.{take_all, take_more}
use Rattle.sc_request.specs.Cores.{center_of}
use Rattle.sc_world.specs.Turning.{Runs}
use Rattle.sc_world.specs.Views.{world_of}
use Rattle.sc_world.specs.Worlds.{opened}
use Rattle.sc_search.proofs.OrderEnds.{unmet_by, unmet_kept, unmet_pushed}
use Rattle.sc_search.proofs.Reasons.{met_by}
use Rattle.sc_search.proofs.LineTurns.{leads_more}
use Rattle.sc_search.proofs.replay.play_until_met.Goals.{in-Moved+in_ok-push-in-Moved, in-Nothing}
use Rattle.sc_search.proofs.replay.play_until_met.Goals as goal

pub loop-handler-preserved : goal.loop-handler-preserved
loop-handler-preserved c =
    let a = c.args.subject.aim in
    let first = opened c.args.subject.program.now.image c.args.subject.version in
    let before = world_of c.loop-handler.world in
    let hs = c.args.turns.now in
    let i = c.loop-handler.handler-index in
    let unmet =
    unmet_by a c.is_met.result c.deref.result.now (center_of c.core.result.now) before c.is_met.ensures c.if-is_met.false
    (c.deref.ensures.value ∙ c.in_ok-statuses.ensures) c.core.ensures.center in
    record {
      made = elim c.match-branch-4.branch [
        | in-Moved+in_ok-push-in-Moved w ↦
            unmet_pushed a c.loop-handler.made.items c.match-branch-4.made.items _ first before (world_of c.turn.new.self) c.in_ok-turn.field-0
            (ap (λ v. v.items) w.made-is ∙ w.in_ok-push-in-Moved.ensures.items) c.loop-handler.invariant.made unmet c.in_ok-turn.ensures.turned w.in-Moved.is
            c.in_ok-turn.ensures.ok
        | in-Nothing w ↦
            unmet_kept a c.loop-handler.made.items c.match-branch-4.made.items _ first before (world_of c.turn.new.self) c.in_ok-turn.field-0
            (ap (λ v. v.items) w.made-is) c.loop-handler.invariant.made c.in_ok-turn.ensures.turned w.in-Nothing.is c.in_ok-turn.ensures.ok
      ];
      all =
          leads_more (take i hs) (take (i + 1) hs) (get_or hs i 0) first before (world_of c.turn.new.self) (take_more hs i 0 c.loop-handler-test.true)
          c.loop-handler.invariant.all c.in_ok-turn.ensures.ok;
    }

pub returns-then-is_met-clause-all : goal.returns-then-is_met-clause-all
returns-then-is_met-clause-all c = λ unmet.
    absurd (unmet (met_by c.args.subject.aim c.is_met.result c.deref.result.now (center_of c.core.result.now) (world_of c.loop-handler.world) c.is_met.ensures
    c.if-is_met.true (c.deref.ensures.value ∙ c.in_ok-statuses.ensures) c.core.ensures.center))

pub returns-clause-all : goal.returns-clause-all
returns-clause-all c = λ unmet.
    subst (λ (hs : List ℕ). Runs hs (opened c.args.subject.program.now.image c.args.subject.version) (world_of c.loop-handler.world))
    (take_all c.loop-handler.handler-index c.args.turns.now c.loop-handler-test.false) c.loop-handler.invariant.all
