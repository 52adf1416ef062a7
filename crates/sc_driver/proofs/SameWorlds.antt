-- What a run left holds the same as the world that its record ends in.
use Rattle.std.proofs.Common.{◌≡◌, ◌++◌, ℕ, List, [], ◌∷◌, Option, Some, None, replicate, slice_get, refl, sym, ap, subst, ◌∙◌}
use Rattle.std.specs.Prelude.{◌||◌, is_some, nat_lt, if◌then◌else◌}
use Rattle.std.proofs.Math.Logic.{∥∥₁_map}
use Rattle.sc_lockpass.specs.declared.version.Version.{Version}
use Rattle.sc_lockpass.specs.declared.version.Version.TheVariants.{Two}
use Rattle.sc_audit.specs.declared.line.RecordLine.{RecordLine}
use Rattle.sc_audit.specs.Records.{IsRecord}
use Rattle.sc_model.specs.declared.status.Status.{Status}
use Rattle.sc_code.specs.declared.program.Image.{Image}
use Rattle.sc_region.specs.declared.job.Job.{Job}
use Rattle.sc_handler.specs.declared.settlement.Settlement.{Settlement}
use Rattle.sc_handler.specs.Handlers.{State}
use Rattle.sc_handler.specs.Picking.{job_of, status_with}
use Rattle.sc_request.specs.Cores.{center_of, log_of, state_of}
use Rattle.sc_request.specs.Logs.{Center}
use Rattle.sc_request.specs.Same.{AreSameAt}
use Rattle.sc_play.specs.Regions.{PlainRegion}
use Rattle.sc_world.specs.Turning.{MakeTurns, Runs}
use Rattle.sc_world.specs.Worlds.{PlainWorld, opened}
use Rattle.sc_world.proofs.Runs.{made-run}
use Rattle.sc_plant.specs.declared.left.Left.{Left}
use Rattle.sc_plant.specs.Left.{IsRun, LinesAreARecord, RunsAreOneThreads, world_of}
use Rattle.sc_plant.specs.OneThread.{EndsIn}
use Rattle.sc_recording.specs.Recorded as recorded
use Rattle.sc_recording.specs.Recorded.{lines_of}
use Rattle.sc_recording.specs.Same.{AreSameRegions, IsSameAt}
use Rattle.sc_driver.specs.Audits.{IsAudited, LeadsTo, turns_of}
use Rattle.sc_driver.specs.Laws.{RunsAuditYes}

itself : (o : Option PlainRegion) → AreSameRegions o o
itself None = tt
itself (Some x) = record { objects = refl; frames = refl; output = refl; failure = refl }

same-region : (a b : Option PlainRegion) → a ≡ b → AreSameRegions a b
same-region a b e = subst (λ (o : Option PlainRegion). AreSameRegions a o) e (itself a)

-- how a handler stands in this state, where it is out with this
abbrev standing : ℕ → State → Option Job → Option Status
standing h s o =
    if nat_lt h s.count then Some (status_with (s.handlers h).failure (is_some o || is_some (job_of h s)) (s.handlers h).stage) else None

same-center : (h : ℕ) (c d : Center) → c.state ≡ d.state → c.out h ≡ d.out h → AreSameAt h c d
same-center h c d state out = record {
  status = ap (λ (s : State). standing h s (c.out h)) state ∙ ap (λ (o : Option Job). standing h d.state o) out;
  handler = ap (λ (s : State). s.handlers h) state;
  queue = ap (λ (s : State). s.rights.queue h) state;
  top = ap (λ (s : State). s.rights.top h) state;
}

same-turns : (es : List Settlement) → recorded.turns_of es ≡ turns_of (lines_of es)
same-turns [] = refl
same-turns (e ∷ es) = ap (λ (hs : List ℕ). replicate e.turns e.handler ++ hs) (same-turns es)

module _ (p : Image) (limit : ℕ) (left : Left) (run : IsRun p limit left) (is_record : IsRecord left.version left.lines.items) (y : PlainWorld)
    (makes : MakeTurns (recorded.turns_of (log_of left.core)) (opened p Two) y) (ends : EndsIn y (state_of left.core) left.regions.items) where
  leads : LeadsTo p left y
  leads =
      subst (λ (v : Version). Runs (turns_of left.lines.items) (opened p v) y) (sym run.left_is.version)
      (subst (λ (ls : List RecordLine). Runs (turns_of ls) (opened p Two) y) (sym run.left_is.lines)
      (subst (λ (hs : List ℕ). Runs hs (opened p Two) y) (same-turns (log_of left.core))
      (made-run (recorded.turns_of (log_of left.core)) (opened p Two) y makes)))

  same-at : (h : ℕ) → IsSameAt h y (world_of left)
  same-at h = record {
    region = same-region (slice_get y.regions h) (slice_get left.regions.items h)
        (ap (λ (rs : List PlainRegion). slice_get rs h) ends.regions);
    center = same-center h y.center (center_of left.core) ends.state (ends.none_out h ∙ sym (run.over.home h));
  }

  audited : IsAudited p left
  audited = record { is_record = is_record; world = y; leads = leads; same = λ h below. same-at h }

pub runs-audit-yes : RunsAreOneThreads → LinesAreARecord → RunsAuditYes
runs-audit-yes one lines p limit left few run =
    ∥∥₁_map (one p limit left run) (λ e. audited p limit left run (lines p limit left run few) e.0 e.1 e.2)
