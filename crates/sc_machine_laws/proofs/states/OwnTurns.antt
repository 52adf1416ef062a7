-- Turns in which a routine does what concerns its own handler alone keep each value fitting.
use Rattle.std.specs.Prelude.{◌==◌}
use Rattle.std.proofs.Common.{◌++◌, Bool, List, [], ap, false, refl, subst, sym, true, ℕ, ◌∷◌, ◌≡◌}
use Rattle.std.proofs.lemmas.Bool.{eqb-true}
use Rattle.sc_tree.specs.Plain.{System}
use Rattle.sc_rules.specs.Names.{RoutineName}
use Rattle.sc_lockpass.specs.declared.wait_conditions.session.Release.TheVariants as release_at
use Rattle.sc_model.specs.Exits.{leaves_block}
use Rattle.sc_model.specs.Handlers.{Frame, ReservesBlock, Runs, World, frame_at, point_of, put, with_stack}
use Rattle.sc_model.specs.Moves.{moves}
use Rattle.sc_model.specs.Steps as act
use Rattle.sc_model.specs.Steps.{Act, Does, Point}
use Rattle.sc_model.specs.Turns.{effect, prints_text}
use Rattle.sc_model.specs.declared.cause.Cause.TheVariants as cause
use Rattle.sc_machine_laws.specs.states.Fitting.{FrameFits, HandlerFits, Linked, WorldFits, coming_to}
use Rattle.sc_machine_laws.specs.states.Points.{Each}
use Rattle.sc_machine_laws.specs.states.ValueSteps.{ActFits, StandsSo, StepFits}
use Rattle.sc_machine_laws.specs.states.Values.{ActsKeepIt, is_own_act}
use Rattle.sc_machine_laws.proofs.states.Remains.{releases_keep_it}
use Rattle.sc_machine_laws.proofs.states.Frames.{running_frames_move}
use Rattle.sc_machine_laws.proofs.states.Settled.{Settled, replaced, settled_fails, settled_top, staged}
use Rattle.sc_machine_laws.proofs.states.Lists.{not_true}
use Rattle.sc_machine_laws.proofs.states.MovedHandlers.{fails_after, settled_after}

module _ (s : System) (pure : RoutineName → Bool) (w : World) (h : ℕ) (f : Frame) (below : List Frame) (z : Settled s pure w h [] f below) (runs : f.stage ≡ Runs) where
  top_now : FrameFits s pure w h f
  top_now = staged s pure w h [] f z.top_fits f.stage f.reserved f.blocks f.mark (ap coming_to runs)

  frames_now : Each (FrameFits s pure w h) (w.handlers h).stack
  frames_now = subst (Each (FrameFits s pure w h)) (sym z.stack_is) (top_now, z.below_fit)

  own_now : HandlerFits s pure w h
  own_now = record {
    objects_fit = z.objects_fit;
    frames_fit = frames_now;
    frames_are_linked = subst (Linked s h) (sym z.stack_is) z.are_linked;
    requests_fit = z.requests_fit;
    answer_fits = λ v e. absurd (z.has_no_reply v e);
  }

  -- where the frame goes on
  pub settled_fits : WorldFits s pure w
  settled_fits k l = by (k == h) refl
    where
      by : (b : Bool) → (k == h) ≡ b → HandlerFits s pure w k
      by true e = subst (HandlerFits s pure w) (sym (eqb-true k h e)) own_now
      by false e = z.others_fit k l e

  pub prints_fit : (text : List ℕ) → WorldFits s pure (prints_text h text w)
  prints_fit text = replaced s pure w h (record (w.handlers h) { output = (w.handlers h).output ++ text }) (record { objects = refl; queue = λ i. refl }) z.others_fit z.objects_fit frames_now
      own_now.frames_are_linked z.requests_fit (λ v e. absurd (z.has_no_reply v e))

  -- the end of a separate block
  pub leaves_fit : (kss : List (List ℕ)) → WorldFits s pure (leaves_block h kss f below w)
  leaves_fit [] = settled_fails s pure w h [] f below z cause.BadCode []
  leaves_fit (ks ∷ kss) = releases_keep_it s pure (with_stack h (record f { blocks = kss } ∷ below) w) release_at.Leave ks
      (settled_top s pure w h [] f below z f.stage f.reserved kss f.mark (ap coming_to runs))

pub own_acts_keep_it : ActsKeepIt is_own_act
own_acts_keep_it s root pure faultless well tells most w fits h l f below is runs a p move such =
    by a move such (subst (StepFits s pure f.routine f.current) move (running_frames_move s root pure faultless well tells w fits h l f below is runs))
  where
    settled : (a : Act) → moves s f.current (point_of f (w.handlers h).objects) ≡ Does a p → StandsSo s pure f.routine f.current [] p →
        Settled s pure (put h (record (w.handlers h) { objects = p.objects; stack = frame_at f p ∷ below }) w) h [] (frame_at f p) below
    settled a move stands = settled_after s pure w h f below fits l is a p move runs [] stands

    by : (a : Act) → moves s f.current (point_of f (w.handlers h).objects) ≡ Does a p → is_own_act a ≡ true → ActFits s pure f.routine f.current a p →
        WorldFits s pure (effect most s h a (frame_at f p) below (put h (record (w.handlers h) { objects = p.objects; stack = frame_at f p ∷ below }) w))
    by (act.Prints text) m such g = prints_fit s pure _ h (frame_at f p) below (settled (act.Prints text) m g) runs text
    by act.Until m such g = settled_fits s pure _ h (frame_at f p) below (settled act.Until m g) runs
    by act.Creates m such g = settled_fits s pure _ h (frame_at f p) below (settled act.Creates m g) runs
    by act.Starts m such g = settled_fits s pure _ h (frame_at f p) below (settled act.Starts m g) runs
    by act.Opens m such g = settled_top s pure _ h [] (frame_at f p) below (settled act.Opens m g) ReservesBlock f.reserved f.blocks f.mark refl
    by act.Leaves m such g = leaves_fit s pure _ h (frame_at f p) below (settled act.Leaves m g) runs f.blocks
    by (act.Fails why) m such g = fails_after s pure w h f below fits l is (act.Fails why) p m why g.1
    by (act.CreatesHandler k x us t b) m such g = absurd (not_true such)
    by (act.Enters c o x us t) m such g = absurd (not_true such)
    by (act.Requests o x us t b) m such g = absurd (not_true such)
    by (act.Refuses k) m such g = absurd (not_true such)
    by act.Exits m such g = absurd (not_true such)
