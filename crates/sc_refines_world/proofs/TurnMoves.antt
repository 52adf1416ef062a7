-- How the frames and requests of a handler change in its turn, whatever that stands on.
use Rattle.std.proofs.Common.{ℕ, ◌≡◌, ◌<◌, Bool, List, [], ◌∷◌, Option, Some, None, refl}
use Rattle.sc_tree.specs.Plain.{System}
use Rattle.sc_rules.specs.declared.entity_types.entity_type.EntityType.{EntityType}
use Rattle.sc_model.specs.declared.cause.Cause.{Cause}
use Rattle.sc_model.specs.declared.cause.Cause.TheVariants as cause
use Rattle.sc_model.specs.Entries.{block_needs, entry_needs, may_reserve}
use Rattle.sc_model.specs.Handlers.{Answer, Awaits, Frame, InCall, Request, Reserves, ReservesBlock, Runs, Stage, World, point_of}
use Rattle.sc_model.specs.Moves.{moves}
use Rattle.sc_model.specs.Steps.{Does, Goes, Step}
use Rattle.sc_model.specs.Turns.{goes_on, settles, turn_with, waits}
use Rattle.sc_refines_world.specs.Moving.{FramesMove, stay}
use Rattle.sc_refines_world.proofs.StayingRequests.{rest_same}
use Rattle.sc_refines_world.proofs.FrameMoves.{Starting, AsksAnother, fails_move, next_moves, same_left, callback_moves, answer_moves, reserve_moves, act_moves}

module _ (most : ℕ) (s : System) (h : ℕ) (w : World) (lives : (w.handlers h).failure ≡ None)
    (f : Frame) (below : List Frame) (at : (w.handlers h).stack ≡ f ∷ below) where
  abbrev T : World → Type 0
  T v = FramesMove s w h (w.handlers h) (v.handlers h)

  step_moves : Starting s w h f below → AsksAnother s w h f → h < w.count → (x : Step) → moves s f.current (point_of f (w.handlers h).objects) ≡ x → T (settles most s h x f below w)
  step_moves starting another here (Goes p) move = stay refl (rest_same (w.handlers h))
  step_moves starting another here (Does a p) move = act_moves most s h w lives f below at starting another here p a move

  waits_moves : (k : ℕ) (t : Option EntityType) (c : Bool) (q : Option Request) (a : Option Answer) → (w.handlers h).callback ≡ q → T (waits s h q a k t c f below w)
  waits_moves k t c (Some r) a e = callback_moves most s h w lives f below at r e
  waits_moves k t c None (Some a) e = answer_moves most s h w lives f below at a k t c
  waits_moves k t c None None e = stay refl (rest_same (w.handlers h))

  stage_moves : (x : Stage) → f.stage ≡ x → (f.stage ≡ Runs → Starting s w h f below × AsksAnother s w h f) → h < w.count → T (goes_on most s h x f below w)
  stage_moves Runs e running here = step_moves (running e).0 (running e).1 here (moves s f.current (point_of f (w.handlers h).objects)) refl
  stage_moves Reserves e running here = reserve_moves most s h w lives f below at (may_reserve (entry_needs h f w) f.mark w) (entry_needs h f w) (record f { stage = Runs; reserved = entry_needs h f w })
      (same_left most s h w lives f below at (record f { stage = Runs; reserved = entry_needs h f w })
      (record { tasks = refl; current = refl; routine = refl; origin = refl; text = refl; environment = refl }))
  stage_moves ReservesBlock e running here = reserve_moves most s h w lives f below at (may_reserve (block_needs h f w) [] w) (block_needs h f w) (record f { stage = Runs; blocks = block_needs h f w ∷ f.blocks })
      (same_left most s h w lives f below at (record f { stage = Runs; blocks = block_needs h f w ∷ f.blocks })
      (record { tasks = refl; current = refl; routine = refl; origin = refl; text = refl; environment = refl }))
  stage_moves (InCall t) e running here = fails_move most s h w lives cause.BadCode [] w
  stage_moves (Awaits k t c) e running here = waits_moves k t c (w.handlers h).callback (w.handlers h).answer refl

pub turn_moves : (most : ℕ) (s : System) (h : ℕ) (w : World) → h < w.count →
    ((f : Frame) (below : List Frame) → (w.handlers h).failure ≡ None → (w.handlers h).stack ≡ f ∷ below → f.stage ≡ Runs → Starting s w h f below × AsksAnother s w h f) →
    (why : Option Cause) → (w.handlers h).failure ≡ why → (fs : List Frame) → (w.handlers h).stack ≡ fs → FramesMove s w h (w.handlers h) ((turn_with most s h why fs w).handlers h)
turn_moves most s h w here running (Some why) i fs e = stay refl (rest_same (w.handlers h))
turn_moves most s h w here running None i [] e = next_moves most s h w i (w.handlers h).queue e refl
turn_moves most s h w here running None i (f ∷ below) e = stage_moves most s h w i f below e f.stage refl (λ r. running f below i e r) here
