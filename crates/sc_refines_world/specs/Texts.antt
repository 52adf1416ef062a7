-- The names and operands of each frame have the types that the text gives them.
use Rattle.std.specs.Prelude.{◌≡◌, ◌++◌, ◌<◌, ℕ, Bool, true, false, Contains}
use Rattle.sc_tree.specs.Plain.{System}
use Rattle.sc_rules.specs.Names.{Entities, Entity, RoutineName, formals_known, is_local, locals_known}
use Rattle.sc_rules.specs.Purity.{IsPurity}
use Rattle.sc_model.specs.Environments.{is_formal, scope_of}
use Rattle.sc_model.specs.Handlers.{Frame, World, point_of}
use Rattle.sc_model.specs.Routines.{Routine}
use Rattle.sc_machine_laws.specs.states.Fitting.{coming_to}
use Rattle.sc_machine_laws.specs.states.Points.{Agrees}
use Rattle.sc_machine_laws.specs.states.Typed.{IsTyped, Known}

-- ---- names

-- The name `e` is no formal. If it is a local, the routine declares it, with the type that the text gives it.
pub record IsBehindFormals (s : System) (r : Routine) (e : Entity) : Type 0 where
  pub is_no_formal : is_formal e.role ≡ false
  pub local_is_declared : is_local e.role ≡ true → Contains (locals_known s r.text.formals r.locals) e

-- The frame knows the formals of its routine first, in order, with the types that the text gives them, and
-- other names after them.
pub record KnowsItsText (s : System) (f : Frame) : Type 0 where
  pub others : Entities
  pub names_are : scope_of f.environment ≡ formals_known s f.routine.text.formals ++ others
  pub others_are : (e : Entity) → Contains others e → IsBehindFormals s f.routine e

abbrev pub FramesKnowTheirTexts : System → World → Type 0
FramesKnowTheirTexts s w = (h : ℕ) (f : Frame) → h < w.count → Contains (w.handlers h).stack f → KnowsItsText s f

-- ---- operands

-- The rules type what is left to do in the frame, from the types of its names, of its operands, of the values kept
-- for `old` and of the value that it waits for.
pub record IsTypedByRules (s : System) (w : World) (h : ℕ) (f : Frame) : Type 0 where
  pub pure : RoutineName → Bool
  pub is_purity : IsPurity s pure
  pub known : Known
  pub agrees : Agrees (point_of f (w.handlers h).objects) (coming_to f.stage) known
  pub is_typed : IsTyped s pure f.routine f.tasks known

abbrev pub FramesAreTyped : System → World → Type 0
FramesAreTyped s w = (h : ℕ) (f : Frame) → h < w.count → Contains (w.handlers h).stack f → IsTypedByRules s w h f
