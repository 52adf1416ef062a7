-- In each state that an accepted system reaches, each frame knows the formals and locals of its routine, of the types that the text
-- gives them, and what is left to do in it is typed by the rules.
use Rattle.std.proofs.Common.{ℕ, ◌≡◌, ◌≢◌, ◌⊎◌, ◌<◌, ◌≤◌, Bool, true, false, List, [], ◌∷◌, Option, Some, None, sym, subst, inl, inr}
use Rattle.std.proofs.lemmas.Bool.{cases_eq, cases_lt}
use Rattle.std.specs.Option.{option_map_or}
use Rattle.std.specs.Prelude.{if◌then◌else◌, nat_lt}
use Rattle.sc_tree.specs.Plain.{System}
use Rattle.sc_class.specs.ClassNames.{Root, number_of}
use Rattle.sc_class.specs.Faults.ClassRules.{IsFaultless}
use Rattle.sc_rules.specs.declared.entity_types.entity_type.EntityType.{EntityType}
use Rattle.sc_rules.specs.SystemRules.{WellFormed}
use Rattle.sc_rules.proofs.PurityStands.{purity_stands}
use Rattle.sc_model.specs.Environments.{Binding}
use Rattle.sc_model.specs.Exits.{handed, handed_as, handed_at}
use Rattle.sc_model.specs.Handlers.{Awaits, Frame, Handler, InCall, Reserves, Request, ReservesBlock, Runs, Stage, World, new_handler, point_of}
use Rattle.sc_model.specs.Routines.{Routine, Text}
use Rattle.sc_model.specs.Runs.{IsReached, opening, root_request}
use Rattle.sc_model.specs.Steps.{Act, Creates, CreatesHandler, Does, Enters, Exits, Fails, Leaves, Opens, Point, Prints, Refuses, Requests, Starts, Step, Until}
use Rattle.sc_model.specs.Tasks.{Task, tasks_of}
use Rattle.sc_model.specs.Turns.{turn}
use Rattle.sc_model.specs.Values.{Reference, Value, values_of}
use Rattle.sc_machine_laws.specs.RequestLaws.{Stays}
use Rattle.sc_machine_laws.proofs.Turned.{others_stay}
use Rattle.sc_machine_laws.specs.states.Fitting.{FrameFits}
use Rattle.sc_machine_laws.specs.states.Points.{Each}
use Rattle.sc_machine_laws.proofs.states.Lists.{each_in}
use Rattle.sc_refines_world.specs.Moving as moving
use Rattle.sc_refines_world.specs.Moving.{Acts, ComesTo, FramesMove, GoesOn, IsEntered, IsTaken, call, end, fall, go_on, is_plain, refuse, return, stay, take_callback, take_next}
use Rattle.sc_refines_world.specs.Texts.{FramesAreTyped, FramesKnowTheirTexts, IsBehindFormals}
use Rattle.sc_refines_world.proofs.ReachedMoves.{reached_turns_move}
use Rattle.sc_refines_world.proofs.Creations.{created_begin}
use Rattle.sc_refines_world.proofs.ReachedStates.{in_each, reached_fits}
use Rattle.sc_refines_world.proofs.Scopes as scopes
use Rattle.sc_refines_world.proofs.MoveScopes.{moves_leave}
use Rattle.sc_refines_world.proofs.TaskTexts.{AreOf, routine_is}
use Rattle.sc_refines_world.proofs.KnownFormals.{Knows, entry_knows}

-- ---- a frame

-- it knows its names, and what is left to do declares no others
abbrev Such : System → Routine → Text → List Binding → List Task → Type 0
Such s r t bs ts = Knows s r bs × AreOf r t ts

abbrev IsSuch : System → Frame → Type 0
IsSuch s f = Such s f.routine f.text f.environment f.tasks

such_to : (s : System) (r : Routine) (t : Text) (bs : List Binding) (ts : List Task) (g : Frame) → g.routine ≡ r → g.text ≡ t → g.environment ≡ bs → g.tasks ≡ ts →
    Such s r t bs ts → IsSuch s g
such_to s r t bs ts g routine text environment tasks is =
    subst (λ q. Such s q g.text g.environment g.tasks) (sym routine)
    (subst (λ u. Such s r u g.environment g.tasks) (sym text)
    (subst (λ cs. Such s r t cs g.tasks) (sym environment)
    (subst (λ us. Such s r t bs us) (sym tasks) is)))

entered_such : (s : System) (r : Reference) (x : List ℕ) (vs : List Value) (f : Frame) → f.tasks ≡ tasks_of f.routine → IsEntered s r x vs f → IsSuch s f
entered_such s r x vs f tasks e =
    (entry_knows s f.routine vs f.environment e.has_actuals, subst (AreOf f.routine f.text) (sym tasks) (routine_is f.routine f.text))

module _ (s : System) (w : World) (h : ℕ) (f : Frame) (is : IsSuch s f) where
  abbrev After : Step → Type 0
  After x = scopes.Leaves s f.current f.routine x

  -- what its move comes to
  at_move : (a : Act) (p : Point) → Acts s w h f a p → After (Does a p)
  at_move a p move = subst After move (moves_leave s f.current f.routine (point_of f (w.handlers h).objects) is)

  plain_left : (a : Act) (p : Point) → is_plain a ≡ true → After (Does a p) → Such s f.routine p.text p.environment p.tasks
  plain_left (Prints text) p plain l = l
  plain_left Until p plain l = l
  plain_left Creates p plain l = l
  plain_left (CreatesHandler class k us t b) p plain l = l
  plain_left (Enters c o x us t) p plain l = l
  plain_left (Requests o x us t b) p plain l = l
  plain_left Starts p plain l = l
  plain_left (Refuses k) p plain l = l
  plain_left Opens p plain l = l
  plain_left Leaves p plain l = l
  plain_left Exits p plain l = l
  plain_left (Fails why) p plain l = let no : false ≡ true = plain in cc

  goes_such : (g : Frame) → g.routine ≡ f.routine → GoesOn s w h f g → IsSuch s g
  goes_such g routine (moving.GoesOn.stood text environment tasks) = such_to s f.routine f.text f.environment f.tasks g routine text environment tasks is
  goes_such g routine (moving.GoesOn.moved {a} {p} move plain text environment tasks) =
      such_to s f.routine p.text p.environment p.tasks g routine text environment tasks (plain_left a p plain (at_move a p move))
  goes_such g routine (moving.GoesOn.again {k} {p} move waits text environment tasks) =
      let l : Such s f.routine p.text p.environment p.tasks = at_move (Refuses k) p move in
      such_to s f.routine p.text p.environment (tasks_of f.routine) g routine text environment tasks (l.0, routine_is f.routine p.text)

-- ---- a stack

abbrev AllSuch : System → List Frame → Type 0
AllSuch s fs = Each (IsSuch s) fs

handed_such : (s : System) (v : Option Value) (below : List Frame) → AllSuch s below → AllSuch s (handed v below)
handed_such s v [] all = tt
handed_such s v (f ∷ below) all = (by f.stage, all.1)
  where
    given : (t : Option EntityType) (v : Option Value) → IsSuch s (handed_as t v f)
    given (Some t) (Some v) = all.0
    given (Some t) None = all.0
    given None v = all.0

    by : (x : Stage) → IsSuch s (handed_at x v f)
    by (InCall t) = given t v
    by Runs = all.0
    by Reserves = all.0
    by ReservesBlock = all.0
    by (Awaits k t b) = all.0

taken_such : (s : System) (r : Request) (below stack : List Frame) → IsTaken s r below stack → AllSuch s below → AllSuch s stack
taken_such s r below stack (moving.IsTaken.done none e) all = subst (AllSuch s) (sym e) all
taken_such s r below stack (moving.IsTaken.begun {f} {x} e begins name entered) all =
    subst (AllSuch s) (sym e) (entered_such s r.target x r.actuals f begins.tasks_are entered, all)

module _ (s : System) (w : World) (h : ℕ) (x y : Handler) where
  moved_such : FramesMove s w h x y → AllSuch s x.stack → AllSuch s y.stack
  moved_such (stay e rest) all = subst (AllSuch s) (sym e) all
  moved_such (go_on {f} {g} {below} before after comes rest) all =
      let was = subst (AllSuch s) before all in
      subst (AllSuch s) (sym after) (goes_such s w h f was.0 g comes.routine_stays comes.goes_on, was.1)
  moved_such (call {f} {g} {called} {below} {c} before after comes calls rest) all =
      let was = subst (AllSuch s) before all in
      subst (AllSuch s) (sym after) (
        entered_such s calls.object calls.name (values_of calls.actuals) called calls.begins.tasks_are calls.is_entered,
        (goes_such s w h f was.0 g comes.routine_stays comes.goes_on, was.1),
      )
  moved_such (return {f} {below} {c} {p} before origin move after rest) all =
      let was = subst (AllSuch s) before all in subst (AllSuch s) (sym after) (handed_such s (moving.given_at p) below was.1)
  moved_such (end before origin move after rest) all = let was = subst (AllSuch s) before all in subst (AllSuch s) (sym after) was.1
  moved_such (refuse before origin move refused after rest) all = let was = subst (AllSuch s) before all in subst (AllSuch s) (sym after) was.1
  moved_such (take_next {r} none queue callback failure taken) all = taken_such s r [] y.stack taken tt
  moved_such (take_callback {r} callback gone queue failure taken) all = taken_such s r x.stack y.stack taken all
  moved_such (fall falls) all = subst (AllSuch s) (sym falls.stack_is) tt

-- ---- each state that is reached

module _ (s : System) (root : Root) (faultless : IsFaultless s root) (well : WellFormed s) (most : ℕ) where
  abbrev EachSuch : World → Type 0
  EachSuch w = (k : ℕ) → k < w.count → AllSuch s (w.handlers k).stack

  opening_such : EachSuch (opening s root)
  opening_such k less = by (nat_lt k 1)
    where
      by : (b : Bool) →
          AllSuch s (if b then record new_handler { queue = root_request (option_map_or (λ k. k) (number_of s root.class) 0) root.procedure ∷ [] } else new_handler).stack
      by true = tt
      by false = tt

  turn_such : (h : ℕ) (w : World) → IsReached most s root w → EachSuch w → EachSuch (turn most s h w)
  turn_such h w reached all k less = by (cases_lt k w.count)
    where
      there : k < w.count → (k ≡ h) ⊎ (k ≢ h) → AllSuch s ((turn most s h w).handlers k).stack
      there here (inl e) =
          let own : h < w.count = subst (λ (j : ℕ). j < w.count) e here in
          subst (λ (j : ℕ). AllSuch s ((turn most s h w).handlers j).stack) (sym e)
          (moved_such s w h (w.handlers h) ((turn most s h w).handlers h) (reached_turns_move s root faultless well most w reached h own).0 (all h own))
      there here (inr other) =
          let stays : Stays w h k ((turn most s h w).handlers k) = others_stay most s w h k here other in
          subst (AllSuch s) (sym stays.stack_stays) (all k here)

      by : (k < w.count) ⊎ (w.count ≤ k) → AllSuch s ((turn most s h w).handlers k).stack
      by (inl here) = there here (cases_eq k h)
      by (inr new) = subst (AllSuch s) (sym (created_begin most s w h k new less).1.stack_is) tt

  reached_such : (w : World) → IsReached most s root w → EachSuch w
  reached_such w reached = in_each s root most EachSuch turn_such opening_such w reached

  pub reached_frames_know : (w : World) → IsReached most s root w → FramesKnowTheirTexts s w
  reached_frames_know w reached h f here i =
      let k = (each_in (IsSuch s) (w.handlers h).stack f (reached_such w reached h here) i).0 in
      record { others = k.others; names_are = k.names_are; others_are = λ e c. each_in (IsBehindFormals s f.routine) k.others e k.others_are c }

  pub reached_frames_are_typed : (w : World) → IsReached most s root w → FramesAreTyped s w
  reached_frames_are_typed w reached h f here i =
      let p = purity_stands s in
      let z = each_in (FrameFits s p.0 w h) (w.handlers h).stack f (reached_fits s root p.0 faultless well p.1 most w reached h here).frames_fit i in
      record { pure = p.0; is_purity = p.1; known = z.point_fits.known; agrees = z.point_fits.agrees; is_typed = z.point_fits.is_typed }
