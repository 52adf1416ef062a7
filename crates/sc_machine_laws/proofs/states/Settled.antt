-- A handler in the middle of a turn: its topmost frame has made its move, and what the move comes to is still to be done.
use Rattle.std.specs.List.{flat_map}
use Rattle.std.specs.Prelude.{◌==◌, if◌then◌else◌}
use Rattle.std.proofs.Common.{◌++◌, ◌<◌, Bool, List, Option, Some, ap, false, refl, subst, sym, true, ℕ, ◌∙◌, ◌∷◌, ◌≡◌}
use Rattle.std.proofs.lemmas.Bool.{eqb-true}
use Rattle.sc_tree.specs.Plain.{System}
use Rattle.sc_rules.specs.declared.entity_types.entity_type.EntityType.{EntityType}
use Rattle.sc_rules.specs.Names.{RoutineName}
use Rattle.sc_lockpass.specs.declared.wait_conditions.mark.Marked.{Marked}
use Rattle.sc_model.specs.Environments.{Binding}
use Rattle.sc_model.specs.Failures.{fails_with, request_of, requests_at, to_list}
use Rattle.sc_model.specs.Handlers.{Awaits, Frame, Handler, Reply, Request, Stage, World, point_of, put, with_stack}
use Rattle.sc_model.specs.Routines.{Routine, routine_named}
use Rattle.sc_model.specs.Values.{Operand, Reference, Value}
use Rattle.sc_model.specs.declared.cause.Cause.{Cause}
use Rattle.sc_machine_laws.specs.states.Fitting.{AnswerFits, FrameFits, Gives, HandlerFits, IsThere, Linked, ObjectFits, ReplyFits, RequestFits, ValueIsThere, WorldFits, alone, called, coming_to}
use Rattle.sc_machine_laws.specs.states.Points.{Each, IsAmong, PointFits, listed}
use Rattle.sc_machine_laws.proofs.states.Remains.{ObjectsStay, failed_fits, objects_same, there_carried}
use Rattle.sc_machine_laws.proofs.states.Changes.{HasNoReply, frames_led, objects_led, put_at, put_fits, requests_led}

-- ---- a handler with the same objects

-- each handler has its objects as before
pub put_stays : (w : World) (h : ℕ) (x : Handler) → ObjectsStay (w.handlers h) x → (k : ℕ) → ObjectsStay (w.handlers k) ((put h x w).handlers k)
put_stays w h x z k = by (k == h) refl
  where
    by : (b : Bool) → (k == h) ≡ b → ObjectsStay (w.handlers k) ((put h x w).handlers k)
    by true e = subst (ObjectsStay (w.handlers k)) (sym (ap (λ b. if b then x else w.handlers k) e)) (subst (λ j. ObjectsStay (w.handlers j) x) (sym (eqb-true k h e)) z)
    by false e = subst (ObjectsStay (w.handlers k)) (sym (ap (λ b. if b then x else w.handlers k) e)) (objects_same (w.handlers k))

pub there_stays : (w : World) (h : ℕ) (x : Handler) → ObjectsStay (w.handlers h) x → (r : Reference) → IsThere w r → IsThere (put h x w) r
there_stays w h x z = there_carried w (put h x w) refl (put_stays w h x z)

-- The handler becomes another one with its objects, whose frames and requests fit.
pub replaced : (s : System) (pure : RoutineName → Bool) (w : World) (h : ℕ) (x : Handler) → ObjectsStay (w.handlers h) x → ((k : ℕ) → k < w.count → (k == h) ≡ false → HandlerFits s pure w k) →
    Each (ObjectFits s w h) (w.handlers h).objects → Each (FrameFits s pure w h) x.stack → Linked s h x.stack → Each (RequestFits s w h) (requests_at x) →
    ((v : Option Value) → x.answer ≡ Some (Reply v) → ReplyFits s (put h x w) h v) → WorldFits s pure (put h x w)
replaced s pure w h x z others objects frames linked requests answers =
    put_fits w h x s pure there others
    (subst (Each (ObjectFits s (put h x w) h)) (sym z.objects) (objects_led w (put h x w) there s pure h (w.handlers h).objects objects))
    (frames_led w (put h x w) there s pure h (λ o a. subst (λ (y : Handler). IsAmong y.objects o) (sym (put_at w h x)) (subst (λ os. IsAmong os o) (sym z.objects) a)) x.stack frames)
    linked (requests_led w (put h x w) there s pure h (requests_at x) requests) answers
  where
    there : (r : Reference) → IsThere w r → IsThere (put h x w) r
    there = there_stays w h x z

-- ---- the topmost frame

-- The frame fits, where values of these types are still to come.
pub record TopFits (s : System) (pure : RoutineName → Bool) (w : World) (h : ℕ) (coming : List EntityType) (f : Frame) : Type 0 where
  pub is_own : f.current.handler ≡ h
  pub is_there : IsAmong (w.handlers h).objects f.current
  pub is_version : routine_named s f.current.class f.routine.name ≡ Some f.routine
  pub point_fits : PointFits s pure f.routine h coming (point_of f (w.handlers h).objects)
  pub names_are_there : Each (λ (b : Binding). ValueIsThere w b.value) f.environment
  pub values_are_there : Each (λ (u : Operand). ValueIsThere w u.value) (f.values ++ f.olds ++ listed f.result)

pub top_of : (s : System) (pure : RoutineName → Bool) (w : World) (h : ℕ) (f : Frame) → FrameFits s pure w h f → TopFits s pure w h (coming_to f.stage) f
top_of s pure w h f e = record {
  is_own = e.is_own;
  is_there = e.is_there;
  is_version = e.is_version;
  point_fits = e.point_fits;
  names_are_there = e.names_are_there;
  values_are_there = e.values_are_there;
}

-- at a stage that waits for these
pub staged : (s : System) (pure : RoutineName → Bool) (w : World) (h : ℕ) (coming : List EntityType) (f : Frame) → TopFits s pure w h coming f →
    (x : Stage) (ks : List ℕ) (kss : List (List ℕ)) (mark : List Marked) → coming_to x ≡ coming → FrameFits s pure w h (record f { stage = x; reserved = ks; blocks = kss; mark = mark })
staged s pure w h coming f e x ks kss mark i = record {
  is_own = e.is_own;
  is_there = e.is_there;
  is_version = e.is_version;
  point_fits = subst (λ ts. PointFits s pure f.routine h ts (point_of f (w.handlers h).objects)) (sym i) e.point_fits;
  names_are_there = e.names_are_there;
  values_are_there = e.values_are_there;
}

-- who called the topmost frame, called one with its origin and routine
pub relinked : (s : System) (h : ℕ) (f g : Frame) (below : List Frame) → g.origin ≡ f.origin → g.routine ≡ f.routine → Linked s h (f ∷ below) → Linked s h (g ∷ below)
relinked s h f g below i j (alone {r} e y z) = alone {r = r} (i ∙ e) (ap (λ (r : Routine). r.text.result) j ∙ y) z
relinked s h f g _ i j (called {g = x} {below} {c} {t} o e y z) = called {g = x} {below = below} {c = c} {t = t} (i ∙ o) e (subst (λ (r : Routine). Gives s h r.text.result h x.environment t) (sym j) y) z

-- the requests of frames with these origins
pub requests_as : (x : Handler) (f g : Frame) (below : List Frame) → request_of g.origin ≡ request_of f.origin → x.stack ≡ f ∷ below → requests_at (record x { stack = g ∷ below }) ≡ requests_at x
requests_as x f g below origin is = ap (λ rs. x.queue ++ to_list x.callback ++ (rs ++ flat_map (λ (f : Frame). request_of f.origin) below)) origin
    ∙ ap (λ fs. x.queue ++ to_list x.callback ++ flat_map (λ (f : Frame). request_of f.origin) fs) (sym is)

-- no reply comes to a handler whose topmost frame waits for none
pub no_reply_to : (s : System) (w : World) (h : ℕ) (f : Frame) (below : List Frame) → (w.handlers h).stack ≡ f ∷ below →
    ((k : ℕ) (t : Option EntityType) (c : Bool) → f.stage ≡ Awaits k t c → ⊥) → AnswerFits s w h → HasNoReply (w.handlers h)
no_reply_to s w h f below is unmet fits v a = of_reply (fits v a)
  where
    top : {f g : Frame} {fs gs : List Frame} → f ∷ fs ≡ g ∷ gs → f ≡ g
    top e = cc

    of_reply : ReplyFits s w h v → ⊥
    of_reply z = unmet z.supplier z.takes z.is_creation (ap (λ (y : Frame). y.stage) (top (sym is ∙ z.stack_is)) ∙ z.stage_is)

-- ---- the handler

-- All fits, where values of these types are still to come onto those of the topmost frame.
pub record Settled (s : System) (pure : RoutineName → Bool) (w : World) (h : ℕ) (coming : List EntityType) (f : Frame) (below : List Frame) : Type 0 where
  pub is_one : h < w.count
  pub others_fit : (k : ℕ) → k < w.count → (k == h) ≡ false → HandlerFits s pure w k
  pub objects_fit : Each (ObjectFits s w h) (w.handlers h).objects
  pub stack_is : (w.handlers h).stack ≡ f ∷ below
  pub top_fits : TopFits s pure w h coming f
  pub below_fit : Each (FrameFits s pure w h) below
  pub are_linked : Linked s h (f ∷ below)
  pub requests_fit : Each (RequestFits s w h) (requests_at (w.handlers h))
  pub has_no_reply : HasNoReply (w.handlers h)

-- where the topmost frame waits for no answer
pub settled_now : (s : System) (pure : RoutineName → Bool) (w : World) (h : ℕ) (f : Frame) (below : List Frame) → WorldFits s pure w → h < w.count → (w.handlers h).stack ≡ f ∷ below →
    ((k : ℕ) (t : Option EntityType) (c : Bool) → f.stage ≡ Awaits k t c → ⊥) → Settled s pure w h (coming_to f.stage) f below
settled_now s pure w h f below fits l is unmet = record {
  is_one = l;
  others_fit = λ k m e. fits k m;
  objects_fit = own.objects_fit;
  stack_is = is;
  top_fits = top_of s pure w h f frames.0;
  below_fit = frames.1;
  are_linked = subst (Linked s h) is own.frames_are_linked;
  requests_fit = own.requests_fit;
  has_no_reply = no_reply_to s w h f below is unmet own.answer_fits;
}
  where
    own : HandlerFits s pure w h
    own = fits h l

    frames : Each (FrameFits s pure w h) (f ∷ below)
    frames = subst (Each (FrameFits s pure w h)) is own.frames_fit

module _ (s : System) (pure : RoutineName → Bool) (w : World) (h : ℕ) (coming : List EntityType) (f : Frame) (below : List Frame) (z : Settled s pure w h coming f below) where
  -- what fits of each handler
  pub settled_objects : (k : ℕ) → k < w.count → Each (ObjectFits s w k) (w.handlers k).objects
  settled_objects k l = by (k == h) refl
    where
      by : (b : Bool) → (k == h) ≡ b → Each (ObjectFits s w k) (w.handlers k).objects
      by true e = subst (λ j. Each (ObjectFits s w j) (w.handlers j).objects) (sym (eqb-true k h e)) z.objects_fit
      by false e = (z.others_fit k l e).objects_fit

  pub settled_requests : (k : ℕ) → k < w.count → Each (RequestFits s w k) (requests_at (w.handlers k))
  settled_requests k l = by (k == h) refl
    where
      by : (b : Bool) → (k == h) ≡ b → Each (RequestFits s w k) (requests_at (w.handlers k))
      by true e = subst (λ j. Each (RequestFits s w j) (requests_at (w.handlers j))) (sym (eqb-true k h e)) z.requests_fit
      by false e = (z.others_fit k l e).requests_fit

  -- the handler fails
  pub settled_fails : (why : Cause) (taken : List Request) → WorldFits s pure (fails_with h why taken w)
  settled_fails why taken = failed_fits s pure w h why taken f.current z.top_fits.is_there (λ l. z.objects_fit) z.others_fit

  -- its stack becomes one that fits
  pub settled_stack : (fs : List Frame) → Each (FrameFits s pure w h) fs → Linked s h fs → Each (RequestFits s w h) (requests_at (record (w.handlers h) { stack = fs })) →
      WorldFits s pure (with_stack h fs w)
  settled_stack fs frames linked requests = replaced s pure w h (record (w.handlers h) { stack = fs }) (record { objects = refl; queue = λ i. refl }) z.others_fit z.objects_fit frames linked requests
      (λ v a. absurd (z.has_no_reply v a))

  -- The topmost frame comes to a stage that waits for these.
  pub settled_top : (x : Stage) (ks : List ℕ) (kss : List (List ℕ)) (mark : List Marked) → coming_to x ≡ coming →
      WorldFits s pure (with_stack h (record f { stage = x; reserved = ks; blocks = kss; mark = mark } ∷ below) w)
  settled_top x ks kss mark i = settled_stack (record f { stage = x; reserved = ks; blocks = kss; mark = mark } ∷ below)
      (staged s pure w h coming f z.top_fits x ks kss mark i, z.below_fit)
      (relinked s h f (record f { stage = x; reserved = ks; blocks = kss; mark = mark }) below refl refl z.are_linked)
      (subst (Each (RequestFits s w h)) (sym (requests_as (w.handlers h) f (record f { stage = x; reserved = ks; blocks = kss; mark = mark }) below refl z.stack_is)) z.requests_fit)
