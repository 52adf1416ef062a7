-- Each turn keeps the handlers of the machine sound.
use Rattle.std.proofs.Common.{◌≡◌, ℕ, ◌<◌, Bool, true, false, List, [], ◌∷◌, Option, Some, None, length, refl, sym, ap, ◌∙◌, subst}
use Rattle.std.specs.Prelude.{nat_lt}
use Rattle.std.proofs.lemmas.Bool.{ltb-true}
use Rattle.sc_tree.specs.Plain.{System}
use Rattle.sc_lockpass.specs.wait_conditions.Reservations.{reserve_fails}
use Rattle.sc_model.specs.declared.cause.Cause.{Cause}
use Rattle.sc_model.specs.declared.cause.Cause.TheVariants as cause
use Rattle.sc_model.specs.Steps.{Point, Act, Prints, Until, Creates, CreatesHandler, Enters, Requests, Starts, Refuses, Opens, Leaves, Exits, Fails, Step, Goes, Does}
use Rattle.sc_model.specs.Moves.{moves}
use Rattle.sc_model.specs.Handlers.{Request, Answer, Stage, Runs, Reserves, ReservesBlock, InCall, Awaits, Frame, Handler, World, point_of, frame_at, put}
use Rattle.sc_model.specs.Sessions as sessions
use Rattle.sc_model.specs.Entries.{entry_needs, block_needs, reserves_if, may_reserve}
use Rattle.sc_model.specs.Takes.{takes_next}
use Rattle.sc_model.specs.Turns.{settles, waits, goes_on, turn_with, turn}
use Rattle.sc_machine_laws.proofs.states.links.Looks.{m_put-own, m_put-off}
use Rattle.sc_machine_laws.proofs.states.links.Points.{Formals, Every, ObjectKnown, IfSome, IsWell, DoesWell, StepsWell}
use Rattle.sc_machine_laws.proofs.states.links.RoutineSteps.{moves_well}
use Rattle.sc_machine_laws.proofs.states.links.Sound.{formals_of, IsStageSound, IsFrameSound, IsRequestSound, IsAnswerSound, IsHandlerSound, IsSound, put_sound, sound_but, stack_sound, fail_sound}
use Rattle.sc_machine_laws.proofs.states.links.Effects.{if_sound, takes_sound, answer_sound}
use Rattle.sc_machine_laws.proofs.states.links.SoundEffects.{effect_sound}

-- ---- turns

objects_of : (K : ℕ → Type 0) (c : Formals) (h n : ℕ) (a : Act) (p : Point) → DoesWell K c h n a p → Every (ObjectKnown K) p.objects
objects_of K c h n (Prints text) p w = w.objects
objects_of K c h n Until p w = w.objects
objects_of K c h n Creates p w = w.objects
objects_of K c h n Starts p w = w.objects
objects_of K c h n (CreatesHandler class procedure us t passing) p w = w.1.objects
objects_of K c h n (Enters call r x us gives) p w = w.2.objects
objects_of K c h n (Requests r x us gives passing) p w = w.2.objects
objects_of K c h n (Refuses k) p w = w.1.objects
objects_of K c h n Opens p w = w.0.objects
objects_of K c h n Leaves p w = w.2.objects
objects_of K c h n Exits p w = w.1.objects
objects_of K c h n (Fails why) p w = w.0

settles_sound : (most : ℕ) (s : System) (h : ℕ) (st : Step) (f : Frame) (below : List Frame) (m : World) → IsSound m
    → (m.handlers h).stack ≡ f ∷ below → f.stage ≡ Runs → h < m.count → StepsWell (λ j. j < m.count) (formals_of f) h (length f.blocks) st
    → IsSound (settles most s h st f below m)
settles_sound most s h (Goes p) f below m sound at runs here w = sound
settles_sound most s h (Does a p) f below m sound at runs here w =
    let x : Handler = record (m.handlers h) { objects = p.objects; stack = frame_at f p ∷ below } in
    let own : (put h x m).handlers h ≡ x = m_put-own h (record (m.handlers h) { objects = p.objects; stack = frame_at f p ∷ below }) m in
    let mine = sound h in
    let frames = subst (Every (IsFrameSound (λ j. j < m.count) h)) at (sound h).stack in
    effect_sound most s h a f p below (put h x m) (record {
      but = record {
        others = λ k ne. subst (IsHandlerSound (λ j. j < m.count) k)
            (sym (m_put-off h (record (m.handlers h) { objects = p.objects; stack = frame_at f p ∷ below }) m k ne)) (sound k);
        objects = subst (λ (y : Handler). Every (ObjectKnown (λ j. j < m.count)) y.objects) (sym own)
            (objects_of (λ j. j < m.count) (formals_of f) h (length f.blocks) a p w);
        queue = subst (λ (y : Handler). Every (IsRequestSound (λ j. j < m.count) h) y.queue) (sym own) mine.queue;
        callback = subst (λ (y : Handler). IfSome (IsRequestSound (λ j. j < m.count) h) y.callback) (sym own) mine.callback;
        answer = subst (λ (y : Handler). IfSome (IsAnswerSound (λ j. j < m.count)) y.answer) (sym own) mine.answer;
      };
      stack = ap (λ (y : Handler). y.stack) own;
      under = frames.1;
      current = frames.0.current;
      runs = runs;
      here = here;
    }) w

-- the frame that goes on, with the objects of its handler
frame_well : (h : ℕ) (f : Frame) (m : World) → IsSound m → IsFrameSound (λ j. j < m.count) h f → f.stage ≡ Runs
    → IsWell (λ j. j < m.count) (formals_of f) (length f.blocks) (point_of f (m.handlers h).objects)
frame_well h f m sound s runs = record {
  objects = (sound h).objects;
  environment = s.environment;
  result = s.result;
  olds = s.olds;
  values = s.values;
  tasks = s.tasks;
  left = subst (λ t. IsStageSound t f) runs s.staged;
  formals = s.formals;
}

pub moves_sound : (s : System) (h : ℕ) (f : Frame) (m : World) → IsSound m → h < m.count → IsFrameSound (λ j. j < m.count) h f → f.stage ≡ Runs
    → StepsWell (λ j. j < m.count) (formals_of f) h (length f.blocks) (moves s f.current (point_of f (m.handlers h).objects))
moves_sound s h f m sound here is runs =
    subst (λ i. StepsWell (λ j. j < m.count) (formals_of f) i (length f.blocks) (moves s f.current (point_of f (m.handlers h).objects))) is.current
    (moves_well (λ j. j < m.count) (formals_of f) s f.current (subst (λ i. i < m.count) (sym is.current) here) (length f.blocks)
    (point_of f (m.handlers h).objects) (frame_well h f m sound is runs))

reserved_sound : (b : Bool) (h : ℕ) (ks : List ℕ) (f : Frame) (below : List Frame) (m : World) → IsSound m → IsFrameSound (λ j. j < m.count) h f
    → Every (IsFrameSound (λ j. j < m.count) h) below → IsSound (reserves_if b h ks f below m)
reserved_sound false h ks f below m sound is under = sound
reserved_sound true h ks f below m sound is under = if_sound (reserve_fails (sessions.standing_in m) m.rights ks) _ _
    (λ e. fail_sound h cause.SupplierFailed m (sound_but h m sound)) (λ e. stack_sound h (f ∷ below) m (sound_but h m sound) (is, under))

goes_on_sound : (most : ℕ) (s : System) (h : ℕ) (stage : Stage) (f : Frame) (below : List Frame) (m : World) → IsSound m
    → (m.handlers h).stack ≡ f ∷ below → f.stage ≡ stage → h < m.count → IsSound (goes_on most s h stage f below m)
goes_on_sound most s h stage f below m sound at staged here = by stage staged
  where
    frames : Every (IsFrameSound (λ j. j < m.count) h) (f ∷ below)
    frames = subst (Every (IsFrameSound (λ j. j < m.count) h)) at (sound h).stack

    by : (t : Stage) → f.stage ≡ t → IsSound (goes_on most s h t f below m)
    by Runs e = settles_sound most s h (moves s f.current (point_of f (m.handlers h).objects)) f below m sound at e here
        (moves_sound s h f m sound here frames.0 e)
    by Reserves e =
        let g = frames.0 in
        let left = subst (λ t. IsStageSound t f) e g.staged in
        reserved_sound (may_reserve (entry_needs h f m) f.mark m) h (entry_needs h f m)
        (record f { stage = Runs; reserved = entry_needs h f m }) below m sound
        (record {
          current = g.current;
          environment = g.environment;
          result = g.result;
          olds = g.olds;
          values = g.values;
          tasks = g.tasks;
          staged = left.0;
          formals = g.formals;
        }) frames.1
    by ReservesBlock e =
        let g = frames.0 in
        reserved_sound (may_reserve (block_needs h f m) [] m) h (block_needs h f m)
        (record f { stage = Runs; blocks = block_needs h f m ∷ f.blocks }) below m sound
        (record {
          current = g.current;
          environment = g.environment;
          result = g.result;
          olds = g.olds;
          values = g.values;
          tasks = g.tasks;
          staged = (subst (λ t. IsStageSound t f) e g.staged).0;
          formals = g.formals;
        }) frames.1
    by (InCall gives) e = fail_sound h cause.BadCode m (sound_but h m sound)
    by (Awaits k gives b) e = waiting (m.handlers h).callback (m.handlers h).answer (sound h).callback (sound h).answer
      where
        waiting : (c : Option Request) (a : Option Answer) → IfSome (IsRequestSound (λ j. j < m.count) h) c
            → IfSome (IsAnswerSound (λ j. j < m.count)) a → IsSound (waits s h c a k gives b f below m)
        waiting (Some q) a is i =
            let x = sound h in
            takes_sound s h q q.errand (f ∷ below) (put h (record (m.handlers h) { callback = None }) m)
            (put_sound h (record (m.handlers h) { callback = None }) m
            (λ j ne. sound j) (record { objects = x.objects; stack = x.stack; queue = x.queue; callback = tt; answer = x.answer }))
            (ap (λ (y : Handler). y.stack) (m_put-own h (record (m.handlers h) { callback = None }) m) ∙ at) is
        waiting None (Some a) is i = answer_sound h a k gives b f below m sound at e i
        waiting None None is i = sound

pub turn_sound : (most : ℕ) (s : System) (h : ℕ) (m : World) → IsSound m → IsSound (turn most s h m)
turn_sound most s h m sound = if_sound (nat_lt h m.count) _ _ (λ e. by (m.handlers h).failure (m.handlers h).stack refl (ltb-true h m.count e))
    (λ e. sound)
  where
    next : (qs : List Request) → (m.handlers h).stack ≡ [] → Every (IsRequestSound (λ j. j < m.count) h) qs → IsSound (takes_next s h qs m)
    next [] at is = sound
    next (q ∷ qs) at is =
        let x = sound h in
        takes_sound s h q q.errand [] (put h (record (m.handlers h) { queue = qs }) m)
        (put_sound h (record (m.handlers h) { queue = qs }) m
        (λ j ne. sound j) (record { objects = x.objects; stack = x.stack; queue = is.1; callback = x.callback; answer = x.answer }))
        (ap (λ (y : Handler). y.stack) (m_put-own h (record (m.handlers h) { queue = qs }) m) ∙ at) is.0

    by : (o : Option Cause) (st : List Frame) → (m.handlers h).stack ≡ st → h < m.count → IsSound (turn_with most s h o st m)
    by (Some why) st at here = sound
    by None [] at here = next (m.handlers h).queue at (sound h).queue
    by None (f ∷ below) at here = goes_on_sound most s h f.stage f below m sound at refl here
