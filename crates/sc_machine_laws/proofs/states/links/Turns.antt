-- Each turn of the machine is some steps of rights.
use Rattle.std.proofs.Common.{◌⊎◌, inl, inr, ◌≡◌, ◌≢◌, ℕ, suc, ◌<◌, true, List, [], ◌∷◌, ◌++◌, Option, Some, None, map, refl, sym, ap, ◌∙◌, subst}
use Rattle.std.specs.Prelude.{nat_lt}
use Rattle.std.proofs.lemmas.Bool.{ltb-true}
use Rattle.sc_tree.specs.Plain.{System}
use Rattle.sc_lockpass.specs.Rights.{is_among}
use Rattle.sc_lockpass.proofs.wait_conditions.EntryLaws.{needs_once}
use Rattle.sc_machine_laws.specs.states.World.{Asked, World}
use Rattle.sc_machine_laws.specs.states.Stands.{names_in, NeedsOf, NamesOf, IsRoutine, AreBlocks, Place, left_in, place_of, IsStaged, IsStack, Stands}
use Rattle.sc_machine_laws.proofs.states.links.Lists.{distinct_apart}
use Rattle.sc_machine_laws.proofs.states.links.Looks.{m_put-own, put_handler, stands_same}
use Rattle.sc_machine_laws.proofs.states.links.Failures.{Leads}
use Rattle.sc_machine_laws.proofs.states.links.Points.{IsOpened}
use Rattle.sc_machine_laws.proofs.states.links.FrameSteps.{Keeps, Going, stays, going_fails, blocks_map}
use Rattle.sc_machine_laws.proofs.states.links.Exits.{FormalsStay, stays_covered, if_leads, enters_leads, exits_leads, leaves_block_leads, opens_leads, clause_leads}
use Rattle.sc_machine_laws.proofs.states.links.Posts.{request_leads}
use Rattle.sc_machine_laws.proofs.states.links.Creations.{creates_leads}
use Rattle.sc_machine_laws.proofs.states.links.TakenRequests.{next_leads, callback_leads}
use Rattle.sc_machine_laws.proofs.states.links.ReserveSteps.{entry_leads, block_leads}
use Rattle.sc_machine_laws.proofs.states.links.TakenAnswers.{answer_leads}
use Rattle.sc_model.specs.declared.cause.Cause.{Cause}
use Rattle.sc_model.specs.declared.cause.Cause.TheVariants as cause
use Rattle.sc_model.specs.Values.{values_of, handler_of}
use Rattle.sc_model.specs.Environments.{separate_formals}
use Rattle.sc_model.specs.Routines.{routine_named}
use Rattle.sc_model.specs.Steps.{Act, Prints, Until, Creates, CreatesHandler, Enters, Requests, Starts, Refuses, Opens, Leaves, Exits, Fails, Step, Goes, Does, Point}
use Rattle.sc_model.specs.Moves.{moves}
use Rattle.sc_model.specs.Handlers as machine
use Rattle.sc_model.specs.Handlers.{Calls, Makes, Stage, Runs, Reserves, ReservesBlock, InCall, Awaits, point_of, frame_at, put}
use Rattle.sc_model.specs.Entries.{opened_in, entry_needs, block_needs}
use Rattle.sc_model.specs.Preconditions.{verdict_on}
use Rattle.sc_model.specs.Turns.{effect, settles, waits, goes_on, turn_with, turn}

-- ---- what is asked of the state

-- A request goes to another handler, and no block is open at a false clause of a precondition and at the exit, but one at a block's end.
abbrev pub ActFits : ℕ → machine.Frame → Act → Type 0
ActFits h f (Requests r x us gives passes) = r.handler ≢ h
ActFits h f (Refuses k) = f.blocks ≡ []
ActFits h f Exits = f.blocks ≡ []
ActFits h f Leaves = f.blocks ≡ [] → ⊥
ActFits h f other = Unit {0}

-- Only the opening of a block gives a name, and only its end takes one.
abbrev pub NamesStay : machine.Frame → Act → Point → Type 0
NamesStay f Opens p = (i : ℕ) → names_in p.tasks p.environment (suc i) ≡ names_in f.tasks f.environment i
NamesStay f Leaves p = (i : ℕ) → names_in p.tasks p.environment i ≡ names_in f.tasks f.environment (suc i)
NamesStay f (Fails why) p = (i : ℕ) → names_in p.tasks p.environment i ≡ []
NamesStay f act p = (i : ℕ) → names_in p.tasks p.environment i ≡ names_in f.tasks f.environment i

abbrev pub StepFits : ℕ → machine.Frame → Step → Type 0
StepFits h f (Goes p) = Unit {0}
StepFits h f (Does a p) = ActFits h f a × FormalsStay f p × NamesStay f a p

-- these handlers are there
abbrev pub AreThere : machine.World → List ℕ → Type 0
AreThere m ks = (k : ℕ) → is_among k ks ≡ true → k < m.count

-- of a frame on top of h's stack
abbrev pub FrameFits : System → ℕ → machine.World → machine.Frame → Stage → Type 0
FrameFits s h m f Runs = StepFits h f (moves s f.current (point_of f (m.handlers h).objects))
FrameFits s h m f Reserves = (f.blocks ≡ []) × (f.reserved ≡ []) × (f.current.handler ≡ h) × AreThere m (entry_needs h f m)
FrameFits s h m f ReservesBlock = (f.current.handler ≡ h) × IsOpened f.tasks × AreThere m (block_needs h f m)
FrameFits s h m f (InCall gives) = Unit {0}
FrameFits s h m f (Awaits k gives b) = Unit {0}

abbrev pub StackFits : System → ℕ → machine.World → List machine.Frame → Type 0
StackFits s h m [] = Unit {0}
StackFits s h m (f ∷ below) = FrameFits s h m f f.stage

-- ---- what is asked for

-- what the request asks for that comes with such an act of a frame that stands so, where `count` handlers are there
abbrev pub asked_by : ℕ → ℕ → Act → Place → Option Asked
asked_by h count (Requests r x us gives passes) at =
    Some (record { poster = h; target = r; errand = Calls x; environment = at.environment; takes = gives; lends = passes; left = at.left })
asked_by h count (CreatesHandler class procedure us t passes) at = Some (record {
  poster = h;
  target = record { handler = count; number = 1; class = class };
  errand = Makes procedure;
  environment = at.environment;
  takes = None;
  lends = passes;
  left = at.left;
})
asked_by h count other at = None

-- the same of a step of a frame on these
abbrev pub asked_in : ℕ → ℕ → List machine.Frame → Step → Option Asked
asked_in h count below (Goes p) = None
asked_in h count below (Does a p) = asked_by h count a (record { environment = p.environment; left = p.tasks ∷ left_in below })

abbrev pub asked_at : System → ℕ → machine.World → machine.Frame → List machine.Frame → Stage → Option Asked
asked_at s h m f below Runs = asked_in h m.count below (moves s f.current (point_of f (m.handlers h).objects))
asked_at s h m f below other = None

abbrev pub asked_on : System → ℕ → machine.World → List machine.Frame → Option Asked
asked_on s h m [] = None
asked_on s h m (f ∷ below) = asked_at s h m f below f.stage

-- what h asks for in its next turn, if anything
abbrev pub asked_of : System → ℕ → machine.World → Option Asked
asked_of s h m = asked_on s h m (m.handlers h).stack

-- ---- visible steps

-- what a block's opening and its end do comes with their names
abbrev IsOfNoBlock : Act → Type 0
IsOfNoBlock Opens = ⊥
IsOfNoBlock Leaves = ⊥
IsOfNoBlock act = Unit {0}

effect_leads : (G : World → Type 0) (K : Keeps G) (most : ℕ) (s : System) (h : ℕ) (a : Act) (f : machine.Frame) (below : List machine.Frame)
    (w : World) (m : machine.World)
    → w.asks ≡ asked_by h m.count a (place_of f below)
    → G w → Going w m h machine.Runs f below → f.stage ≡ Runs → ActFits h f a → IsOfNoBlock a → Leads w (effect most s h a f below m)
effect_leads G K most s h (Prints text) f below w m named good g runs fits plain =
    stays w _ (stands_same h (m.handlers h).stack w m (put h (record (m.handlers h) { output = (m.handlers h).output ++ text }) m) g.stands g.here
    (put_handler h (m.handlers h).stack (record (m.handlers h) { output = (m.handlers h).output ++ text }) m
    (record { failure = refl; stack = refl; queue = refl; callback = refl; answer = refl }))
    (g.stands.handlers h).stack refl)
effect_leads G K most s h Until f below w m named good g runs fits plain = stays w m g.stands
effect_leads G K most s h Creates f below w m named good g runs fits plain = stays w m g.stands
effect_leads G K most s h Starts f below w m named good g runs fits plain = stays w m g.stands
effect_leads G K most s h (CreatesHandler class procedure us t passing) f below w m named good g runs fits plain =
    creates_leads G K most w m h class procedure us
    t passing f below named good g runs
effect_leads G K most s h (Enters c me x us gives) f below w m named good g runs fits plain =
    enters_leads G K s w m h f below me (routine_named s me.class x) c
    (values_of us) gives good g
effect_leads G K most s h (Requests r x us gives passing) f below w m named good g runs fits plain =
    request_leads G K w m h f below r x us gives passing named good g
    runs fits
effect_leads G K most s h (Refuses k) f below w m named good g runs fits plain = clause_leads G K s w m h f below (verdict_on f k) good g fits
effect_leads G K most s h Opens f below w m named good g runs fits plain = absurd plain
effect_leads G K most s h Leaves f below w m named good g runs fits plain = absurd plain
effect_leads G K most s h Exits f below w m named good g runs fits plain = exits_leads G K s w m h f below good g fits
effect_leads G K most s h (Fails why) f below w m named good g runs fits plain = going_fails w m h machine.Runs f below why (K.consistent w good) g

-- the silent steps change the frame and the objects alone
moves_leads : (G : World → Type 0) (K : Keeps G) (most : ℕ) (s : System) (h : ℕ) (a : Act) (p : Point) (f : machine.Frame)
    (below : List machine.Frame) (w : World) (m : machine.World)
    → w.asks ≡ asked_by h m.count a (place_of (frame_at f p) below)
    → G w → Going w m h machine.Runs f below → f.stage ≡ Runs → ActFits h (frame_at f p) a → IsOfNoBlock a → FormalsStay f p
    → ((i : ℕ) → (names_in p.tasks p.environment i ≡ names_in f.tasks f.environment i) ⊎ (names_in p.tasks p.environment i ≡ []))
    → Leads w (settles most s h (Does a p) f below m)
moves_leads G K most s h a p f below w m named good g runs fits plain formals names =
    let x : machine.Handler = record (m.handlers h) { objects = p.objects; stack = frame_at f p ∷ below } in
    let own = m_put-own h (record (m.handlers h) { objects = p.objects; stack = frame_at f p ∷ below }) m in
    effect_leads G K most s h a (frame_at f p) below w (put h x m) named good (record {
      stands = stands_same h (frame_at f p ∷ below) w m (put h x m) g.stands g.here
          (put_handler h (frame_at f p ∷ below) (record (m.handlers h) { objects = p.objects; stack = frame_at f p ∷ below }) m
          (record { failure = refl; stack = refl; queue = refl; callback = refl; answer = refl }))
          (subst (λ t. IsStaged t (place_of (frame_at f p) below) (AreBlocks (NamesOf t (frame_at f p)) f.blocks (IsRoutine f (NeedsOf t (frame_at f p)) (IsStack below)))
          (w.handlers h).stack) (sym runs) (g.quiet, parts)) refl;
      here = g.here;
      lives = ap (λ (y : machine.Handler). y.failure) own ∙ g.lives;
      stack = ap (λ (y : machine.Handler). y.stack) own;
      quiet = g.quiet;
      parts = parts;
    }) runs fits plain
  where
    parts : AreBlocks (NamesOf machine.Runs (frame_at f p)) f.blocks (IsRoutine f (NeedsOf machine.Runs (frame_at f p)) (IsStack below))
        (w.handlers h).stack
    parts = blocks_map (NamesOf machine.Runs f) (NamesOf machine.Runs (frame_at f p)) f.blocks f (NeedsOf machine.Runs f)
        (NeedsOf machine.Runs (frame_at f p)) (IsStack below) (w.handlers h).stack
        (λ i js c. stays_covered f.current.handler js (names_in f.tasks f.environment i) (names_in p.tasks p.environment i) (names i) c)
        (λ js c. stays_covered f.current.handler js (separate_formals f.environment) (separate_formals p.environment) formals c) g.parts

settles_leads : (G : World → Type 0) (K : Keeps G) (most : ℕ) (s : System) (h : ℕ) (st : Step) (f : machine.Frame) (below : List machine.Frame)
    (w : World) (m : machine.World)
    → w.asks ≡ asked_in h m.count below st
    → G w → Going w m h machine.Runs f below → f.stage ≡ Runs → StepFits h f st → Leads w (settles most s h st f below m)
settles_leads G K most s h (Goes p) f below w m named good g runs fits = stays w m g.stands
settles_leads G K most s h (Does a p) f below w m named good g runs fits = by a named fits
  where
    same : (a : Act) → w.asks ≡ asked_by h m.count a (place_of (frame_at f p) below) → ActFits h (frame_at f p) a → IsOfNoBlock a → FormalsStay f p
        → ((i : ℕ) → names_in p.tasks p.environment i ≡ names_in f.tasks f.environment i) → Leads w (settles most s h (Does a p) f below m)
    same a same_asked i plain formals names = moves_leads G K most s h a p f below w m same_asked good g runs i plain formals (λ j. inl (names j))

    by : (a : Act) → w.asks ≡ asked_by h m.count a (place_of (frame_at f p) below) → StepFits h f (Does a p) → Leads w (settles most s h (Does a p) f below m)
    by (Prints text) same_asked i = same (Prints text) same_asked tt tt i.1 i.2
    by Until same_asked i = same Until same_asked tt tt i.1 i.2
    by Creates same_asked i = same Creates same_asked tt tt i.1 i.2
    by Starts same_asked i = same Starts same_asked tt tt i.1 i.2
    by (CreatesHandler class procedure us t passing) same_asked i = same (CreatesHandler class procedure us t passing) same_asked tt tt i.1 i.2
    by (Enters c me x us gives) same_asked i = same (Enters c me x us gives) same_asked tt tt i.1 i.2
    by (Requests r x us gives passing) same_asked i = same (Requests r x us gives passing) same_asked i.0 tt i.1 i.2
    by (Refuses k) same_asked i = same (Refuses k) same_asked i.0 tt i.1 i.2
    by Opens same_asked i = opens_leads w m h f below p g i.1 i.2
    by Leaves same_asked i = leaves_block_leads w m h f below p g runs i.0 i.1 i.2
    by Exits same_asked i = same Exits same_asked i.0 tt i.1 i.2
    by (Fails why) same_asked i = moves_leads G K most s h (Fails why) p f below w m same_asked good g runs tt tt i.1 (λ j. inr (i.2 j))

-- ---- turns

goes_on_leads : (G : World → Type 0) (K : Keeps G) (most : ℕ) (s : System) (h : ℕ) (stage : Stage) (f : machine.Frame) (below : List machine.Frame)
    (w : World) (m : machine.World)
    → G w → Stands w m → h < m.count → (m.handlers h).failure ≡ None → (m.handlers h).stack ≡ f ∷ below → f.stage ≡ stage
    → IsStaged stage (place_of f below) (AreBlocks (NamesOf stage f) f.blocks (IsRoutine f (NeedsOf stage f) (IsStack below))) (w.handlers h).stack
    → w.asks ≡ asked_at s h m f below stage
    → FrameFits s h m f stage
    → Leads w (goes_on most s h stage f below m)
goes_on_leads G K most s h Runs f below w m good stands here lives at runs is named fits =
    settles_leads G K most s h (moves s f.current (point_of f (m.handlers h).objects)) f below w m named good
    (record { stands = stands; here = here; lives = lives; stack = at; quiet = is.0; parts = is.1 }) runs fits
goes_on_leads G K most s h Reserves f below w m good stands here lives at runs is named fits =
    entry_leads w m h f below (K.consistent w good) (record { stands = stands; here = here; lives = lives; stack = at; quiet = is.0; parts = is.1 })
    fits.0 fits.1 fits.2 fits.3
    (distinct_apart (entry_needs h f m) (needs_once m.rights h (map handler_of (separate_formals f.environment))))
goes_on_leads G K most s h ReservesBlock f below w m good stands here lives at runs is named fits =
    block_leads w m h f below (K.consistent w good)
    (record { stands = stands; here = here; lives = lives; stack = at; quiet = is.0; parts = is.1 }) fits.0 fits.1 fits.2
    (distinct_apart (block_needs h f m) (needs_once m.rights h (map handler_of (opened_in f.environment f.tasks))))
goes_on_leads G K most s h (InCall gives) f below w m good stands here lives at runs is named fits =
    going_fails w m h machine.Runs f below cause.BadCode (K.consistent w good)
    (record { stands = stands; here = here; lives = lives; stack = at; quiet = is.0; parts = is.1 })
goes_on_leads G K most s h (Awaits k gives b) f below w m good stands here lives at runs is named fits = by (m.handlers h).callback
    (m.handlers h).answer refl refl
  where
    by : (c : Option machine.Request) (a : Option machine.Answer) → (m.handlers h).callback ≡ c → (m.handlers h).answer ≡ a
        → Leads w (waits s h c a k gives b f below m)
    by (Some r) a e e' = callback_leads G K s w m h r (f ∷ below) good stands here lives at e
    by None (Some a) e e' = answer_leads G K w m h a k gives b f below good (record { stands = stands; here = here; lives = lives; parts = is }) e'
    by None None e e' = stays w m stands

pub turn_leads : (G : World → Type 0) (K : Keeps G) (most : ℕ) (s : System) (h : ℕ) (w : World) (m : machine.World)
    → w.asks ≡ asked_of s h m → G w → Stands w m
    → (h < m.count → StackFits s h m (m.handlers h).stack) → Leads w (turn most s h m)
turn_leads G K most s h w m named good stands fits =
    if_leads w (nat_lt h m.count) _ _ (λ here. by (m.handlers h).failure (m.handlers h).stack named refl refl (ltb-true h m.count here)
    (fits (ltb-true h m.count here))) (λ none. stays w m stands)
  where
    by : (o : Option Cause) (st : List machine.Frame) → w.asks ≡ asked_on s h m st → (m.handlers h).failure ≡ o → (m.handlers h).stack ≡ st → h < m.count → StackFits s h m st
        → Leads w (turn_with most s h o st m)
    by (Some why) st same_asked e at here fits = stays w m stands
    by None [] same_asked e at here fits = next_leads G K s w m h good stands here e at
    by None (f ∷ below) same_asked e at here fits =
        goes_on_leads G K most s h f.stage f below w m good stands here e at refl
        (subst (λ l. IsStack l (w.handlers h).stack) at (stands.handlers h).stack) same_asked fits
