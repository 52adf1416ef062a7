-- A handler without frames gets none in a turn of another one, also where it is new.
use Rattle.std.proofs.Common.{◌≡◌, ◌≢◌, ⊎_elim, ℕ, ◌==◌, ◌&&◌, Bool, true, false, List, [], ◌∷◌, ◌++◌, Option, Some, None, refl, ap, ◌∙◌}
use Rattle.std.specs.Prelude.{if◌then◌else◌, nat_lt}
use Rattle.sc_tree.specs.Plain.{System}
use Rattle.sc_rules.specs.declared.entity_types.entity_type.EntityType.{EntityType}
use Rattle.sc_lockpass.specs.Rights.{is_among}
use Rattle.sc_lockpass.specs.wait_conditions.Reservations.{ends_session}
use Rattle.sc_lockpass.specs.declared.wait_conditions.session.Release.TheVariants as release_at
use Rattle.sc_model.specs.declared.cause.Cause.{Cause}
use Rattle.sc_model.specs.declared.cause.Cause.TheVariants as cause
use Rattle.sc_model.specs.Values.{Reference, Attached, Operand, operand, values_of}
use Rattle.sc_model.specs.Routines.{routine_named}
use Rattle.sc_model.specs.Steps.{Act, Prints, Until, Creates, CreatesHandler, Enters, Requests, Starts, Refuses, Opens, Leaves, Exits, Fails, Step, Goes, Does}
use Rattle.sc_model.specs.Moves.{moves}
use Rattle.sc_model.specs.Handlers.{Makes, Request, Answer, Called, Stage, Runs, Reserves, ReservesBlock, InCall, Awaits, Frame, Handler, World, new_handler, point_of, frame_at, put, with_stack}
use Rattle.sc_model.specs.Failures.{fail}
use Rattle.sc_model.specs.Entries.{entry_needs, block_needs, may_reserve}
use Rattle.sc_model.specs.Asking.{placed, send, awaits_if, request_by, with_handler, passes_or_releases, created, creates_handler}
use Rattle.sc_model.specs.Preconditions.{verdict_on}
use Rattle.sc_model.specs.Takes.{takes_errand, takes_next}
use Rattle.sc_model.specs.Turns.{effect, settles, waits, goes_on, turn_with, turn}
use Rattle.sc_machine_laws.proofs.states.links.Looks.{m_put-off}
use Rattle.sc_machine_laws.specs.RequestLaws.{NewIsIdle}
use Rattle.sc_machine_laws.proofs.RestingHandlers.{put_at, ended_rests}
use Rattle.sc_machine_laws.proofs.Others.{Comes, fail_comes, enters_comes, reserves_comes, clause_comes, exits_comes, block_comes, errand_comes, takes_answer_comes}
use Rattle.sc_machine_laws.proofs.TurnedHandlers.{request_turned}
use Rattle.sc_machine_laws.proofs.Tops.{beyond_is_unused}

-- whatever is answered
abbrev Any : Request → Answer → Type 0
Any r a = Unit {0}

module _ (g k : ℕ) (ne : k ≢ g) where
  idle_by : {w v : World} → Comes g k ne Any w v → (w.handlers k).stack ≡ [] → (v.handlers k).stack ≡ []
  idle_by c e = c.rests.stack ∙ e

  put_idle : (x : Handler) (w : World) → (w.handlers k).stack ≡ [] → ((put g x w).handlers k).stack ≡ []
  put_idle x w e = ap (λ (y : Handler). y.stack) (m_put-off g x w k ne) ∙ e

  -- ---- a new handler

  new_idle : (w : World) → (w.handlers k).stack ≡ [] → ((with_handler w.count g w).handlers k).stack ≡ []
  new_idle w e = by (k == w.count)
    where
      by : (b : Bool) → (if b then new_handler else w.handlers k).stack ≡ []
      by true = refl
      by false = e

  send_idle : (j : ℕ) (q : Request) (w : World) → (w.handlers k).stack ≡ [] → ((send false j q w).handlers k).stack ≡ []
  send_idle j q w e = ⊎_elim
      (λ (a : (k ≡ j) × ((put j (placed false q (w.handlers j)) w).handlers k ≡ placed false q (w.handlers k))). ap
      (λ (y : Handler). y.stack) a.1 ∙ e)
      (λ i. ap (λ (y : Handler). y.stack) i ∙ e)
      (put_at j k (placed false q) w)

  released_idle : (b : Bool) (j : ℕ) (w : World) → (w.handlers k).stack ≡ [] →
      ((passes_or_releases b g j w).handlers k).stack ≡ []
  released_idle true j w e = e
  released_idle false j w e =
      (ended_rests (ends_session release_at.Creation && is_among k (j ∷ [])) (w.handlers k)).stack ∙ e

  created_idle : (class : ℕ) (procedure : Option (List ℕ)) (us : List Operand) (t : EntityType) (passing : Bool)
      (f : Frame) (below : List Frame)
      (w : World) → (w.handlers k).stack ≡ []
      → ((created g (record { handler = w.count; number = 1; class = class }) procedure us t passing f below
      w).handlers k).stack ≡ []
  created_idle class procedure us t passing f below w e =
      let r : Reference = record { handler = w.count; number = 1; class = class } in
      let u = with_handler w.count g w in
      let stack : List Frame = awaits_if passing w.count None true
      (record f { values = operand (Attached r) t ∷ f.values }) ∷ below in
      let x = with_stack g stack u in
      let q = request_by g r (Makes procedure) us passing passing u in
      released_idle passing w.count (send false w.count q x)
      (send_idle w.count q x (put_idle (record (u.handlers g) { stack = stack }) u (new_idle w e)))

  creates_idle : (most class : ℕ) (procedure : Option (List ℕ)) (us : List Operand) (t : EntityType) (passing : Bool)
      (f : Frame) (below : List Frame)
      (w : World) → (w.handlers k).stack ≡ [] →
      ((creates_handler most g class procedure us t passing f below w).handlers k).stack ≡ []
  creates_idle most class procedure us t passing f below w e = by (nat_lt w.count most)
    where
      by : (b : Bool) → ((if b then created g (record { handler = w.count; number = 1; class = class }) procedure us t
          passing f below w
          else fail g cause.TooManyHandlers w).handlers k).stack ≡ []
      by true = created_idle class procedure us t passing f below w e
      by false = idle_by (fail_comes g k ne Any cause.TooManyHandlers w) e

  -- ---- a turn

  module _ (most : ℕ) (s : System) where
    effect_idle : (a : Act) (f : Frame) (below : List Frame) (w : World) → (w.handlers k).stack ≡ [] →
        ((effect most s g a f below w).handlers k).stack ≡ []
    effect_idle (Prints text) f below w e =
        put_idle (record (w.handlers g) { output = (w.handlers g).output ++ text }) w e
    effect_idle Until f below w e = e
    effect_idle Creates f below w e = e
    effect_idle Starts f below w e = e
    effect_idle (CreatesHandler class procedure us t passing) f below w e =
        creates_idle most class procedure us t passing f below w e
    effect_idle (Enters c me x us gives) f below w e = idle_by
        (enters_comes g k ne Any s me (routine_named s me.class x) (Called c)
        (record f { stage = InCall gives } ∷ below) [] (values_of us) w) e
    effect_idle (Requests r x us gives passing) f below w e =
        (request_turned g k ne Any ⊥ r x us gives passing f below w (λ i. absurd i)).stays.stack_stays ∙ e
    effect_idle (Refuses c) f below w e = idle_by (clause_comes g k ne Any (verdict_on f c) s f below w (λ r i. tt)) e
    effect_idle Opens f below w e =
        put_idle (record (w.handlers g) { stack = record f { stage = ReservesBlock } ∷ below }) w e
    effect_idle Leaves f below w e = idle_by (block_comes g k ne Any f.blocks f below w) e
    effect_idle Exits f below w e = idle_by (exits_comes g k ne Any s f below w (λ r i. tt)) e
    effect_idle (Fails why) f below w e = idle_by (fail_comes g k ne Any why w) e

    settles_idle : (x : Step) (f : Frame) (below : List Frame) (w : World) → (w.handlers k).stack ≡ [] →
        ((settles most s g x f below w).handlers k).stack ≡ []
    settles_idle (Goes p) f below w e = e
    settles_idle (Does a p) f below w e = effect_idle a (frame_at f p) below
        (put g (record (w.handlers g) { objects = p.objects; stack = frame_at f p ∷ below }) w)
        (put_idle (record (w.handlers g) { objects = p.objects; stack = frame_at f p ∷ below }) w e)

    errand_idle : (r : Request) (below : List Frame) (w : World) →
        Comes g k ne Any w (takes_errand s g r r.errand below w)
    errand_idle r below w = errand_comes g k ne Any s r r.errand below w
        (record { attribute = λ x p q d t y e here o v kind type binding set. tt; made = λ e. tt })

    waits_idle : (c : Option Request) (a : Option Answer) (j : ℕ) (t : Option EntityType) (b : Bool) (f : Frame)
        (below : List Frame) (w : World)
        → (w.handlers k).stack ≡ [] → ((waits s g c a j t b f below w).handlers k).stack ≡ []
    waits_idle (Some r) a j t b f below w e =
        idle_by (errand_idle r (f ∷ below) (put g (record (w.handlers g) { callback = None }) w))
        (put_idle (record (w.handlers g) { callback = None }) w e)
    waits_idle None (Some a) j t b f below w e = idle_by (takes_answer_comes g k ne Any a j t b f below w) e
    waits_idle None None j t b f below w e = e

    on_idle : (x : Stage) (f : Frame) (below : List Frame) (w : World) → (w.handlers k).stack ≡ [] →
        ((goes_on most s g x f below w).handlers k).stack ≡ []
    on_idle Runs f below w e = settles_idle (moves s f.current (point_of f (w.handlers g).objects)) f below w e
    on_idle Reserves f below w e =
        idle_by (reserves_comes g k ne Any (may_reserve (entry_needs g f w) f.mark w) (entry_needs g f w) _ below w) e
    on_idle ReservesBlock f below w e =
        idle_by (reserves_comes g k ne Any (may_reserve (block_needs g f w) [] w) (block_needs g f w) _ below w) e
    on_idle (InCall t) f below w e = idle_by (fail_comes g k ne Any cause.BadCode w) e
    on_idle (Awaits j t b) f below w e = waits_idle (w.handlers g).callback (w.handlers g).answer j t b f below w e

    next_idle : (rs : List Request) (w : World) → (w.handlers k).stack ≡ [] →
        ((takes_next s g rs w).handlers k).stack ≡ []
    next_idle [] w e = e
    next_idle (r ∷ rs) w e = idle_by (errand_idle r [] (put g (record (w.handlers g) { queue = rs }) w))
        (put_idle (record (w.handlers g) { queue = rs }) w e)

    with_idle : (why : Option Cause) (st : List Frame) (w : World) → (w.handlers k).stack ≡ [] →
        ((turn_with most s g why st w).handlers k).stack ≡ []
    with_idle (Some why) st w e = e
    with_idle None [] w e = next_idle (w.handlers g).queue w e
    with_idle None (f ∷ below) w e = on_idle f.stage f below w e

    pub turn_idle : (w : World) → (w.handlers k).stack ≡ [] → ((turn most s g w).handlers k).stack ≡ []
    turn_idle w e = by (nat_lt g w.count)
      where
        by : (b : Bool) → ((if b then turn_with most s g (w.handlers g).failure
            (w.handlers g).stack w else w).handlers k).stack ≡ []
        by true = with_idle (w.handlers g).failure (w.handlers g).stack w e
        by false = e

pub new_is_idle : NewIsIdle
new_is_idle most s root w reached g k beyond ne = turn_idle g k ne most s w
    (beyond_is_unused most s root w reached k beyond).stack_is
