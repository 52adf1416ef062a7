-- A turn creates one handler at most, which begins with the request for its first object alone.
use Rattle.std.proofs.Common.{ℕ, ◌≡◌, ◌<◌, ◌≤◌, ◌+◌, ◌==◌, ◌&&◌, ◌||◌, not, Bool, true, false, List, [], ◌∷◌, ◌++◌, Option, Some, None, refl, sym, ap, subst, ◌∙◌, arith}
use Rattle.std.proofs.lemmas.Bool.{eq-eqb, ltb-true}
use Rattle.std.specs.Prelude.{if◌then◌else◌, is_some, length, nat_lt}
use Rattle.std.specs.Option.{option_map}
use Rattle.sc_tree.specs.Plain as tree
use Rattle.sc_tree.specs.Plain.{System, FeatureKind}
use Rattle.sc_class.specs.Tables.Features.{DeclaredFeature}
use Rattle.sc_rules.specs.declared.entity_types.entity_type.EntityType.{EntityType}
use Rattle.sc_rules.specs.Types.{declared_type}
use Rattle.sc_lockpass.specs.Passing.{Passed}
use Rattle.sc_lockpass.specs.Rights.{held, is_among}
use Rattle.sc_lockpass.specs.wait_conditions.Reservations.{ends_session, reserve_fails}
use Rattle.sc_lockpass.specs.declared.wait_conditions.condition.EntryVerdict.{EntryVerdict}
use Rattle.sc_lockpass.specs.declared.wait_conditions.condition.EntryVerdict.TheVariants as verdict
use Rattle.sc_lockpass.specs.declared.wait_conditions.session.Release.TheVariants as release_at
use Rattle.sc_model.specs.declared.cause.Cause.{Cause}
use Rattle.sc_model.specs.declared.cause.Cause.TheVariants as cause
use Rattle.sc_model.specs.Answers.{answer_to, finish, return_rights}
use Rattle.sc_model.specs.Asking.{awaits_if, created, is_callback, passes, passes_or_releases, placed, request, request_by, send, with_handler}
use Rattle.sc_model.specs.Entries.{block_needs, enters, enters_bound, entry_needs, may_reserve, reserves_if}
use Rattle.sc_model.specs.Environments.{Binding, binding_named, formals_bound}
use Rattle.sc_model.specs.Exits.{exits, is_unset, is_unset_value, is_untested, leaves_block, leaves_to}
use Rattle.sc_model.specs.Failures.{fails_with}
use Rattle.sc_model.specs.Handlers.{Answer, Awaits, Called, Calls, Errand, Failed, Frame, Handler, InCall, Makes, Origin, Refused, Reply, Request, Requested, Reserves, ReservesBlock, Runs, Stage, World, frame_at, new_handler, point_of, put, with_stack}
use Rattle.sc_model.specs.Invariants.{meets_invariant}
use Rattle.sc_model.specs.Limits.{max_frames, max_queue}
use Rattle.sc_model.specs.Moves.{moves}
use Rattle.sc_model.specs.Objects.{Object, fresh_object, object_numbered}
use Rattle.sc_model.specs.Preconditions.{correctness_fails, counted_refusal, false_clause, is_creation, object_meets, verdict_on}
use Rattle.sc_model.specs.Routines.{Routine, routine_named, routine_of, version_of}
use Rattle.sc_model.specs.Sessions.{release, session_ended, standing_in}
use Rattle.sc_model.specs.Steps.{Act, Creates, CreatesHandler, Does, Enters, Exits, Fails, Goes, Leaves, Opens, Point, Prints, Refuses, Requests, Starts, Step, Until}
use Rattle.sc_model.specs.Takes.{replies, takes_answer, takes_creation, takes_errand, takes_kind, takes_next, takes_version}
use Rattle.sc_model.specs.Turns.{effect, goes_on, settles, turn_with, waits}
use Rattle.sc_model.specs.Values.{Attached, Operand, Reference, Value, operand, values_of}
use Rattle.sc_machine_laws.proofs.states.links.Looks.{m_put-off, m_put-own}
use Rattle.sc_refines_world.specs.Moving.{Acts, BeginsWithOne, CreatedBeginWithOne}

-- ---- what leaves the number of handlers

abbrev Same : World → World → Type 0
Same u v = v.count ≡ u.count

if_same : (u : World) (b : Bool) (x y : World) → Same u x → Same u y → Same u (if b then x else y)
if_same u true x y e i = e
if_same u false x y e i = i

finish_same : (r : Request) (a : Answer) (u : World) → Same u (finish r a u)
finish_same r a u = answer r.is_waited r.poster (return_rights r.passed u) ∙ returned r.passed
  where
    returned : (p : Option Passed) → Same u (return_rights p u)
    returned None = refl
    returned (Some p) = refl

    answer : (b : Bool) (p : Option ℕ) (v : World) → Same v (answer_to b p a v)
    answer true (Some p) v = refl
    answer true None v = refl
    answer false p v = refl

passes_same : (b : Bool) (h k : ℕ) (u : World) → Same u (passes b h k u)
passes_same true h k u = refl
passes_same false h k u = refl

module _ (s : System) (h : ℕ) where
  enters_same : (me : Reference) (o : Option Routine) (c : Origin) (below : List Frame) (taken : List Request) (vs : List Value) (u : World) → Same u (enters s h me o c below taken vs u)
  enters_same me None c below taken vs u = refl
  enters_same me (Some q) c below taken vs u = bound (formals_bound s q.text.formals 0 q.text.formals vs)
    where
      bound : (b : Option (List Binding)) → Same u (enters_bound h me q c below taken b u)
      bound None = refl
      bound (Some bs) = if_same u (nat_lt (length below) max_frames) _ _ refl refl

  replies_same : (r : Request) (t : Option EntityType) (b : Option Binding) (u : World) → Same u (replies h r t b u)
  replies_same r (Some t) (Some b) u = if_same u (is_unset_value b.value t) _ _ refl (finish_same r (Reply (Some b.value)) u)
  replies_same r (Some t) None u = refl
  replies_same r None b u = refl

  version_same : (r : Request) (x : List ℕ) (below : List Frame) (o : Option Object) (f : Option DeclaredFeature) (u : World) → Same u (takes_version s h r x below o f u)
  version_same r x below (Some o) (Some f) u = by f.feature.kind
    where
      by : (k : FeatureKind) → Same u (takes_kind s h r x below o f k u)
      by (tree.Attribute d) = replies_same r (declared_type s [] d) (binding_named x o.attributes) u
      by (tree.Routine c) = enters_same r.target (routine_of s f) (Requested r) below (r ∷ []) r.actuals u
  version_same r x below (Some o) None u = refl
  version_same r x below None f u = refl

  creation_same : (r : Request) (k : Option (List ℕ)) (below : List Frame) (u : World) → Same u (takes_creation s h r k below u)
  creation_same r (Some x) below u = enters_same r.target (routine_named s r.target.class x) (Requested r) below (r ∷ []) r.actuals u
  creation_same r None below u = if_same u (meets_invariant s (fresh_object s r.target.class)) _ _ (finish_same r (Reply None) u) refl

  errand_same : (r : Request) (c : Errand) (below : List Frame) (u : World) → Same u (takes_errand s h r c below u)
  errand_same r (Makes k) below u = creation_same r k below (put h (record (u.handlers h) { objects = (u.handlers h).objects ++ fresh_object s r.target.class ∷ [] }) u)
  errand_same r (Calls x) below u = if_same u (r.target.handler == h) _ _
      (version_same r x below (object_numbered r.target.number (u.handlers h).objects) (version_of s r.target.class x) u) refl

  next_same : (rs : List Request) (u : World) → Same u (takes_next s h rs u)
  next_same [] u = refl
  next_same (r ∷ rs) u = errand_same r r.errand [] (put h (record (u.handlers h) { queue = rs }) u)

  answer_same : (a : Answer) (k : ℕ) (t : Option EntityType) (c : Bool) (f : Frame) (below : List Frame) (u : World) → Same u (takes_answer h a k t c f below u)
  answer_same Failed k t c f below u = refl
  answer_same Refused k t c f below u = refl
  answer_same (Reply v) k t true f below u = refl
  answer_same (Reply v) k t false f below u = refl

  reserves_same : (b : Bool) (ks : List ℕ) (f : Frame) (below : List Frame) (u : World) → Same u (reserves_if b h ks f below u)
  reserves_same false ks f below u = refl
  reserves_same true ks f below u = if_same u (reserve_fails (standing_in u) u.rights ks) _ _ refl refl

  request_same : (r : Reference) (x : List ℕ) (us : List Operand) (t : Option EntityType) (b : Bool) (f : Frame) (below : List Frame) (u : World) → Same u (request h r x us t b f below u)
  request_same r x us t b f below u =
      let waiting : Bool = b || is_some t || is_callback h r.handler u in
      let asking : World = with_stack h (awaits_if waiting r.handler t false f ∷ below) u in
      if_same u (not (held u.rights h r.handler)) _ _ refl
      (if_same u (is_some (u.handlers r.handler).failure) _ _ refl
      (if_same u (not (is_callback h r.handler u) && not (nat_lt (length (u.handlers r.handler).queue) max_queue)) _ _ refl
      (passes_same b h r.handler (send (is_callback h r.handler u) r.handler (request_by h r (Calls x) us waiting b u) asking))))

  clause_same : (d : EntryVerdict) (f : Frame) (below : List Frame) (u : World) → Same u (false_clause d s h f below u)
  clause_same verdict.Start f below u = refl
  clause_same verdict.Wait f below u = refl
  clause_same verdict.Refuse f below u = by f.origin
    where
      by : (c : Origin) → Same u (correctness_fails s h c f below u)
      by (Called c) = refl
      by (Requested r) = if_same u (is_creation r.errand && not (object_meets s (object_numbered f.current.number (u.handlers h).objects))) _ _ refl
          (finish_same r Refused (release release_at.Refusal f.reserved (put h (counted_refusal r.is_waited (record (u.handlers h) { stack = below })) u)))

  exits_same : (f : Frame) (below : List Frame) (u : World) → Same u (exits s h f below u)
  exits_same f below u =
      if_same u (is_unset f.result) _ _ refl
      (if_same u (is_untested f.origin || object_meets s (object_numbered f.current.number (u.handlers h).objects)) _ _ (by f.origin) refl)
    where
      by : (c : Origin) → Same u (leaves_to h c f.reserved (option_map (λ (u : Operand). u.value) f.result) below u)
      by (Called c) = refl
      by (Requested r) = finish_same r (Reply (option_map (λ (u : Operand). u.value) f.result)) (release release_at.Exit f.reserved (with_stack h below u))

  block_same : (kss : List (List ℕ)) (f : Frame) (below : List Frame) (u : World) → Same u (leaves_block h kss f below u)
  block_same [] f below u = refl
  block_same (ks ∷ kss) f below u = refl

  waits_same : (q : Option Request) (a : Option Answer) (k : ℕ) (t : Option EntityType) (c : Bool) (f : Frame) (below : List Frame) (u : World) → Same u (waits s h q a k t c f below u)
  waits_same (Some r) a k t c f below u = errand_same r r.errand (f ∷ below) (put h (record (u.handlers h) { callback = None }) u)
  waits_same None (Some a) k t c f below u = answer_same a k t c f below u
  waits_same None None k t c f below u = refl

-- ---- a turn

module _ (most : ℕ) (s : System) (h : ℕ) (w : World) (here : h < w.count) where
  -- so begin those that are there only then
  abbrev T : World → Type 0
  T v = (k : ℕ) → w.count ≤ k → k < v.count → (k ≡ w.count) × BeginsWithOne s w h k (v.handlers k)

  none_new : (v : World) → Same w v → T v
  none_new v e k few less = absurd (omega (arith, e, few, less))

  module _ (f : Frame) (below : List Frame) (at : (w.handlers h).stack ≡ f ∷ below) (p : Point) where
    abbrev moved : World
    moved = put h (record (w.handlers h) { objects = p.objects; stack = frame_at f p ∷ below }) w

    module _ (class : ℕ) (procedure : Option (List ℕ)) (us : List Operand) (t : EntityType) (lends : Bool) (move : Acts s w h f (CreatesHandler class procedure us t lends) p) where
      abbrev object : Reference
      object = record { handler = w.count; number = 1; class = class }

      abbrev new : World
      new = with_handler w.count h moved

      abbrev posting : World
      posting = with_stack h (awaits_if lends w.count None true (record (frame_at f p) { values = operand (Attached object) t ∷ p.values }) ∷ below) new

      abbrev asked : Request
      asked = request_by h object (Makes procedure) us lends lends new

      abbrev posted : World
      posted = send false w.count asked posting

      abbrev begun : Handler
      begun = record new_handler { queue = asked ∷ [] }

      posted_own : posted.handlers w.count ≡ begun
      posted_own = m_put-own w.count (placed false asked (posting.handlers w.count)) posting
          ∙ ap (placed false asked)
          (m_put-off h (record (new.handlers h) { stack = awaits_if lends w.count None true (record (frame_at f p) { values = operand (Attached object) t ∷ p.values }) ∷ below }) new w.count
          (λ e. omega (arith, e, here)) ∙ ap (λ (b : Bool). if b then new_handler else moved.handlers w.count) (eq-eqb w.count w.count refl))

      begins : (b : Bool) → BeginsWithOne s w h w.count (session_ended b begun)
      begins b = record {
        creator = f;
        below = below;
        stack_was = at;
        class = class;
        procedure = procedure;
        actuals = us;
        type = t;
        passes = lends;
        point = p;
        does = move;
        request = asked;
        poster_is = refl;
        target_is = refl;
        errand_is = refl;
        actuals_are = refl;
        is_waited_if_lent = refl;
        queue_is = queue b;
        callback_is = callback b;
        stack_is = stack b;
        objects_are = objects b;
        failure_is = failure b;
      }
        where
          queue : (b : Bool) → (session_ended b begun).queue ≡ asked ∷ []
          queue true = refl
          queue false = refl

          callback : (b : Bool) → (session_ended b begun).callback ≡ None
          callback true = refl
          callback false = refl

          stack : (b : Bool) → (session_ended b begun).stack ≡ []
          stack true = refl
          stack false = refl

          objects : (b : Bool) → (session_ended b begun).objects ≡ []
          objects true = refl
          objects false = refl

          failure : (b : Bool) → (session_ended b begun).failure ≡ None
          failure true = refl
          failure false = refl

      -- the one that is new
      only : (v : World) → v.count ≡ w.count + 1 → BeginsWithOne s w h w.count (v.handlers w.count) → T v
      only v counts is k few less =
          let e : k ≡ w.count = omega (arith, counts, few, less) in
          (e, subst (λ (j : ℕ). BeginsWithOne s w h j (v.handlers j)) (sym e) is)

      created_begins : T (created h object procedure us t lends (frame_at f p) below moved)
      created_begins = by lends
        where
          by : (c : Bool) → T (passes_or_releases c h w.count posted)
          by true = only (passes true h w.count posted) refl (subst (BeginsWithOne s w h w.count) (sym posted_own) (begins false))
          by false = only (passes_or_releases false h w.count posted) refl
              (subst (λ (y : Handler). BeginsWithOne s w h w.count (session_ended (ends_session release_at.Creation && is_among w.count (w.count ∷ [])) y)) (sym posted_own)
              (begins (ends_session release_at.Creation && is_among w.count (w.count ∷ []))))

    act_begins : (a : Act) → Acts s w h f a p → T (effect most s h a (frame_at f p) below moved)
    act_begins (CreatesHandler class procedure us t lends) move = by (nat_lt w.count most)
      where
        by : (b : Bool) → T (if b then created h (record { handler = w.count; number = 1; class = class }) procedure us t lends (frame_at f p) below moved
            else fails_with h cause.TooManyHandlers [] moved)
        by true = created_begins class procedure us t lends move
        by false = none_new (fails_with h cause.TooManyHandlers [] moved) refl
    act_begins (Prints text) move = none_new (effect most s h (Prints text) (frame_at f p) below moved) refl
    act_begins Until move = none_new moved refl
    act_begins Creates move = none_new moved refl
    act_begins Starts move = none_new moved refl
    act_begins (Enters c me x us t) move =
        none_new (effect most s h (Enters c me x us t) (frame_at f p) below moved) (enters_same s h me (routine_named s me.class x) (Called c) (record (frame_at f p) { stage = InCall t } ∷ below) [] (values_of us) moved)
    act_begins (Requests r x us t b) move = none_new (effect most s h (Requests r x us t b) (frame_at f p) below moved) (request_same s h r x us t b (frame_at f p) below moved)
    act_begins (Refuses k) move = none_new (effect most s h (Refuses k) (frame_at f p) below moved) (clause_same s h (verdict_on (frame_at f p) k) (frame_at f p) below moved)
    act_begins Opens move = none_new (effect most s h Opens (frame_at f p) below moved) refl
    act_begins Leaves move = none_new (effect most s h Leaves (frame_at f p) below moved) (block_same s h f.blocks (frame_at f p) below moved)
    act_begins Exits move = none_new (effect most s h Exits (frame_at f p) below moved) (exits_same s h (frame_at f p) below moved)
    act_begins (Fails why) move = none_new (effect most s h (Fails why) (frame_at f p) below moved) refl

  step_begins : (f : Frame) (below : List Frame) → (w.handlers h).stack ≡ f ∷ below → (x : Step) → moves s f.current (point_of f (w.handlers h).objects) ≡ x →
      T (settles most s h x f below w)
  step_begins f below at (Goes p) move = none_new w refl
  step_begins f below at (Does a p) move = act_begins f below at p a move

  stage_begins : (f : Frame) (below : List Frame) → (w.handlers h).stack ≡ f ∷ below → (x : Stage) → T (goes_on most s h x f below w)
  stage_begins f below at Runs = step_begins f below at (moves s f.current (point_of f (w.handlers h).objects)) refl
  stage_begins f below at Reserves = none_new (goes_on most s h Reserves f below w)
      (reserves_same s h (may_reserve (entry_needs h f w) f.mark w) (entry_needs h f w) (record f { stage = Runs; reserved = entry_needs h f w }) below w)
  stage_begins f below at ReservesBlock = none_new (goes_on most s h ReservesBlock f below w)
      (reserves_same s h (may_reserve (block_needs h f w) [] w) (block_needs h f w) (record f { stage = Runs; blocks = block_needs h f w ∷ f.blocks }) below w)
  stage_begins f below at (InCall t) = none_new (goes_on most s h (InCall t) f below w) refl
  stage_begins f below at (Awaits k t c) = none_new (goes_on most s h (Awaits k t c) f below w) (waits_same s h (w.handlers h).callback (w.handlers h).answer k t c f below w)

  turn_begins : (why : Option Cause) (fs : List Frame) → (w.handlers h).stack ≡ fs → T (turn_with most s h why fs w)
  turn_begins (Some why) fs at = none_new w refl
  turn_begins None [] at = none_new (turn_with most s h None [] w) (next_same s h (w.handlers h).queue w)
  turn_begins None (f ∷ below) at = stage_begins f below at f.stage

pub created_begin : (most : ℕ) (s : System) (w : World) → CreatedBeginWithOne most s w
created_begin most s w h k few less = by (nat_lt h w.count) refl less
  where
    by : (b : Bool) → nat_lt h w.count ≡ b → k < (if b then turn_with most s h (w.handlers h).failure (w.handlers h).stack w else w).count →
        (k ≡ w.count) × BeginsWithOne s w h k ((if b then turn_with most s h (w.handlers h).failure (w.handlers h).stack w else w).handlers k)
    by true here less = turn_begins most s h w (ltb-true h w.count here) (w.handlers h).failure (w.handlers h).stack refl k few less
    by false here less = absurd (omega (arith, few, less))
