-- What a whole turn leaves of another handler, how an answer comes there, and what becomes of the own queue.
use Rattle.std.proofs.Common.{◌≡◌, ◌≢◌, ⊎_elim, ℕ, suc, ◌<◌, ◌≤◌, Bool, true, false, List, [], ◌∷◌, ◌++◌, Option, Some, None, refl, sym, ap, ◌∙◌, subst, arith}
use Rattle.std.specs.Prelude.{if◌then◌else◌, nat_lt}
use Rattle.std.specs.Option.{option_map}
use Rattle.std.proofs.lemmas.Bool.{ltb-true}
use Rattle.sc_tree.specs.Plain.{System, Clause}
use Rattle.sc_rules.specs.declared.entity_types.entity_type.EntityType.{EntityType}
use Rattle.sc_model.specs.declared.cause.Cause.{Cause}
use Rattle.sc_model.specs.declared.cause.Cause.TheVariants as cause
use Rattle.sc_model.specs.Values.{Value, Operand, values_of}
use Rattle.sc_model.specs.Objects.{object_numbered}
use Rattle.sc_model.specs.Routines.{routine_named}
use Rattle.sc_model.specs.Steps.{Point, Act, Prints, Until, Creates, CreatesHandler, Enters, Requests, Starts, Refuses, Opens, Leaves, Exits, Fails, Step, Goes, Does}
use Rattle.sc_model.specs.Moves.{moves}
use Rattle.sc_model.specs.Handlers.{Makes, Request, Answer, Reply, Refused, Called, Requested, Stage, Runs, Reserves, ReservesBlock, InCall, Awaits, Frame, Handler, World, point_of, frame_at, put}
use Rattle.sc_model.specs.Entries.{entry_needs, block_needs, may_reserve}
use Rattle.sc_model.specs.Preconditions.{verdict_on}
use Rattle.sc_model.specs.Takes.{takes_next}
use Rattle.sc_model.specs.Turns.{effect, settles, waits, goes_on, turn_with, turn}
use Rattle.sc_machine_laws.proofs.states.links.Looks.{m_put-own, m_put-off}
use Rattle.sc_machine_laws.proofs.states.links.Turns.{ActFits, StepFits, FrameFits, StackFits}
use Rattle.sc_machine_laws.proofs.states.links.FittingActs.{stack_fits}
use Rattle.sc_machine_laws.proofs.states.links.Reached.{reached_linked}
use Rattle.sc_machine_laws.specs.states.Fitting.{MayEnd, next, runs, called_back}
use Rattle.sc_machine_laws.specs.RequestLaws as laws
use Rattle.sc_machine_laws.specs.RequestLaws.{Stays, OthersStay, CountGrows, Ends, IsAttribute, AnswerComes, AnswersCome, OwnQueueMoves, OwnQueueShrinks}
use Rattle.sc_machine_laws.proofs.RestingHandlers.{Rests, still, put_same, stack_same}
use Rattle.sc_machine_laws.proofs.Others.{Heard, same, told_so, ended, Comes, same_comes, comes_after, fail_comes, enters_comes, reserves_comes, clause_comes, exits_comes, block_comes, AtOnce, errand_comes, takes_answer_comes}
use Rattle.sc_machine_laws.proofs.TurnedHandlers.{Turned, comes_turned, creates_comes, put_turned, request_turned, rests_stay}

-- ---- why an answer comes

-- the reason, in the turn of g
pub data Because (s : System) (w : World) (g : ℕ) : Request → Answer → Type 0 where
  by_exit : {r : Request} {p : Point} → Ends s w g r Exits p →
      Because s w g r (Reply (option_map (λ (u : Operand). u.value) p.result))
  by_refusal : {r : Request} {c : Clause} {p : Point} → Ends s w g r (Refuses c) p → Because s w g r Refused
  by_attribute : {r : Request} {v : Value} → MayEnd (w.handlers g) r → IsAttribute s w g r v →
      Because s w g r (Reply (Some v))
  by_making : {r : Request} → MayEnd (w.handlers g) r → r.errand ≡ Makes None → Because s w g r (Reply None)

module _ (most : ℕ) (s : System) (w : World) (g k : ℕ) (within : k ≢ w.count) (mine : g < w.count) (ne : k ≢ g) where
  -- what answers at once, where the objects are these
  at_once : (u : World) (r : Request) → (u.handlers g).objects ≡ (w.handlers g).objects → MayEnd (w.handlers g) r
      → AtOnce g k ne (Because s w g) s u r r.errand
  at_once u r objects ends = record {
    attribute = λ x p q d t y e here o v kind type binding set. by_attribute ends (record {
      name = x;
      object = p;
      feature = q;
      of = d;
      type = t;
      binding = y;
      errand_is = e;
      is_here = here;
      object_is = subst (λ os. object_numbered r.target.number os ≡ Some p) objects o;
      feature_is = v;
      kind_is = kind;
      type_is = type;
      binding_is = binding;
      is_set = set;
      value_is = refl;
    });
    made = λ e. by_making ends e;
  }

  effect_turned : (Q : Type 0) (a : Act) (f : Frame) (below : List Frame) (u : World) → u.count ≡ w.count →
      (Q → ActFits g f a)
      → (a ≡ Exits → (r : Request) → f.origin ≡ Requested r →
      Because s w g r (Reply (option_map (λ (x : Operand). x.value) f.result)))
      → ((c : Clause) → a ≡ Refuses c → (r : Request) → f.origin ≡ Requested r → Because s w g r Refused)
      → Turned g k ne (Because s w g) Q u (effect most s g a f below u)
  effect_turned Q (Prints text) f below u count fits exit refuse = comes_turned g k ne (Because s w g) Q
      (same_comes g k ne (Because s w g)
      (put_same g k ne (record (u.handlers g) { output = (u.handlers g).output ++ text }) u refl))
  effect_turned Q Until f below u count fits exit refuse = comes_turned g k ne (Because s w g) Q
      (same_comes g k ne (Because s w g) (still g k ne u))
  effect_turned Q Creates f below u count fits exit refuse = comes_turned g k ne (Because s w g) Q
      (same_comes g k ne (Because s w g) (still g k ne u))
  effect_turned Q Starts f below u count fits exit refuse = comes_turned g k ne (Because s w g) Q
      (same_comes g k ne (Because s w g) (still g k ne u))
  effect_turned Q (CreatesHandler class procedure us t passing) f below u count fits exit refuse =
      creates_comes g k ne (Because s w g) Q w.count within mine most class procedure us t passing f below u count
  effect_turned Q (Enters c me x us gives) f below u count fits exit refuse = comes_turned g k ne (Because s w g) Q
      (enters_comes g k ne (Because s w g) s me (routine_named s me.class x) (Called c)
      (record f { stage = InCall gives } ∷ below) [] (values_of us) u)
  effect_turned Q (Requests r x us gives passing) f below u count fits exit refuse =
      request_turned g k ne (Because s w g) Q r x us gives passing f below u fits
  effect_turned Q (Refuses c) f below u count fits exit refuse = comes_turned g k ne (Because s w g) Q
      (clause_comes g k ne (Because s w g) (verdict_on f c) s f below u (refuse c refl))
  effect_turned Q Opens f below u count fits exit refuse = comes_turned g k ne (Because s w g) Q
      (same_comes g k ne (Because s w g)
      (stack_same g k ne (record f { stage = ReservesBlock } ∷ below) u))
  effect_turned Q Leaves f below u count fits exit refuse = comes_turned g k ne (Because s w g) Q
      (block_comes g k ne (Because s w g) f.blocks f below u)
  effect_turned Q Exits f below u count fits exit refuse = comes_turned g k ne (Because s w g) Q
      (exits_comes g k ne (Because s w g) s f below u (exit refl))
  effect_turned Q (Fails why) f below u count fits exit refuse = comes_turned g k ne (Because s w g) Q
      (fail_comes g k ne (Because s w g) why u)

  act_fits : (f : Frame) (p : Point) (a : Act) → StepFits g f (Does a p) → ActFits g (frame_at f p) a
  act_fits f p (Requests r x us t passing) fits = fits.0
  act_fits f p (Refuses c) fits = fits.0
  act_fits f p Exits fits = fits.0
  act_fits f p Leaves fits = fits.0
  act_fits f p (Prints text) fits = fits.0
  act_fits f p Until fits = fits.0
  act_fits f p Creates fits = fits.0
  act_fits f p (CreatesHandler class procedure us t passing) fits = fits.0
  act_fits f p (Enters c me x us t) fits = fits.0
  act_fits f p Starts fits = fits.0
  act_fits f p Opens fits = fits.0
  act_fits f p (Fails why) fits = fits.0

  settles_turned : (f : Frame) (below : List Frame) → (w.handlers g).stack ≡ f ∷ below → f.stage ≡ Runs → (x : Step)
      → moves s f.current (point_of f (w.handlers g).objects) ≡ x
      → Turned g k ne (Because s w g) (StepFits g f x) w (settles most s g x f below w)
  settles_turned f below at stage (Goes p) does = comes_turned g k ne (Because s w g) (StepFits g f (Goes p))
      (same_comes g k ne (Because s w g) (still g k ne w))
  settles_turned f below at stage (Does a p) does =
      put_turned g k ne (Because s w g) (StepFits g f (Does a p))
      (record (w.handlers g) { objects = p.objects; stack = frame_at f p ∷ below }) w
      (effect most s g a (frame_at f p) below
      (put g (record (w.handlers g) { objects = p.objects; stack = frame_at f p ∷ below }) w)) refl
      (effect_turned (StepFits g f (Does a p)) a (frame_at f p) below
      (put g (record (w.handlers g) { objects = p.objects; stack = frame_at f p ∷ below }) w) refl
      (act_fits f p a)
      (λ e r i. by_exit (record {
        frame = f;
        below = below;
        stack_is = at;
        stage_is = stage;
        origin_is = i;
        does = does
            ∙ ap (λ b. Does b p) e;
      }))
      (λ c e r i. by_refusal (record {
        frame = f;
        below = below;
        stack_is = at;
        stage_is = stage;
        origin_is = i;
        does = does ∙ ap (λ b. Does b p) e;
      })))

  comes : {u : World} (Q : Type 0) → Comes g k ne (Because s w g) w u → Turned g k ne (Because s w g) Q w u
  comes Q c = comes_turned g k ne (Because s w g) Q c

  waits_turned : (Q : Type 0) (c : Option Request) (a : Option Answer) (j : ℕ) (t : Option EntityType) (b : Bool)
      (f : Frame) (below : List Frame)
      → (w.handlers g).stack ≡ f ∷ below → (w.handlers g).callback ≡ c → Turned g k ne (Because s w g) Q w
      (waits s g c a j t b f below w)
  waits_turned Q (Some r) a j t b f below at is = comes Q
      (comes_after g k ne (Because s w g) (put_same g k ne (record (w.handlers g) { callback = None }) w refl)
      (errand_comes g k ne (Because s w g) s r r.errand (f ∷ below)
      (put g (record (w.handlers g) { callback = None }) w)
      (at_once (put g (record (w.handlers g) { callback = None }) w) r
      (ap (λ (y : Handler). y.objects) (m_put-own g (record (w.handlers g) { callback = None }) w))
      (called_back at is))))
  waits_turned Q None (Some a) j t b f below at is =
      comes Q (takes_answer_comes g k ne (Because s w g) a j t b f below w)
  waits_turned Q None None j t b f below at is = comes Q (same_comes g k ne (Because s w g) (still g k ne w))

  on_turned : (f : Frame) (below : List Frame) → (w.handlers g).stack ≡ f ∷ below → (x : Stage) → f.stage ≡ x
      → Turned g k ne (Because s w g) (FrameFits s g w f x) w (goes_on most s g x f below w)
  on_turned f below at Runs stage = settles_turned f below at stage
      (moves s f.current (point_of f (w.handlers g).objects)) refl
  on_turned f below at Reserves stage = comes (FrameFits s g w f Reserves)
      (reserves_comes g k ne (Because s w g) (may_reserve (entry_needs g f w) f.mark w) (entry_needs g f w) _ below w)
  on_turned f below at ReservesBlock stage = comes (FrameFits s g w f ReservesBlock)
      (reserves_comes g k ne (Because s w g) (may_reserve (block_needs g f w) [] w) (block_needs g f w) _ below w)
  on_turned f below at (InCall t) stage = comes (FrameFits s g w f (InCall t))
      (fail_comes g k ne (Because s w g) cause.BadCode w)
  on_turned f below at (Awaits j t b) stage = waits_turned (FrameFits s g w f (Awaits j t b)) (w.handlers g).callback
      (w.handlers g).answer j t b f below at refl

  -- ---- the next request

  -- the own queue moves
  pub record Done (Q : Type 0) (v : World) : Type 0 where
    pub stays : Stays w g k (v.handlers k)
    pub heard : Heard g k (Because s w g) (w.handlers k) v
    pub count : w.count ≤ v.count
    pub own : Q → OwnQueueMoves (w.handlers g) (v.handlers g)

  turned_done : (Q : Type 0) (v : World) → Turned g k ne (Because s w g) Q w v → Done Q v
  turned_done Q v t = record {
    stays = t.stays;
    heard = t.heard;
    count = t.count;
    own = λ q. ⊎_elim (λ e. laws.OwnQueueMoves.stays e) (λ d. laws.OwnQueueMoves.falls d) (t.own q);
  }

  next_done : (Q : Type 0) (rs : List Request) → (w.handlers g).stack ≡ [] → (w.handlers g).queue ≡ rs →
      Done Q (takes_next s g rs w)
  next_done Q [] empty at = turned_done Q w (comes Q (same_comes g k ne (Because s w g) (still g k ne w)))
  next_done Q (r ∷ rs) empty at =
      by (errand_comes g k ne (Because s w g) s r r.errand [] (put g (record (w.handlers g) { queue = rs }) w)
      (at_once (put g (record (w.handlers g) { queue = rs }) w) r
      (ap (λ (y : Handler). y.objects) (m_put-own g (record (w.handlers g) { queue = rs }) w))
      (next empty at)))
    where
      off : (put g (record (w.handlers g) { queue = rs }) w).handlers k ≡ w.handlers k
      off = m_put-off g (record (w.handlers g) { queue = rs }) w k ne

      by : {v : World} → Comes g k ne (Because s w g) (put g (record (w.handlers g) { queue = rs }) w) v → Done Q v
      by {v} c = record {
        stays = rests_stay g k ne (Because s w g) Q w (v.handlers k) (subst (λ x. Rests x (v.handlers k)) off c.rests);
        heard = subst (λ x. Heard g k (Because s w g) x v) off c.heard;
        count = c.count;
        own = λ q. ⊎_elim
            (λ e. laws.OwnQueueMoves.takes r empty
            (at ∙ ap (λ qs. r ∷ qs) (sym
            (e ∙ ap (λ (y : Handler). y.queue) (m_put-own g (record (w.handlers g) { queue = rs }) w)))))
            (λ d. laws.OwnQueueMoves.falls d) c.own;
      }

  with_done : (why : Option Cause) (st : List Frame) → (w.handlers g).stack ≡ st →
      Done (StackFits s g w st) (turn_with most s g why st w)
  with_done (Some why) st at = turned_done (StackFits s g w st) w
      (comes (StackFits s g w st) (same_comes g k ne (Because s w g) (still g k ne w)))
  with_done None [] at = next_done (StackFits s g w []) (w.handlers g).queue at refl
  with_done None (f ∷ below) at = turned_done (FrameFits s g w f f.stage) (goes_on most s g f.stage f below w)
      (on_turned f below at f.stage refl)

  pub turn_done : Done (StackFits s g w (w.handlers g).stack) (turn most s g w)
  turn_done = by (nat_lt g w.count)
    where
      by : (b : Bool) → Done (StackFits s g w (w.handlers g).stack)
          (if b then turn_with most s g (w.handlers g).failure (w.handlers g).stack w else w)
      by true = with_done (w.handlers g).failure (w.handlers g).stack refl
      by false = turned_done (StackFits s g w (w.handlers g).stack) w
          (comes (StackFits s g w (w.handlers g).stack) (same_comes g k ne (Because s w g) (still g k ne w)))

  answer_done : (v : World) → Heard g k (Because s w g) (w.handlers k) v → AnswerComes s w g k v
  answer_done v (same e) = laws.AnswerComes.stays e
  answer_done v (told_so dead e) = laws.AnswerComes.told dead e
  answer_done v (ended waited poster (by_exit x) e) =
      laws.AnswerComes.exits (record {
        may_end = runs x.stack_is x.stage_is x.origin_is;
        is_waited = waited;
        poster_is = poster;
      }) x e
  answer_done v (ended waited poster (by_refusal x) e) =
      laws.AnswerComes.refused
      (record { may_end = runs x.stack_is x.stage_is x.origin_is; is_waited = waited; poster_is = poster }) x e
  answer_done v (ended waited poster (by_attribute m x) e) = laws.AnswerComes.attribute
      (record { may_end = m; is_waited = waited; poster_is = poster }) x e
  answer_done v (ended waited poster (by_making m x) e) = laws.AnswerComes.made
      (record { may_end = m; is_waited = waited; poster_is = poster }) x e

-- ---- the laws

-- a handler that there isn't does nothing
no_turn : (most : ℕ) (s : System) (g : ℕ) (w : World) → nat_lt g w.count ≡ false → turn most s g w ≡ w
no_turn most s g w e = ap
    (λ (b : Bool). if b then turn_with most s g (w.handlers g).failure (w.handlers g).stack w else w) e

unmoved : (w : World) (g k : ℕ) → Stays w g k (w.handlers k)
unmoved w g k = record {
  objects_stay = refl;
  stack_stays = refl;
  failure_stays = refl;
  queue_comes = laws.QueueComes.stays refl;
  callback_comes = laws.CallbackComes.stays refl;
}

pub others_stay : OthersStay
others_stay most s w g k within ne = by (nat_lt g w.count) refl
  where
    by : (b : Bool) → nat_lt g w.count ≡ b → Stays w g k ((turn most s g w).handlers k)
    by true e = (turn_done most s w g k (λ i. omega (arith, i, within)) (ltb-true g w.count e) ne).stays
    by false e = subst (λ (v : World). Stays w g k (v.handlers k)) (sym (no_turn most s g w e)) (unmoved w g k)

pub answers_come : AnswersCome
answers_come most s w g k within ne = by (nat_lt g w.count) refl
  where
    by : (b : Bool) → nat_lt g w.count ≡ b → AnswerComes s w g k (turn most s g w)
    by true e = answer_done most s w g k (λ i. omega (arith, i, within)) (ltb-true g w.count e) ne (turn most s g w)
        (turn_done most s w g k (λ i. omega (arith, i, within)) (ltb-true g w.count e) ne).heard
    by false e = laws.AnswerComes.stays (ap (λ (v : World). (v.handlers k).answer) (no_turn most s g w e))

-- another number than that of a new handler
beside : (most : ℕ) (s : System) (w : World) (g : ℕ) → (l : g < w.count) → Done most s w g (suc w.count)
    (λ i. omega (arith, i)) l (λ i. omega (arith, i, l))
    (StackFits s g w (w.handlers g).stack) (turn most s g w)
beside most s w g l = turn_done most s w g (suc w.count) (λ i. omega (arith, i)) l (λ i. omega (arith, i, l))

pub count_grows : CountGrows
count_grows most s w g = by (nat_lt g w.count) refl
  where
    by : (b : Bool) → nat_lt g w.count ≡ b → w.count ≤ (turn most s g w).count
    by true e = (beside most s w g (ltb-true g w.count e)).count
    by false e = let same : (turn most s g w).count ≡ w.count = ap (λ (v : World). v.count) (no_turn most s g w e) in
        omega (arith, same)

pub own_queue_shrinks : OwnQueueShrinks
own_queue_shrinks most s root w reached g = by (nat_lt g w.count) refl
  where
    by : (b : Bool) → nat_lt g w.count ≡ b → OwnQueueMoves (w.handlers g) ((turn most s g w).handlers g)
    by true e = (beside most s w g (ltb-true g w.count e)).own
        (stack_fits s g w (reached_linked most s root w reached).sound (ltb-true g w.count e))
    by false e = laws.OwnQueueMoves.stays (ap (λ (v : World). (v.handlers g).queue) (no_turn most s g w e))
