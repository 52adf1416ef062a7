-- The turn of a handler whose topmost frame asks another handler for a clause of its precondition.
use Rattle.std.proofs.Common.{ℕ, ◌≡◌, ◌≢◌, ◌⊎◌, ⊎_elim, ◌==◌, ◌&&◌, ◌||◌, not, Bool, true, false, List, [], ◌∷◌, Option, Some, None, refl, sym, ap, subst, ◌∙◌, inl, inr}
use Rattle.std.proofs.lemmas.Bool.{cases_eq, eq-eqb, ne_eqb}
use Rattle.std.specs.Prelude.{if◌then◌else◌, Contains, is_some, length, nat_lt, take}
use Rattle.sc_tree.specs.Plain.{System}
use Rattle.sc_rules.specs.declared.entity_types.entity_type.EntityType.{EntityType}
use Rattle.sc_rules.specs.Names.{RoutineName}
use Rattle.sc_lockpass.specs.Rights.{held, is_handler}
use Rattle.sc_model.specs.declared.cause.Cause.{Cause}
use Rattle.sc_model.specs.declared.cause.Cause.TheVariants as cause
use Rattle.sc_model.specs.Limits.{max_queue}
use Rattle.sc_model.specs.Values.{Reference, Value, Operand}
use Rattle.sc_model.specs.Environments.{Binding}
use Rattle.sc_model.specs.Objects.{Object}
use Rattle.sc_model.specs.Steps.{Requests, Point}
use Rattle.sc_model.specs.Handlers.{Request, Answer, Reply, Failed, Refused, Awaits, Frame, Handler, World, point_of, frame_at, with_stack}
use Rattle.sc_model.specs.Failures.{fail}
use Rattle.sc_model.specs.Asking.{placed, send, is_callback, asks, request}
use Rattle.sc_machine_laws.proofs.states.links.Looks.{m_put-own, m_put-off}
use Rattle.sc_machine_laws.proofs.states.Lists.{no_both}
use Rattle.sc_machine_laws.specs.settlements.Calm.{name_of}
use Rattle.sc_machine_laws.specs.settlements.Clauses.{RunsPureIfRoutine}
use Rattle.sc_machine_laws.specs.settlements.Entries.{HasStarted}
use Rattle.sc_machine_laws.proofs.TurnedHandlers.{is_holder, not_true}
use Rattle.sc_machine_laws.specs.Following.{objects_of, MayAsk, bound_in, ClauseDone, IsQuiet, clause_request, RequestStands, IsPending, AwaitsOf, IsLost, AboveIsPure, InPrecondition, FrameFollows, StackFollows}
use Rattle.sc_machine_laws.specs.Following as following
use Rattle.sc_machine_laws.specs.Points.{InContract}
use Rattle.sc_machine_laws.proofs.OwnWorlds.{IsNoReply, put_objects, quiet_stays}
use Rattle.sc_machine_laws.proofs.OwnKept.{AllPlain, plain_follows}
use Rattle.sc_machine_laws.proofs.OwnMoves.{Follow, moved_in, at_stage, either_follow, fails_follow, same_stack, moved_stack}

-- who holds it holds it
holds_it : (h : ℕ) (o : Option ℕ) → o ≡ Some h → is_handler h o ≡ true
holds_it h o e = ap (is_handler h) e ∙ eq-eqb h h refl

-- one of the rights is the handler's, and the second isn't
first_right : (a b c : Bool) → a ≡ false → (a || b || c) ≡ true → c ≡ false → b ≡ true
first_right true b c e f g = cc
first_right false true c e f g = refl
first_right false false c e f g = let both : true ≡ false = sym f ∙ g in cc

-- there is no reply, or none has come
answer_so : (a : Option Answer) → ((v : Option Value) → a ≡ Some (Reply v) → ⊥) → (a ≡ None) ⊎ IsNoReply a
answer_so None never = inl refl
answer_so (Some (Reply v)) never = absurd (never v refl)
answer_so (Some Failed) never = inr (inl refl)
answer_so (Some Refused) never = inr (inr refl)

module _ (s : System) (pure : RoutineName → Bool) (w : World) (h : ℕ) (f : Frame) (below : List Frame)
    (i : InPrecondition s pure w h None f)
    (own : f.current.handler ≡ h) (rest : AllPlain pure (w.handlers h).answer below)
    (impure : pure (name_of f.routine) ≡ true → ⊥)
    (quiet : (k : ℕ) → Contains i.asked k → (k ≢ h) × IsQuiet w h k)
    (never : (v : Option Value) → (w.handlers h).answer ≡ Some (Reply v) → ⊥)
    (o : Reference) (x : List ℕ) (us : List Operand) (t : EntityType) (p : Point) (apart : o.handler ≢ h)
    (runs : RunsPureIfRoutine s pure o x)
    (done : ClauseDone s (MayAsk h i.asked) (objects_of w) f.current f.routine (bound_in f)
    (Requests o x us (Some t) false) p)
    (there : InContract (objects_of w) f.current f.routine (bound_in f) p) where
  abbrev K : ℕ
  K = o.handler

  abbrev Q : Request
  Q = clause_request h o x us

  abbrev G : Frame
  G = at_stage f p (Awaits K (Some t) false)

  abbrev U : World
  U = with_stack h (G ∷ below) w

  -- the request is sent so
  module _ (c : Bool) where
    abbrev V : World
    V = send c K Q U

    target : (V.handlers K) ≡ placed c Q (w.handlers K)
    target = m_put-own K (placed c Q (U.handlers K)) U
        ∙ ap (placed c Q) (m_put-off h (record (w.handlers h) { stack = G ∷ below }) w K apart)

    own_handler : V.handlers h ≡ record (w.handlers h) { stack = G ∷ below }
    own_handler = m_put-off K (placed c Q (U.handlers K)) U h (λ e. apart (sym e))
        ∙ m_put-own h (record (w.handlers h) { stack = G ∷ below }) w

    placed_objects : (b : Bool) → (placed b Q (U.handlers K)).objects ≡ (U.handlers K).objects
    placed_objects true = refl
    placed_objects false = refl

    objects_are : objects_of V ≡ objects_of w
    objects_are = put_objects K (placed c Q (U.handlers K)) U (placed_objects c)
        ∙ (same_stack h (G ∷ below) w).objects_are

    others : (k : ℕ) → k ≢ h → k ≢ K → V.handlers k ≡ w.handlers k
    others k ne nk = m_put-off K (placed c Q (U.handlers K)) U k nk
        ∙ m_put-off h (record (w.handlers h) { stack = G ∷ below }) w k ne

    quiet_there : (k : ℕ) → Contains i.asked k → (k ≢ h) × (IsQuiet V h k ⊎ AwaitsOf (Awaits K (Some t) false) k)
    quiet_there k m = let q = quiet k m in (
      q.0,
      ⊎_elim (λ (e : k ≡ K). inr (sym e)) (λ (ne : k ≢ K). inl (quiet_stays w V h k (others k q.0 ne) refl q.1))
          (cases_eq k K),
    )

    answer_is : (V.handlers h).answer ≡ (w.handlers h).answer
    answer_is = ap (λ (y : Handler). y.answer) own_handler

    bound_is : bound_in G ≡ bound_in f
    bound_is = ap (λ (bs : List Binding). take (length f.routine.text.formals) bs)
        (there.environment_is ∙ sym i.environment_is)

    point_is : point_of G (V.handlers h).objects ≡ p
    point_is = ap (λ (os : List Object). record p { objects = os })
        (ap (λ (y : Handler). y.objects) own_handler ∙ sym (there.objects_are ∙ ap (objects_of w) own))

    done_there : ClauseDone s (MayAsk h i.asked) (objects_of V) f.current f.routine (bound_in G)
        (Requests o x us (Some t) false) (point_of G (V.handlers h).objects)
    done_there = subst (ClauseDone s (MayAsk h i.asked) (objects_of V) f.current f.routine (bound_in G)
        (Requests o x us (Some t) false)) (sym point_is)
        (subst (λ (bs : List Binding). ClauseDone s (MayAsk h i.asked) (objects_of V) f.current f.routine bs
        (Requests o x us (Some t) false) p) (sym bound_is)
        (subst (λ (N : ℕ → List Object). ClauseDone s (MayAsk h i.asked) N f.current f.routine (bound_in f)
        (Requests o x us (Some t) false) p) (sym objects_are) done))

    asks_follow : RequestStands s pure V h i.asked o x us → Follow s pure h V
    asks_follow stands = inl
        (subst (StackFollows s pure V h None) (sym (ap (λ (y : Handler). y.stack) own_handler))
        (frame, plain_follows s pure V h (Some G) below more))
      where
        more : AllPlain pure (V.handlers h).answer below
        more = subst (λ (a : Option Answer). AllPlain pure a below) (sym answer_is) rest

        by : ((w.handlers h).answer ≡ None) ⊎ IsNoReply (w.handlers h).answer →
            HasStarted G.tasks ⊎ (IsLost V h G ⊎ (AboveIsPure pure None × InPrecondition s pure V h None G))
        by (inl none) = inr (inr (
          tt,
          record {
            asked = i.asked;
            quiet = quiet_there;
            environment_is = there.environment_is ∙ sym bound_is;
            stands = (o, x, us, done_there, refl, apart, refl, runs, following.stands (answer_is ∙ none) stands);
          },
        ))
        by (inr n) = inr (inl (refl, subst IsNoReply (sym answer_is) n))

        frame : FrameFollows s pure V h None G
        frame = record {
          in_precondition = by (answer_so (w.handlers h).answer never);
          in_pure = λ j. absurd (impure j);
          is_bound = λ j. absurd (impure j);
          reserves_nothing = λ j. absurd (impure j);
        }

  -- ---- where it stands

  called_back : is_handler h (w.rights.top K) ≡ true → Follow s pure h (V true)
  called_back top = asks_follow true
      (following.called_back (ap (λ (y : Handler). y.callback) (target true)) (is_holder h (w.rights.top K) top))

  queued : held w.rights h K ≡ true → (w.handlers K).failure ≡ None → is_handler h (w.rights.top K) ≡ false →
      Follow s pure h (V false)
  queued holds stands top =
      asks_follow false (following.queued (w.handlers K).queue (ap (λ (y : Handler). y.queue) (target false))
      (is_holder h (w.rights.queue K)
      (first_right (K == h) (is_handler h (w.rights.queue K)) (is_handler h (w.rights.top K))
      (ne_eqb K h apart) holds top))
      (λ m. by (quiet K m).1))
    where
      by : IsQuiet w h K → ((w.handlers K).queue ≡ []) × (((V false).handlers K).stack ≡ [])
      by (following.failed e) = absurd (no_both (is_some (w.handlers K).failure) e (ap is_some stands))
      by (following.idle a b r) = (b, ap (λ (y : Handler). y.stack) (target false) ∙ a)
      by (following.waiting e) = absurd (no_both (is_handler h (w.rights.top K)) (holds_it h (w.rights.top K) e) top)

  sent : held w.rights h K ≡ true → (w.handlers K).failure ≡ None → (c : Bool) → is_handler h (w.rights.top K) ≡ c →
      Follow s pure h (V c)
  sent holds stands true e = called_back e
  sent holds stands false e = queued holds stands e

  pub request_follows : Follow s pure h (request h o x us (Some t) false (frame_at f p) below (moved_in w h f below p))
  request_follows = by (not (held w.rights h K)) refl (is_some ((moved_in w h f below p).handlers K).failure) refl
    where
      target_same : (moved_in w h f below p).handlers K ≡ w.handlers K
      target_same = m_put-off h (record (w.handlers h) { objects = p.objects; stack = frame_at f p ∷ below }) w K apart

      none_is : (c : Option Cause) → is_some c ≡ false → c ≡ None
      none_is None e = refl
      none_is (Some why) e = cc

      asked : held w.rights h K ≡ true → (w.handlers K).failure ≡ None →
          Follow s pure h (asks h o x us (Some t) false true (frame_at f p) below (moved_in w h f below p))
      asked holds stands = subst (λ (u : World). Follow s pure h (send (is_handler h (w.rights.top K)) K Q u))
          (sym (moved_stack s pure w h f below p (there.objects_are ∙ ap (objects_of w) own) (G ∷ below)))
          (sent holds stands (is_handler h (w.rights.top K)) refl)

      by : (a : Bool) → not (held w.rights h K) ≡ a → (b : Bool) →
          is_some ((moved_in w h f below p).handlers K).failure ≡ b → Follow s pure h (
          if a then fail h cause.NotHeld (moved_in w h f below p)
          else if b then fail h cause.SupplierFailed (moved_in w h f below p)
          else if not (is_callback h K (moved_in w h f below p)) && not
          (nat_lt (length ((moved_in w h f below p).handlers K).queue) max_queue)
          then fail h cause.QueueFull (moved_in w h f below p) else asks h o x us (Some t) false true
          (frame_at f p) below (moved_in w h f below p)
          )
      by true e b j = fails_follow s pure h cause.NotHeld [] (moved_in w h f below p)
      by false e true j = fails_follow s pure h cause.SupplierFailed [] (moved_in w h f below p)
      by false e false j = either_follow s pure h
          (not (is_callback h K (moved_in w h f below p)) && not
          (nat_lt (length ((moved_in w h f below p).handlers K).queue) max_queue))
          (fail h cause.QueueFull (moved_in w h f below p))
          (asks h o x us (Some t) false true (frame_at f p) below (moved_in w h f below p))
          (fails_follow s pure h cause.QueueFull [] (moved_in w h f below p))
          (asked (not_true (held w.rights h K) e)
          (ap (λ (y : Handler). y.failure) (sym target_same) ∙ none_is ((moved_in w h f below p).handlers K).failure j))
