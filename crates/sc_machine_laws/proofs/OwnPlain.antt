-- The turn of a handler of which no frame evaluates: so it is after it, but for a routine that is entered.
use Rattle.std.proofs.Common.{ℕ, ◌≡◌, ◌⊎◌, ◌<◌, ◌==◌, ◌&&◌, ◌||◌, not, Bool, true, false, List, [], ◌∷◌, ◌++◌, Option, Some, None, refl, sym, ap, subst, ◌∙◌, inl, inr, arith}
use Rattle.std.proofs.lemmas.Bool.{eq-eqb, ne_eqb}
use Rattle.std.specs.Prelude.{if◌then◌else◌, is_some, length, nat_lt}
use Rattle.std.specs.Option.{option_and_then, option_map}
use Rattle.sc_tree.specs.Plain as tree
use Rattle.sc_tree.specs.Plain.{System, Clause, FeatureKind}
use Rattle.sc_class.specs.Tables.Features.{DeclaredFeature}
use Rattle.sc_rules.specs.declared.entity_types.entity_type.EntityType.{EntityType}
use Rattle.sc_rules.specs.Names.{RoutineName}
use Rattle.sc_rules.specs.Types.{declared_type}
use Rattle.sc_lockpass.specs.Rights.{held}
use Rattle.sc_lockpass.specs.wait_conditions.Reservations.{reserve_fails}
use Rattle.sc_lockpass.specs.declared.wait_conditions.session.Release.{Release}
use Rattle.sc_lockpass.specs.declared.wait_conditions.session.Release.TheVariants as release_at
use Rattle.sc_model.specs.declared.cause.Cause.{Cause}
use Rattle.sc_model.specs.declared.cause.Cause.TheVariants as cause
use Rattle.sc_model.specs.Limits.{max_frames, max_queue}
use Rattle.sc_model.specs.Values.{Reference, Value, Attached, Operand, operand, values_of}
use Rattle.sc_model.specs.Environments.{Binding, binding_named, formals_bound}
use Rattle.sc_model.specs.Objects.{Object, object_numbered, fresh_object}
use Rattle.sc_model.specs.Invariants.{meets_invariant}
use Rattle.sc_model.specs.Routines.{Routine, version_of, routine_named, routine_of}
use Rattle.sc_model.specs.Steps.{Act, Prints, Until, Creates, CreatesHandler, Enters, Requests, Starts, Refuses, Opens, Leaves, Exits, Fails, Step, Goes, Does}
use Rattle.sc_model.specs.Handlers.{Errand, Calls, Makes, Request, Answer, Reply, Failed, Refused, Origin, Called, Requested, Stage, Runs, Reserves, ReservesBlock, InCall, Awaits, Frame, Handler, World, frame_at, put, with_stack}
use Rattle.sc_model.specs.Sessions.{standing_in, reserve, release}
use Rattle.sc_model.specs.Answers.{finish}
use Rattle.sc_model.specs.Failures.{fails_with}
use Rattle.sc_model.specs.Entries.{entry, enters_bound, enters, reserves_if}
use Rattle.sc_model.specs.Asking.{passes, send, awaits_if, request_by, is_callback, asks, request, with_handler, posts_creation, passes_or_releases, created}
use Rattle.sc_model.specs.Preconditions.{is_creation, object_meets, counted_refusal, refuses}
use Rattle.sc_model.specs.Exits.{is_unset_value, is_unset, is_untested, handed_as, handed_at, handed, leaves_to, exits, leaves_block}
use Rattle.sc_model.specs.Takes.{replies, takes_kind, takes_version, takes_creation, with_new_object, takes_errand, takes, takes_next, released_if, takes_answer}
use Rattle.sc_model.specs.Turns.{effect, settles, waits}
use Rattle.sc_machine_laws.specs.states.Headline.{is_awaiting}
use Rattle.sc_machine_laws.specs.settlements.Calm.{name_of}
use Rattle.sc_machine_laws.specs.settlements.Entries.{HasStarted, RefusesNone}
use Rattle.sc_machine_laws.proofs.states.links.Looks.{m_put-own}
use Rattle.sc_machine_laws.proofs.OwnWorlds.{IsNoReply, IsLike, like_put, like_release, like_finish, like_passes, like_send, like_new, fallen_stack}
use Rattle.sc_machine_laws.proofs.OwnKept.{IsPlain, AllPlain, plain_kept}
use Rattle.sc_machine_laws.proofs.OwnCalm.{IsCalm, plain, entered, calm_kept, runs_started, reply_none}

module _ (s : System) (pure : RoutineName → Bool) (h : ℕ) where
  abbrev Good : World → Type 0
  Good v = IsCalm s pure (v.handlers h).answer (v.handlers h).stack

  abbrev Plain : World → List Frame → Type 0
  Plain v st = AllPlain pure (v.handlers h).answer st

  either : (b : Bool) (x y : World) → Good x → Good y → Good (if b then x else y)
  either true x y t u = t
  either false x y t u = u

  pub stays : (v : World) (st : List Frame) → (v.handlers h).stack ≡ st → Plain v st → Good v
  stays v st at is = subst (IsCalm s pure (v.handlers h).answer) (sym at) (plain is)

  own_good : (x : Handler) (v : World) → IsCalm s pure x.answer x.stack → Good (put h x v)
  own_good x v is = subst (λ (b : Bool). IsCalm s pure (if b then x else v.handlers h).answer
      (if b then x else v.handlers h).stack) (sym (eq-eqb h h refl)) is

  pub like_good : (v u : World) → IsLike h v u → Good v → Good u
  like_good v u l t = subst (IsCalm s pure (u.handlers h).answer) (sym l.stack_is)
      (calm_kept s pure (v.handlers h).answer (u.handlers h).answer (v.handlers h).stack l.no_reply t)

  pub fails_good : (why : Cause) (taken : List Request) (v : World) → Good (fails_with h why taken v)
  fails_good why taken v = stays (fails_with h why taken v) [] (fallen_stack h why taken v) tt

  pub stack_good : (st : List Frame) (v : World) → IsCalm s pure (v.handlers h).answer st → Good (with_stack h st v)
  stack_good st v is = own_good (record (v.handlers h) { stack = st }) v is

  pub release_good : (how : Release) (ks : List ℕ) (v : World) → Good v → Good (release how ks v)
  release_good how ks v t = like_good v (release how ks v) (like_release h how ks v) t

  pub finish_good : (r : Request) (a : Answer) (v : World) → Good v → Good (finish r a v)
  finish_good r a v t = like_good v (finish r a v) (like_finish h r a v) t

  -- ---- a routine is entered

  pub enters_good : (me : Reference) (x : List ℕ) (o : Option Routine) (c : Origin) (below : List Frame)
      (taken : List Request) (vs : List Value) (v : World) →
      ((r : Routine) → o ≡ Some r → routine_named s me.class x ≡ Some r) → Plain v below →
      Good (enters s h me o c below taken vs v)
  enters_good me x None c below taken vs v named is = fails_good cause.BadCode taken v
  enters_good me x (Some r) c below taken vs v named is =
      bound (formals_bound s r.text.formals 0 r.text.formals vs) refl
    where
      bound : (b : Option (List Binding)) → formals_bound s r.text.formals 0 r.text.formals vs ≡ b →
          Good (enters_bound h me r c below taken b v)
      bound None e = fails_good cause.BadCode taken v
      bound (Some bs) e = either (nat_lt (length below) max_frames) _ _
          (stack_good (entry me r c bs ∷ below) v (entered (record {
            current = me;
            routine = r;
            origin = c;
            bindings = bs;
            name = x;
            is_named = named r refl;
            are_bound = (vs, e);
            frame_is = refl;
          }) is))
          (fails_good cause.StackFull taken v)

  -- ---- another handler is asked

  awaits_plain : (a : Option Answer) (b : Bool) (k : ℕ) (gives : Option EntityType) (c : Bool) (f : Frame) →
      HasStarted f.tasks → (pure (name_of f.routine) ≡ true → ⊥) →
      IsPlain pure a (awaits_if b k gives c f)
  awaits_plain a true k gives c f i p = (inl i, p)
  awaits_plain a false k gives c f i p = (inl i, p)

  asks_good : (r : Reference) (x : List ℕ) (us : List Operand) (gives : Option EntityType) (passing waits : Bool)
      (f : Frame) (below : List Frame) (v : World) →
      HasStarted f.tasks → (pure (name_of f.routine) ≡ true → ⊥) → Plain v below →
      Good (asks h r x us gives passing waits f below v)
  asks_good r x us gives passing waits f below v i p more =
      let req : Request = request_by h r (Calls x) us waits passing v in
      let at : World = with_stack h (awaits_if waits r.handler gives false f ∷ below) v in
      let sent : World = send (is_callback h r.handler v) r.handler req at in
      like_good sent (passes passing h r.handler sent) (like_passes h passing h r.handler sent)
      (like_good at sent (like_send h (is_callback h r.handler v) r.handler req at)
      (stack_good (awaits_if waits r.handler gives false f ∷ below) v
      (plain (awaits_plain (v.handlers h).answer waits r.handler gives false f i p, more))))

  request_good : (r : Reference) (x : List ℕ) (us : List Operand) (gives : Option EntityType) (passing : Bool)
      (f : Frame) (below : List Frame) (v : World) →
      HasStarted f.tasks → (pure (name_of f.routine) ≡ true → ⊥) → Plain v below →
      Good (request h r x us gives passing f below v)
  request_good r x us gives passing f below v i p more =
      either (not (held v.rights h r.handler)) _ _ (fails_good cause.NotHeld [] v)
      (either (is_some (v.handlers r.handler).failure) _ _ (fails_good cause.SupplierFailed [] v)
      (either (not (is_callback h r.handler v) && not (nat_lt (length (v.handlers r.handler).queue) max_queue)) _ _
      (fails_good cause.QueueFull [] v)
      (asks_good r x us gives passing (passing || is_some gives || is_callback h r.handler v) f below v i p more)))

  created_good : (r : Reference) (procedure : Option (List ℕ)) (us : List Operand) (t : EntityType) (passing : Bool)
      (f : Frame) (below : List Frame) (v : World) →
      (h == r.handler) ≡ false → HasStarted f.tasks → (pure (name_of f.routine) ≡ true → ⊥) → Plain v below →
      Good (created h r procedure us t passing f below v)
  created_good r procedure us t passing f below v other i p more = by passing
    where
      more_there : AllPlain pure ((with_handler r.handler h v).handlers h).answer below
      more_there = plain_kept pure (v.handlers h).answer ((with_handler r.handler h v).handlers h).answer below
          (like_new h r.handler h v other).no_reply more

      posted : Good (posts_creation h r procedure us t passing f below (with_handler r.handler h v))
      posted =
          let n : World = with_handler r.handler h v in
          let at : World = with_stack h
          (awaits_if passing r.handler None true
          (record f { values = operand (Attached r) t ∷ f.values }) ∷ below) n in
          let req : Request = request_by h r (Makes procedure) us passing passing n in
          like_good at (send false r.handler req at) (like_send h false r.handler req at)
          (stack_good (awaits_if passing r.handler None true
          (record f { values = operand (Attached r) t ∷ f.values }) ∷ below) n
          (plain (
            awaits_plain ((with_handler r.handler h v).handlers h).answer passing r.handler None true
                (record f { values = operand (Attached r) t ∷ f.values }) i p,
            more_there,
          )))

      by : (b : Bool) → Good (passes_or_releases b h r.handler
          (posts_creation h r procedure us t passing f below (with_handler r.handler h v)))
      by true =
          let u : World = posts_creation h r procedure us t passing f below (with_handler r.handler h v) in
          like_good u (passes true h r.handler u) (like_passes h true h r.handler u) posted
      by false = release_good release_at.Creation (r.handler ∷ [])
          (posts_creation h r procedure us t passing f below (with_handler r.handler h v)) posted

  -- ---- a routine ends

  pub refuses_good : (r : Request) (f : Frame) (below : List Frame) (v : World) → Plain v below →
      Good (refuses s h r f below v)
  refuses_good r f below v is =
      let x : Handler = record (v.handlers h) { stack = below } in
      either (is_creation r.errand && not (object_meets s (object_numbered f.current.number (v.handlers h).objects))) _
      _ (fails_good cause.Invariant [] v)
      (finish_good r Refused (release release_at.Refusal f.reserved (put h (counted_refusal r.is_waited x) v))
      (release_good release_at.Refusal f.reserved (put h (counted_refusal r.is_waited x) v)
      (own_good (counted_refusal r.is_waited x) v (counted r.is_waited x is))))
    where
      counted : (b : Bool) (x : Handler) → AllPlain pure x.answer x.stack →
          IsCalm s pure (counted_refusal b x).answer (counted_refusal b x).stack
      counted true x is = plain is
      counted false x is = plain is

  leaves_good : (kss : List (List ℕ)) (f : Frame) (below : List Frame) (v : World) →
      IsPlain pure (v.handlers h).answer f → Plain v below → Good (leaves_block h kss f below v)
  leaves_good [] f below v g is = fails_good cause.BadCode [] v
  leaves_good (ks ∷ kss) f below v g is =
      release_good release_at.Leave ks (with_stack h (record f { blocks = kss } ∷ below) v)
      (stack_good (record f { blocks = kss } ∷ below) v (plain ((g.0, g.1), is)))

  handed_plain : (a : Option Answer) (v : Option Value) (gives : Option EntityType) (f : Frame) → HasStarted f.tasks →
      (pure (name_of f.routine) ≡ true → ⊥) →
      IsPlain pure a (handed_as gives v f)
  handed_plain a (Some v) (Some t) f i p = (inl i, p)
  handed_plain a None (Some t) f i p = (inl i, p)
  handed_plain a v None f i p = (inl i, p)

  handed_good : (a : Option Answer) (v : Option Value) (below : List Frame) → AllPlain pure a below →
      AllPlain pure a (handed v below)
  handed_good a v [] is = tt
  handed_good a v (f ∷ below) is = (by f.stage refl, is.1)
    where
      by : (st : Stage) → f.stage ≡ st → IsPlain pure a (handed_at st v f)
      by (InCall gives) e = handed_plain a v gives f (runs_started pure a f (ap is_awaiting e) is.0) is.0.1
      by Runs e = is.0
      by Reserves e = is.0
      by ReservesBlock e = is.0
      by (Awaits k gives c) e = is.0

  pub exits_good : (f : Frame) (below : List Frame) (v : World) → Plain v below → Good (exits s h f below v)
  exits_good f below v is =
      either (is_unset f.result) _ _ (fails_good cause.UnsetEntity [] v)
      (either (is_untested f.origin || object_meets s (object_numbered f.current.number (v.handlers h).objects)) _ _
      (by f.origin) (fails_good cause.Invariant [] v))
    where
      by : (c : Origin) → Good (leaves_to h c f.reserved (option_map (λ (u : Operand). u.value) f.result) below v)
      by (Called c) = release_good release_at.Exit f.reserved
          (with_stack h (handed (option_map (λ (u : Operand). u.value) f.result) below) v)
          (stack_good (handed (option_map (λ (u : Operand). u.value) f.result) below) v
          (plain (handed_good (v.handlers h).answer (option_map (λ (u : Operand). u.value) f.result) below is)))
      by (Requested r) = finish_good r (Reply (option_map (λ (u : Operand). u.value) f.result))
          (release release_at.Exit f.reserved (with_stack h below v))
          (release_good release_at.Exit f.reserved (with_stack h below v) (stack_good below v (plain is)))

  -- ---- a visible step of one that has started

  acts_good : (most : ℕ) (a : Act) (f : Frame) (below : List Frame) (v : World) → h < v.count →
      (v.handlers h).stack ≡ f ∷ below → ((k : Clause) → a ≡ Refuses k → ⊥) →
      HasStarted f.tasks → (pure (name_of f.routine) ≡ true → ⊥) → Plain v below → Good (effect most s h a f below v)
  acts_good most (Prints text) f below v here at never i p is =
      own_good (record (v.handlers h) { output = (v.handlers h).output ++ text }) v
      (subst (IsCalm s pure (v.handlers h).answer) (sym at) (plain ((inl i, p), is)))
  acts_good most Until f below v here at never i p is = stays v (f ∷ below) at ((inl i, p), is)
  acts_good most Creates f below v here at never i p is = stays v (f ∷ below) at ((inl i, p), is)
  acts_good most Starts f below v here at never i p is = stays v (f ∷ below) at ((inl i, p), is)
  acts_good most (CreatesHandler class procedure us t passing) f below v here at never i p is =
      either (nat_lt v.count most) _ _
      (created_good (record { handler = v.count; number = 1; class = class }) procedure us t passing f below v
      (ne_eqb h v.count (λ e. omega (arith, here, e))) i p is)
      (fails_good cause.TooManyHandlers [] v)
  acts_good most (Enters c me x us gives) f below v here at never i p is =
      enters_good me x (routine_named s me.class x) (Called c) (record f { stage = InCall gives } ∷ below) []
      (values_of us) v (λ r e. e) ((inl i, p), is)
  acts_good most (Requests t x us gives passing) f below v here at never i p is =
      request_good t x us gives passing f below v i p is
  acts_good most (Refuses k) f below v here at never i p is = absurd (never k refl)
  acts_good most Opens f below v here at never i p is = stack_good (record f { stage = ReservesBlock } ∷ below) v
      (plain ((inl i, p), is))
  acts_good most Leaves f below v here at never i p is = leaves_good f.blocks f below v (inl i, p) is
  acts_good most Exits f below v here at never i p is = exits_good f below v is
  acts_good most (Fails why) f below v here at never i p is = fails_good why [] v

  -- ---- a request is taken

  replies_good : (r : Request) (t : Option EntityType) (b : Option Binding) (v : World) → Good v →
      Good (replies h r t b v)
  replies_good r (Some t) (Some b) v z =
      either (is_unset_value b.value t) _ _ (fails_good cause.UnsetEntity (r ∷ []) v)
      (finish_good r (Reply (Some b.value)) v z)
  replies_good r (Some t) None v z = fails_good cause.BadCode (r ∷ []) v
  replies_good r None b v z = fails_good cause.BadCode (r ∷ []) v

  version_good : (r : Request) (x : List ℕ) (below : List Frame) (o : Option Object) (f : Option DeclaredFeature)
      (v : World) → version_of s r.target.class x ≡ f → Good v →
      Plain v below → Good (takes_version s h r x below o f v)
  version_good r x below (Some o) (Some f) v e z is = by f.feature.kind
    where
      by : (k : FeatureKind) → Good (takes_kind s h r x below o f k v)
      by (tree.Attribute d) = replies_good r (declared_type s [] d) (binding_named x o.attributes) v z
      by (tree.Routine c) = enters_good r.target x (routine_of s f) (Requested r) below (r ∷ []) r.actuals v
          (λ q i. ap (λ (g : Option DeclaredFeature). option_and_then (routine_of s) g) e ∙ i) is
  version_good r x below (Some o) None v e z is = fails_good cause.BadCode (r ∷ []) v
  version_good r x below None f v e z is = fails_good cause.BadCode (r ∷ []) v

  creation_good : (r : Request) (k : Option (List ℕ)) (below : List Frame) (v : World) → Good v → Plain v below →
      Good (takes_creation s h r k below v)
  creation_good r (Some x) below v z is =
      enters_good r.target x (routine_named s r.target.class x) (Requested r) below (r ∷ []) r.actuals v (λ q i. i) is
  creation_good r None below v z is =
      either (meets_invariant s (fresh_object s r.target.class)) _ _ (finish_good r (Reply None) v z)
      (fails_good cause.Invariant (r ∷ []) v)

  pub takes_good : (r : Request) (below : List Frame) (v : World) → (v.handlers h).stack ≡ below → Plain v below →
      Good (takes s h r below v)
  takes_good r below v at is = by r.errand
    where
      made : IsLike h v (with_new_object s h r.target.class v)
      made = like_put h h (record
          (v.handlers h) { objects = (v.handlers h).objects ++ fresh_object s r.target.class ∷ [] }) v refl (λ z. z)

      by : (c : Errand) → Good (takes_errand s h r c below v)
      by (Makes k) = creation_good r k below (with_new_object s h r.target.class v)
          (like_good v _ made (stays v below at is))
          (plain_kept pure (v.handlers h).answer
          ((with_new_object s h r.target.class v).handlers h).answer below made.no_reply is)
      by (Calls x) = either (r.target.handler == h) _ _
          (version_good r x below (object_numbered r.target.number (v.handlers h).objects)
          (version_of s r.target.class x) v refl (stays v below at is) is)
          (fails_good cause.ForeignObject (r ∷ []) v)

  -- ---- a turn

  module _ (w : World) where
    pub settles_good : (most : ℕ) (st : Step) (f : Frame) (below : List Frame) → h < w.count →
        (w.handlers h).stack ≡ f ∷ below → RefusesNone st → HasStarted f.tasks →
        (pure (name_of f.routine) ≡ true → ⊥) → Plain w below → Good (settles most s h st f below w)
    settles_good most (Goes p) f below here at z i other is = stays w (f ∷ below) at ((inl i, other), is)
    settles_good most (Does a p) f below here at z i other is =
        let x : Handler = record (w.handlers h) { objects = p.objects; stack = frame_at f p ∷ below } in
        acts_good most a (frame_at f p) below (put h x w) here (ap (λ (y : Handler). y.stack) (m_put-own h x w))
        (never a z) (started a z) other
        (plain_kept pure (w.handlers h).answer ((put h x w).handlers h).answer below
        (λ n. subst (λ (y : Handler). IsNoReply y.answer) (sym (m_put-own h x w)) n) is)
      where
        never : (a : Act) → RefusesNone (Does a p) → (k : Clause) → a ≡ Refuses k → ⊥
        never a z k e = subst (λ (a : Act). RefusesNone (Does a p)) e z

        started : (a : Act) → RefusesNone (Does a p) → HasStarted (frame_at f p).tasks
        started (Prints text) i = i
        started Until i = i
        started Creates i = i
        started Starts i = i
        started (CreatesHandler class procedure us t passing) i = i
        started (Enters c me x us gives) i = i
        started (Requests t x us gives passing) i = i
        started (Refuses k) i = absurd i
        started Opens i = i
        started Leaves i = i
        started Exits i = i
        started (Fails why) i = i

    pub reserves_good : (b : Bool) (ks : List ℕ) (f g : Frame) (below : List Frame) → (w.handlers h).stack ≡ g ∷ below →
        IsPlain pure (w.handlers h).answer g →
        IsPlain pure (w.handlers h).answer f → Plain w below → Good (reserves_if b h ks f below w)
    reserves_good true ks f g below at r q is =
        either (reserve_fails (standing_in w) w.rights ks) _ _ (fails_good cause.SupplierFailed [] w)
        (like_good (with_stack h (f ∷ below) w) (reserve h ks (with_stack h (f ∷ below) w))
        (record { stack_is = refl; no_reply = λ z. z }) (stack_good (f ∷ below) w (plain (q, is))))
    reserves_good false ks f g below at r q is = stays w (g ∷ below) at (r, is)

    pub answer_good : (a : Answer) (k : ℕ) (gives : Option EntityType) (c : Bool) (f : Frame) (below : List Frame) →
        (w.handlers h).answer ≡ Some a →
        IsPlain pure (w.handlers h).answer f → Plain w below → Good (takes_answer h a k gives c f below w)
    answer_good (Reply x) k gives c f below e g is = by c
      where
        none : (P : Type 0) → IsNoReply (w.handlers h).answer → P
        none P n = reply_none x P (subst IsNoReply e n)

        started : HasStarted f.tasks ⊎ ((is_awaiting f.stage ≡ true) × IsNoReply (w.handlers h).answer) →
            HasStarted f.tasks
        started (inl i) = i
        started (inr i) = none (HasStarted f.tasks) i.1

        goes : Good (put h (record (w.handlers h) { stack = handed_as gives x f ∷ below; answer = None }) w)
        goes = own_good (record (w.handlers h) { stack = handed_as gives x f ∷ below; answer = None }) w
            (plain (
              handed_plain None x gives f (started g.0) g.1,
              plain_kept pure (w.handlers h).answer None below
                  (none (IsNoReply None)) is,
            ))

        by : (b : Bool) → Good (released_if b k
            (put h (record (w.handlers h) { stack = handed_as gives x f ∷ below; answer = None }) w))
        by true = release_good release_at.Creation (k ∷ [])
            (put h (record (w.handlers h) { stack = handed_as gives x f ∷ below; answer = None }) w) goes
        by false = goes
    answer_good Failed k gives c f below e g is = fails_good cause.SupplierFailed [] w
    answer_good Refused k gives c f below e g is = fails_good cause.Precondition [] w

    -- a handler that runs nothing takes the next request
    pub next_good : (rs : List Request) → (w.handlers h).stack ≡ [] → Good (takes_next s h rs w)
    next_good [] at = stays w [] at tt
    next_good (r ∷ rs) at = takes_good r [] (put h (record (w.handlers h) { queue = rs }) w)
        (ap (λ (y : Handler). y.stack) (m_put-own h (record (w.handlers h) { queue = rs }) w) ∙ at) tt
