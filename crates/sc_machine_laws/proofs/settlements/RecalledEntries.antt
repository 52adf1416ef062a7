-- In a turn each frame keeps what it recalls of the entry that its handler reserved for last.
use Rattle.std.proofs.Common.{ℕ, ◌≡◌, ◌<◌, ◌==◌, ◌&&◌, ◌||◌, not, Bool, true, false, List, [], ◌∷◌, Option, Some, None, refl, sym, ap, subst, ◌∙◌, inl, inr}
use Rattle.std.proofs.lemmas.Bool.{eq-eqb, ltb-true}
use Rattle.std.specs.Prelude.{if◌then◌else◌, is_some, length, nat_lt}
use Rattle.std.specs.Option.{option_map}
use Rattle.sc_tree.specs.Plain as tree
use Rattle.sc_tree.specs.Plain.{System, FeatureKind}
use Rattle.sc_class.specs.Tables.Features.{DeclaredFeature}
use Rattle.sc_rules.specs.declared.entity_types.entity_type.EntityType.{EntityType}
use Rattle.sc_rules.specs.Types.{declared_type}
use Rattle.sc_lockpass.specs.Rights.{held}
use Rattle.sc_lockpass.specs.wait_conditions.Reservations.{mark_of, reserve_fails}
use Rattle.sc_lockpass.specs.declared.wait_conditions.condition.EntryVerdict.{EntryVerdict}
use Rattle.sc_lockpass.specs.declared.wait_conditions.condition.EntryVerdict.TheVariants as verdict
use Rattle.sc_lockpass.specs.declared.wait_conditions.session.Release.{Release}
use Rattle.sc_lockpass.specs.declared.wait_conditions.session.Release.TheVariants as release_at
use Rattle.sc_model.specs.declared.cause.Cause.{Cause}
use Rattle.sc_model.specs.declared.cause.Cause.TheVariants as cause
use Rattle.sc_model.specs.Limits.{max_frames, max_queue}
use Rattle.sc_model.specs.Values.{Reference, Value, Attached, Operand, operand, values_of}
use Rattle.sc_model.specs.Environments.{Binding, binding_named, formals_bound, separate_formals}
use Rattle.sc_model.specs.Objects.{Object, object_numbered, fresh_object}
use Rattle.sc_model.specs.Invariants.{meets_invariant}
use Rattle.sc_model.specs.Routines.{Routine, version_of, routine_named, routine_of}
use Rattle.sc_model.specs.Tasks.{tasks_of}
use Rattle.sc_model.specs.Steps.{Act, Prints, Until, Creates, CreatesHandler, Enters, Requests, Starts, Refuses, Opens, Leaves, Exits, Fails, Step, Goes, Does, Point}
use Rattle.sc_model.specs.Moves.{moves}
use Rattle.sc_model.specs.Handlers.{Errand, Calls, Makes, Request, Answer, Reply, Failed, Refused, Origin, Called, Requested, Stage, Runs, Reserves, ReservesBlock, InCall, Awaits, Frame, Handler, World, point_of, frame_at, put, with_stack}
use Rattle.sc_model.specs.Sessions.{standing_in, release}
use Rattle.sc_model.specs.Answers.{finish}
use Rattle.sc_model.specs.Failures.{fails_with}
use Rattle.sc_model.specs.Entries.{entry, enters_bound, enters, entry_needs, block_needs, may_reserve, reserves_if}
use Rattle.sc_model.specs.Asking.{passes, send, awaits_if, request_by, is_callback, asks, request, with_handler, posts_creation, passes_or_releases, created, creates_handler}
use Rattle.sc_model.specs.Preconditions.{verdict_on, is_creation, object_meets, counted_refusal, refuses, correctness_fails, false_clause}
use Rattle.sc_model.specs.Exits.{is_unset_value, is_unset, is_untested, handed_as, handed_at, handed, leaves_to, exits, leaves_block}
use Rattle.sc_model.specs.Takes.{replies, takes_kind, takes_version, takes_creation, with_new_object, takes_errand, takes, takes_next, released_if, takes_answer}
use Rattle.sc_model.specs.Turns.{effect, settles, waits, goes_on, turn_with, turn}
use Rattle.sc_request.specs.Asked.{handlers_of}
use Rattle.sc_machine_laws.proofs.states.links.Points.{Every, DoesWell, StepsWell}
use Rattle.sc_machine_laws.proofs.states.links.Sound.{IsFrameSound, IsSound, formals_of}
use Rattle.sc_machine_laws.specs.settlements.Entries.{HasStarted, RefusesNone}
use Rattle.sc_machine_laws.proofs.settlements.CalmSteps.{moves_calm}
use Rattle.sc_machine_laws.proofs.settlements.Grants.{moves_so}
use Rattle.sc_machine_laws.proofs.settlements.UnchangedStacks.{AllRecall, AreAlike, Others, Recalls, dropped_if, fallen_stack, finish_alike, others_alike, others_new, others_put, others_stay, passes_alike, put_alike, release_alike, send_alike, then_left}

-- ---- a turn of the handler

pub record Turned (h : ℕ) (e : List ℕ) (w v : World) : Type 0 where
  pub own : AllRecall e (v.handlers h).stack
  pub others : Others h w v

awaits_recall : (e : List ℕ) (b : Bool) (k : ℕ) (gives : Option EntityType) (c : Bool) (f : Frame) → Recalls e f → Recalls e (awaits_if b k gives c f)
awaits_recall e true k gives c f is = is
awaits_recall e false k gives c f is = is

handed_as_recall : (e : List ℕ) (gives : Option EntityType) (v : Option Value) (f : Frame) → Recalls e f → Recalls e (handed_as gives v f)
handed_as_recall e (Some t) (Some v) f is = is
handed_as_recall e (Some t) None f is = is
handed_as_recall e None v f is = is

handed_recall : (e : List ℕ) (v : Option Value) (below : List Frame) → AllRecall e below → AllRecall e (handed v below)
handed_recall e v [] is = tt
handed_recall e v (f ∷ below) is = (by f.stage, is.1)
  where
    by : (st : Stage) → Recalls e (handed_at st v f)
    by (InCall gives) = handed_as_recall e gives v f is.0
    by Runs = is.0
    by Reserves = is.0
    by ReservesBlock = is.0
    by (Awaits k gives c) = is.0

pub counted_stack : (b : Bool) (x : Handler) → (counted_refusal b x).stack ≡ x.stack
counted_stack true x = refl
counted_stack false x = refl

module _ (h : ℕ) (e : List ℕ) (w : World) where
  abbrev pub T : World → Type 0
  T v = Turned h e w v

  either : (b : Bool) (x y : World) → T x → T y → T (if b then x else y)
  either true x y t u = t
  either false x y t u = u

  stays : (v : World) (st : List Frame) → Others h w v → (v.handlers h).stack ≡ st → AllRecall e st → T v
  stays v st o at is = record { own = subst (AllRecall e) (sym at) is; others = o }

  put_turned : (x : Handler) (v : World) → Others h w v → AllRecall e x.stack → T (put h x v)
  put_turned x v o is = record {
    own = subst (λ (b : Bool). AllRecall e (if b then x else v.handlers h).stack) (sym (eq-eqb h h refl)) is;
    others = others_put h w v x o;
  }

  alike_turned : (v u : World) → AreAlike v u → T v → T u
  alike_turned v u a t = record { own = subst (AllRecall e) (sym (a h)) t.own; others = others_alike h w v u t.others a }

  fails_turned : (why : Cause) (taken : List Request) (v : World) → Others h w v → T (fails_with h why taken v)
  fails_turned why taken v o = record {
    own = subst (AllRecall e)
        (sym (fallen_stack h why taken v h ∙ ap (λ (b : Bool). dropped_if b (v.handlers h).stack) (eq-eqb h h refl))) tt;
    others = λ k n. then_left (w.handlers k).stack (v.handlers k).stack ((fails_with h why taken v).handlers k).stack (o k n)
        (fallen_stack h why taken v k ∙ ap (λ (b : Bool). dropped_if b (v.handlers k).stack) n);
  }

  stack_turned : (st : List Frame) (v : World) → Others h w v → AllRecall e st → T (with_stack h st v)
  stack_turned st v o is = put_turned (record (v.handlers h) { stack = st }) v o is

  release_turned : (how : Release) (ks : List ℕ) (v : World) → T v → T (release how ks v)
  release_turned how ks v t = alike_turned v (release how ks v) (release_alike how ks v) t

  finish_turned : (r : Request) (a : Answer) (v : World) → T v → T (finish r a v)
  finish_turned r a v t = alike_turned v (finish r a v) (finish_alike r a v) t

  -- ---- a routine is entered

  enters_turned : (s : System) (me : Reference) (r : Option Routine) (c : Origin) (below : List Frame) (taken : List Request) (vs : List Value) (v : World) →
      Others h w v → AllRecall e below → T (enters s h me r c below taken vs v)
  enters_turned s me None c below taken vs v o is = fails_turned cause.BadCode taken v o
  enters_turned s me (Some r) c below taken vs v o is = bound (formals_bound s r.text.formals 0 r.text.formals vs)
    where
      bound : (b : Option (List Binding)) → T (enters_bound h me r c below taken b v)
      bound None = fails_turned cause.BadCode taken v o
      bound (Some bs) = either (nat_lt (length below) max_frames) _ _
          (stack_turned (entry me r c bs ∷ below) v o (inr (inl refl), is)) (fails_turned cause.StackFull taken v o)

  -- ---- another handler is asked

  asks_turned : (r : Reference) (x : List ℕ) (us : List Operand) (gives : Option EntityType) (passing waits : Bool) (f : Frame) (below : List Frame) (v : World) →
      Others h w v → AllRecall e (f ∷ below) → T (asks h r x us gives passing waits f below v)
  asks_turned r x us gives passing waits f below v o is =
      let req : Request = request_by h r (Calls x) us waits passing v in
      let at : World = with_stack h (awaits_if waits r.handler gives false f ∷ below) v in
      let sent : World = send (is_callback h r.handler v) r.handler req at in
      alike_turned sent (passes passing h r.handler sent) (passes_alike passing h r.handler sent)
      (alike_turned at sent (send_alike (is_callback h r.handler v) r.handler req at)
      (stack_turned (awaits_if waits r.handler gives false f ∷ below) v o (awaits_recall e waits r.handler gives false f is.0, is.1)))

  request_turned : (r : Reference) (x : List ℕ) (us : List Operand) (gives : Option EntityType) (passing : Bool) (f : Frame) (below : List Frame) (v : World) →
      Others h w v → AllRecall e (f ∷ below) → T (request h r x us gives passing f below v)
  request_turned r x us gives passing f below v o is =
      either (not (held v.rights h r.handler)) _ _ (fails_turned cause.NotHeld [] v o)
      (either (is_some (v.handlers r.handler).failure) _ _ (fails_turned cause.SupplierFailed [] v o)
      (either (not (is_callback h r.handler v) && not (nat_lt (length (v.handlers r.handler).queue) max_queue)) _ _ (fails_turned cause.QueueFull [] v o)
      (asks_turned r x us gives passing (passing || is_some gives || is_callback h r.handler v) f below v o is)))

  created_turned : (r : Reference) (procedure : Option (List ℕ)) (us : List Operand) (t : EntityType) (passing : Bool) (f : Frame) (below : List Frame) (v : World) →
      Others h w v → AllRecall e (f ∷ below) → T (created h r procedure us t passing f below v)
  created_turned r procedure us t passing f below v o is = by passing
    where
      frame : Frame
      frame = awaits_if passing r.handler None true (record f { values = operand (Attached r) t ∷ f.values })

      posted : T (posts_creation h r procedure us t passing f below (with_handler r.handler h v))
      posted =
          let n : World = with_handler r.handler h v in
          let at : World = with_stack h (awaits_if passing r.handler None true (record f { values = operand (Attached r) t ∷ f.values }) ∷ below) n in
          let req : Request = request_by h r (Makes procedure) us passing passing n in
          alike_turned at (send false r.handler req at) (send_alike false r.handler req at)
          (stack_turned (awaits_if passing r.handler None true (record f { values = operand (Attached r) t ∷ f.values }) ∷ below) n (others_new h r.handler w v o)
          (awaits_recall e passing r.handler None true (record f { values = operand (Attached r) t ∷ f.values }) is.0, is.1))

      by : (b : Bool) → T (passes_or_releases b h r.handler (posts_creation h r procedure us t passing f below (with_handler r.handler h v)))
      by true = alike_turned _ _ (passes_alike true h r.handler (posts_creation h r procedure us t passing f below (with_handler r.handler h v))) posted
      by false = release_turned release_at.Creation (r.handler ∷ []) _ posted

  creates_turned : (most class : ℕ) (procedure : Option (List ℕ)) (us : List Operand) (t : EntityType) (passing : Bool) (f : Frame) (below : List Frame) (v : World) →
      Others h w v → AllRecall e (f ∷ below) → T (creates_handler most h class procedure us t passing f below v)
  creates_turned most class procedure us t passing f below v o is =
      either (nat_lt v.count most) _ _ (created_turned (record { handler = v.count; number = 1; class = class }) procedure us t passing f below v o is)
      (fails_turned cause.TooManyHandlers [] v o)

  -- ---- a routine ends

  refuses_turned : (s : System) (r : Request) (f : Frame) (below : List Frame) (v : World) → Others h w v → AllRecall e below → T (refuses s h r f below v)
  refuses_turned s r f below v o is =
      let x : Handler = record (v.handlers h) { stack = below } in
      either (is_creation r.errand && not (object_meets s (object_numbered f.current.number (v.handlers h).objects))) _ _ (fails_turned cause.Invariant [] v o)
      (finish_turned r Refused _ (release_turned release_at.Refusal f.reserved _
      (put_turned (counted_refusal r.is_waited x) v o (subst (AllRecall e) (sym (counted_stack r.is_waited x)) is))))

  clause_turned : (d : EntryVerdict) (s : System) (f : Frame) (below : List Frame) (v : World) → Others h w v → AllRecall e below → T (false_clause d s h f below v)
  clause_turned verdict.Wait s f below v o is =
      release_turned release_at.FalseWaitCondition f.reserved _
      (stack_turned
      (record f { stage = Reserves; tasks = tasks_of f.routine; values = []; reserved = []; mark = mark_of (λ k. (v.handlers k).sessions) f.reserved } ∷ below) v o
      (inr (inl refl), is))
  clause_turned verdict.Refuse s f below v o is = by f.origin
    where
      by : (c : Origin) → T (correctness_fails s h c f below v)
      by (Called c) = fails_turned cause.Precondition [] v o
      by (Requested r) = refuses_turned s r f below v o is
  clause_turned verdict.Start s f below v o is = fails_turned cause.BadCode [] v o

  leaves_turned : (kss : List (List ℕ)) (f : Frame) (below : List Frame) (v : World) → Others h w v → AllRecall e (f ∷ below) → T (leaves_block h kss f below v)
  leaves_turned [] f below v o is = fails_turned cause.BadCode [] v o
  leaves_turned (ks ∷ kss) f below v o is = release_turned release_at.Leave ks _ (stack_turned (record f { blocks = kss } ∷ below) v o is)

  exits_turned : (s : System) (f : Frame) (below : List Frame) (v : World) → Others h w v → AllRecall e below → T (exits s h f below v)
  exits_turned s f below v o is =
      either (is_unset f.result) _ _ (fails_turned cause.UnsetEntity [] v o)
      (either (is_untested f.origin || object_meets s (object_numbered f.current.number (v.handlers h).objects)) _ _
      (by f.origin (option_map (λ (u : Operand). u.value) f.result)) (fails_turned cause.Invariant [] v o))
    where
      by : (c : Origin) (x : Option Value) → T (leaves_to h c f.reserved x below v)
      by (Called c) x = release_turned release_at.Exit f.reserved _ (stack_turned (handed x below) v o (handed_recall e x below is))
      by (Requested r) x = finish_turned r (Reply x) _ (release_turned release_at.Exit f.reserved _ (stack_turned below v o is))

  -- ---- a visible step

  -- but after a failure nothing is asked of the frame
  abbrev IfGoing : Act → Type 0 → Type 0
  IfGoing (Fails why) X = Unit {0}
  IfGoing act X = X

  acts_turned : (most : ℕ) (s : System) (a : Act) (f : Frame) (below : List Frame) (v : World) → Others h w v → (v.handlers h).stack ≡ f ∷ below →
      IfGoing a (Recalls e f) → AllRecall e below → T (effect most s h a f below v)
  acts_turned most s (Prints text) f below v o at r is = put_turned _ v o (subst (AllRecall e) (sym at) (r, is))
  acts_turned most s Until f below v o at r is = stays v (f ∷ below) o at (r, is)
  acts_turned most s Creates f below v o at r is = stays v (f ∷ below) o at (r, is)
  acts_turned most s Starts f below v o at r is = stays v (f ∷ below) o at (r, is)
  acts_turned most s (CreatesHandler class procedure us t passing) f below v o at r is = creates_turned most class procedure us t passing f below v o (r, is)
  acts_turned most s (Enters c me x us gives) f below v o at r is =
      enters_turned s me (routine_named s me.class x) (Called c) (record f { stage = InCall gives } ∷ below) [] (values_of us) v o (r, is)
  acts_turned most s (Requests t x us gives passing) f below v o at r is = request_turned t x us gives passing f below v o (r, is)
  acts_turned most s (Refuses k) f below v o at r is = clause_turned (verdict_on f k) s f below v o is
  acts_turned most s Opens f below v o at r is = stack_turned (record f { stage = ReservesBlock } ∷ below) v o (r, is)
  acts_turned most s Leaves f below v o at r is = leaves_turned f.blocks f below v o (r, is)
  acts_turned most s Exits f below v o at r is = exits_turned s f below v o is
  acts_turned most s (Fails why) f below v o at r is = fails_turned why [] v o

  -- the frame after its silent steps and the visible one
  common : (f : Frame) (p : Point) → (HasStarted f.tasks → HasStarted p.tasks) → separate_formals p.environment ≡ separate_formals f.environment →
      Recalls e f → Recalls e (frame_at f p)
  common f p calm same (inl i) = inl (calm i)
  common f p calm same (inr (inl i)) = inr (inl i)
  common f p calm same (inr (inr i)) = inr (inr (i ∙ ap (λ (vs : List Value). handlers_of vs) (sym same)))

  acted : (K : ℕ → Type 0) (n : ℕ) (a : Act) (p : Point) (f : Frame) → (HasStarted f.tasks → RefusesNone (Does a p)) → DoesWell K (formals_of f) h n a p →
      Recalls e f → IfGoing a (Recalls e (frame_at f p))
  acted K n (Prints text) p f calm well r = common f p calm well.formals.same r
  acted K n Until p f calm well r = common f p calm well.formals.same r
  acted K n Creates p f calm well r = common f p calm well.formals.same r
  acted K n Starts p f calm well r = common f p calm well.formals.same r
  acted K n (CreatesHandler class procedure us t passing) p f calm well r = common f p calm well.1.formals.same r
  acted K n (Enters c me x us gives) p f calm well r = common f p calm well.2.formals.same r
  acted K n (Requests t x us gives passing) p f calm well r = common f p calm well.2.formals.same r
  acted K n (Refuses k) p f calm well r = common f p (λ i. absurd (calm i)) well.1.formals.same r
  acted K n Opens p f calm well r = common f p calm well.0.formals.same r
  acted K n Leaves p f calm well r = common f p calm well.2.formals.same r
  acted K n Exits p f calm well r = common f p calm well.1.formals.same r
  acted K n (Fails why) p f calm well r = tt

  settles_turned : (K : ℕ → Type 0) (n : ℕ) (most : ℕ) (s : System) (st : Step) (f : Frame) (below : List Frame) → (HasStarted f.tasks → RefusesNone st) →
      StepsWell K (formals_of f) h n st → (w.handlers h).stack ≡ f ∷ below → AllRecall e (f ∷ below) → T (settles most s h st f below w)
  settles_turned K n most s (Goes p) f below calm well at is = stays w (f ∷ below) (others_stay h w) at is
  settles_turned K n most s (Does a p) f below calm well at is =
      let x : Handler = record (w.handlers h) { objects = p.objects; stack = frame_at f p ∷ below } in
      acts_turned most s a (frame_at f p) below (put h x w) (others_put h w w x (others_stay h w))
      (rw (eq-eqb h h refl) refl) (acted K n a p f calm well is.0) is.1

  -- ---- a reserve step

  reserves_turned : (b : Bool) (ks : List ℕ) (f g : Frame) (below : List Frame) → (w.handlers h).stack ≡ g ∷ below → Recalls e g → Recalls e f → AllRecall e below →
      T (reserves_if b h ks f below w)
  reserves_turned true ks f g below at r q is =
      either (reserve_fails (standing_in w) w.rights ks) _ _ (fails_turned cause.SupplierFailed [] w (others_stay h w))
      (alike_turned (with_stack h (f ∷ below) w) _ (λ k. refl) (stack_turned (f ∷ below) w (others_stay h w) (q, is)))
  reserves_turned false ks f g below at r q is = stays w (g ∷ below) (others_stay h w) at (r, is)

  -- ---- a request is taken

  replies_turned : (r : Request) (t : Option EntityType) (b : Option Binding) (v : World) → T v → T (replies h r t b v)
  replies_turned r (Some t) (Some b) v z =
      either (is_unset_value b.value t) _ _ (fails_turned cause.UnsetEntity (r ∷ []) v z.others) (finish_turned r (Reply (Some b.value)) v z)
  replies_turned r (Some t) None v z = fails_turned cause.BadCode (r ∷ []) v z.others
  replies_turned r None b v z = fails_turned cause.BadCode (r ∷ []) v z.others

  version_turned : (s : System) (r : Request) (x : List ℕ) (below : List Frame) (o : Option Object) (f : Option DeclaredFeature) (v : World) → T v → AllRecall e below →
      T (takes_version s h r x below o f v)
  version_turned s r x below (Some o) (Some f) v z is = by f.feature.kind
    where
      by : (k : FeatureKind) → T (takes_kind s h r x below o f k v)
      by (tree.Attribute d) = replies_turned r (declared_type s [] d) (binding_named x o.attributes) v z
      by (tree.Routine c) = enters_turned s r.target (routine_of s f) (Requested r) below (r ∷ []) r.actuals v z.others is
  version_turned s r x below (Some o) None v z is = fails_turned cause.BadCode (r ∷ []) v z.others
  version_turned s r x below None f v z is = fails_turned cause.BadCode (r ∷ []) v z.others

  creation_turned : (s : System) (r : Request) (k : Option (List ℕ)) (below : List Frame) (v : World) → T v → AllRecall e below → T (takes_creation s h r k below v)
  creation_turned s r (Some x) below v z is = enters_turned s r.target (routine_named s r.target.class x) (Requested r) below (r ∷ []) r.actuals v z.others is
  creation_turned s r None below v z is =
      either (meets_invariant s (fresh_object s r.target.class)) _ _ (finish_turned r (Reply None) v z) (fails_turned cause.Invariant (r ∷ []) v z.others)

  takes_turned : (s : System) (r : Request) (below : List Frame) (v : World) → T v → AllRecall e below → T (takes s h r below v)
  takes_turned s r below v z is = by r.errand
    where
      by : (c : Errand) → T (takes_errand s h r c below v)
      by (Makes k) = creation_turned s r k below (with_new_object s h r.target.class v) (alike_turned v _ (put_alike h _ v refl) z) is
      by (Calls x) = either (r.target.handler == h) _ _
          (version_turned s r x below (object_numbered r.target.number (v.handlers h).objects) (version_of s r.target.class x) v z is)
          (fails_turned cause.ForeignObject (r ∷ []) v z.others)

  -- ---- a turn

  answer_turned : (a : Answer) (k : ℕ) (gives : Option EntityType) (c : Bool) (f : Frame) (below : List Frame) → AllRecall e (f ∷ below) →
      T (takes_answer h a k gives c f below w)
  answer_turned (Reply x) k gives c f below is = by c
    where
      goes : T (put h (record (w.handlers h) { stack = handed_as gives x f ∷ below; answer = None }) w)
      goes = put_turned _ w (others_stay h w) (handed_as_recall e gives x f is.0, is.1)

      by : (b : Bool) → T (released_if b k (put h (record (w.handlers h) { stack = handed_as gives x f ∷ below; answer = None }) w))
      by true = release_turned release_at.Creation (k ∷ []) _ goes
      by false = goes
  answer_turned Failed k gives c f below is = fails_turned cause.SupplierFailed [] w (others_stay h w)
  answer_turned Refused k gives c f below is = fails_turned cause.Precondition [] w (others_stay h w)

  goes_on_turned : (most : ℕ) (s : System) (st : Stage) (f : Frame) (below : List Frame) → IsSound w → h < w.count → f.stage ≡ st →
      (f.stage ≡ Reserves → e ≡ handlers_of (separate_formals f.environment)) → (w.handlers h).stack ≡ f ∷ below → AllRecall e (f ∷ below) →
      T (goes_on most s h st f below w)
  goes_on_turned most s Runs f below sound here stage last at is =
      let frames = subst (Every (IsFrameSound (λ j. j < w.count) h)) at (sound h).stack in
      settles_turned (λ j. j < w.count) (length f.blocks) most s (moves s f.current (point_of f (w.handlers h).objects)) f below
      (λ i. moves_calm s f.current (point_of f (w.handlers h).objects) i) (moves_so s h f w sound here frames.0 stage) at is
  goes_on_turned most s Reserves f below sound here stage last at is =
      reserves_turned (may_reserve (entry_needs h f w) f.mark w) (entry_needs h f w) (record f { stage = Runs; reserved = entry_needs h f w }) f below at is.0
      (inr (inr (last stage))) is.1
  goes_on_turned most s ReservesBlock f below sound here stage last at is =
      reserves_turned (may_reserve (block_needs h f w) [] w) (block_needs h f w) (record f { stage = Runs; blocks = block_needs h f w ∷ f.blocks }) f below at is.0
      is.0 is.1
  goes_on_turned most s (InCall gives) f below sound here stage last at is = fails_turned cause.BadCode [] w (others_stay h w)
  goes_on_turned most s (Awaits k gives c) f below sound here stage last at is = by (w.handlers h).callback (w.handlers h).answer
    where
      by : (r : Option Request) (a : Option Answer) → T (waits s h r a k gives c f below w)
      by (Some r) a =
          takes_turned s r (f ∷ below) (put h (record (w.handlers h) { callback = None }) w)
          (put_turned (record (w.handlers h) { callback = None }) w (others_stay h w) (subst (AllRecall e) (sym at) is)) is
      by None (Some a) = answer_turned a k gives c f below is
      by None None = stays w (f ∷ below) (others_stay h w) at is

  next_turned : (s : System) (rs : List Request) → (w.handlers h).stack ≡ [] → T (takes_next s h rs w)
  next_turned s [] at = stays w [] (others_stay h w) at tt
  next_turned s (r ∷ rs) at =
      takes_turned s r [] (put h (record (w.handlers h) { queue = rs }) w)
      (put_turned (record (w.handlers h) { queue = rs }) w (others_stay h w) (subst (AllRecall e) (sym at) tt)) tt

  -- In a turn each frame of the handler keeps what it recalls, and another handler's stack stays.
  pub turn_turned : (most : ℕ) (s : System) → IsSound w →
      ((f : Frame) (below : List Frame) → (w.handlers h).stack ≡ f ∷ below → f.stage ≡ Reserves → e ≡ handlers_of (separate_formals f.environment)) →
      AllRecall e (w.handlers h).stack → T (turn most s h w)
  turn_turned most s sound last is = by (nat_lt h w.count) refl
    where
      there : h < w.count → (why : Option Cause) (st : List Frame) → (w.handlers h).stack ≡ st → T (turn_with most s h why st w)
      there here (Some why) st at = record { own = is; others = others_stay h w }
      there here None [] at = next_turned s (w.handlers h).queue at
      there here None (f ∷ below) at = goes_on_turned most s f.stage f below sound here refl (last f below at) at (subst (AllRecall e) at is)

      by : (b : Bool) → nat_lt h w.count ≡ b → T (if b then turn_with most s h (w.handlers h).failure (w.handlers h).stack w else w)
      by true l = there (ltb-true h w.count l) (w.handlers h).failure (w.handlers h).stack refl
      by false l = record { own = is; others = others_stay h w }
