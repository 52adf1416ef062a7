-- A step of a handler keeps that its frames stand on routines that have started, or run what contracts may call.
use Rattle.std.proofs.Common.{ℕ, ◌≡◌, ◌⊎◌, ◌&&◌, ◌||◌, not, Bool, true, false, List, [], ◌∷◌, Option, Some, None, refl, sym, ap, subst, ◌∙◌, inl, inr}
use Rattle.std.proofs.lemmas.Bool.{eq-eqb}
use Rattle.std.specs.Prelude.{if◌then◌else◌, is_some, length, nat_lt}
use Rattle.std.specs.List.{list_any}
use Rattle.std.specs.Option.{option_and_then, option_map}
use Rattle.sc_tree.specs.Plain as tree
use Rattle.sc_tree.specs.Plain.{System, Clause, FeatureKind}
use Rattle.sc_class.specs.Tables.Features.{DeclaredFeature, named_among, declared_features}
use Rattle.sc_class.proofs.Declarers.{found_stands}
use Rattle.sc_rules.specs.declared.entity_types.entity_type.EntityType.{EntityType}
use Rattle.sc_rules.specs.Names.{RoutineName}
use Rattle.sc_rules.specs.Names as rules
use Rattle.sc_rules.specs.Purity.{IsPurity}
use Rattle.sc_rules.specs.Purity as purity
use Rattle.sc_lockpass.specs.Rights.{held}
use Rattle.sc_lockpass.specs.wait_conditions.Conditions.{clause_kind, kind_where, lies_on_any, verdict_of_false}
use Rattle.sc_lockpass.specs.wait_conditions.Reservations.{mark_of}
use Rattle.sc_lockpass.specs.declared.wait_conditions.condition.EntryVerdict.{EntryVerdict}
use Rattle.sc_lockpass.specs.declared.wait_conditions.condition.EntryVerdict.TheVariants as verdict
use Rattle.sc_lockpass.specs.declared.wait_conditions.session.Release.{Release}
use Rattle.sc_lockpass.specs.declared.wait_conditions.session.Release.TheVariants as release_at
use Rattle.sc_model.specs.declared.cause.Cause.{Cause}
use Rattle.sc_model.specs.declared.cause.Cause.TheVariants as cause
use Rattle.sc_model.specs.Limits.{max_frames, max_queue}
use Rattle.sc_model.specs.Values.{Reference, Value, Attached, Operand, operand, values_of}
use Rattle.sc_model.specs.Environments.{Binding, formals_bound, separate_formals}
use Rattle.sc_model.specs.Objects.{object_numbered}
use Rattle.sc_model.specs.Routines.{Routine, version_of, routine_named, routine_of, routine_from, routine_with, origin_of}
use Rattle.sc_model.specs.Tasks.{tasks_of}
use Rattle.sc_model.specs.Steps.{Act, Prints, Until, Creates, CreatesHandler, Enters, Requests, Starts, Refuses, Opens, Leaves, Exits, Fails, Step, Goes, Does}
use Rattle.sc_model.specs.Handlers.{Calls, Makes, Request, Answer, Reply, Refused, Origin, Called, Requested, Stage, Runs, Reserves, ReservesBlock, InCall, Awaits, Frame, Handler, World, frame_at, put, with_stack}
use Rattle.sc_model.specs.Sessions.{release}
use Rattle.sc_model.specs.Answers.{finish}
use Rattle.sc_model.specs.Failures.{fails_with}
use Rattle.sc_model.specs.Entries.{entry, stage_with, enters_bound, enters}
use Rattle.sc_model.specs.Asking.{passes, send, awaits_if, request_by, is_callback, asks, request, with_handler, posts_creation, passes_or_releases, created, creates_handler}
use Rattle.sc_model.specs.Preconditions.{formals_among, names_in, verdict_on, is_creation, object_meets, counted_refusal, refuses, correctness_fails, false_clause}
use Rattle.sc_model.specs.Exits.{is_unset, is_untested, handed_as, handed_at, handed, leaves_to, exits, leaves_block}
use Rattle.sc_model.specs.Turns.{effect, settles, waits}
use Rattle.sc_machine_laws.specs.settlements.Clauses.{RunsPure}
use Rattle.sc_machine_laws.specs.settlements.Calm.{name_of}
use Rattle.sc_machine_laws.specs.settlements.Started.{AllStarted, reserves_next}
use Rattle.sc_machine_laws.proofs.settlements.Quiet.{pure_reserve_nothing}
use Rattle.sc_machine_laws.proofs.settlements.UnchangedStacks.{Others, AreAlike, release_alike, finish_alike, passes_alike, send_alike, dropped_if, fallen_stack, others_alike, others_put, others_new, others_stay, then_left}
use Rattle.sc_machine_laws.proofs.settlements.RecalledEntries.{counted_stack}

-- It runs a function that contracts may call, reserved nothing as it was entered, and doesn't reserve.
abbrev pub IsPure : (RoutineName → Bool) → Frame → Type 0
IsPure pure f = (pure (name_of f.routine) ≡ true) × (f.reserved ≡ []) × (reserves_next f.stage ≡ false)

-- Each frame stands on routines that have started, or runs such a function.
abbrev pub Guarded : (RoutineName → Bool) → List Frame → Type 0
Guarded pure [] = Unit {0}
Guarded pure (f ∷ below) = (AllStarted below ⊎ IsPure pure f) × Guarded pure below

-- the routine, if there is one, is such a function, and reserves nothing as it is entered
abbrev pub EntersPure : System → (RoutineName → Bool) → Option Routine → Type 0
EntersPure s pure o = (r : Routine) → o ≡ Some r →
    (pure (name_of r) ≡ true) × ((vs : List Value) (bs : List Binding) → formals_bound s r.text.formals 0 r.text.formals vs ≡ Some bs → separate_formals bs ≡ [])

-- ---- what contracts may call

-- what is known of the routine of a function that contracts may call
abbrev AsPure : System → (RoutineName → Bool) → Routine → Type 0
AsPure s pure r =
    (pure (name_of r) ≡ true) × ((vs : List Value) (bs : List Binding) → formals_bound s r.text.formals 0 r.text.formals vs ≡ Some bs → separate_formals bs ≡ [])

same_routine : (q r : Routine) → Some q ≡ Some r → q ≡ r
same_routine q r e = cc

module _ (s : System) (pure : RoutineName → Bool) (tells : IsPurity s pure) where
  of_kinds : (f : DeclaredFeature) (k : ℕ) (m o : FeatureKind) (r : Routine) → f.feature.kind ≡ m → purity.routine_named s (rules.routine_of f) ≡ Some f →
      pure (rules.routine_of f) ≡ true → routine_with s f.feature.name.text f.class m k o ≡ Some r → AsPure s pure r
  of_kinds f k (tree.Routine own) (tree.Routine original) r kind there is e = subst (AsPure s pure) (same_routine _ r e)
      (is, λ vs bs bound. pure_reserve_nothing s pure tells (rules.routine_of f) is f own there kind vs bs bound)
  of_kinds f k (tree.Attribute d) o r kind there is e = cc
  of_kinds f k (tree.Routine own) (tree.Attribute d) r kind there is e = cc

  pub enters_pure : (o : Reference) (x : List ℕ) → RunsPure s pure o x → EntersPure s pure (routine_named s o.class x)
  enters_pure o x runs r e = by (version_of s o.class x) refl e
    where
      of_origin : (f : DeclaredFeature) → version_of s o.class x ≡ Some f → (c : Option DeclaredFeature) → routine_from s f c ≡ Some r → AsPure s pure r
      of_origin f i None e = cc
      of_origin f i (Some c) e =
          let stands = found_stands s o.class x f i in
          of_kinds f c.class f.feature.kind c.feature.kind r refl
          (subst (λ (y : List ℕ). named_among y (declared_features s f.class) ≡ Some f) (sym stands.is_named) stands.is_declared) (runs f i) e

      by : (v : Option DeclaredFeature) → version_of s o.class x ≡ v → option_and_then (routine_of s) v ≡ Some r → AsPure s pure r
      by None i e = cc
      by (Some f) i e = of_origin f i (origin_of s f) e

-- ---- an entry that reserved nothing doesn't wait

none_lies : (xs : List (Option ℕ)) → list_any (lies_on_any []) xs ≡ false
none_lies [] = refl
none_lies (None ∷ xs) = none_lies xs
none_lies (Some k ∷ xs) = none_lies xs

-- a false clause that no reserved handler is among is refused
pub no_wait : (xs : List (Option ℕ)) → verdict_of_false (clause_kind [] xs) ≡ verdict.Wait → ⊥
no_wait xs e = refused (subst (λ (b : Bool). verdict_of_false (kind_where b) ≡ verdict.Wait) (none_lies xs) e)
  where
    refused : verdict.Refuse ≡ verdict.Wait → ⊥
    refused e = cc

pub pure_waits_not : (f : Frame) (k : Clause) → f.reserved ≡ [] → verdict_on f k ≡ verdict.Wait → ⊥
pure_waits_not f k none e =
    let xs = formals_among f.environment (names_in k.condition) in
    no_wait xs (subst (λ (ks : List ℕ). verdict_of_false (clause_kind ks xs) ≡ verdict.Wait) none e)

-- ---- a turn of the handler

pub record Kept (pure : RoutineName → Bool) (h : ℕ) (w v : World) : Type 0 where
  pub own : Guarded pure (v.handlers h).stack
  pub others : Others h w v

module _ (s : System) (pure : RoutineName → Bool) (h : ℕ) (w : World) where
  abbrev T : World → Type 0
  T v = Kept pure h w v

  pub either : (b : Bool) (x y : World) → T x → T y → T (if b then x else y)
  either true x y t u = t
  either false x y t u = u

  abbrev All : List Frame → Type 0
  All st = Guarded pure st

  pub stays : (v : World) (st : List Frame) → Others h w v → (v.handlers h).stack ≡ st → All st → T v
  stays v st o at is = record { own = subst All (sym at) is; others = o }

  pub put_kept : (x : Handler) (v : World) → Others h w v → All x.stack → T (put h x v)
  put_kept x v o is = record {
    own = subst (λ (b : Bool). All (if b then x else v.handlers h).stack) (sym (eq-eqb h h refl)) is;
    others = others_put h w v x o;
  }

  pub alike_kept : (v u : World) → AreAlike v u → T v → T u
  alike_kept v u a t = record { own = subst All (sym (a h)) t.own; others = others_alike h w v u t.others a }

  pub fails_kept : (why : Cause) (taken : List Request) (v : World) → Others h w v → T (fails_with h why taken v)
  fails_kept why taken v o = record {
    own = subst All (sym (fallen_stack h why taken v h ∙ ap (λ (b : Bool). dropped_if b (v.handlers h).stack) (eq-eqb h h refl))) tt;
    others = λ k n. then_left (w.handlers k).stack (v.handlers k).stack ((fails_with h why taken v).handlers k).stack (o k n)
        (fallen_stack h why taken v k ∙ ap (λ (b : Bool). dropped_if b (v.handlers k).stack) n);
  }

  pub stack_kept : (st : List Frame) (v : World) → Others h w v → All st → T (with_stack h st v)
  stack_kept st v o is = put_kept (record (v.handlers h) { stack = st }) v o is

  pub release_kept : (how : Release) (ks : List ℕ) (v : World) → T v → T (release how ks v)
  release_kept how ks v t = alike_kept v (release how ks v) (release_alike how ks v) t

  pub finish_kept : (r : Request) (a : Answer) (v : World) → T v → T (finish r a v)
  finish_kept r a v t = alike_kept v (finish r a v) (finish_alike r a v) t

  abbrev Guard : Frame → List Frame → Type 0
  Guard f below = AllStarted below ⊎ IsPure pure f

  -- ---- a routine is entered

  pub enters_kept : (me : Reference) (o : Option Routine) (c : Origin) (below : List Frame) (taken : List Request) (vs : List Value) (v : World) →
      Others h w v → AllStarted below ⊎ EntersPure s pure o → All below → T (enters s h me o c below taken vs v)
  enters_kept me None c below taken vs v o new is = fails_kept cause.BadCode taken v o
  enters_kept me (Some r) c below taken vs v o new is = bound (formals_bound s r.text.formals 0 r.text.formals vs) refl
    where
      guard : (bs : List Binding) → formals_bound s r.text.formals 0 r.text.formals vs ≡ Some bs → AllStarted below ⊎ EntersPure s pure (Some r) → Guard (entry me r c bs) below
      guard bs e (inl all) = inl all
      guard bs e (inr enters) = let z = enters r refl in inr (z.0, refl, ap (λ (us : List Value). reserves_next (stage_with us)) (z.1 vs bs e))

      bound : (b : Option (List Binding)) → formals_bound s r.text.formals 0 r.text.formals vs ≡ b → T (enters_bound h me r c below taken b v)
      bound None e = fails_kept cause.BadCode taken v o
      bound (Some bs) e = either (nat_lt (length below) max_frames) _ _
          (stack_kept (entry me r c bs ∷ below) v o (guard bs e new, is)) (fails_kept cause.StackFull taken v o)

  -- ---- another handler is asked

  awaits_guard : (b : Bool) (k : ℕ) (gives : Option EntityType) (c : Bool) (f : Frame) (below : List Frame) → Guard f below → Guard (awaits_if b k gives c f) below
  awaits_guard true k gives c f below (inl all) = inl all
  awaits_guard true k gives c f below (inr is) = inr (is.0, is.1, refl)
  awaits_guard false k gives c f below g = g

  asks_kept : (r : Reference) (x : List ℕ) (us : List Operand) (gives : Option EntityType) (passing waits : Bool) (f : Frame) (below : List Frame) (v : World) →
      Others h w v → Guard f below → All below → T (asks h r x us gives passing waits f below v)
  asks_kept r x us gives passing waits f below v o is more =
      let req : Request = request_by h r (Calls x) us waits passing v in
      let at : World = with_stack h (awaits_if waits r.handler gives false f ∷ below) v in
      let sent : World = send (is_callback h r.handler v) r.handler req at in
      alike_kept sent (passes passing h r.handler sent) (passes_alike passing h r.handler sent)
      (alike_kept at sent (send_alike (is_callback h r.handler v) r.handler req at)
      (stack_kept (awaits_if waits r.handler gives false f ∷ below) v o (awaits_guard waits r.handler gives false f below is, more)))

  request_kept : (r : Reference) (x : List ℕ) (us : List Operand) (gives : Option EntityType) (passing : Bool) (f : Frame) (below : List Frame) (v : World) →
      Others h w v → Guard f below → All below → T (request h r x us gives passing f below v)
  request_kept r x us gives passing f below v o is more =
      either (not (held v.rights h r.handler)) _ _ (fails_kept cause.NotHeld [] v o)
      (either (is_some (v.handlers r.handler).failure) _ _ (fails_kept cause.SupplierFailed [] v o)
      (either (not (is_callback h r.handler v) && not (nat_lt (length (v.handlers r.handler).queue) max_queue)) _ _ (fails_kept cause.QueueFull [] v o)
      (asks_kept r x us gives passing (passing || is_some gives || is_callback h r.handler v) f below v o is more)))

  created_kept : (r : Reference) (procedure : Option (List ℕ)) (us : List Operand) (t : EntityType) (passing : Bool) (f : Frame) (below : List Frame) (v : World) →
      Others h w v → AllStarted below → All below → T (created h r procedure us t passing f below v)
  created_kept r procedure us t passing f below v o all more = by passing
    where
      posted : T (posts_creation h r procedure us t passing f below (with_handler r.handler h v))
      posted =
          let n : World = with_handler r.handler h v in
          let at : World = with_stack h (awaits_if passing r.handler None true (record f { values = operand (Attached r) t ∷ f.values }) ∷ below) n in
          let req : Request = request_by h r (Makes procedure) us passing passing n in
          alike_kept at (send false r.handler req at) (send_alike false r.handler req at)
          (stack_kept (awaits_if passing r.handler None true (record f { values = operand (Attached r) t ∷ f.values }) ∷ below) n (others_new h r.handler w v o)
          (inl all, more))

      by : (b : Bool) → T (passes_or_releases b h r.handler (posts_creation h r procedure us t passing f below (with_handler r.handler h v)))
      by true = alike_kept _ _ (passes_alike true h r.handler (posts_creation h r procedure us t passing f below (with_handler r.handler h v))) posted
      by false = release_kept release_at.Creation (r.handler ∷ []) _ posted

  creates_kept : (most class : ℕ) (procedure : Option (List ℕ)) (us : List Operand) (t : EntityType) (passing : Bool) (f : Frame) (below : List Frame) (v : World) →
      Others h w v → AllStarted below → All below → T (creates_handler most h class procedure us t passing f below v)
  creates_kept most class procedure us t passing f below v o all more =
      either (nat_lt v.count most) _ _ (created_kept (record { handler = v.count; number = 1; class = class }) procedure us t passing f below v o all more)
      (fails_kept cause.TooManyHandlers [] v o)

  -- ---- a routine ends

  refuses_kept : (r : Request) (f : Frame) (below : List Frame) (v : World) → Others h w v → All below → T (refuses s h r f below v)
  refuses_kept r f below v o is =
      let x : Handler = record (v.handlers h) { stack = below } in
      either (is_creation r.errand && not (object_meets s (object_numbered f.current.number (v.handlers h).objects))) _ _ (fails_kept cause.Invariant [] v o)
      (finish_kept r Refused _ (release_kept release_at.Refusal f.reserved _
      (put_kept (counted_refusal r.is_waited x) v o (subst All (sym (counted_stack r.is_waited x)) is))))

  clause_kept : (d : EntryVerdict) (f : Frame) (below : List Frame) (v : World) → Others h w v → AllStarted below ⊎ (d ≡ verdict.Wait → ⊥) → All below → T (false_clause d s h f below v)
  clause_kept verdict.Wait f below v o (inl all) is =
      release_kept release_at.FalseWaitCondition f.reserved _
      (stack_kept
      (record f { stage = Reserves; tasks = tasks_of f.routine; values = []; reserved = []; mark = mark_of (λ k. (v.handlers k).sessions) f.reserved } ∷ below) v o
      (inl all, is))
  clause_kept verdict.Wait f below v o (inr none) is = absurd (none refl)
  clause_kept verdict.Refuse f below v o g is = by f.origin
    where
      by : (c : Origin) → T (correctness_fails s h c f below v)
      by (Called c) = fails_kept cause.Precondition [] v o
      by (Requested r) = refuses_kept r f below v o is
  clause_kept verdict.Start f below v o g is = fails_kept cause.BadCode [] v o

  leaves_kept : (kss : List (List ℕ)) (f : Frame) (below : List Frame) (v : World) → Others h w v → Guard f below → All below → T (leaves_block h kss f below v)
  leaves_kept [] f below v o g is = fails_kept cause.BadCode [] v o
  leaves_kept (ks ∷ kss) f below v o g is = release_kept release_at.Leave ks _ (stack_kept (record f { blocks = kss } ∷ below) v o (guard g, is))
    where
      guard : Guard f below → Guard (record f { blocks = kss }) below
      guard (inl all) = inl all
      guard (inr is) = inr is

  pub handed_guard : (v : Option Value) (gives : Option EntityType) (f : Frame) (below : List Frame) → Guard f below → Guard (handed_as gives v f) below
  handed_guard (Some v) (Some t) f below (inl all) = inl all
  handed_guard (Some v) (Some t) f below (inr is) = inr (is.0, is.1, refl)
  handed_guard None (Some t) f below (inl all) = inl all
  handed_guard None (Some t) f below (inr is) = inr (is.0, is.1, refl)
  handed_guard v None f below (inl all) = inl all
  handed_guard v None f below (inr is) = inr (is.0, is.1, refl)

  handed_kept : (v : Option Value) (below : List Frame) → All below → All (handed v below)
  handed_kept v [] is = tt
  handed_kept v (f ∷ below) is = (by f.stage, is.1)
    where
      by : (st : Stage) → Guard (handed_at st v f) below
      by (InCall gives) = handed_guard v gives f below is.0
      by Runs = is.0
      by Reserves = is.0
      by ReservesBlock = is.0
      by (Awaits k gives c) = is.0

  exits_kept : (f : Frame) (below : List Frame) (v : World) → Others h w v → All below → T (exits s h f below v)
  exits_kept f below v o is =
      either (is_unset f.result) _ _ (fails_kept cause.UnsetEntity [] v o)
      (either (is_untested f.origin || object_meets s (object_numbered f.current.number (v.handlers h).objects)) _ _
      (by f.origin) (fails_kept cause.Invariant [] v o))
    where
      by : (c : Origin) → T (leaves_to h c f.reserved (option_map (λ (u : Operand). u.value) f.result) below v)
      by (Called c) = release_kept release_at.Exit f.reserved _ (stack_kept (handed (option_map (λ (u : Operand). u.value) f.result) below) v o (handed_kept _ below is))
      by (Requested r) = finish_kept r (Reply (option_map (λ (u : Operand). u.value) f.result)) _ (release_kept release_at.Exit f.reserved _ (stack_kept below v o is))

  -- ---- a visible step

  -- what it is done by, where the frame stands on these
  abbrev pub Next : Act → Frame → List Frame → Type 0
  Next (Enters c o x us gives) f below = AllStarted (f ∷ below) ⊎ EntersPure s pure (routine_named s o.class x)
  Next (CreatesHandler class procedure us t passing) f below = AllStarted below
  Next Opens f below = AllStarted below
  Next (Refuses k) f below = AllStarted below ⊎ (verdict_on f k ≡ verdict.Wait → ⊥)
  Next act f below = Unit {0}

  acts_kept : (most : ℕ) (a : Act) (f : Frame) (below : List Frame) (v : World) → Others h w v → (v.handlers h).stack ≡ f ∷ below →
      Next a f below → Guard f below → All below → T (effect most s h a f below v)
  acts_kept most (Prints text) f below v o at next g is = put_kept _ v o (subst All (sym at) (g, is))
  acts_kept most Until f below v o at next g is = stays v (f ∷ below) o at (g, is)
  acts_kept most Creates f below v o at next g is = stays v (f ∷ below) o at (g, is)
  acts_kept most Starts f below v o at next g is = stays v (f ∷ below) o at (g, is)
  acts_kept most (CreatesHandler class procedure us t passing) f below v o at next g is = creates_kept most class procedure us t passing f below v o next is
  acts_kept most (Enters c me x us gives) f below v o at next g is =
      enters_kept me (routine_named s me.class x) (Called c) (record f { stage = InCall gives } ∷ below) [] (values_of us) v o (under next) (in_call g, is)
    where
      under : AllStarted (f ∷ below) ⊎ EntersPure s pure (routine_named s me.class x) → AllStarted (record f { stage = InCall gives } ∷ below) ⊎ EntersPure s pure (routine_named s me.class x)
      under (inl all) = inl all
      under (inr enters) = inr enters

      in_call : Guard f below → Guard (record f { stage = InCall gives }) below
      in_call (inl all) = inl all
      in_call (inr z) = inr (z.0, z.1, refl)
  acts_kept most (Requests t x us gives passing) f below v o at next g is = request_kept t x us gives passing f below v o g is
  acts_kept most (Refuses k) f below v o at next g is = clause_kept (verdict_on f k) f below v o next is
  acts_kept most Opens f below v o at next g is = stack_kept (record f { stage = ReservesBlock } ∷ below) v o (inl next, is)
  acts_kept most Leaves f below v o at next g is = leaves_kept f.blocks f below v o g is
  acts_kept most Exits f below v o at next g is = exits_kept f below v o is
  acts_kept most (Fails why) f below v o at next g is = fails_kept why [] v o

  -- what the frame does in a step
  abbrev pub NextStep : Step → Frame → List Frame → Type 0
  NextStep (Goes p) f below = Unit {0}
  NextStep (Does a p) f below = Next a (frame_at f p) below

  pub settles_kept : (most : ℕ) (st : Step) (f : Frame) (below : List Frame) → (w.handlers h).stack ≡ f ∷ below → NextStep st f below → Guard f below → All below →
      T (settles most s h st f below w)
  settles_kept most (Goes p) f below at next g is = stays w (f ∷ below) (others_stay h w) at (g, is)
  settles_kept most (Does a p) f below at next g is =
      let x : Handler = record (w.handlers h) { objects = p.objects; stack = frame_at f p ∷ below } in
      acts_kept most a (frame_at f p) below (put h x w) (others_put h w w x (others_stay h w)) (rw (eq-eqb h h refl) refl) next (moved g) is
    where
      moved : Guard f below → Guard (frame_at f p) below
      moved (inl all) = inl all
      moved (inr z) = inr z
