-- A step of a handler keeps how each function that contracts may call stands.
use Rattle.std.proofs.Common.{ℕ, ◌+◌, ◌≡◌, ◌⊎◌, ◌&&◌, ◌||◌, not, Bool, true, false, List, [], ◌∷◌, Option, Some, None, refl, sym, ap, subst, ◌∙◌, inl, inr}
use Rattle.std.proofs.lemmas.Bool.{eq-eqb}
use Rattle.std.specs.Prelude.{if◌then◌else◌, is_some, length, nat_lt}
use Rattle.std.specs.Option.{option_map}
use Rattle.sc_tree.specs.Plain.{System, Clause, Declaration}
use Rattle.sc_rules.specs.declared.entity_types.entity_type.EntityType.{EntityType}
use Rattle.sc_rules.specs.Names.{Entities, RoutineName, entity, formal_entities, formals_known, reserved}
use Rattle.sc_rules.specs.declared.position.Role.TheVariants as role
use Rattle.sc_rules.specs.Types.{declared_type}
use Rattle.sc_lockpass.specs.Rights.{held}
use Rattle.sc_lockpass.specs.wait_conditions.Reservations.{mark_of}
use Rattle.sc_lockpass.specs.declared.wait_conditions.condition.EntryVerdict.{EntryVerdict}
use Rattle.sc_lockpass.specs.declared.wait_conditions.condition.EntryVerdict.TheVariants as verdict
use Rattle.sc_lockpass.specs.declared.wait_conditions.session.Release.{Release}
use Rattle.sc_lockpass.specs.declared.wait_conditions.session.Release.TheVariants as release_at
use Rattle.sc_model.specs.declared.cause.Cause.{Cause}
use Rattle.sc_model.specs.declared.cause.Cause.TheVariants as cause
use Rattle.sc_model.specs.Limits.{max_frames, max_queue}
use Rattle.sc_model.specs.Values.{Reference, Value, Attached, Operand, operand, values_of}
use Rattle.sc_model.specs.Environments.{Binding, bind, formals_bound, scope_of, separate_formals, with_binding}
use Rattle.sc_model.specs.Objects.{Object, object_numbered}
use Rattle.sc_model.specs.Routines.{Routine, routine_named}
use Rattle.sc_model.specs.Tasks.{tasks_of}
use Rattle.sc_model.specs.Steps.{Calling, Act, Prints, Until, Creates, CreatesHandler, Enters, Requests, Starts, Refuses, Opens, Leaves, Exits, Fails, Step, Goes, Does, Point}
use Rattle.sc_model.specs.Handlers.{Calls, Makes, Request, Answer, Reply, Refused, Origin, Called, Requested, Stage, Runs, Reserves, ReservesBlock, InCall, Frame, Handler, World, point_of, frame_at, put, with_stack}
use Rattle.sc_model.specs.Sessions.{release}
use Rattle.sc_model.specs.Answers.{finish}
use Rattle.sc_model.specs.Failures.{fails_with}
use Rattle.sc_model.specs.Entries.{entry, stage_with, enters_bound, enters}
use Rattle.sc_model.specs.Asking.{passes, send, awaits_if, request_by, is_callback, asks, request, with_handler, posts_creation, passes_or_releases, created, creates_handler}
use Rattle.sc_model.specs.Preconditions.{verdict_on, is_creation, object_meets, counted_refusal, refuses, correctness_fails, false_clause}
use Rattle.sc_model.specs.Exits.{is_unset, is_untested, handed_as, handed, leaves_to, exits, leaves_block}
use Rattle.sc_model.specs.Turns.{effect, settles, waits}
use Rattle.sc_machine_laws.specs.states.Fitting.{coming_to}
use Rattle.sc_machine_laws.specs.states.Points.{Each, listed}
use Rattle.sc_machine_laws.specs.settlements.Calm.{PureAct, PureStep, StandsPure, name_of}
use Rattle.sc_machine_laws.proofs.settlements.UnchangedStacks.{Others, AreAlike, release_alike, finish_alike, passes_alike, send_alike, dropped_if, fallen_stack, others_alike, others_put, others_new, others_stay, then_left}
use Rattle.sc_machine_laws.proofs.settlements.RecalledEntries.{counted_stack}

-- where values of these types are still to come
abbrev pub Stands : System → (RoutineName → Bool) → Frame → List EntityType → Type 0
Stands s pure f coming = StandsPure s pure f.routine coming (point_of f [])

-- it runs what contracts may not call
abbrev pub IsOther : (RoutineName → Bool) → Frame → Type 0
IsOther pure f = pure (name_of f.routine) ≡ false

-- the text of the contract comes first, and the formals alone are known
abbrev pub IsFirst : System → Frame → Type 0
IsFirst s f = (f.text ≡ f.routine.contract) × (scope_of f.environment ≡ formals_known s f.routine.text.formals)

-- all of the routine is left to do
abbrev pub IsFresh : System → Frame → Type 0
IsFresh s f = (f.tasks ≡ tasks_of f.routine) × (f.values ≡ []) × (coming_to f.stage ≡ []) × (f.text ≡ f.routine.contract)
    × (scope_of f.environment ≡ formals_known s f.routine.text.formals)

abbrev pub N : System → (RoutineName → Bool) → Frame → Type 0
N s pure f = IsOther pure f ⊎ (IsFresh s f ⊎ Stands s pure f (coming_to f.stage))

-- it stands so in a state that is reached
abbrev pub IsOtherOrStands : System → (RoutineName → Bool) → Frame → Type 0
IsOtherOrStands s pure f = IsOther pure f ⊎ Stands s pure f (coming_to f.stage)

-- with other objects
pub at_objects : (s : System) (pure : RoutineName → Bool) (r : Routine) (coming : List EntityType) (p : Point) (os : List Object) → StandsPure s pure r coming p →
    StandsPure s pure r coming (record p { objects = os })
at_objects s pure r coming p os (inl z) =
    inl (record { text = z.text; names = z.names; types = z.types; text_is = z.text_is; names_are = z.names_are; left = z.left; types_are = z.types_are })
at_objects s pure r coming p os (inr (e, z)) = inr (
  e,
  record {
    text = z.text;
    low = z.low;
    high = z.high;
    types = z.types;
    value = z.value;
    others = z.others;
    text_is = z.text_is;
    values_are = z.values_are;
    came = record { held = z.came.held; denied = z.came.denied };
    left = z.left;
    types_are = z.types_are;
  },
)

-- the formals are bound as they are known
formals_scope : (s : System) (all : List Declaration) (i : ℕ) (ds : List Declaration) (vs : List Value) (bs : List Binding) → formals_bound s all i ds vs ≡ Some bs →
    scope_of bs ≡ formal_entities s all i ds
formals_scope s all i [] [] bs f = let same : [] ≡ bs = cc in ap scope_of (sym same)
formals_scope s all i [] (v ∷ vs) bs f = cc
formals_scope s all i (d ∷ ds) [] bs f = cc
formals_scope s all i (d ∷ ds) (v ∷ vs) bs f =
    by (declared_type s all d.declared_type) (formals_bound s all (i + 1) ds vs) refl (λ cs j. formals_scope s all (i + 1) ds vs cs j) f
  where
    by : (o : Option EntityType) (rest : Option (List Binding)) → declared_type s all d.declared_type ≡ o →
        ((cs : List Binding) → rest ≡ Some cs → scope_of cs ≡ formal_entities s all (i + 1) ds) →
        with_binding o d.name.text i v rest ≡ Some bs → scope_of bs ≡ formal_entities s all i (d ∷ ds)
    by None rest typed others f = cc
    by (Some t) None typed others f = cc
    by (Some t) (Some cs) typed others f =
        let same : bind d.name.text (reserved i t) role.Formal v ∷ cs ≡ bs = cc in
        ap scope_of (sym same) ∙ ap (λ (n : Entities). entity d.name.text (Some (reserved i t)) role.Formal ∷ n) (others cs refl)
        ∙ ap (λ (o : Option EntityType). entity d.name.text (option_map (reserved i) o) role.Formal ∷ formal_entities s all (i + 1) ds) (sym typed)

-- the value comes that is waited for
abbrev pub ValueThere : Option EntityType → Option Value → Type 0
ValueThere gives x = (t : EntityType) → gives ≡ Some t → (v : Value) × (x ≡ Some v)

pub record Stood (s : System) (pure : RoutineName → Bool) (h : ℕ) (w v : World) : Type 0 where
  pub own : Each (N s pure) (v.handlers h).stack
  pub others : Others h w v

module _ (s : System) (pure : RoutineName → Bool) (h : ℕ) (w : World) where
  pub of_old : (f : Frame) → IsOtherOrStands s pure f → N s pure f
  of_old f (inl i) = inl i
  of_old f (inr i) = inr (inr i)

  abbrev All : List Frame → Type 0
  All st = Each (N s pure) st

  pub of_olds : (st : List Frame) → Each (IsOtherOrStands s pure) st → All st
  of_olds [] e = tt
  of_olds (f ∷ below) e = (of_old f e.0, of_olds below e.1)

  pub handed_as_stands : (gives : Option EntityType) (x : Option Value) (f : Frame) → ValueThere gives x → IsOther pure f ⊎ Stands s pure f (listed gives) →
      N s pure (handed_as gives x f)
  handed_as_stands (Some t) (Some v) f there (inl i) = inl i
  handed_as_stands (Some t) (Some v) f there (inr (inl z)) = inr (inr (inl (record {
    text = z.text;
    names = z.names;
    types = t ∷ z.types;
    text_is = z.text_is;
    names_are = z.names_are;
    left = z.left;
    types_are = ap (λ (ts : List EntityType). t ∷ ts) z.types_are;
  })))
  handed_as_stands (Some t) (Some v) f there (inr (inr (e, z))) = cc
  handed_as_stands (Some t) None f there z = none (there t refl)
    where
      none : (v : Value) × (◌≡◌ {A = Option Value} None (Some v)) → N s pure (handed_as (Some t) None f)
      none (v, e) = cc
  handed_as_stands None x f there (inl i) = inl i
  handed_as_stands None x f there (inr z) = inr (inr z)

  abbrev T : World → Type 0
  T v = Stood s pure h w v

  pub either : (b : Bool) (x y : World) → T x → T y → T (if b then x else y)
  either true x y t u = t
  either false x y t u = u

  pub stays : (v : World) (st : List Frame) → Others h w v → (v.handlers h).stack ≡ st → All st → T v
  stays v st o at is = record { own = subst All (sym at) is; others = o }

  pub put_stood : (x : Handler) (v : World) → Others h w v → All x.stack → T (put h x v)
  put_stood x v o is = record {
    own = subst (λ (b : Bool). All (if b then x else v.handlers h).stack) (sym (eq-eqb h h refl)) is;
    others = others_put h w v x o;
  }

  pub alike_stood : (v u : World) → AreAlike v u → T v → T u
  alike_stood v u a t = record { own = subst All (sym (a h)) t.own; others = others_alike h w v u t.others a }

  pub fails_stood : (why : Cause) (taken : List Request) (v : World) → Others h w v → T (fails_with h why taken v)
  fails_stood why taken v o = record {
    own = subst All (sym (fallen_stack h why taken v h ∙ ap (λ (b : Bool). dropped_if b (v.handlers h).stack) (eq-eqb h h refl))) tt;
    others = λ k n. then_left (w.handlers k).stack (v.handlers k).stack ((fails_with h why taken v).handlers k).stack (o k n)
        (fallen_stack h why taken v k ∙ ap (λ (b : Bool). dropped_if b (v.handlers k).stack) n);
  }

  pub stack_stood : (st : List Frame) (v : World) → Others h w v → All st → T (with_stack h st v)
  stack_stood st v o is = put_stood (record (v.handlers h) { stack = st }) v o is

  pub release_stood : (how : Release) (ks : List ℕ) (v : World) → T v → T (release how ks v)
  release_stood how ks v t = alike_stood v (release how ks v) (release_alike how ks v) t

  pub finish_stood : (r : Request) (a : Answer) (v : World) → T v → T (finish r a v)
  finish_stood r a v t = alike_stood v (finish r a v) (finish_alike r a v) t

  -- ---- a routine is entered

  fresh : (me : Reference) (r : Routine) (c : Origin) (vs : List Value) (bs : List Binding) → formals_bound s r.text.formals 0 r.text.formals vs ≡ Some bs → N s pure (entry me r c bs)
  fresh me r c vs bs e = inr (inl (refl, refl, by (separate_formals bs), refl, formals_scope s r.text.formals 0 r.text.formals vs bs e))
    where
      by : (vs : List Value) → coming_to (stage_with vs) ≡ []
      by [] = refl
      by (v ∷ vs) = refl

  pub enters_stood : (me : Reference) (r : Option Routine) (c : Origin) (below : List Frame) (taken : List Request) (vs : List Value) (v : World) →
      Others h w v → All below → T (enters s h me r c below taken vs v)
  enters_stood me None c below taken vs v o is = fails_stood cause.BadCode taken v o
  enters_stood me (Some r) c below taken vs v o is = bound (formals_bound s r.text.formals 0 r.text.formals vs) refl
    where
      bound : (b : Option (List Binding)) → formals_bound s r.text.formals 0 r.text.formals vs ≡ b → T (enters_bound h me r c below taken b v)
      bound None e = fails_stood cause.BadCode taken v o
      bound (Some bs) e = either (nat_lt (length below) max_frames) _ _
          (stack_stood (entry me r c bs ∷ below) v o (fresh me r c vs bs e, is)) (fails_stood cause.StackFull taken v o)

  -- ---- another handler is asked

  asks_stood : (r : Reference) (x : List ℕ) (us : List Operand) (gives : Option EntityType) (passing waits : Bool) (f : Frame) (below : List Frame) (v : World) →
      Others h w v → N s pure (awaits_if waits r.handler gives false f) → All below → T (asks h r x us gives passing waits f below v)
  asks_stood r x us gives passing waits f below v o is more =
      let req : Request = request_by h r (Calls x) us waits passing v in
      let at : World = with_stack h (awaits_if waits r.handler gives false f ∷ below) v in
      let sent : World = send (is_callback h r.handler v) r.handler req at in
      alike_stood sent (passes passing h r.handler sent) (passes_alike passing h r.handler sent)
      (alike_stood at sent (send_alike (is_callback h r.handler v) r.handler req at)
      (stack_stood (awaits_if waits r.handler gives false f ∷ below) v o (is, more)))

  other_awaits : (b : Bool) (k : ℕ) (gives : Option EntityType) (c : Bool) (f : Frame) → IsOther pure f → N s pure (awaits_if b k gives c f)
  other_awaits true k gives c f i = inl i
  other_awaits false k gives c f i = inl i

  request_stood : (r : Reference) (x : List ℕ) (us : List Operand) (gives : Option EntityType) (passing : Bool) (f : Frame) (below : List Frame) (v : World) →
      Others h w v → IsOther pure f → All below → T (request h r x us gives passing f below v)
  request_stood r x us gives passing f below v o is more =
      either (not (held v.rights h r.handler)) _ _ (fails_stood cause.NotHeld [] v o)
      (either (is_some (v.handlers r.handler).failure) _ _ (fails_stood cause.SupplierFailed [] v o)
      (either (not (is_callback h r.handler v) && not (nat_lt (length (v.handlers r.handler).queue) max_queue)) _ _ (fails_stood cause.QueueFull [] v o)
      (asks_stood r x us gives passing (passing || is_some gives || is_callback h r.handler v) f below v o
      (other_awaits (passing || is_some gives || is_callback h r.handler v) r.handler gives false f is) more)))

  created_stood : (r : Reference) (procedure : Option (List ℕ)) (us : List Operand) (t : EntityType) (passing : Bool) (f : Frame) (below : List Frame) (v : World) →
      Others h w v → IsOther pure f → All below → T (created h r procedure us t passing f below v)
  created_stood r procedure us t passing f below v o i more = by passing
    where
      posted : T (posts_creation h r procedure us t passing f below (with_handler r.handler h v))
      posted =
          let n : World = with_handler r.handler h v in
          let at : World = with_stack h (awaits_if passing r.handler None true (record f { values = operand (Attached r) t ∷ f.values }) ∷ below) n in
          let req : Request = request_by h r (Makes procedure) us passing passing n in
          alike_stood at (send false r.handler req at) (send_alike false r.handler req at)
          (stack_stood (awaits_if passing r.handler None true (record f { values = operand (Attached r) t ∷ f.values }) ∷ below) n (others_new h r.handler w v o)
          (other_awaits passing r.handler None true (record f { values = operand (Attached r) t ∷ f.values }) i, more))

      by : (b : Bool) → T (passes_or_releases b h r.handler (posts_creation h r procedure us t passing f below (with_handler r.handler h v)))
      by true = alike_stood _ _ (passes_alike true h r.handler (posts_creation h r procedure us t passing f below (with_handler r.handler h v))) posted
      by false = release_stood release_at.Creation (r.handler ∷ []) _ posted

  creates_stood : (most class : ℕ) (procedure : Option (List ℕ)) (us : List Operand) (t : EntityType) (passing : Bool) (f : Frame) (below : List Frame) (v : World) →
      Others h w v → IsOther pure f → All below → T (creates_handler most h class procedure us t passing f below v)
  creates_stood most class procedure us t passing f below v o i more =
      either (nat_lt v.count most) _ _ (created_stood (record { handler = v.count; number = 1; class = class }) procedure us t passing f below v o i more)
      (fails_stood cause.TooManyHandlers [] v o)

  -- ---- a routine ends

  refuses_stood : (r : Request) (f : Frame) (below : List Frame) (v : World) → Others h w v → All below → T (refuses s h r f below v)
  refuses_stood r f below v o is =
      let x : Handler = record (v.handlers h) { stack = below } in
      either (is_creation r.errand && not (object_meets s (object_numbered f.current.number (v.handlers h).objects))) _ _ (fails_stood cause.Invariant [] v o)
      (finish_stood r Refused _ (release_stood release_at.Refusal f.reserved _
      (put_stood (counted_refusal r.is_waited x) v o (subst All (sym (counted_stack r.is_waited x)) is))))

  clause_stood : (d : EntryVerdict) (f : Frame) (below : List Frame) (v : World) → Others h w v → IsOther pure f ⊎ IsFirst s f → All below → T (false_clause d s h f below v)
  clause_stood verdict.Wait f below v o first is =
      release_stood release_at.FalseWaitCondition f.reserved _
      (stack_stood
      (record f { stage = Reserves; tasks = tasks_of f.routine; values = []; reserved = []; mark = mark_of (λ k. (v.handlers k).sessions) f.reserved } ∷ below) v o
      (begins first, is))
    where
      begins : IsOther pure f ⊎ IsFirst s f →
          N s pure (record f { stage = Reserves; tasks = tasks_of f.routine; values = []; reserved = []; mark = mark_of (λ k. (v.handlers k).sessions) f.reserved })
      begins (inl i) = inl i
      begins (inr z) = inr (inl (refl, refl, refl, z.0, z.1))
  clause_stood verdict.Refuse f below v o first is = by f.origin
    where
      by : (c : Origin) → T (correctness_fails s h c f below v)
      by (Called c) = fails_stood cause.Precondition [] v o
      by (Requested r) = refuses_stood r f below v o is
  clause_stood verdict.Start f below v o first is = fails_stood cause.BadCode [] v o

  leaves_stood : (kss : List (List ℕ)) (f : Frame) (below : List Frame) (v : World) → Others h w v → IsOther pure f → All below → T (leaves_block h kss f below v)
  leaves_stood [] f below v o i is = fails_stood cause.BadCode [] v o
  leaves_stood (ks ∷ kss) f below v o i is = release_stood release_at.Leave ks _ (stack_stood (record f { blocks = kss } ∷ below) v o (inl i, is))

  exits_stood : (f : Frame) (below : List Frame) (v : World) → Others h w v →
      ((c : Calling) → f.origin ≡ Called c → All (handed (option_map (λ (u : Operand). u.value) f.result) below)) → All below → T (exits s h f below v)
  exits_stood f below v o back is =
      either (is_unset f.result) _ _ (fails_stood cause.UnsetEntity [] v o)
      (either (is_untested f.origin || object_meets s (object_numbered f.current.number (v.handlers h).objects)) _ _
      (by f.origin refl) (fails_stood cause.Invariant [] v o))
    where
      by : (c : Origin) → f.origin ≡ c → T (leaves_to h c f.reserved (option_map (λ (u : Operand). u.value) f.result) below v)
      by (Called c) e = release_stood release_at.Exit f.reserved _ (stack_stood (handed (option_map (λ (u : Operand). u.value) f.result) below) v o (back c e))
      by (Requested r) e = finish_stood r (Reply (option_map (λ (u : Operand). u.value) f.result)) _ (release_stood release_at.Exit f.reserved _ (stack_stood below v o is))

  -- ---- a visible step

  abbrev Acts : Act → Frame → Type 0
  Acts a f = PureAct s pure f.routine a (point_of f [])

  acts_stood : (most : ℕ) (a : Act) (f : Frame) (below : List Frame) (v : World) → f.stage ≡ Runs → Others h w v → (v.handlers h).stack ≡ f ∷ below →
      IsOther pure f ⊎ Acts a f → ((k : Clause) → a ≡ Refuses k → IsFirst s f) →
      (a ≡ Exits → (c : Calling) → f.origin ≡ Called c → All (handed (option_map (λ (u : Operand). u.value) f.result) below)) →
      All below → T (effect most s h a f below v)
  acts_stood most (Prints text) f below v r o at (inl i) first back is = put_stood _ v o (subst All (sym at) (inl i, is))
  acts_stood most (Prints text) f below v r o at (inr z) first back is = absurd z
  acts_stood most Until f below v r o at z first back is = stays v (f ∷ below) o at (now z, is)
    where
      now : IsOther pure f ⊎ Stands s pure f [] → N s pure f
      now (inl i) = inl i
      now (inr z) = inr (inr (subst (λ (st : Stage). Stands s pure f (coming_to st)) (sym r) z))
  acts_stood most Creates f below v r o at (inl i) first back is = stays v (f ∷ below) o at (inl i, is)
  acts_stood most Creates f below v r o at (inr z) first back is = absurd z
  acts_stood most Starts f below v r o at z first back is = stays v (f ∷ below) o at (now z, is)
    where
      now : IsOther pure f ⊎ Stands s pure f [] → N s pure f
      now (inl i) = inl i
      now (inr z) = inr (inr (subst (λ (st : Stage). Stands s pure f (coming_to st)) (sym r) z))
  acts_stood most (CreatesHandler class procedure us t passing) f below v r o at (inl i) first back is = creates_stood most class procedure us t passing f below v o i is
  acts_stood most (CreatesHandler class procedure us t passing) f below v r o at (inr z) first back is = absurd z
  acts_stood most (Enters c me x us gives) f below v r o at (inl i) first back is =
      enters_stood me (routine_named s me.class x) (Called c) (record f { stage = InCall gives } ∷ below) [] (values_of us) v o (inl i, is)
  acts_stood most (Enters c me x us gives) f below v r o at (inr (runs, (a, e, z))) first back is =
      enters_stood me (routine_named s me.class x) (Called c) (record f { stage = InCall gives } ∷ below) [] (values_of us) v o (
        inr (inr (subst (λ (g : Option EntityType). Stands s pure (record f { stage = InCall g }) (listed g)) (sym e) z)),
        is,
      )
  acts_stood most (Requests t x us gives passing) f below v r o at (inl i) first back is = request_stood t x us gives passing f below v o i is
  acts_stood most (Requests t x us gives passing) f below v r o at (inr z) first back is = absurd z
  acts_stood most (Refuses k) f below v r o at z first back is = clause_stood (verdict_on f k) f below v o (inr (first k refl)) is
  acts_stood most Opens f below v r o at (inl i) first back is = stack_stood (record f { stage = ReservesBlock } ∷ below) v o (inl i, is)
  acts_stood most Opens f below v r o at (inr z) first back is = absurd z
  acts_stood most Leaves f below v r o at (inl i) first back is = leaves_stood f.blocks f below v o i is
  acts_stood most Leaves f below v r o at (inr z) first back is = absurd z
  acts_stood most Exits f below v r o at z first back is = exits_stood f below v o (back refl) is
  acts_stood most (Fails why) f below v r o at z first back is = fails_stood why [] v o

  -- what the frame does where it stands at the point
  at_point : (a : Act) (f : Frame) (p : Point) → PureAct s pure f.routine a p → Acts a (frame_at f p)
  at_point (Prints text) f p z = z
  at_point Until f p z = at_objects s pure f.routine [] p [] z
  at_point Creates f p z = z
  at_point Starts f p z = at_objects s pure f.routine [] p [] z
  at_point (CreatesHandler class procedure us t passing) f p z = z
  at_point (Enters c me x us gives) f p (runs, (a, e, z)) = (runs, (a, e, at_objects s pure f.routine (a ∷ []) p [] z))
  at_point (Requests t x us gives passing) f p z = z
  at_point (Refuses k) f p z = z
  at_point Opens f p z = z
  at_point Leaves f p z = z
  at_point Exits f p z = z
  at_point (Fails why) f p z = z

  pub settles_stood : (most : ℕ) (st : Step) (f : Frame) (below : List Frame) → f.stage ≡ Runs → (w.handlers h).stack ≡ f ∷ below →
      IsOther pure f ⊎ PureStep s pure f.routine st → N s pure f →
      ((k : Clause) (p : Point) → st ≡ Does (Refuses k) p → IsFirst s (frame_at f p)) →
      ((p : Point) → st ≡ Does Exits p → (c : Calling) → f.origin ≡ Called c → All (handed (option_map (λ (u : Operand). u.value) p.result) below)) →
      All below → T (settles most s h st f below w)
  settles_stood most (Goes p) f below r at z was first back is = stays w (f ∷ below) (others_stay h w) at (was, is)
  settles_stood most (Does a p) f below r at z was first back is =
      let x : Handler = record (w.handlers h) { objects = p.objects; stack = frame_at f p ∷ below } in
      acts_stood most a (frame_at f p) below (put h x w) r (others_put h w w x (others_stay h w)) (rw (eq-eqb h h refl) refl) (by z)
      (λ k e. first k p (ap (λ (b : Act). Does b p) e)) (λ e. back p (ap (λ (b : Act). Does b p) e)) is
    where
      by : IsOther pure f ⊎ PureStep s pure f.routine (Does a p) → IsOther pure (frame_at f p) ⊎ Acts a (frame_at f p)
      by (inl i) = inl i
      by (inr i) = inr (at_point a f p i)
