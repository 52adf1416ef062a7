-- What a turn makes of a clause's request while it runs: it runs on, or its poster is answered, or is told that it
-- won't be.
use Rattle.std.proofs.Common.{ℕ, ◌≡◌, ◌≢◌, ◌⊎◌, ◌||◌, Bool, true, false, List, [], ◌∷◌, Option, Some, None, refl, sym, ap, subst, ◌∙◌, inl, inr}
use Rattle.std.specs.Prelude.{Contains, if◌then◌else◌, length, nat_lt}
use Rattle.std.specs.Option.{option_map}
use Rattle.sc_tree.specs.Plain.{System}
use Rattle.sc_rules.specs.Names.{RoutineName}
use Rattle.sc_lockpass.specs.declared.wait_conditions.condition.EntryVerdict.{EntryVerdict}
use Rattle.sc_lockpass.specs.declared.wait_conditions.condition.EntryVerdict.TheVariants as verdict
use Rattle.sc_lockpass.specs.declared.wait_conditions.session.Release.TheVariants as release_at
use Rattle.sc_model.specs.declared.cause.Cause.{Cause}
use Rattle.sc_model.specs.declared.cause.Cause.TheVariants as cause
use Rattle.sc_model.specs.Answers.{answered, finish, heard}
use Rattle.sc_model.specs.Entries.{entry, enters, enters_bound}
use Rattle.sc_model.specs.Environments.{Binding, formals_bound}
use Rattle.sc_model.specs.Exits.{exits, handed, is_unset, is_unset_value, is_untested, leaves_to}
use Rattle.sc_model.specs.Failures.{fails_with, requests_at}
use Rattle.sc_model.specs.Handlers.{Request, Answer, Reply, Failed, Refused, Origin, Called, Requested, InCall, Frame, Handler, World, frame_at, put, with_stack}
use Rattle.sc_model.specs.Limits.{max_frames}
use Rattle.sc_model.specs.Objects.{Object, object_numbered}
use Rattle.sc_model.specs.Preconditions.{correctness_fails, counted_refusal, false_clause, object_meets, refuses, verdict_on}
use Rattle.sc_model.specs.Routines.{Routine, routine_named}
use Rattle.sc_model.specs.Sessions.{release}
use Rattle.sc_model.specs.Steps.{Calling, Act, Prints, Until, Creates, CreatesHandler, Enters, Requests, Starts, Refuses, Opens, Leaves, Exits, Fails, Step, Goes, Does, Point}
use Rattle.sc_model.specs.Turns.{effect, settles}
use Rattle.sc_model.specs.Values.{Reference, Value, Operand, values_of}
use Rattle.sc_machine_laws.specs.settlements.Calm.{name_of}
use Rattle.sc_machine_laws.proofs.settlements.GuardedSteps.{pure_waits_not}
use Rattle.sc_machine_laws.specs.Evaluating.{Answers}
use Rattle.sc_machine_laws.proofs.StandingRequests.{begun_on}
use Rattle.sc_machine_laws.specs.Following.{Own, bound_in, clause_request, objects_of}
use Rattle.sc_machine_laws.specs.Points.{HasRun, KeepsActuals, PureActs, PureAnswers, PureSteps}
use Rattle.sc_machine_laws.proofs.OthersStack.{Ended, IsOf, OnStack, Parts, above, called_leaves, handed_stands, named_is_pure, parts, requested_ends, top_replaced}
use Rattle.sc_machine_laws.proofs.OthersWorlds.{Alike, began_on, fails_told, on_stack_of, put_other, put_own, release_alike}
use Rattle.sc_machine_laws.proofs.OwnKept.{IsAlike}

-- ---- what comes of it

module _ (s : System) (pure : RoutineName → Bool) (g h : ℕ) (apart : h ≢ g) (o : Reference) (x : List ℕ)
    (us : List Operand) (below : List Frame) (w : World) where
  abbrev asks : Request
  asks = clause_request h o x us

  abbrev Runs' : List Frame → Type 0
  Runs' st = OnStack s pure asks o x us below st

  -- It runs at g; nothing has come to h.
  pub record On (v : World) : Type 0 where
    pub stack_is : Runs' (v.handlers g).stack
    pub objects_are : (v.handlers g).objects ≡ (w.handlers g).objects
    pub queue_is : (v.handlers g).queue ≡ (w.handlers g).queue
    pub top_is : v.rights.top g ≡ w.rights.top g
    pub answer_is : (v.handlers h).answer ≡ None
    pub failure_is : (v.handlers h).failure ≡ None

  -- It has ended at g, and h has its value.
  pub record Over (v : World) : Type 0 where
    pub value : Value
    pub stack_is : (v.handlers g).stack ≡ below
    pub objects_are : (v.handlers g).objects ≡ (w.handlers g).objects
    pub queue_is : (v.handlers g).queue ≡ (w.handlers g).queue
    pub top_is : v.rights.top g ≡ w.rights.top g
    pub answer_is : (v.handlers h).answer ≡ Some (Reply (Some value))
    pub answers : Answers s (Own o.handler) (objects_of w) o x us value

  -- no reply comes to h
  abbrev pub Lost : World → Type 0
  Lost v = ((v.handlers h).answer ≡ Some Failed) ⊎ ((v.handlers h).answer ≡ Some Refused)

  pub data Comes (v : World) : Type 0 where
    on : On v → Comes v
    over : Over v → Comes v
    lost : Lost v → Comes v

  alike_on : (v u : World) → Alike g h apart v u → On v → On u
  alike_on v u a z = record {
    stack_is = subst Runs' (sym a.stack_is) z.stack_is;
    objects_are = a.objects_are ∙ z.objects_are;
    queue_is = a.queue_is ∙ z.queue_is;
    top_is = a.top_is ∙ z.top_is;
    answer_is = a.answer_is ∙ z.answer_is;
    failure_is = a.failure_is ∙ z.failure_is;
  }

  pub either : (b : Bool) (y z : World) → (b ≡ true → Comes y) → (b ≡ false → Comes z) → Comes (if b then y else z)
  either true y z t u = t refl
  either false y z t u = u refl

  -- ---- what g does

  stands_there : (st : List Frame) → Runs' st → Contains (begun_on st) asks
  stands_there st z =
      let p : Parts s pure asks o x us below st = parts s pure asks o x us below st z in
      subst (λ (fs : List Frame). Contains (begun_on fs) asks) (sym p.stack_is)
      (began_on p.fs p.frame below asks p.is_of.origin_is)

  pub fails_comes : (why : Cause) (v : World) → On v → Comes (fails_with g why [] v)
  fails_comes why v z = lost
      (inl (fails_told g h apart why [] v asks
      (on_stack_of (v.handlers g) asks (stands_there (v.handlers g).stack z.stack_is)) refl refl z.failure_is))

  stack_on : (st : List Frame) (v : World) → On v → Runs' st → On (with_stack g st v)
  stack_on st v z is =
      let y : Handler = record (v.handlers g) { stack = st } in
      let own : (put g y v).handlers g ≡ y = put_own g h apart y v in
      let other : (put g y v).handlers h ≡ v.handlers h = put_other g h apart y v in
      record {
        stack_is = subst (λ (k : Handler). Runs' k.stack) (sym own) is;
        objects_are = ap (λ (k : Handler). k.objects) own ∙ z.objects_are;
        queue_is = ap (λ (k : Handler). k.queue) own ∙ z.queue_is;
        top_is = z.top_is;
        answer_is = ap (λ (k : Handler). k.answer) other ∙ z.answer_is;
        failure_is = ap (λ (k : Handler). k.failure) other ∙ z.failure_is;
      }

  -- a routine that contracts may call is entered
  enters_comes : (p : Reference) (r : Option Routine) (c : Calling) (st : List Frame) (vs : List Value) (v : World) →
      On v → Runs' st →
      ((z : Routine) → r ≡ Some z → pure (name_of z) ≡ true) → Comes (enters s g p r (Called c) st [] vs v)
  enters_comes p None c st vs v z is tells = fails_comes cause.BadCode v z
  enters_comes p (Some r) c st vs v z is tells = bound (formals_bound s r.text.formals 0 r.text.formals vs)
    where
      bound : (b : Option (List Binding)) → Comes (enters_bound g p r (Called c) st [] b v)
      bound None = fails_comes cause.BadCode v z
      bound (Some bs) = either (nat_lt (length st) max_frames) _ _
          (λ e. on (stack_on (entry p r (Called c) bs ∷ st) v z (above (refl, tells r refl) is)))
          (λ e. fails_comes cause.StackFull v z)

  -- ---- its end

  -- the request doesn't stand on these frames
  pub record Left (v : World) : Type 0 where
    pub stack_is : (v.handlers g).stack ≡ below
    pub objects_are : (v.handlers g).objects ≡ (w.handlers g).objects
    pub queue_is : (v.handlers g).queue ≡ (w.handlers g).queue
    pub top_is : v.rights.top g ≡ w.rights.top g
    pub answer_is : (v.handlers h).answer ≡ None
    pub failure_is : (v.handlers h).failure ≡ None

  alike_left : (v u : World) → Alike g h apart v u → Left v → Left u
  alike_left v u a z = record {
    stack_is = a.stack_is ∙ z.stack_is;
    objects_are = a.objects_are ∙ z.objects_are;
    queue_is = a.queue_is ∙ z.queue_is;
    top_is = a.top_is ∙ z.top_is;
    answer_is = a.answer_is ∙ z.answer_is;
    failure_is = a.failure_is ∙ z.failure_is;
  }

  back : g ≢ h
  back e = apart (sym e)

  heard_so : (a : Answer) (c : Option Cause) (old : Option Answer) → c ≡ None → old ≡ None → heard a c old ≡ Some a
  heard_so a c old e f = ap (λ (c : Option Cause). heard a c old) e ∙ ap (heard a None) f ∙ by a
    where
      by : (a : Answer) → heard a None None ≡ Some a
      by (Reply v) = refl
      by Failed = refl
      by Refused = refl

  finish_hears : (a : Answer) (v : World) → Left v → ((finish asks a v).handlers h).answer ≡ Some a
  finish_hears a v z = ap (λ (k : Handler). k.answer) (put_own h g back (answered a (v.handlers h)) v)
      ∙ heard_so a (v.handlers h).failure (v.handlers h).answer z.failure_is z.answer_is

  pub finish_over : (value : Value) (v : World) → Left v → Answers s (Own o.handler) (objects_of w) o x us value →
      Over (finish asks (Reply (Some value)) v)
  finish_over value v z answers =
      let other : (finish asks (Reply (Some value)) v).handlers g ≡ v.handlers g =
      put_other h g back (answered (Reply (Some value)) (v.handlers h)) v in
      record {
        value = value;
        stack_is = ap (λ (k : Handler). k.stack) other ∙ z.stack_is;
        objects_are = ap (λ (k : Handler). k.objects) other ∙ z.objects_are;
        queue_is = ap (λ (k : Handler). k.queue) other ∙ z.queue_is;
        top_is = z.top_is;
        answer_is = finish_hears (Reply (Some value)) v z;
        answers = answers;
      }

  -- g goes on with what stands below
  put_left : (y : Handler) (v : World) → On v → y.stack ≡ below → y.objects ≡ (v.handlers g).objects →
      y.queue ≡ (v.handlers g).queue → Left (put g y v)
  put_left y v z i j k =
      let own : (put g y v).handlers g ≡ y = put_own g h apart y v in
      let other : (put g y v).handlers h ≡ v.handlers h = put_other g h apart y v in
      record {
        stack_is = ap (λ (k : Handler). k.stack) own ∙ i;
        objects_are = ap (λ (k : Handler). k.objects) own ∙ j ∙ z.objects_are;
        queue_is = ap (λ (k : Handler). k.queue) own ∙ k ∙ z.queue_is;
        top_is = z.top_is;
        answer_is = ap (λ (k : Handler). k.answer) other ∙ z.answer_is;
        failure_is = ap (λ (k : Handler). k.failure) other ∙ z.failure_is;
      }

  abbrev value_of : Option Operand → Option Value
  value_of u = option_map (λ (u : Operand). u.value) u

  abbrev Gives : Frame → Operand → Type 0
  Gives f u = IsOf s pure asks o x us f → is_unset_value u.value u.type ≡ false →
      Answers s (Own o.handler) (objects_of w) o x us u.value

  leaves_comes : (c : Origin) (f : Frame) (rest : List Frame) (v : World) (u : Operand) → On v → Runs' (f ∷ rest) →
      f.origin ≡ c → is_unset_value u.value u.type ≡ false →
      Gives f u → Comes (leaves_to g c f.reserved (Some u.value) rest v)
  leaves_comes (Called c) f rest v u z is o_is set gives =
      on (alike_on _ _ (release_alike g h apart release_at.Exit f.reserved
      (with_stack g (handed (Some u.value) rest) v))
      (stack_on (handed (Some u.value) rest) v z
      (handed_stands s pure asks o x us below (Some u.value) rest
      (called_leaves s pure asks o x us below f rest c o_is is))))
  leaves_comes (Requested r) f rest v u z is o_is set gives =
      let end : Ended s pure asks o x us below f rest r = requested_ends s pure asks o x us below f rest r o_is is in
      let left : Left (with_stack g rest v) =
      put_left (record (v.handlers g) { stack = rest }) v z end.rest_is refl refl in
      subst (λ (r : Request). Comes
      (finish r (Reply (Some u.value)) (release release_at.Exit f.reserved (with_stack g rest v)))) (sym end.request_is)
      (over (finish_over u.value _
      (alike_left _ _ (release_alike g h apart release_at.Exit f.reserved (with_stack g rest v)) left)
      (gives end.is_of set)))

  exits_comes : (f : Frame) (rest : List Frame) (v : World) (u : Operand) → On v → Runs' (f ∷ rest) →
      f.result ≡ Some u → Gives f u → Comes (exits s g f rest v)
  exits_comes f rest v u z is r_is gives = either (is_unset f.result) _ _ (λ e. fails_comes cause.UnsetEntity v z)
      (λ e. either (is_untested f.origin || object_meets s
      (object_numbered f.current.number (v.handlers g).objects)) _ _
      (λ i. subst (λ (r : Option Operand). Comes (leaves_to g f.origin f.reserved (value_of r) rest v)) (sym r_is)
      (leaves_comes f.origin f rest v u z is refl (ap is_unset (sym r_is) ∙ e) gives))
      (λ i. fails_comes cause.Invariant v z))

  -- ---- its refusal

  counted : (b : Bool) (y : Handler) → ((counted_refusal b y).stack ≡ y.stack)
      × ((counted_refusal b y).objects ≡ y.objects) × ((counted_refusal b y).queue ≡ y.queue)
  counted true y = (refl, refl, refl)
  counted false y = (refl, refl, refl)

  refuses_comes : (c : Origin) (f : Frame) (rest : List Frame) (v : World) → On v → Runs' (f ∷ rest) → f.origin ≡ c →
      Comes (correctness_fails s g c f rest v)
  refuses_comes (Called c) f rest v z is o_is = fails_comes cause.Precondition v z
  refuses_comes (Requested r) f rest v z is o_is =
      let end : Ended s pure asks o x us below f rest r = requested_ends s pure asks o x us below f rest r o_is is in
      let y : Handler = counted_refusal true (record (v.handlers g) { stack = rest }) in
      let left : Left (put g y v) = put_left y v z end.rest_is refl refl in
      subst (λ (r : Request). Comes (refuses s g r f rest v)) (sym end.request_is)
      (lost (inr (finish_hears Refused _
      (alike_left _ _ (release_alike g h apart release_at.Refusal f.reserved (put g y v)) left))))

  clause_comes : (d : EntryVerdict) (f : Frame) (rest : List Frame) (v : World) → (d ≡ verdict.Wait → ⊥) → On v →
      Runs' (f ∷ rest) → Comes (false_clause d s g f rest v)
  clause_comes verdict.Wait f rest v n z is = absurd (n refl)
  clause_comes verdict.Refuse f rest v n z is = refuses_comes f.origin f rest v z is refl
  clause_comes verdict.Start f rest v n z is = fails_comes cause.BadCode v z

  -- ---- a turn of its topmost frame

  -- the frame at a point with the same actuals stands in its place
  at_point : (t : Frame) (p : Point) → bound_in (frame_at t p) ≡ bound_in t → IsAlike t (frame_at t p)
  at_point t p e = record { current_is = refl; routine_is = refl; origin_is = refl; bound_is = e }

  module _ (pure_answers : PureAnswers) (t : Frame) (rest : List Frame) (mine : t.current.handler ≡ g) (before : On w)
      (at : (w.handlers g).stack ≡ t ∷ rest)
      (reserves_nothing : t.reserved ≡ [])
      (there : (b : Object) × (object_numbered t.current.number (w.handlers g).objects ≡ Some b)) where
    standing : Runs' (t ∷ rest)
    standing = subst Runs' at before.stack_is

    abbrev moved : Point → World
    moved p = put g (record (w.handlers g) { objects = p.objects; stack = frame_at t p ∷ rest }) w

    -- at the point it runs on
    moved_stands : (p : Point) → KeepsActuals (objects_of w) t.current t.routine (bound_in t) p →
        Runs' (frame_at t p ∷ rest)
    moved_stands p k = top_replaced s pure asks o x us below t (frame_at t p) rest (at_point t p k.bound_are) standing

    moved_on : (p : Point) → KeepsActuals (objects_of w) t.current t.routine (bound_in t) p → On (moved p)
    moved_on p k =
        let y : Handler = record (w.handlers g) { objects = p.objects; stack = frame_at t p ∷ rest } in
        let own : (put g y w).handlers g ≡ y = put_own g h apart y w in
        let other : (put g y w).handlers h ≡ w.handlers h = put_other g h apart y w in
        record {
          stack_is = subst (λ (k : Handler). Runs' k.stack) (sym own) (moved_stands p k);
          objects_are = ap (λ (k : Handler). k.objects) own ∙ k.objects_are ∙ ap (objects_of w) mine;
          queue_is = ap (λ (k : Handler). k.queue) own;
          top_is = refl;
          answer_is = ap (λ (k : Handler). k.answer) other ∙ before.answer_is;
          failure_is = ap (λ (k : Handler). k.failure) other ∙ before.failure_is;
        }

    -- its value is what the request asks for
    gives_value : (p : Point) (u : Operand) → HasRun s (objects_of w) t.current t.routine (bound_in t) p →
        p.result ≡ Some u →
        KeepsActuals (objects_of w) t.current t.routine (bound_in t) p → Gives (frame_at t p) u
    gives_value p u ran r_is k i set =
        let c_is : t.current ≡ o = i.is_for.current_is in
        subst (λ (c : Reference). Answers s (Own c.handler) (objects_of w) c x us u.value) c_is
        (pure_answers s (objects_of w) t.current x us t.routine (bound_in t) there.0 p u
        (ap (λ (c : Reference). routine_named s c.class x) c_is ∙ i.is_for.routine_is)
        (ap (λ (j : ℕ). object_numbered t.current.number (objects_of w j)) mine ∙ there.1)
        (i.is_for.bound_is ∙ ap Some k.bound_are) ran r_is set)

    act_comes : (most : ℕ) (a : Act) (p : Point) → PureActs s pure (objects_of w) t.current t.routine (bound_in t) a p →
        Comes (effect most s g a (frame_at t p) rest (moved p))
    act_comes most (Prints text) p z = absurd z
    act_comes most Until p z = on (moved_on p z.1)
    act_comes most Creates p z = absurd z
    act_comes most Starts p z = on (moved_on p z.1)
    act_comes most (CreatesHandler class procedure vs u passing) p z = absurd z
    act_comes most (Enters c y k vs gives) p z =
        let keeps : KeepsActuals (objects_of w) t.current t.routine (bound_in t) p = z.5 in
        enters_comes y (routine_named s y.class k) c (record (frame_at t p) { stage = InCall gives } ∷ rest)
        (values_of vs) (moved p) (moved_on p keeps)
        (top_replaced s pure asks o x us below t (record (frame_at t p) { stage = InCall gives }) rest
        (record { current_is = refl; routine_is = refl; origin_is = refl; bound_is = keeps.bound_are }) standing)
        (named_is_pure s pure y.class k z.3)
    act_comes most (Requests y k vs gives passing) p z = absurd z
    act_comes most (Refuses k) p z = clause_comes (verdict_on (frame_at t p) k) (frame_at t p) rest (moved p)
        (pure_waits_not (frame_at t p) k reserves_nothing) (moved_on p z) (moved_stands p z)
    act_comes most Opens p z = absurd z
    act_comes most Leaves p z = absurd z
    act_comes most Exits p z = exits_comes (frame_at t p) rest (moved p) z.1.0 (moved_on p z.2)
        (moved_stands p z.2) z.1.1 (gives_value p z.1.0 z.0 z.1.1 z.2)
    act_comes most (Fails why) p z =
        let y : Handler = record (w.handlers g) { objects = p.objects; stack = frame_at t p ∷ rest } in
        lost (inl (fails_told g h apart why [] (moved p) asks
        (subst (λ (k : Handler). Contains (requests_at k) asks) (sym (put_own g h apart y w))
        (on_stack_of y asks (stands_there (t ∷ rest) standing))) refl refl
        (ap (λ (k : Handler). k.failure) (put_other g h apart y w) ∙ before.failure_is)))

    pub settles_comes : (most : ℕ) (st : Step) → PureSteps s pure (objects_of w) t.current t.routine (bound_in t) st →
        Comes (settles most s g st t rest w)
    settles_comes most (Goes p) z = on before
    settles_comes most (Does a p) z = act_comes most a p z
