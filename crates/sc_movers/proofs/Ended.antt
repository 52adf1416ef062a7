-- Which requests end, and what is given back then, beside the machine.
use Rattle.std.proofs.Common.{◌≡◌, ◌∙◌, ◌⊎◌, inl, inr, ◌<◌, ◌≤◌, ◌==◌, ◌&&◌, ◌||◌, ℕ, suc, Bool, true, false, List, [], ◌∷◌, ◌++◌, Option, Some, None, length, map, refl, sym, ap, subst, arith}
use Rattle.std.proofs.lemmas.Bool.{cases_lt, eq-eqb, eqb-true}
use Rattle.std.proofs.lemmas.List.{map-append}
use Rattle.std.proofs.lemmas.List.Concat.{flat_map-cons}
use Rattle.std.specs.Prelude.{if◌then◌else◌, is_some, nat_lt, Contains}
use Rattle.std.specs.List.{flat_map, list_any}
use Rattle.std.specs.Option.{is_none, option_map}
use Rattle.arrayvec.specs.ArrayVec.{ArrayVec}
use Rattle.sc_tree.specs.Plain.{System}
use Rattle.sc_class.specs.ClassNames.{Root}
use Rattle.sc_rules.specs.declared.entity_types.entity_type.EntityType.{EntityType}
use Rattle.sc_lockpass.specs.Passing.{Passed}
use Rattle.sc_lockpass.specs.Rights.{Rights, is_handler}
use Rattle.sc_lockpass.specs.wait_conditions.Reservations.{may_reserve, reserve_fails}
use Rattle.sc_lockpass.specs.declared.wait_conditions.condition.EntryVerdict.{EntryVerdict}
use Rattle.sc_lockpass.specs.declared.wait_conditions.condition.EntryVerdict.TheVariants as verdict
use Rattle.sc_model.specs.declared.cause.Cause.{Cause}
use Rattle.sc_model.specs.declared.cause.Cause.TheVariants as cause
use Rattle.sc_model.specs.Environments.{Binding, formals_bound, separate_formals}
use Rattle.sc_model.specs.Exits.{is_unset, is_untested}
use Rattle.sc_model.specs.Failures as failures
use Rattle.sc_model.specs.Handlers as machine
use Rattle.sc_model.specs.Limits.{max_frames}
use Rattle.sc_model.specs.Moves.{moves}
use Rattle.sc_model.specs.Objects.{Object, object_numbered}
use Rattle.sc_model.specs.Preconditions.{object_meets, verdict_on}
use Rattle.sc_model.specs.Routines.{Routine, routine_named}
use Rattle.sc_model.specs.Runs.{IsReached}
use Rattle.sc_model.specs.Steps.{Act, Prints, Until, Creates, CreatesHandler, Enters, Requests, Starts, Refuses, Opens, Leaves, Exits, Fails, Step, Goes, Does}
use Rattle.sc_model.specs.Values as values
use Rattle.sc_region.specs.declared.value.Value.{Value}
use Rattle.sc_region.specs.declared.job.Request.{Request}
use Rattle.sc_region.specs.declared.job.Job.{Job}
use Rattle.sc_region.specs.declared.job.Job.TheVariants as job
use Rattle.sc_region.specs.declared.job.Want.{Want}
use Rattle.sc_region.specs.declared.job.Want.TheVariants as want
use Rattle.sc_handler.specs.Changes.{requests_at, takes, takes_callback, takes_next, to_list}
use Rattle.sc_handler.specs.Fits.{fits_first, may_take_answer}
use Rattle.sc_handler.specs.Handlers.{Answer, Replied, SupplierFailed, Refused, HandlerStage, Idle, Runs, HasMade, Reserves, Awaits, Posted, Service, Handler, State, standing_in}
use Rattle.sc_handler.specs.Picking.{job_at, job_awaiting, job_idle, job_of, job_reserving, needs}
use Rattle.sc_request.specs.Asked.{Numbering, asked, asks_acting, asks_after, asks_beginning, asks_bound, asks_entering, asks_exiting, asks_going, asks_leaving, asks_moving, asks_on, asks_refusing, asks_releasing, asks_requesting, asks_returning}
use Rattle.sc_request.specs.Halves.{AreServices, IsHalfOf, IsHandlerOf, IsOrigin, IsStage, IsTop, answer_of, posted_of}
use Rattle.sc_request.specs.Settling.{begun, made_at}
use Rattle.sc_machine_laws.specs.RequestLaws.{BeyondIsUnused, EndsTheOne, IsUnlent, NoCallback, TopAwaits}
use Rattle.sc_machine_laws.specs.states.Fitting.{MayEnd, called_back, next, runs}
use Rattle.sc_machine_laws.specs.states.Headline.{has_reply}
use Rattle.sc_machine_laws.proofs.Held.{IsHere, creation_here, listed_here}
use Rattle.sc_machine_laws.proofs.states.links.Reached.{reached_stands}
use Rattle.sc_refines_world.proofs.OtherStages.{has_job}
use Rattle.sc_movers.specs.Returned.{HearsNothing, ReturnsOwn, UnlentWait, is_unlent_of, waits_unlent}
use Rattle.sc_movers.proofs.ChangedTurns.{and_left, and_right}

-- ---- whose end a turn asks for

abbrev IsDone : Want → Type 0
IsDone w = (v : Option Value) × (ls : ArrayVec ℕ) × (refused : Bool) × (w ≡ want.Done v ls refused)

not_continue : {A : Type 0} → IsDone want.Continue → A
not_continue (v, ls, refused, e) = cc

not_reserve : {A : Type 0} (ks : ArrayVec ℕ) → IsDone (want.Reserve ks) → A
not_reserve ks (v, ls, refused, e) = cc

not_fail : {A : Type 0} (why : Cause) → IsDone (want.Fail why) → A
not_fail why (v, ls, refused, e) = cc

not_beginning : {A : Type 0} (vs : List values.Value) → IsDone (asks_beginning vs) → A
not_beginning [] d = not_continue d
not_beginning (v ∷ vs) d = not_reserve _ d

not_bound : {A : Type 0} (bs : Option (List Binding)) (depth : ℕ) → IsDone (asks_bound bs depth) → A
not_bound None depth d = not_fail _ d
not_bound {A} (Some bs) depth d = by (nat_lt depth max_frames) d
  where
    by : (b : Bool) → IsDone (if b then asks_beginning (separate_formals bs) else want.Fail cause.StackFull) → A
    by true d = not_beginning (separate_formals bs) d
    by false d = not_fail _ d

not_entering : {A : Type 0} (s : System) (r : Option Routine) (vs : List values.Value) (depth : ℕ) → IsDone (asks_entering s r vs depth) → A
not_entering s None vs depth d = not_fail _ d
not_entering s (Some r) vs depth d = not_bound (formals_bound s r.text.formals 0 r.text.formals vs) depth d

-- the request that began the frame
abbrev Began : machine.Frame → Type 0
Began f = (r : machine.Request) × (f.origin ≡ machine.Requested r)

began_refusing : (s : System) (o : machine.Origin) (f : machine.Frame) (objects : List Object) → f.origin ≡ o → IsDone (asks_refusing s o f objects) → Began f
began_refusing s (machine.Called c) f objects e d = not_fail _ d
began_refusing s (machine.Requested r) f objects e d = (r, e)

began_after : (x : EntryVerdict) (s : System) (f : machine.Frame) (objects : List Object) → IsDone (asks_after x s f objects) → Began f
began_after verdict.Wait s f objects (v, ls, refused, e) = cc
began_after verdict.Refuse s f objects d = began_refusing s f.origin f objects refl d
began_after verdict.Start s f objects d = not_fail _ d

not_releasing : {A : Type 0} (ks : List ℕ) → IsDone (asks_releasing ks) → A
not_releasing [] d = not_continue d
not_releasing (k ∷ ks) (v, ls, refused, e) = cc

not_leaving : {A : Type 0} (kss : List (List ℕ)) → IsDone (asks_leaving kss) → A
not_leaving [] d = not_fail _ d
not_leaving (ks ∷ kss) (v, ls, refused, e) = cc

began_returning : (o : machine.Origin) (f : machine.Frame) → f.origin ≡ o → IsDone (asks_returning o f) → Began f
began_returning (machine.Called c) f e d = not_releasing f.reserved d
began_returning (machine.Requested r) f e d = (r, e)

began_exiting : (s : System) (f : machine.Frame) (objects : List Object) → IsDone (asks_exiting s f objects) → Began f
began_exiting s f objects d = by (is_unset f.result) (is_untested f.origin || object_meets s (object_numbered f.current.number objects)) d
  where
    by : (b c : Bool) → IsDone (if b then want.Fail cause.UnsetEntity else if c then asks_returning f.origin f else want.Fail cause.Invariant) → Began f
    by true c d = not_fail _ d
    by false true d = began_returning f.origin f refl d
    by false false d = not_fail _ d

not_requesting : {A : Type 0} (n : Numbering) (h : ℕ) (r : values.Reference) (x : List ℕ) (us : List values.Operand) (waits passing : Bool) →
    IsDone (asks_requesting n h r x us waits passing) → A
not_requesting n h r x us true passing (v, ls, refused, e) = cc
not_requesting n h r x us false passing (v, ls, refused, e) = cc

began_acting : (n : Numbering) (s : System) (h : ℕ) (a : Act) (f : machine.Frame) (depth : ℕ) (objects : List Object) → IsDone (asks_acting n s h a f depth objects) → Began f
began_acting n s h (Prints text) f depth objects d = not_continue d
began_acting n s h Until f depth objects d = not_continue d
began_acting n s h Creates f depth objects d = not_continue d
began_acting n s h Starts f depth objects d = not_continue d
began_acting n s h (CreatesHandler class procedure us t passing) f depth objects (v, ls, refused, e) = cc
began_acting n s h (Enters c me x us gives) f depth objects d = not_entering s (routine_named s me.class x) (values.values_of us) depth d
began_acting n s h (Requests r x us gives passing) f depth objects d = not_requesting n h r x us (passing || is_some gives) passing d
began_acting n s h (Refuses k) f depth objects d = began_after (verdict_on f k) s f objects d
began_acting n s h Opens f depth objects d = not_reserve _ d
began_acting n s h Leaves f depth objects d = not_leaving f.blocks d
began_acting n s h Exits f depth objects d = began_exiting s f objects d
began_acting n s h (Fails why) f depth objects d = not_fail why d

began_moving : (n : Numbering) (s : System) (h : ℕ) (x : Step) (f : machine.Frame) (depth : ℕ) → IsDone (asks_moving n s h x f depth) → Began f
began_moving n s h (Goes p) f depth d = not_continue d
began_moving n s h (Does a p) f depth d = began_acting n s h a (machine.frame_at f p) depth p.objects d

-- the topmost frame runs, and the request began it
pub record EndsTop (stack : List machine.Frame) : Type 0 where
  pub frame : machine.Frame
  pub below : List machine.Frame
  pub stack_is : stack ≡ frame ∷ below
  pub stage_is : frame.stage ≡ machine.Runs
  pub request : machine.Request
  pub origin_is : frame.origin ≡ machine.Requested request

ends_on : (n : Numbering) (s : System) (h : ℕ) (stack : List machine.Frame) (objects : List Object) → IsDone (asks_on n s h stack objects) → EndsTop stack
ends_on n s h [] objects d = not_continue d
ends_on n s h (f ∷ below) objects d = by f.stage refl d
  where
    by : (x : machine.Stage) → f.stage ≡ x → IsDone (asks_going n s h x f (length (f ∷ below)) objects) → EndsTop (f ∷ below)
    by machine.Runs e d =
        let began = began_moving n s h (moves s f.current (machine.point_of f objects)) f (length (f ∷ below)) d in
        record { frame = f; below = below; stack_is = refl; stage_is = e; request = began.0; origin_is = began.1 }
    by machine.Reserves e d = not_continue d
    by machine.ReservesBlock e d = not_continue d
    by (machine.InCall gives) e d = not_fail _ d
    by (machine.Awaits k gives creation) e d = not_continue d

-- ---- what the core has of it

-- where a handler stands that has no frames, or whose topmost frame awaits an answer
pub idle_empty : (stack : List machine.Frame) → IsTop stack Idle → stack ≡ []
idle_empty [] e = refl
idle_empty (f ∷ below) e = by f.stage e
  where
    by : (x : machine.Stage) → IsStage x f Idle → f ∷ below ≡ []
    by machine.Runs (inl i) = cc
    by machine.Runs (inr (k, i)) = cc
    by machine.Reserves i = cc
    by machine.ReservesBlock i = cc
    by (machine.InCall gives) i = cc
    by (machine.Awaits k gives creation) i = cc

pub record AwaitsTop (stack : List machine.Frame) (k : ℕ) (c : Bool) : Type 0 where
  pub frame : machine.Frame
  pub below : List machine.Frame
  pub gives : Option EntityType
  pub stack_is : stack ≡ frame ∷ below
  pub stage_is : frame.stage ≡ machine.Awaits k gives c

awaits_same : (k i : ℕ) (c b : Bool) (gives : Option EntityType) → Awaits k c ≡ Awaits i b → machine.Awaits i gives b ≡ machine.Awaits k gives c
awaits_same k i c b gives e = cc

awaits_top : (stack : List machine.Frame) (k : ℕ) (c : Bool) → IsTop stack (Awaits k c) → AwaitsTop stack k c
awaits_top [] k c e = cc
awaits_top (f ∷ below) k c e = by f.stage refl e
  where
    by : (x : machine.Stage) → f.stage ≡ x → IsStage x f (Awaits k c) → AwaitsTop (f ∷ below) k c
    by machine.Runs at (inl i) = cc
    by machine.Runs at (inr (j, i)) = cc
    by machine.Reserves at i = cc
    by machine.ReservesBlock at i = cc
    by (machine.InCall gives) at i = cc
    by (machine.Awaits j gives b) at i = record { frame = f; below = below; gives = gives; stack_is = refl; stage_is = at ∙ awaits_same k j c b gives i }

-- the first of a queue, and a callback, as the machine has them
first_posted : (n : Numbering) (qs : List machine.Request) (p : Posted) (ps : List Posted) → p ∷ ps ≡ map (posted_of n) qs →
    (q : machine.Request) × (rest : List machine.Request) × (qs ≡ q ∷ rest) × (p ≡ posted_of n q)
first_posted n [] p ps e = cc
first_posted n (q ∷ qs) p ps e = (q, qs, refl, head e)
  where
    head : p ∷ ps ≡ posted_of n q ∷ map (posted_of n) qs → p ≡ posted_of n q
    head e = cc

callback_posted : (n : Numbering) (o : Option machine.Request) (p : Posted) → Some p ≡ option_map (posted_of n) o → (q : machine.Request) × (o ≡ Some q) × (p ≡ posted_of n q)
callback_posted n None p e = cc
callback_posted n (Some q) p e = (q, refl, one e)
  where
    one : Some p ≡ Some (posted_of n q) → p ≡ posted_of n q
    one e = cc

reply_of : (o : Option machine.Answer) (v : Option Value) → Some (Replied v) ≡ option_map answer_of o → (u : Option values.Value) × (o ≡ Some (machine.Reply u))
reply_of None v e = cc
reply_of (Some (machine.Reply u)) v e = (u, refl)
reply_of (Some machine.Failed) v e = cc
reply_of (Some machine.Refused) v e = cc

-- the service that came last
first_same : (p : Posted) (stage : HandlerStage) (vs : List Service) (e : Service) (es : List Service) →
    (let v : Service = record { posted = p; over = stage } in v ∷ vs) ≡ e ∷ es → e.posted ≡ p
first_same p stage vs e es i = cc

-- a job that is told of a handler that was made comes with an answer
made_answer : (i k : ℕ) (c : Bool) (p : Option Posted) (a : Option Answer) → job_awaiting i c p a ≡ Some (job.Made k) → (v : Option Value) × (a ≡ Some (Replied v)) × (c ≡ true)
made_answer i k c (Some p) a e = cc
made_answer i k true None (Some (Replied v)) e = (v, refl, refl)
made_answer i k false None (Some (Replied v)) e = cc
made_answer i k true None (Some SupplierFailed) e = cc
made_answer i k false None (Some SupplierFailed) e = cc
made_answer i k true None (Some Refused) e = cc
made_answer i k false None (Some Refused) e = cc
made_answer i k c None None e = cc

at_own : (h : ℕ) (y z : Handler) → (if h == h then y else z) ≡ y
at_own h y z = ap (λ (b : Bool). if b then y else z) (eq-eqb h h refl)

-- ---- who waits for a request with which it passed nothing

-- the requests at a handler are the machine's
services_same : (n : Numbering) (fs : List machine.Frame) (vs : List Service) → AreServices n fs vs →
    map (λ (v : Service). v.posted) vs ≡ map (posted_of n) (flat_map (λ (f : machine.Frame). failures.request_of f.origin) fs)
services_same n [] vs e = ap (map (λ (v : Service). v.posted)) e
services_same n (f ∷ below) vs e =
    by f.origin vs e (services_same n below)
    ∙ sym (ap (map (posted_of n)) (flat_map-cons (λ (g : machine.Frame). failures.request_of g.origin) f below))
  where
    rest : List machine.Request
    rest = flat_map (λ (g : machine.Frame). failures.request_of g.origin) below

    by : (o : machine.Origin) (us : List Service) → IsOrigin n o (AreServices n below) below us →
        ((ws : List Service) → AreServices n below ws → map (λ (v : Service). v.posted) ws ≡ map (posted_of n) rest) →
        map (λ (v : Service). v.posted) us ≡ map (posted_of n) (failures.request_of o ++ rest)
    by (machine.Called c) us e same = same us e
    by (machine.Requested r) [] e same = absurd e
    by (machine.Requested r) (u ∷ us) e same =
        ap (λ (p : Posted). p ∷ map (λ (v : Service). v.posted) us) e.0 ∙ ap (λ (ps : List Posted). posted_of n r ∷ ps) (same us e.2)

callback_same : (n : Numbering) (o : Option machine.Request) (p : Option Posted) → p ≡ option_map (posted_of n) o → to_list p ≡ map (posted_of n) (failures.to_list o)
callback_same n None p e = ap to_list e
callback_same n (Some r) p e = ap to_list e

requests_same : (n : Numbering) (x : machine.Handler) (y : Handler) → IsHandlerOf n x y → requests_at y ≡ map (posted_of n) (failures.requests_at x)
requests_same n x y is =
    ap (λ (ps : List Posted). (ps ++ to_list y.callback) ++ map (λ (v : Service). v.posted) y.services) is.queue
    ∙ ap (λ (ps : List Posted). (map (posted_of n) x.queue ++ ps) ++ map (λ (v : Service). v.posted) y.services) (callback_same n x.callback y.callback is.callback)
    ∙ ap (λ (ps : List Posted). (map (posted_of n) x.queue ++ map (posted_of n) (failures.to_list x.callback)) ++ ps) (services_same n x.stack y.services is.services)
    ∙ ap (λ (ps : List Posted). ps ++ map (posted_of n) (flat_map (λ (f : machine.Frame). failures.request_of f.origin) x.stack))
    (sym (map-append (posted_of n) x.queue (failures.to_list x.callback)))
    ∙ sym (map-append (posted_of n) (x.queue ++ failures.to_list x.callback) (flat_map (λ (f : machine.Frame). failures.request_of f.origin) x.stack))

-- one that passes a test is among them
found : (P : Posted → Bool) (n : Numbering) (rs : List machine.Request) → list_any P (map (posted_of n) rs) ≡ true → (r : machine.Request) × Contains rs r × (P (posted_of n r) ≡ true)
found P n [] e = cc
found P n (r ∷ rs) e = by (P (posted_of n r)) refl e (found P n rs)
  where
    by : (b : Bool) → P (posted_of n r) ≡ b → (b || list_any P (map (posted_of n) rs)) ≡ true →
        (list_any P (map (posted_of n) rs) ≡ true → (q : machine.Request) × Contains rs q × (P (posted_of n q) ≡ true)) →
        (q : machine.Request) × Contains (r ∷ rs) q × (P (posted_of n q) ≡ true)
    by true passes e later = (r, (0, omega arith, refl), passes)
    by false passes e later = let it = later e in let few = it.1.1 in (it.0, (suc it.1.0, omega (arith, few), it.1.2), it.2)

none_of : (o : Option machine.Answer) → option_map answer_of o ≡ None → o ≡ None
none_of None e = refl
none_of (Some a) e = cc

no_passed : (o : Option Passed) → is_none o ≡ true → o ≡ None
no_passed None e = refl
no_passed (Some p) e = cc

handler_is : (p : ℕ) (o : Option ℕ) → is_handler p o ≡ true → o ≡ Some p
handler_is p None e = cc
handler_is p (Some k) e = ap (λ (m : ℕ). Some m) (eqb-true k p e)

lent_there : (n : Numbering) (w : machine.World) (c : State) → IsHalfOf n w c → (p g : ℕ) → waits_unlent p g c ≡ true → (q : machine.Request) × IsUnlent w p g q
lent_there n w c half p g unlent =
    let one = found (is_unlent_of p) n (failures.requests_at (w.handlers g))
    (sym (ap (list_any (is_unlent_of p)) (requests_same n (w.handlers g) (c.handlers g) (half.handlers g))) ∙ unlent) in
    let q : machine.Request = one.0 in
    let waits = and_left (q.is_waited && is_handler p q.poster) (is_none q.passed) one.2 in (
      q,
      record {
        stands = one.1;
        poster_is = handler_is p q.poster (and_right q.is_waited (is_handler p q.poster) waits);
        is_waited = and_left q.is_waited (is_handler p q.poster) waits;
        passed_is = no_passed q.passed (and_right (q.is_waited && is_handler p q.poster) (is_none q.passed) one.2);
      },
    )

awaited : (n : Numbering) (stack : List machine.Frame) (k : ℕ) (stage : HandlerStage) → TopAwaits stack k → IsTop stack stage → (c : Bool) × (stage ≡ Awaits k c)
awaited n stack k stage top is =
    let at : IsTop (top.frame ∷ top.below) stage = subst (λ (fs : List machine.Frame). IsTop fs stage) top.stack_is is in
    (top.is_creation, subst (λ (x : machine.Stage). IsStage x top.frame stage) top.stage_is at)

quiet : (o : Option machine.Answer) → has_reply o ≡ false → (option_map answer_of o ≡ None) ⊎ (option_map answer_of o ≡ Some SupplierFailed)
quiet None e = inl refl
quiet (Some machine.Failed) e = inr refl
quiet (Some (machine.Reply v)) e = cc
quiet (Some machine.Refused) e = cc

-- Who waits so is there, and if it hasn't failed, it has heard nothing.
pub unlent_wait : NoCallback → BeyondIsUnused → (most : ℕ) (s : System) (root : Root) (w : machine.World) → IsReached most s root w → (n : Numbering) (c : State) → IsHalfOf n w c → UnlentWait c
unlent_wait no_callback beyond most s root w reached n c half p g unlent = (there (cases_lt p w.count), hears)
  where
    lent : (q : machine.Request) × IsUnlent w p g q
    lent = lent_there n w c half p g unlent

    there : (p < w.count) ⊎ (w.count ≤ p) → p < c.count
    there (inl few) = let same = half.count in omega (arith, few, same)
    there (inr past) =
        let unused = beyond most s root w reached p past in
        let top = (no_callback most s root w reached p g lent.0 unused.failure_is lent.1).0 in
        let no : [] ≡ top.frame ∷ top.below = sym unused.stack_is ∙ top.stack_is in
        cc

    hears : (c.handlers p).failure ≡ None → HearsNothing p g c
    hears alive =
        let its = no_callback most s root w reached p g lent.0 (sym (half.handlers p).failure ∙ alive) lent.1 in
        let at = awaited n (w.handlers p).stack g (c.handlers p).stage its.0 (half.handlers p).stage in
        record {
          is_creation = at.0;
          awaits = at.1;
          no_callback = (half.handlers p).callback ∙ ap (option_map (posted_of n)) its.1;
          answer = by (quiet (w.handlers p).answer its.2);
        }
      where
        by : (option_map answer_of (w.handlers p).answer ≡ None) ⊎ (option_map answer_of (w.handlers p).answer ≡ Some SupplierFailed) →
            ((c.handlers p).answer ≡ None) ⊎ ((c.handlers p).answer ≡ Some SupplierFailed)
        by (inl silent) = inl ((half.handlers p).answer ∙ silent)
        by (inr failed) = inr ((half.handlers p).answer ∙ failed)

module _ (most : ℕ) (s : System) (root : Root) (w : machine.World) (reached : IsReached most s root w) (n : Numbering) (c : State) (half : IsHalfOf n w c) (h : ℕ) where
  abbrev x : Handler
  x = c.handlers h

  -- the machine's request that may end
  pub record Ending (e : Service) : Type 0 where
    pub request : machine.Request
    pub posted_is : e.posted ≡ posted_of n request
    pub may_end : MayEnd (w.handlers h) request

  given_back : (e : Service) → Ending e → (p : Passed) → e.posted.passed ≡ Some p → (k : ℕ) (o : Option ℕ) → p.queue k ≡ Some o → c.rights.queue k ≡ Some h
  given_back e end p passed k o listed =
      let t = reached_stands most s root w reached in
      let here : IsHere w.rights h p = listed_here t.0 w t.1 t.2 h end.request p end.may_end (sym (ap (λ (a : Posted). a.passed) end.posted_is) ∙ passed) in
      ap (λ (r : Rights). r.queue k) half.rights ∙ here.queue k o listed

  -- a request is taken and ends at once
  taken_ends : (r : Request) (e : Service) (es : List Service) (stage : HandlerStage) → x.stage ≡ stage → job_at h stage x c ≡ Some (job.Take r) → (takes stage x).services ≡ e ∷ es → Ending e
  taken_ends r e es Idle at due is = by x.queue refl due is
    where
      by : (ps : List Posted) → x.queue ≡ ps → job_idle ps ≡ Some (job.Take r) → (takes_next ps x).services ≡ e ∷ es → Ending e
      by [] queue due is = cc
      by (q ∷ qs) queue due is =
          let its = first_posted n (w.handlers h).queue q qs (sym queue ∙ (half.handlers h).queue) in
          record {
            request = its.0;
            posted_is = first_same q x.stage x.services e es is ∙ its.3;
            may_end = next (idle_empty (w.handlers h).stack (subst (IsTop (w.handlers h).stack) at (half.handlers h).stage)) its.2;
          }
  taken_ends r e es (Awaits i b) at due is = by x.callback refl due is
    where
      top : AwaitsTop (w.handlers h).stack i b
      top = awaits_top (w.handlers h).stack i b (subst (IsTop (w.handlers h).stack) at (half.handlers h).stage)

      no_take : {A : Type 0} (a : Option Answer) → job_awaiting i b None a ≡ Some (job.Take r) → A
      no_take a = no b a
        where
          no : {A : Type 0} (b : Bool) (a : Option Answer) → job_awaiting i b None a ≡ Some (job.Take r) → A
          no true (Some (Replied v)) e = cc
          no false (Some (Replied v)) e = cc
          no true (Some SupplierFailed) e = cc
          no false (Some SupplierFailed) e = cc
          no true (Some Refused) e = cc
          no false (Some Refused) e = cc
          no b None e = cc

      by : (o : Option Posted) → x.callback ≡ o → job_awaiting i b o x.answer ≡ Some (job.Take r) → (takes_callback o x).services ≡ e ∷ es → Ending e
      by None callback due is = no_take x.answer due
      by (Some q) callback due is =
          let its = callback_posted n (w.handlers h).callback q (sym callback ∙ (half.handlers h).callback) in
          record { request = its.0; posted_is = first_same q x.stage x.services e es is ∙ its.2; may_end = called_back top.stack_is its.1 }
  taken_ends r e es Runs at due is = cc
  taken_ends r e es (HasMade i) at due is = cc
  taken_ends r e es (Reserves ls mark) at due is =
      no_reserving (reserve_fails (standing_in c) c.rights (needs h ls c.rights)) (may_reserve (standing_in c) c.rights (needs h ls c.rights) mark) due
    where
      no_reserving : {A : Type 0} (a b : Bool) → job_reserving a b (needs h ls c.rights) ≡ Some (job.Take r) → A
      no_reserving true b e = cc
      no_reserving false true e = cc
      no_reserving false false e = cc

  -- a routine that a request began ends
  routine_ends : EndsTop (w.handlers h).stack → (e : Service) (es : List Service) → x.services ≡ e ∷ es → Ending e
  routine_ends top e es is =
      let services : AreServices n (top.frame ∷ top.below) (e ∷ es) =
      subst (AreServices n (top.frame ∷ top.below)) is (subst (λ (fs : List machine.Frame). AreServices n fs x.services) top.stack_is (half.handlers h).services) in
      let first : IsOrigin n (machine.Requested top.request) (AreServices n top.below) top.below (e ∷ es) =
      subst (λ (o : machine.Origin). IsOrigin n o (AreServices n top.below) top.below (e ∷ es)) top.origin_is services in
      record { request = top.request; posted_is = first.0; may_end = runs top.stack_is top.stage_is top.origin_is }

  -- the answer to a creation has come
  made_back : (j : Job) → job_of h c ≡ Some j → (i k : ℕ) (b : Bool) → x.stage ≡ Awaits i b → j ≡ job.Made k → c.rights.queue i ≡ Some h
  made_back j due i k b at is =
      let has = has_job h c j due in
      let told : job_awaiting i b x.callback x.answer ≡ Some (job.Made k) = sym (ap (λ (t : HandlerStage). job_at h t x c) at) ∙ has.due ∙ ap (λ (a : Job). Some a) is in
      let answer = made_answer i k b x.callback x.answer told in
      let reply = reply_of (w.handlers h).answer answer.0 (sym answer.1 ∙ (half.handlers h).answer) in
      let top = awaits_top (w.handlers h).stack i b (subst (IsTop (w.handlers h).stack) at (half.handlers h).stage) in
      let t = reached_stands most s root w reached in
      ap (λ (r : Rights). r.queue i) half.rights
      ∙ creation_here t.0 w t.1 t.2 h top.frame top.below i top.gives reply.0 (sym (half.handlers h).failure ∙ has.stands) top.stack_is
      (top.stage_is ∙ ap (machine.Awaits i top.gives) answer.2) reply.1

  no_answer : {A : Type 0} (v : Option Value) (ls : ArrayVec ℕ) (refused : Bool) (a : Want) → a ≡ want.Done v ls refused → may_take_answer a ≡ true → A
  no_answer v ls refused a is e = by (sym (ap may_take_answer is) ∙ e)
    where
      by : {A : Type 0} → false ≡ true → A
      by e = cc

  made_services : (stage : HandlerStage) (j : ℕ) (a : Want) (v : Option Value) (ls : ArrayVec ℕ) (refused : Bool) → a ≡ want.Done v ls refused →
      fits_first stage (job.Made j) a ≡ true → ((made_at h stage c).handlers h).services ≡ x.services
  made_services (Awaits i b) j a v ls refused is fits = no_answer v ls refused a is fits
  made_services Idle j a v ls refused is fits = ap (λ (y : Handler). y.services) (at_own h (record x { stage = Runs }) x)
  made_services Runs j a v ls refused is fits = ap (λ (y : Handler). y.services) (at_own h (record x { stage = Runs }) x)
  made_services (HasMade i) j a v ls refused is fits = ap (λ (y : Handler). y.services) (at_own h (record x { stage = Runs }) x)
  made_services (Reserves ms mark) j a v ls refused is fits = ap (λ (y : Handler). y.services) (at_own h (record x { stage = Runs }) x)

  abbrev Ends : Job → Want → Type 0
  Ends j a = fits_first x.stage j a ≡ true → (v : Option Value) (ls : ArrayVec ℕ) (refused : Bool) → a ≡ want.Done v ls refused →
      (e : Service) (es : List Service) → ((begun h j c).handlers h).services ≡ e ∷ es → Ending e

  ends : (j : Job) (a : Want) → job_of h c ≡ Some j → a ≡ asked n s h j (w.handlers h) → Ends j a
  ends (job.Take r) a due asks fits v ls refused is e es services =
      taken_ends r e es x.stage refl (has_job h c (job.Take r) due).due (sym (ap (λ (y : Handler). y.services) (at_own h (takes x.stage x) x)) ∙ services)
  ends (job.Reply u) a due asks fits v ls refused is e es services = no_answer v ls refused a is fits
  ends job.Failed a due asks fits v ls refused is e es services = not_fail _ (v, ls, refused, sym asks ∙ is)
  ends job.Refused a due asks fits v ls refused is e es services = not_fail _ (v, ls, refused, sym asks ∙ is)
  ends (job.Granted ks) a due asks fits v ls refused is e es services = no_answer v ls refused a is fits
  ends (job.Made k) a due asks fits v ls refused is e es services =
      routine_ends (ends_on n s h (w.handlers h).stack (w.handlers h).objects (v, ls, refused, sym asks ∙ is)) e es
      (sym (made_services x.stage k a v ls refused is fits) ∙ services)
  ends job.Go a due asks fits v ls refused is e es services =
      routine_ends (ends_on n s h (w.handlers h).stack (w.handlers h).objects (v, ls, refused, sym asks ∙ is)) e es services

  -- who waits for it, and for one with which it passed nothing, waits for one here
  answers_here : EndsTheOne → (e : Service) → Ending e → (p : ℕ) → e.posted.request.is_waited ≡ true → e.posted.request.poster ≡ Some p →
      (c.handlers p).failure ≡ None → (c.handlers p).answer ≡ None → (g : ℕ) → waits_unlent p g c ≡ true → h ≡ g
  answers_here one e end p waited poster alive unanswered g unlent =
      (one most s root w reached p g h (lent_there n w c half p g unlent).0 end.request
      (sym (half.handlers p).failure ∙ alive) (none_of (w.handlers p).answer (sym (half.handlers p).answer ∙ unanswered))
      (lent_there n w c half p g unlent).1 end.may_end
      (sym (ap (λ (a : Posted). a.request.poster) end.posted_is) ∙ poster) (sym (ap (λ (a : Posted). a.request.is_waited) end.posted_is) ∙ waited)).0

  pub returns_own : EndsTheOne → (j : Job) (a : Want) → job_of h c ≡ Some j → a ≡ asked n s h j (w.handlers h) → ReturnsOwn h j a c
  returns_own one j a due asks = record {
    made = λ i k b at is. made_back j due i k b at is;
    returns = λ fits v ls refused is e es services. given_back e (ends j a due asks fits v ls refused is e es services);
    answers = λ fits v ls refused is e es services. answers_here one e (ends j a due asks fits v ls refused is e es services);
  }
