-- A routine exits, or its entry is refused or waits again: the core stays the half of the machine.
use Rattle.std.proofs.Common.{ℕ, ◌≡◌, ◌+◌, ◌⊎◌, Bool, true, false, ◌||◌, List, [], ◌∷◌, Option, Some, None, sym, ap, subst, ◌∙◌, inl, inr}
use Rattle.std.proofs.Math.Path.{fun_ext}
use Rattle.std.proofs.lemmas.Bool.{cases_Bool}
use Rattle.std.specs.Option.{option_map}
use Rattle.sc_tree.specs.Plain.{System}
use Rattle.sc_lockpass.specs.wait_conditions.Reservations.{mark_of}
use Rattle.sc_lockpass.specs.declared.wait_conditions.condition.EntryVerdict.{EntryVerdict}
use Rattle.sc_lockpass.specs.declared.wait_conditions.condition.EntryVerdict.TheVariants as verdict
use Rattle.sc_lockpass.specs.declared.wait_conditions.mark.Marked.{Marked}
use Rattle.sc_lockpass.specs.declared.wait_conditions.session.Release.TheVariants as release_at
use Rattle.sc_model.specs.declared.cause.Cause.TheVariants as cause
use Rattle.sc_model.specs.Values.{Value, Operand}
use Rattle.sc_model.specs.Environments.{separate_formals}
use Rattle.sc_model.specs.Objects.{object_numbered}
use Rattle.sc_model.specs.Steps.{Calling}
use Rattle.sc_model.specs.Tasks.{tasks_of}
use Rattle.sc_model.specs.Exits as exits
use Rattle.sc_model.specs.Exits.{is_unset, is_untested, handed, handed_at}
use Rattle.sc_model.specs.Preconditions as refusing
use Rattle.sc_model.specs.Preconditions.{is_creation, object_meets}
use Rattle.sc_model.specs.Answers as machine_answers
use Rattle.sc_model.specs.Sessions as machine_sessions
use Rattle.sc_model.specs.Handlers as machine
use Rattle.sc_region.specs.declared.job.Want.TheVariants as want
use Rattle.sc_handler.specs.Handlers.{Posted, Replied, Refused, HandlerStage, Runs, HasMade, Reserves, Service, Handler, State, put}
use Rattle.sc_handler.specs.Changes.{counted_refusal}
use Rattle.sc_request.specs.Sessions.{release, finish}
use Rattle.sc_request.specs.Settling.{ends, may_ask, asked_in}
use Rattle.sc_request.specs.Asked.{Numbering, value_of, handlers_of, asks_releasing, asks_returning, asks_exiting, asks_refusing, asks_after}
use Rattle.sc_request.specs.Halves.{posted_of, IsTop, IsOrigin, IsService, AreServices, IsHandlerOf, IsHalfOf}
use Rattle.sc_request.specs.Steps.{IsLastEntry, IsInCall, IsCalledFrom}
use Rattle.sc_request.proofs.Kept.{put_alike, release_alike, finish_alike, fail_alike}
use Rattle.sc_request.proofs.Sent.{put_left, stack_alike}
use Rattle.sc_request.proofs.TakenAnswers.{handed_serves}
use Rattle.sc_request.proofs.VisibleSteps.{IsRunning, restacked}

-- ---- a request ends

-- a handler without its topmost frame, which served a request
below_alike : (n : Numbering) (x : machine.Handler) (y : Handler) (below : List machine.Frame) (v : Service) (vs : List Service) → IsHandlerOf n x y →
    IsTop below v.over → AreServices n below vs → IsHandlerOf n (record x { stack = below }) (record y { stage = v.over; services = vs })
below_alike n x y below v vs e top services = record {
  stage = top;
  services = services;
  queue = e.queue;
  callback = e.callback;
  answer = e.answer;
  failure = e.failure;
  sessions = e.sessions;
  refused = e.refused;
}

ended_at : (n : Numbering) (h : ℕ) (w : machine.World) (s : State) (r : machine.Request) (below : List machine.Frame) (v : Option Value) (ks : List ℕ)
    (vs : List Service) → IsHalfOf n w s → IsService (AreServices n below) below (posted_of n r) vs →
    IsHalfOf n (machine_answers.finish r (machine.Reply v) (machine_sessions.release release_at.Exit ks (machine.with_stack h below w)))
    (ends h (option_map value_of v) ks false vs s)
ended_at n h w s r below v ks [] e serves = absurd serves
ended_at n h w s r below v ks (u ∷ us) e serves =
    let y : Handler = record (s.handlers h) { stage = u.over; services = us } in
    subst
    (λ (p : Posted). IsHalfOf n (machine_answers.finish r (machine.Reply v) (machine_sessions.release release_at.Exit ks (machine.with_stack h below w)))
    (finish p (Replied (option_map value_of v)) (release release_at.Exit ks (put h y s))))
    (sym serves.0)
    (finish_alike n r (machine.Reply v) _ _
    (release_alike n release_at.Exit ks _ _ (put_alike n w s h _ y e (below_alike n (w.handlers h) (s.handlers h) below u us (e.handlers h) serves.1 serves.2))))

counted_alike : (n : Numbering) (is_waited : Bool) (x : machine.Handler) (y : Handler) → IsHandlerOf n x y →
    IsHandlerOf n (refusing.counted_refusal is_waited x) (counted_refusal is_waited y)
counted_alike n true x y e = e
counted_alike n false x y e = record {
  stage = e.stage;
  services = e.services;
  queue = e.queue;
  callback = e.callback;
  answer = e.answer;
  failure = e.failure;
  sessions = e.sessions;
  refused = ap (λ m. m + 1) e.refused;
}

refused_at : (n : Numbering) (h : ℕ) (w : machine.World) (s : State) (r : machine.Request) (below : List machine.Frame) (ks : List ℕ)
    (vs : List Service) → IsHalfOf n w s → IsService (AreServices n below) below (posted_of n r) vs →
    IsHalfOf n
    (machine_answers.finish r machine.Refused
    (machine_sessions.release release_at.Refusal ks (machine.put h (refusing.counted_refusal r.is_waited (record (w.handlers h) { stack = below })) w)))
    (ends h None ks true vs s)
refused_at n h w s r below ks [] e serves = absurd serves
refused_at n h w s r below ks (u ∷ us) e serves =
    let y : Handler = record (s.handlers h) { stage = u.over; services = us } in
    subst
    (λ (p : Posted). IsHalfOf n
    (machine_answers.finish r machine.Refused
    (machine_sessions.release release_at.Refusal ks (machine.put h (refusing.counted_refusal r.is_waited (record (w.handlers h) { stack = below })) w)))
    (finish p Refused (release release_at.Refusal ks (put h (counted_refusal p.request.is_waited y) s))))
    (sym serves.0)
    (finish_alike n r machine.Refused _ _
    (release_alike n release_at.Refusal ks _ _
    (put_alike n w s h _ _ e
    (counted_alike n r.is_waited _ y (below_alike n (w.handlers h) (s.handlers h) below u us (e.handlers h) serves.1 serves.2)))))

-- ---- a routine exits

-- the frame below is in the call, and goes on
handed_runs_at : (stage : machine.Stage) (v : Option Value) (g : machine.Frame) (below : List machine.Frame) (t : HandlerStage) → IsInCall stage →
    (t ≡ Runs) ⊎ ((k : ℕ) × (t ≡ HasMade k)) → IsTop (handed_at stage v g ∷ below) t
handed_runs_at (machine.InCall (Some t)) (Some v) g below u call runs = runs
handed_runs_at (machine.InCall (Some t)) None g below u call runs = runs
handed_runs_at (machine.InCall None) v g below u call runs = runs
handed_runs_at machine.Runs v g below u call runs = absurd call
handed_runs_at machine.Reserves v g below u call runs = absurd call
handed_runs_at machine.ReservesBlock v g below u call runs = absurd call
handed_runs_at (machine.Awaits k gives c) v g below u call runs = absurd call

handed_serves_at : (n : Numbering) (stage : machine.Stage) (v : Option Value) (g : machine.Frame) (below : List machine.Frame) (vs : List Service) →
    AreServices n (g ∷ below) vs → AreServices n (handed_at stage v g ∷ below) vs
handed_serves_at n (machine.InCall gives) v g below vs e = handed_serves n gives v g below vs e
handed_serves_at n machine.Runs v g below vs e = e
handed_serves_at n machine.Reserves v g below vs e = e
handed_serves_at n machine.ReservesBlock v g below vs e = e
handed_serves_at n (machine.Awaits k gives c) v g below vs e = e

releasing : (n : Numbering) (h most : ℕ) (w : machine.World) (s : State) (ks : List ℕ) → IsHalfOf n w s → may_ask h (asks_releasing ks) s ≡ true →
    IsHalfOf n (machine_sessions.release release_at.Exit ks w) (asked_in true most h (asks_releasing ks) s)
releasing n h most w s [] e may = release_alike n release_at.Exit [] w s e
releasing n h most w s (k ∷ ks) e may = rw may (release_alike n release_at.Exit (k ∷ ks) w s e)

-- what its own handler called gives its result to the frame below
called_exits : (n : Numbering) (c : Calling) (h most : ℕ) (w : machine.World) (s : State) (v : Option Value) (below : List machine.Frame) (ks : List ℕ) →
    IsHalfOf n w s → ((s.handlers h).stage ≡ Runs) ⊎ ((k : ℕ) × ((s.handlers h).stage ≡ HasMade k)) → AreServices n below (s.handlers h).services →
    IsCalledFrom (machine.Called c) below → may_ask h (asks_releasing ks) s ≡ true →
    IsHalfOf n (machine_sessions.release release_at.Exit ks (machine.with_stack h (handed v below) w)) (asked_in true most h (asks_releasing ks) s)
called_exits n c h most w s v [] ks e runs services stands may = absurd stands
called_exits n c h most w s v (g ∷ below) ks e runs services stands may =
    let stack = handed_at g.stage v g ∷ below in
    releasing n h most (machine.with_stack h stack w) s ks
    (put_left n w s h _ e (restacked n (w.handlers h) (s.handlers h) stack (e.handlers h) (handed_runs_at g.stage v g below (s.handlers h).stage stands runs)
    (handed_serves_at n g.stage v g below (s.handlers h).services services)))
    may

leaves_alike : (n : Numbering) (o : machine.Origin) (h most : ℕ) (w : machine.World) (s : State) (f : machine.Frame) (below : List machine.Frame) →
    IsHalfOf n w s → ((s.handlers h).stage ≡ Runs) ⊎ ((k : ℕ) × ((s.handlers h).stage ≡ HasMade k)) →
    IsOrigin n o (AreServices n below) below (s.handlers h).services → IsCalledFrom o below → may_ask h (asks_returning o f) s ≡ true →
    IsHalfOf n (exits.leaves_to h o f.reserved (option_map (λ (u : Operand). u.value) f.result) below w) (asked_in true most h (asks_returning o f) s)
leaves_alike n (machine.Called c) h most w s f below e runs services stands may =
    called_exits n c h most w s (option_map (λ (u : Operand). u.value) f.result) below f.reserved e runs services stands may
leaves_alike n (machine.Requested r) h most w s f below e runs services stands may =
    rw may (ended_at n h w s r below (option_map (λ (u : Operand). u.value) f.result) f.reserved (s.handlers h).services e services)

pub exits_alike : (n : Numbering) (sys : System) (h most : ℕ) (w : machine.World) (s : State) (f : machine.Frame) (below : List machine.Frame) →
    IsHalfOf n w s → IsRunning n f below (s.handlers h) → IsCalledFrom f.origin below →
    may_ask h (asks_exiting sys f (w.handlers h).objects) s ≡ true → IsHalfOf n (exits.exits sys h f below w) (asked_in true most h (asks_exiting sys f (w.handlers h).objects) s)
exits_alike n sys h most w s f below e runs stands may = elim (cases_Bool (is_unset f.result)) [
  | inl unset ↦ rw unset (fail_alike n h cause.UnsetEntity w s e)
  | inr given ↦ elim (cases_Bool (is_untested f.origin || object_meets sys (object_numbered f.current.number (w.handlers h).objects))) [
    | inl meets ↦
        let may' = rw (given, meets) at may in
        rw (given, meets) (leaves_alike n f.origin h most w s f below e runs.runs runs.services stands may')
    | inr breaks ↦ rw (given, breaks) (fail_alike n h cause.Invariant w s e)
  ]
]

-- ---- the precondition is false

refuses_alike : (n : Numbering) (sys : System) (o : machine.Origin) (h most : ℕ) (w : machine.World) (s : State) (f : machine.Frame) (below : List machine.Frame) →
    IsHalfOf n w s → IsOrigin n o (AreServices n below) below (s.handlers h).services →
    may_ask h (asks_refusing sys o f (w.handlers h).objects) s ≡ true →
    IsHalfOf n (refusing.correctness_fails sys h o f below w) (asked_in true most h (asks_refusing sys o f (w.handlers h).objects) s)
refuses_alike n sys (machine.Called c) h most w s f below e services may = fail_alike n h cause.Precondition w s e
refuses_alike n sys (machine.Requested r) h most w s f below e services may =
    let refused = refused_at n h w s r below f.reserved (s.handlers h).services e services in
    elim (cases_Bool (is_creation r.errand)) [
      | inl creates ↦ elim (cases_Bool (object_meets sys (object_numbered f.current.number (w.handlers h).objects))) [
        | inl meets ↦
            let may' = rw (creates, meets) at may in
            rw (creates, meets, may') refused
        | inr breaks ↦ rw (creates, breaks) (fail_alike n h cause.Invariant w s e)
      ]
      | inr calls ↦
          let may' = rw calls at may in
          rw (calls, may') refused
    ]

same_mark : (n : Numbering) (w : machine.World) (s : State) (ks : List ℕ) → IsHalfOf n w s →
    mark_of (λ k. (w.handlers k).sessions) ks ≡ mark_of (λ k. (s.handlers k).sessions) ks
same_mark n w s ks e = ap (λ (f : ℕ → ℕ). mark_of f ks) (fun_ext (λ k. sym (e.handlers k).sessions))

waits_alike : (n : Numbering) (h most : ℕ) (w : machine.World) (s : State) (f : machine.Frame) (below : List machine.Frame) → IsHalfOf n w s →
    IsRunning n f below (s.handlers h) → (s.handlers h).entry ≡ handlers_of (separate_formals f.environment) →
    may_ask h (want.Wait (record { items = f.reserved })) s ≡ true →
    IsHalfOf n (refusing.waits_again h f below w) (asked_in true most h (want.Wait (record { items = f.reserved })) s)
waits_alike n h most w s f below e runs entry may =
    let mark = mark_of (λ k. (w.handlers k).sessions) f.reserved in
    let f' : machine.Frame =
    record f { stage = machine.Reserves; tasks = tasks_of f.routine; values = []; reserved = []; mark = mark } in
    let stage : HandlerStage = Reserves (s.handlers h).entry (mark_of (λ k. (s.handlers k).sessions) f.reserved) in
    let top : IsTop (f' ∷ below) stage =
    ap (λ (ks : List ℕ). Reserves ks (mark_of (λ k. (s.handlers k).sessions) f.reserved)) entry
    ∙ ap (λ (m : List Marked). Reserves (handlers_of (separate_formals f.environment)) m) (sym (same_mark n w s f.reserved e)) in
    rw may (release_alike n release_at.FalseWaitCondition f.reserved _ _ (stack_alike n w s h (f' ∷ below) stage e top runs.services))

pub false_alike : (n : Numbering) (sys : System) (v : EntryVerdict) (h most : ℕ) (w : machine.World) (s : State) (f : machine.Frame) (below : List machine.Frame) →
    IsHalfOf n w s → IsRunning n f below (s.handlers h) →
    IsLastEntry (asks_after v sys f (w.handlers h).objects) f.environment (s.handlers h).entry → may_ask h (asks_after v sys f (w.handlers h).objects) s ≡ true →
    IsHalfOf n (refusing.false_clause v sys h f below w) (asked_in true most h (asks_after v sys f (w.handlers h).objects) s)
false_alike n sys verdict.Wait h most w s f below e runs entry may = waits_alike n h most w s f below e runs entry may
false_alike n sys verdict.Refuse h most w s f below e runs entry may =
    refuses_alike n sys f.origin h most w s f below e runs.services may
false_alike n sys verdict.Start h most w s f below e runs entry may = fail_alike n h cause.BadCode w s e
