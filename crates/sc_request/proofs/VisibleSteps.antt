-- Visible steps: the core stays the half of the machine.
use Rattle.std.proofs.Common.{ℕ, ◌≡◌, ◌⊎◌, true, List, [], ◌∷◌, Option, Some, None, refl, sym, ap, subst, inl, inr}
use Rattle.std.proofs.lemmas.Bool.{cases_Bool}
use Rattle.std.specs.Prelude.{length, nat_lt}
use Rattle.sc_lockpass.specs.declared.wait_conditions.session.Release.TheVariants as release_at
use Rattle.sc_tree.specs.Plain.{System}
use Rattle.sc_rules.specs.declared.entity_types.entity_type.EntityType.{EntityType}
use Rattle.sc_model.specs.declared.cause.Cause.TheVariants as cause
use Rattle.sc_model.specs.Limits.{max_frames}
use Rattle.sc_model.specs.Values.{Reference, Value}
use Rattle.sc_model.specs.Environments.{Binding, formals_bound, separate_formals}
use Rattle.sc_model.specs.Steps.{Calling}
use Rattle.sc_model.specs.Routines.{Routine}
use Rattle.sc_model.specs.Entries as entries
use Rattle.sc_model.specs.Entries.{stage_with, entry, opened_in}
use Rattle.sc_model.specs.Exits as exits
use Rattle.sc_model.specs.Handlers as machine
use Rattle.sc_region.specs.declared.job.Want.TheVariants as want
use Rattle.sc_handler.specs.Handlers.{Runs, HasMade, Reserves, Handler, State}
use Rattle.sc_request.specs.Settling.{may_ask, asked_in}
use Rattle.sc_request.specs.Asked.{Numbering, handlers_of, asks_beginning, asks_bound, asks_entering, asks_leaving}
use Rattle.sc_request.specs.Halves.{IsStage, IsTop, IsOrigin, AreServices, IsHandlerOf, IsHalfOf}
use Rattle.sc_request.proofs.Kept.{put_alike, release_alike, fail_alike}
use Rattle.sc_request.proofs.Sent.{put_left, printed}

-- ---- frames that the core doesn't see

pub print_alike : (n : Numbering) (h : ℕ) (w : machine.World) (s : State) (output : List ℕ) → IsHalfOf n w s →
    IsHalfOf n (machine.put h (record (w.handlers h) { output = output }) w) s
print_alike n h w s output e = put_left n w s h _ e (printed n (w.handlers h) (s.handlers h) output (e.handlers h))

-- a handler with other frames, of the same requests, and which stands in the core as it stood
pub restacked : (n : Numbering) (x : machine.Handler) (y : Handler) (stack : List machine.Frame) → IsHandlerOf n x y → IsTop stack y.stage →
    AreServices n stack y.services → IsHandlerOf n (record x { stack = stack }) y
restacked n x y stack e top services = record {
  stage = top;
  services = services;
  queue = e.queue;
  callback = e.callback;
  answer = e.answer;
  failure = e.failure;
  sessions = e.sessions;
  refused = e.refused;
}

-- The handler runs: what it stands on in the core, and what its frames serve, whatever becomes of the topmost one.
pub record IsRunning (n : Numbering) (f : machine.Frame) (below : List machine.Frame) (y : Handler) : Type 0 where
  pub runs : (y.stage ≡ Runs) ⊎ ((k : ℕ) × (y.stage ≡ HasMade k))
  pub services : IsOrigin n f.origin (AreServices n below) below y.services

pub running : (n : Numbering) (x : machine.Handler) (y : Handler) (f : machine.Frame) (below : List machine.Frame) → IsHandlerOf n x y → x.stack ≡ f ∷ below →
    f.stage ≡ machine.Runs → IsRunning n f below y
running n x y f below e is runs =
    let top = subst (λ (stack : List machine.Frame). IsTop stack y.stage) is e.stage in
    record {
      runs = subst (λ (st : machine.Stage). IsStage st f y.stage) runs top;
      services = subst (λ (stack : List machine.Frame). AreServices n stack y.services) is e.services;
    }

-- ---- separate blocks

pub leaves_alike : (n : Numbering) (h most : ℕ) (w : machine.World) (s : State) (f : machine.Frame) (below : List machine.Frame) (blocks : List (List ℕ)) →
    IsHalfOf n w s → IsRunning n f below (s.handlers h) → f.stage ≡ machine.Runs → may_ask h (asks_leaving blocks) s ≡ true →
    IsHalfOf n (exits.leaves_block h blocks f below w) (asked_in true most h (asks_leaving blocks) s)
leaves_alike n h most w s f below [] e runs is may = fail_alike n h cause.BadCode w s e
leaves_alike n h most w s f below (ks ∷ kss) e runs is may =
    let f' = record f { blocks = kss } in
    let top : IsTop (f' ∷ below) (s.handlers h).stage = subst (λ (st : machine.Stage). IsStage st f' (s.handlers h).stage) (sym is) runs.runs in
    rw may
    (release_alike n release_at.Leave ks (machine.with_stack h (f' ∷ below) w) s
    (put_left n w s h _ e (restacked n (w.handlers h) (s.handlers h) (f' ∷ below) (e.handlers h) top runs.services)))

reserved_for : (n : Numbering) (x : machine.Handler) (y : Handler) (stack : List machine.Frame) (ks : List ℕ) → IsHandlerOf n x y →
    IsTop stack (Reserves ks []) → AreServices n stack y.services → IsHandlerOf n (record x { stack = stack }) (record y { stage = Reserves ks []; entry = ks })
reserved_for n x y stack ks e top services = record {
  stage = top;
  services = services;
  queue = e.queue;
  callback = e.callback;
  answer = e.answer;
  failure = e.failure;
  sessions = e.sessions;
  refused = e.refused;
}

pub opens_alike : (n : Numbering) (h most : ℕ) (w : machine.World) (s : State) (f : machine.Frame) (below : List machine.Frame) →
    IsHalfOf n w s → IsRunning n f below (s.handlers h) →
    may_ask h (want.Reserve (record { items = handlers_of (opened_in f.environment f.tasks) })) s ≡ true →
    IsHalfOf n (machine.with_stack h (record f { stage = machine.ReservesBlock } ∷ below) w)
    (asked_in true most h (want.Reserve (record { items = handlers_of (opened_in f.environment f.tasks) })) s)
opens_alike n h most w s f below e runs may =
    let ks = handlers_of (opened_in f.environment f.tasks) in
    let f' = record f { stage = machine.ReservesBlock } in
    rw may (put_alike n w s h _ _ e (reserved_for n (w.handlers h) (s.handlers h) (f' ∷ below) ks (e.handlers h) refl runs.services))

-- ---- a routine of its own is entered

entry_alike : (n : Numbering) (h most : ℕ) (w : machine.World) (s : State) (me : Reference) (c : Routine) (calling : Calling) (bs : List Binding) (vs : List Value)
    (f : machine.Frame) (below : List machine.Frame) → vs ≡ separate_formals bs → IsHalfOf n w s → IsRunning n f below (s.handlers h) →
    may_ask h (asks_beginning vs) s ≡ true →
    IsHalfOf n (machine.with_stack h (entry me c (machine.Called calling) bs ∷ f ∷ below) w) (asked_in true most h (asks_beginning vs) s)
entry_alike n h most w s me c calling bs [] f below same e runs may =
    let g = entry me c (machine.Called calling) bs in
    let top : IsTop (g ∷ f ∷ below) (s.handlers h).stage = subst (λ (st : machine.Stage). IsStage st g (s.handlers h).stage) (ap stage_with same) runs.runs in
    put_left n w s h _ e (restacked n (w.handlers h) (s.handlers h) (g ∷ f ∷ below) (e.handlers h) top runs.services)
entry_alike n h most w s me c calling bs (v ∷ vs) f below same e runs may =
    let g = entry me c (machine.Called calling) bs in
    let ks = handlers_of (v ∷ vs) in
    let top : IsTop (g ∷ f ∷ below) (Reserves ks []) =
    subst (λ (st : machine.Stage). IsStage st g (Reserves ks [])) (ap stage_with same) (ap (λ us. Reserves (handlers_of us) []) same) in
    rw may (put_alike n w s h _ _ e (reserved_for n (w.handlers h) (s.handlers h) (g ∷ f ∷ below) ks (e.handlers h) top runs.services))

bound_alike : (n : Numbering) (h most : ℕ) (w : machine.World) (s : State) (me : Reference) (c : Routine) (calling : Calling) (bound : Option (List Binding))
    (f : machine.Frame) (below : List machine.Frame) → IsHalfOf n w s → IsRunning n f below (s.handlers h) →
    may_ask h (asks_bound bound (length (f ∷ below))) s ≡ true →
    IsHalfOf n (entries.enters_bound h me c (machine.Called calling) (f ∷ below) [] bound w) (asked_in true most h (asks_bound bound (length (f ∷ below))) s)
bound_alike n h most w s me c calling None f below e runs may = fail_alike n h cause.BadCode w s e
bound_alike n h most w s me c calling (Some bs) f below e runs may = elim (cases_Bool (nat_lt (length (f ∷ below)) max_frames)) [
  | inl room ↦ let granted = rw room at may in rw room (entry_alike n h most w s me c calling bs (separate_formals bs) f below refl e runs granted)
  | inr full ↦ rw full (fail_alike n h cause.StackFull w s e)
]

-- the frame that calls is in the call from now on, which the core doesn't see: it serves what it served
pub enters_alike : (n : Numbering) (sys : System) (h most : ℕ) (w : machine.World) (s : State) (me : Reference) (c : Option Routine) (calling : Calling) (vs : List Value)
    (f : machine.Frame) (gives : Option EntityType) (below : List machine.Frame) → IsHalfOf n w s → IsRunning n f below (s.handlers h) →
    may_ask h (asks_entering sys c vs (length (f ∷ below))) s ≡ true →
    IsHalfOf n (entries.enters sys h me c (machine.Called calling) (record f { stage = machine.InCall gives } ∷ below) [] vs w)
    (asked_in true most h (asks_entering sys c vs (length (f ∷ below))) s)
enters_alike n sys h most w s me None calling vs f gives below e runs may = fail_alike n h cause.BadCode w s e
enters_alike n sys h most w s me (Some c) calling vs f gives below e runs may =
    bound_alike n h most w s me c calling (formals_bound sys c.text.formals 0 c.text.formals vs) (record f { stage = machine.InCall gives }) below e
    (record { runs = runs.runs; services = runs.services }) may
