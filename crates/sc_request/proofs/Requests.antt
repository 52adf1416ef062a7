-- Requests, and creations of handlers: the core stays the half of the machine.
use Rattle.std.proofs.Common.{ℕ, ◌≡◌, Bool, true, false, not, ◌&&◌, ◌||◌, List, [], ◌∷◌, Option, Some, None, refl, sym, ap, subst, ◌∙◌, inr}
use Rattle.std.proofs.lemmas.Bool.{ne_eqb}
use Rattle.std.proofs.lemmas.List.{length-map}
use Rattle.std.specs.Prelude.{map, length, nat_lt, is_some, if◌then◌else◌}
use Rattle.std.specs.Option.{option_map}
use Rattle.sc_rules.specs.declared.entity_types.entity_type.EntityType.{EntityType}
use Rattle.sc_lockpass.specs.Rights.{Rights, is_handler, held}
use Rattle.sc_lockpass.specs.Passing.{Passed}
use Rattle.sc_lockpass.specs.declared.wait_conditions.session.Release.TheVariants as release_at
use Rattle.sc_model.specs.declared.cause.Cause.{Cause}
use Rattle.sc_model.specs.declared.cause.Cause.TheVariants as cause
use Rattle.sc_model.specs.Limits.{max_queue}
use Rattle.sc_model.specs.Values as machine_values
use Rattle.sc_model.specs.Values.{Operand}
use Rattle.sc_model.specs.Asking as asking
use Rattle.sc_model.specs.Failures as machine_failures
use Rattle.sc_model.specs.Handlers as machine
use Rattle.sc_region.specs.declared.job.Want.{Want}
use Rattle.sc_region.specs.declared.job.Want.TheVariants as want
use Rattle.sc_handler.specs.Handlers.{Posted, posted, HasMade, Awaits, State, with_stage}
use Rattle.sc_request.specs.Sessions.{passed_if, passes, send, is_callback, with_handler}
use Rattle.sc_request.specs.Settling.{awaits_if, sends, asks, creation, creates_with, creates, may_ask, asked_in, done_if, done, posts_unheld}
use Rattle.sc_request.specs.Asked.{Numbering, value_of, request_by, asks_requesting}
use Rattle.sc_request.specs.Halves.{posted_of, IsStage, IsTop, IsHalfOf}
use Rattle.sc_request.proofs.Kept.{release_alike, fail_alike}
use Rattle.sc_request.proofs.Sent.{put_left, stack_alike, send_alike, passes_alike, handler_alike}
use Rattle.sc_request.proofs.VisibleSteps.{IsRunning, restacked}

-- ---- the frame waits, or goes on

awaits_alike : (n : Numbering) (waits : Bool) (h k : ℕ) (gives : Option EntityType) (w : machine.World) (s : State) (f : machine.Frame)
    (below : List machine.Frame) → IsHalfOf n w s → IsRunning n f below (s.handlers h) → f.stage ≡ machine.Runs →
    IsHalfOf n (machine.with_stack h (asking.awaits_if waits k gives false f ∷ below) w) (awaits_if waits h k s)
awaits_alike n false h k gives w s f below e runs is =
    let top : IsTop (f ∷ below) (s.handlers h).stage = subst (λ (st : machine.Stage). IsStage st f (s.handlers h).stage) (sym is) runs.runs in
    put_left n w s h _ e (restacked n (w.handlers h) (s.handlers h) (f ∷ below) (e.handlers h) top runs.services)
awaits_alike n true h k gives w s f below e runs is =
    stack_alike n w s h (record f { stage = machine.Awaits k gives false } ∷ below) (Awaits k false) e refl runs.services

-- ---- a request is sent

-- what the request takes with it
passed_alike : (passing : Bool) (h : ℕ) (r r' : Rights) → r ≡ r' → passed_if passing h r ≡ asking.passed_if passing h r'
passed_alike false h r r' same = refl
passed_alike true h r r' same = ap (λ (q : Rights). passed_if true h q) same

sends_alike : (n : Numbering) (h : ℕ) (r : machine_values.Reference) (x : List ℕ) (us : List Operand) (gives : Option EntityType) (passing waits : Bool)
    (w : machine.World) (s : State) (f : machine.Frame) (below : List machine.Frame) → IsHalfOf n w s → IsRunning n f below (s.handlers h) → f.stage ≡ machine.Runs →
    IsHalfOf n (asking.asks h r x us gives passing waits f below w) (sends h r.handler (request_by n h r x us false) passing waits s)
sends_alike n h r x us gives passing waits w s f below e runs is =
    let k = r.handler in
    let asked = asking.request_by h r (machine.Calls x) us waits passing w in
    let same : is_callback h k s ≡ asking.is_callback h k w = ap (λ (q : Rights). is_handler h (q.top k)) e.rights in
    let carried : passed_if passing h s.rights ≡ asking.passed_if passing h w.rights = passed_alike passing h s.rights w.rights e.rights in
    let sent =
    passes_alike n passing h k _ _
    (send_alike n (asking.is_callback h k w) k asked _ _ (awaits_alike n waits h k gives w s f below e runs is)) in
    subst
    (λ (p : Option Passed). IsHalfOf n (asking.asks h r x us gives passing waits f below w)
    (passes passing h k (send (is_callback h k s) k (posted (record (request_by n h r x us false) { is_waited = waits }) p) (awaits_if waits h k s))))
    (sym carried)
    (subst
    (λ (b : Bool). IsHalfOf n (asking.asks h r x us gives passing waits f below w)
    (passes passing h k (send b k (posted_of n asked) (awaits_if waits h k s))))
    (sym same) sent)

-- ---- what is looked at before

-- one or the other, by the same test
either : (n : Numbering) (b c : Bool) (w w' : machine.World) (s s' : State) → c ≡ b → IsHalfOf n w s → IsHalfOf n w' s' →
    IsHalfOf n (if b then w else w') (if c then s else s')
either n true c w w' s s' same e e' = rw same e
either n false c w w' s s' same e e' = rw same e'

waits_for : Bool → Bool → Bool → Bool
waits_for passing asked called = passing || asked || called

-- The target is held; what comes of its failure, of its queue, and of the request.
asks_alike : (n : Numbering) (h : ℕ) (r : machine_values.Reference) (x : List ℕ) (us : List Operand) (gives : Option EntityType) (passing waits : Bool)
    (w : machine.World) (s : State) (f : machine.Frame) (below : List machine.Frame) → IsHalfOf n w s → IsRunning n f below (s.handlers h) → f.stage ≡ machine.Runs →
    (passing || waits) ≡ (passing || is_some gives) →
    IsHalfOf n
    (if is_some (w.handlers r.handler).failure then machine_failures.fail h cause.SupplierFailed w
    else if not (asking.is_callback h r.handler w) && not (nat_lt (length (w.handlers r.handler).queue) max_queue) then machine_failures.fail h cause.QueueFull w
    else asking.asks h r x us gives passing (passing || is_some gives || asking.is_callback h r.handler w) f below w)
    (asks h (request_by n h r x us waits) passing s)
asks_alike n h r x us gives passing waits w s f below e runs is same =
    let k = r.handler in
    let failed : is_some (s.handlers k).failure ≡ is_some (w.handlers k).failure = ap (λ (c : Option Cause). is_some c) (e.handlers k).failure in
    let called : is_callback h k s ≡ asking.is_callback h k w = ap (λ (q : Rights). is_handler h (q.top k)) e.rights in
    let long : length (s.handlers k).queue ≡ length (w.handlers k).queue =
    ap (λ (ps : List Posted). length ps) (e.handlers k).queue ∙ length-map (w.handlers k).queue (posted_of n) in
    let full : (not (is_callback h k s) && not (nat_lt (length (s.handlers k).queue) max_queue))
    ≡ (not (asking.is_callback h k w) && not (nat_lt (length (w.handlers k).queue) max_queue)) =
    ap (λ (b : Bool). not b && not (nat_lt (length (s.handlers k).queue) max_queue)) called
    ∙ ap (λ (m : ℕ). not (asking.is_callback h k w) && not (nat_lt m max_queue)) long in
    let waited : (passing || waits || is_callback h k s) ≡ (passing || is_some gives || asking.is_callback h k w) =
    waits_alike passing waits (is_some gives) _ _ same called in
    either n _ _ _ _ _ _ failed (fail_alike n h cause.SupplierFailed w s e)
    (either n _ _ _ _ _ _ full (fail_alike n h cause.QueueFull w s e)
    (subst
    (λ (b : Bool). IsHalfOf n (asking.asks h r x us gives passing (passing || is_some gives || asking.is_callback h k w) f below w)
    (sends h k (request_by n h r x us waits) passing b s))
    (sym waited)
    (sends_alike n h r x us gives passing (passing || is_some gives || asking.is_callback h k w) w s f below e runs is)))
  where
    waits_alike : (p a b c d : Bool) → (p || a) ≡ (p || b) → c ≡ d → (p || a || c) ≡ (p || b || d)
    waits_alike true a b c d e f = refl
    waits_alike false a b c d e f = ap (λ q. q || c) e ∙ ap (λ q. b || q) f

-- what it asks comes only where the target is held
held_first : (n : Numbering) (h most k : ℕ) (asks : Want) (w w' : machine.World) (s : State) → IsHalfOf n w s → posts_unheld h asks s ≡ not (held s.rights h k) →
    may_ask h asks s ≡ true → IsHalfOf n w' (done most h asks s) →
    IsHalfOf n (if not (held w.rights h k) then machine_failures.fail h cause.NotHeld w else w') (asked_in true most h asks s)
held_first n h most k asks w w' s e posts may after =
    let same : not (held s.rights h k) ≡ not (held w.rights h k) = ap (λ (q : Rights). not (held q h k)) e.rights in
    rw (posts, may) (done_alike (not (held w.rights h k)) (not (held s.rights h k)) same)
  where
    done_alike : (b c : Bool) → c ≡ b → IsHalfOf n (if b then machine_failures.fail h cause.NotHeld w else w') (done_if c true most h asks s)
    done_alike true c same = rw same (fail_alike n h cause.NotHeld w s e)
    done_alike false c same = rw same after

pub requests_alike : (n : Numbering) (h most : ℕ) (r : machine_values.Reference) (x : List ℕ) (us : List Operand) (gives : Option EntityType) (passing : Bool)
    (w : machine.World) (s : State) (f : machine.Frame) (below : List machine.Frame) → IsHalfOf n w s → IsRunning n f below (s.handlers h) → f.stage ≡ machine.Runs →
    may_ask h (asks_requesting n h r x us (passing || is_some gives) passing) s ≡ true →
    IsHalfOf n (asking.request h r x us gives passing f below w) (asked_in true most h (asks_requesting n h r x us (passing || is_some gives) passing) s)
requests_alike n h most r x us gives true w s f below e runs is may =
    held_first n h most r.handler (want.Ask (request_by n h r x us true) true) w _ s e refl may (asks_alike n h r x us gives true true w s f below e runs is refl)
requests_alike n h most r x us (Some t) false w s f below e runs is may =
    held_first n h most r.handler (want.Ask (request_by n h r x us true) false) w _ s e refl may (asks_alike n h r x us (Some t) false true w s f below e runs is refl)
requests_alike n h most r x us None false w s f below e runs is may =
    held_first n h most r.handler (want.Post (request_by n h r x us false)) w _ s e refl may (asks_alike n h r x us None false false w s f below e runs is refl)

-- ---- a handler is created

-- With lock passing the creator waits, else it goes on.
created_alike : (n : Numbering) (h k class : ℕ) (procedure : Option (List ℕ)) (us : List Operand) (t : EntityType) (passing : Bool) (w : machine.World) (s : State)
    (f : machine.Frame) (below : List machine.Frame) → IsHalfOf n w s → IsRunning n f below (s.handlers h) → f.stage ≡ machine.Runs →
    IsHalfOf n
    (asking.passes_or_releases passing h k (asking.posts_creation h (record { handler = k; number = 1; class = class }) procedure us t passing f below w))
    (creates_with passing h k
    (creation h k class (option_map (n.procedure class) procedure) (record { items = map value_of (machine_values.values_of us) }) passing) s)
created_alike n h k class procedure us t true w s f below e runs is =
    let made : machine_values.Reference = record { handler = k; number = 1; class = class } in
    let g : machine.Frame = record f { values = machine_values.operand (machine_values.Attached made) t ∷ f.values } in
    let asked = asking.request_by h made (machine.Makes procedure) us true true w in
    let waiting = stack_alike n w s h (record g { stage = machine.Awaits k None true } ∷ below) (Awaits k true) e refl runs.services in
    let sent = passes_alike n true h k _ _ (send_alike n false k asked _ _ waiting) in
    let first = creation h k class (option_map (n.procedure class) procedure) (record { items = map value_of (machine_values.values_of us) }) true in
    subst
    (λ (p : Option Passed). IsHalfOf n
    (asking.passes true h k (asking.posts_creation h made procedure us t true f below w))
    (passes true h k (send false k (posted first p) (with_stage h (Awaits k true) s))))
    (sym (passed_alike true h s.rights w.rights e.rights)) sent
created_alike n h k class procedure us t false w s f below e runs is =
    let made : machine_values.Reference = record { handler = k; number = 1; class = class } in
    let g : machine.Frame = record f { values = machine_values.operand (machine_values.Attached made) t ∷ f.values } in
    let asked = asking.request_by h made (machine.Makes procedure) us false false w in
    let top : IsTop (g ∷ below) (HasMade k) = subst (λ (st : machine.Stage). IsStage st g (HasMade k)) (sym is) (inr (k, refl)) in
    release_alike n release_at.Creation (k ∷ []) _ _ (send_alike n false k asked _ _ (stack_alike n w s h (g ∷ below) (HasMade k) e top runs.services))

-- the creator isn't the new one
running_still : (n : Numbering) (h k : ℕ) (s : State) (f : machine.Frame) (below : List machine.Frame) → (h ≡ k → ⊥) → IsRunning n f below (s.handlers h) →
    IsRunning n f below ((with_handler k h s).handlers h)
running_still n h k s f below apart runs = rw (ne_eqb h k apart) runs

pub creates_alike : (n : Numbering) (h most class : ℕ) (procedure : Option (List ℕ)) (us : List Operand) (t : EntityType) (passing : Bool) (w : machine.World)
    (s : State) (f : machine.Frame) (below : List machine.Frame) → (h ≡ w.count → ⊥) → IsHalfOf n w s → IsRunning n f below (s.handlers h) → f.stage ≡ machine.Runs →
    IsHalfOf n (asking.creates_handler most h class procedure us t passing f below w)
    (creates most h class (option_map (n.procedure class) procedure) (record { items = map value_of (machine_values.values_of us) }) passing s)
creates_alike n h most class procedure us t passing w s f below apart e runs is =
    let made : (k : ℕ) → State =
    λ k. creates_with passing h k
    (creation h k class (option_map (n.procedure class) procedure) (record { items = map value_of (machine_values.values_of us) }) passing) (with_handler k h s) in
    either n _ _ _ _ _ _ (ap (λ (m : ℕ). nat_lt m most) e.count)
    (subst (λ (k : ℕ). IsHalfOf n (asking.created h (record { handler = w.count; number = 1; class = class }) procedure us t passing f below w) (made k)) (sym e.count)
    (created_alike n h w.count class procedure us t passing (asking.with_handler w.count h w) (with_handler w.count h s) f below
    (handler_alike n w.count h w s e) (running_still n h w.count s f below apart runs) is))
    (fail_alike n h cause.TooManyHandlers w s e)
