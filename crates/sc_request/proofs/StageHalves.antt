-- The law of settlements, at each stage of a handler.
use Rattle.std.proofs.Common.{ℕ, ◌≡◌, ◌<◌, Bool, true, false, ◌||◌, List, [], ◌∷◌, Option, Some, None, refl, sym, ap, subst, ◌∙◌, lt_irrefl}
use Rattle.std.proofs.lemmas.Bool.{eq-eqb, ltb-true}
use Rattle.std.specs.Prelude.{map, length, nat_lt, if◌then◌else◌}
use Rattle.std.specs.Option.{option_map}
use Rattle.sc_tree.specs.Plain.{System}
use Rattle.sc_rules.specs.declared.entity_types.entity_type.EntityType.{EntityType}
use Rattle.sc_lockpass.specs.Rights.{Rights}
use Rattle.sc_lockpass.specs.wait_conditions.Reservations.{Standing, reserve_fails, may_reserve}
use Rattle.sc_lockpass.specs.declared.wait_conditions.mark.Marked.{Marked}
use Rattle.sc_model.specs.declared.cause.Cause.{Cause}
use Rattle.sc_model.specs.declared.cause.Cause.TheVariants as cause
use Rattle.sc_model.specs.Values.{Value}
use Rattle.sc_model.specs.Environments.{separate_formals}
use Rattle.sc_model.specs.Objects.{Object}
use Rattle.sc_model.specs.Entries as entries
use Rattle.sc_model.specs.Entries.{needed_for, opened_in}
use Rattle.sc_model.specs.Takes as takes_at
use Rattle.sc_model.specs.Sessions as sessions
use Rattle.sc_model.specs.Turns as turns
use Rattle.sc_model.specs.Turns.{turn}
use Rattle.sc_model.specs.Handlers as machine
use Rattle.sc_region.specs.declared.job.Job.{Job}
use Rattle.sc_region.specs.declared.job.Job.TheVariants as job
use Rattle.sc_region.specs.declared.job.Want.{Want}
use Rattle.sc_handler.specs.Handlers.{Posted, Answer, HandlerStage, Idle, Runs, Reserves, Awaits, State, put}
use Rattle.sc_handler.specs.Picking.{needs, job_reserving, job_for_entry, job_idle, job_answered, job_awaiting, job_at, job_with}
use Rattle.sc_handler.specs.Changes.{takes}
use Rattle.sc_handler.specs.Fits.{fits_turns, may_take}
use Rattle.sc_request.specs.Settling.{made_at, may_ask, asked_in}
use Rattle.sc_request.specs.Asked.{Numbering, request_of, handlers_of, taken_of, asks_errand, asks_taking, asks_on}
use Rattle.sc_request.specs.Halves.{posted_of, answer_of, IsStage, IsTop, IsHalfOf}
use Rattle.sc_request.specs.Steps.{IsCalledFrom, StandsOnCall, HalvesStep}
use Rattle.sc_request.proofs.Kept.{fail_alike}
use Rattle.sc_request.proofs.Turns.{same_standings, same_needs}
use Rattle.sc_request.proofs.Taken.{IsTaken, errands, next_taken, callback_taken}
use Rattle.sc_request.proofs.TakenAnswers.{reply_alike, creation_alike, reserve_alike}
use Rattle.sc_request.proofs.SettlementSteps.{Comes, ComesOf, asks_at, turn_runs}

-- ---- reserve steps

-- by the tests on what is needed
reserves_by : (n : Numbering) (sys : System) (h most : ℕ) (w : machine.World) (s : State) (f f' : machine.Frame) (below : List machine.Frame) (ks : List ℕ)
    (lost may : Bool) → IsHalfOf n w s → (w.handlers h).stack ≡ f ∷ below → f'.origin ≡ f.origin → f'.stage ≡ machine.Runs →
    reserve_fails (sessions.standing_in w) w.rights ks ≡ lost →
    Comes most n sys h w s (job_reserving lost may ks) (entries.reserves_if (lost || may) h ks f' below w)
reserves_by n sys h most w s f f' below ks true may e stack origin runs same = λ granted. rw same (fail_alike n h cause.SupplierFailed w s e)
reserves_by n sys h most w s f f' below ks false true e stack origin runs same = λ granted. rw same (reserve_alike n h w s f f' below ks e stack origin runs)
reserves_by n sys h most w s f f' below ks false false e stack origin runs same = λ granted. e

-- the core computes the same tests
same_job : (n : Numbering) (h : ℕ) (w : machine.World) (s : State) (vs : List Value) (mark : List Marked) → IsHalfOf n w s →
    job_for_entry (needs h (handlers_of vs) s.rights) mark s
    ≡ job_reserving (reserve_fails (sessions.standing_in w) w.rights (needed_for h vs w)) (may_reserve (sessions.standing_in w) w.rights (needed_for h vs w) mark) (needed_for h vs w)
same_job n h w s vs mark e =
    ap (λ (st : ℕ → Standing). from st s.rights (needs h (handlers_of vs) s.rights)) (same_standings n w s e)
    ∙ ap (λ (r : Rights). from (sessions.standing_in w) r (needs h (handlers_of vs) r)) e.rights
    ∙ ap (λ (ks : List ℕ). from (sessions.standing_in w) w.rights ks) (same_needs w.rights h vs)
  where
    from : (ℕ → Standing) → Rights → List ℕ → Option Job
    from st r ks = job_reserving (reserve_fails st r ks) (may_reserve st r ks mark) ks

turn_reserves : (n : Numbering) (sys : System) (h most : ℕ) (w : machine.World) (s : State) (f f' : machine.Frame) (below : List machine.Frame) (vs : List Value)
    (mark : List Marked) → IsHalfOf n w s → (w.handlers h).stack ≡ f ∷ below → f'.origin ≡ f.origin → f'.stage ≡ machine.Runs →
    (s.handlers h).stage ≡ Reserves (handlers_of vs) mark →
    Comes most n sys h w s (job_at h (s.handlers h).stage (s.handlers h) s)
    (entries.reserves_if (entries.may_reserve (needed_for h vs w) mark w) h (needed_for h vs w) f' below w)
turn_reserves n sys h most w s f f' below vs mark e stack origin runs is =
    let w' = entries.reserves_if (entries.may_reserve (needed_for h vs w) mark w) h (needed_for h vs w) f' below w in
    subst (λ (t : HandlerStage). Comes most n sys h w s (job_at h t (s.handlers h) s) w') (sym is)
    (subst (λ (j : Option Job). Comes most n sys h w s j w') (sym (same_job n h w s vs mark e))
    (reserves_by n sys h most w s f f' below (needed_for h vs w) _ _ e stack origin runs refl))

-- ---- a request is taken

-- the handler's frames and objects where it has the request in its hands
errands_at : (n : Numbering) (sys : System) (r : machine.Request) (h most : ℕ) (w : machine.World) (s : State) (x : machine.Handler) → IsTaken n r h w s →
    w.handlers h ≡ x → may_ask h (asks_errand sys h r r.errand (length x.stack) x.objects) s ≡ true →
    IsHalfOf n (takes_at.takes sys h r x.stack w)
    (asked_in (may_take (asks_errand sys h r r.errand (length x.stack) x.objects)) most h (asks_errand sys h r r.errand (length x.stack) x.objects) s)
errands_at n sys r h most w s x e same may =
    subst
    (λ (z : machine.Handler). may_ask h (asks_errand sys h r r.errand (length z.stack) z.objects) s ≡ true →
    IsHalfOf n (takes_at.takes sys h r z.stack w)
    (asked_in (may_take (asks_errand sys h r r.errand (length z.stack) z.objects)) most h (asks_errand sys h r r.errand (length z.stack) z.objects) s))
    same (errands n sys r r.errand h most w s e) may

turn_takes : (n : Numbering) (sys : System) (r : machine.Request) (h most : ℕ) (w w' : machine.World) (s s' : State) (stack : List machine.Frame)
    (x : machine.Handler) → IsTaken n r h w' s' → (w.handlers h).stack ≡ stack → w'.handlers h ≡ x → x.stack ≡ (w.handlers h).stack →
    x.objects ≡ (w.handlers h).objects →
    taken_of (w.handlers h).stack (w.handlers h).queue (w.handlers h).callback ≡ Some r →
    put h (takes (s.handlers h).stage (s.handlers h)) s ≡ s' →
    Comes most n sys h w s (Some (job.Take (request_of n r))) (takes_at.takes sys h r stack w')
turn_takes n sys r h most w w' s s' stack x e is same frames objects taken begins =
    let depth = length (w.handlers h).stack in
    let asks = asks_errand sys h r r.errand depth (w.handlers h).objects in
    let same_want : asks_taking sys h depth (w.handlers h).objects (taken_of (w.handlers h).stack (w.handlers h).queue (w.handlers h).callback) ≡ asks =
    ap (λ (o : Option machine.Request). asks_taking sys h depth (w.handlers h).objects o) taken in
    let from : (fs : List machine.Frame) (os : List Object) → x.stack ≡ fs → x.objects ≡ os →
    may_ask h (asks_errand sys h r r.errand (length fs) os) s' ≡ true →
    IsHalfOf n (takes_at.takes sys h r fs w')
    (asked_in (may_take (asks_errand sys h r r.errand (length fs) os)) most h (asks_errand sys h r r.errand (length fs) os) s') =
    λ fs os p q. subst
    (λ (gs : List machine.Frame). may_ask h (asks_errand sys h r r.errand (length gs) os) s' ≡ true →
    IsHalfOf n (takes_at.takes sys h r gs w')
    (asked_in (may_take (asks_errand sys h r r.errand (length gs) os)) most h (asks_errand sys h r r.errand (length gs) os) s'))
    p (subst
    (λ (ps : List Object). may_ask h (asks_errand sys h r r.errand (length x.stack) ps) s' ≡ true →
    IsHalfOf n (takes_at.takes sys h r x.stack w')
    (asked_in (may_take (asks_errand sys h r r.errand (length x.stack) ps)) most h (asks_errand sys h r r.errand (length x.stack) ps) s'))
    q (errands_at n sys r h most w' s' x e same)) in
    subst (λ (fs : List machine.Frame). Comes most n sys h w s (Some (job.Take (request_of n r))) (takes_at.takes sys h r fs w')) is
    (subst (λ (t : State). ComesOf most n sys h w t (may_take asked_now) (takes_at.takes sys h r (w.handlers h).stack w') asked_now) (sym begins)
    (subst (λ (a : Want). ComesOf most n sys h w s' (may_take a) (takes_at.takes sys h r (w.handlers h).stack w') a) (sym same_want)
    (λ granted. from (w.handlers h).stack (w.handlers h).objects frames objects granted.0)))
  where
    asked_now : Want
    asked_now = asks_taking sys h (length (w.handlers h).stack) (w.handlers h).objects (taken_of (w.handlers h).stack (w.handlers h).queue (w.handlers h).callback)

-- a handler without frames takes the next of its queue
turn_next : (n : Numbering) (sys : System) (h most : ℕ) (w : machine.World) (s : State) (queue : List machine.Request) → IsHalfOf n w s →
    (w.handlers h).stack ≡ [] → (w.handlers h).queue ≡ queue → (s.handlers h).stage ≡ Idle →
    Comes most n sys h w s (job_idle (map (posted_of n) queue)) (takes_at.takes_next sys h queue w)
turn_next n sys h most w s [] e stack queued idle = λ granted. e
turn_next n sys h most w s (r ∷ rs) e stack queued idle =
    let x = w.handlers h in
    turn_takes n sys r h most w _ s _ [] (record x { queue = rs }) (next_taken n h w s r rs e idle queued) stack (rw (eq-eqb h h refl) refl) refl refl
    (ap (λ (fs : List machine.Frame). taken_of fs x.queue x.callback) stack ∙ ap (λ (q : List machine.Request). taken_of [] q x.callback) queued) refl

turn_idle : (n : Numbering) (sys : System) (h most : ℕ) (w : machine.World) (s : State) → IsHalfOf n w s → (w.handlers h).stack ≡ [] →
    (s.handlers h).stage ≡ Idle →
    Comes most n sys h w s (job_at h (s.handlers h).stage (s.handlers h) s) (takes_at.takes_next sys h (w.handlers h).queue w)
turn_idle n sys h most w s e stack idle =
    let w' = takes_at.takes_next sys h (w.handlers h).queue w in
    subst (λ (t : HandlerStage). Comes most n sys h w s (job_at h t (s.handlers h) s) w') (sym idle)
    (subst (λ (q : List Posted). Comes most n sys h w s (job_idle q) w') (sym (e.handlers h).queue)
    (turn_next n sys h most w s (w.handlers h).queue e stack refl idle))

-- ---- an answer is taken

-- the stage is this one
waits_on : (n : Numbering) (sys : System) (h most k : ℕ) (gives : Option EntityType) (c : Bool) (a : machine.Answer) (w : machine.World) (s : State)
    (f : machine.Frame) (below : List machine.Frame) → IsHalfOf n w s → (w.handlers h).stack ≡ f ∷ below → f.stage ≡ machine.Awaits k gives c →
    (s.handlers h).stage ≡ Awaits k c →
    Comes most n sys h w s (Some (job_answered k c (answer_of a))) (takes_at.takes_answer h a k gives c f below w)
waits_on n sys h most k gives true (machine.Reply v) w s f below e stack is awaits =
    let asks = asks_on n sys h (w.handlers h).stack (w.handlers h).objects in
    let w' = takes_at.takes_answer h (machine.Reply v) k gives true f below w in
    subst (λ (t : HandlerStage). ComesOf most n sys h w (made_at h t s) (fits_turns 1 t (job.Made k) asks) w' asks) (sym awaits)
    (subst (λ (a : Want). ComesOf most n sys h w (made_at h (Awaits k true) s) (fits_turns 1 (Awaits k true) (job.Made k) a) w' a)
    (sym (asks_at n sys h (w.handlers h) f below (machine.Awaits k gives true) stack is))
    (λ granted. creation_alike n h k w s f below gives v e stack))
waits_on n sys h most k gives false (machine.Reply v) w s f below e stack is awaits = λ granted. reply_alike n h w s f below gives v e stack
waits_on n sys h most k gives true machine.Failed w s f below e stack is awaits = λ granted. fail_alike n h cause.SupplierFailed w s e
waits_on n sys h most k gives false machine.Failed w s f below e stack is awaits = λ granted. fail_alike n h cause.SupplierFailed w s e
waits_on n sys h most k gives true machine.Refused w s f below e stack is awaits = λ granted. fail_alike n h cause.Precondition w s e
waits_on n sys h most k gives false machine.Refused w s f below e stack is awaits = λ granted. fail_alike n h cause.Precondition w s e

-- a callback comes before an answer
waits_with : (n : Numbering) (sys : System) (h most k : ℕ) (gives : Option EntityType) (c : Bool) (callback : Option machine.Request) (a : Option machine.Answer)
    (w : machine.World) (s : State) (f : machine.Frame) (below : List machine.Frame) → IsHalfOf n w s → (w.handlers h).stack ≡ f ∷ below →
    f.stage ≡ machine.Awaits k gives c → (s.handlers h).stage ≡ Awaits k c → (w.handlers h).callback ≡ callback →
    Comes most n sys h w s (job_awaiting k c (option_map (posted_of n) callback) (option_map answer_of a)) (turns.waits sys h callback a k gives c f below w)
waits_with n sys h most k gives c (Some r) a w s f below e stack is awaits called =
    let x = w.handlers h in
    turn_takes n sys r h most w _ s _ (f ∷ below) (record x { callback = None }) (callback_taken n h k c w s r e awaits called) stack (rw (eq-eqb h h refl) refl) refl refl
    (ap (λ (fs : List machine.Frame). taken_of fs x.queue x.callback) stack ∙ called) refl
waits_with n sys h most k gives c None (Some a) w s f below e stack is awaits called = waits_on n sys h most k gives c a w s f below e stack is awaits
waits_with n sys h most k gives c None None w s f below e stack is awaits called = λ granted. e

turn_waits : (n : Numbering) (sys : System) (h most k : ℕ) (gives : Option EntityType) (c : Bool) (w : machine.World) (s : State) (f : machine.Frame)
    (below : List machine.Frame) → IsHalfOf n w s → (w.handlers h).stack ≡ f ∷ below → f.stage ≡ machine.Awaits k gives c → (s.handlers h).stage ≡ Awaits k c →
    Comes most n sys h w s (job_at h (s.handlers h).stage (s.handlers h) s)
    (turns.waits sys h (w.handlers h).callback (w.handlers h).answer k gives c f below w)
turn_waits n sys h most k gives c w s f below e stack is awaits =
    let x = w.handlers h in
    let y = s.handlers h in
    let w' = turns.waits sys h x.callback x.answer k gives c f below w in
    subst (λ (t : HandlerStage). Comes most n sys h w s (job_at h t y s) w') (sym awaits)
    (subst (λ (p : Option Posted). Comes most n sys h w s (job_awaiting k c p y.answer) w') (sym (e.handlers h).callback)
    (subst (λ (a : Option Answer). Comes most n sys h w s (job_awaiting k c (option_map (posted_of n) x.callback) a) w') (sym (e.handlers h).answer)
    (waits_with n sys h most k gives c x.callback x.answer w s f below e stack is awaits refl)))

-- ---- a handler

-- a frame in a call is never the topmost one of a handler that fails no test
turn_in_call : (n : Numbering) (sys : System) (h most : ℕ) (gives : Option EntityType) (w : machine.World) (s : State) (f : machine.Frame) (below : List machine.Frame) →
    IsHalfOf n w s → (w.handlers h).stack ≡ f ∷ below → f.stage ≡ machine.InCall gives → (s.handlers h).stage ≡ Runs →
    Comes most n sys h w s (job_at h (s.handlers h).stage (s.handlers h) s) (turns.goes_on most sys h (machine.InCall gives) f below w)
turn_in_call n sys h most gives w s f below e stack is runs =
    let w' = turns.goes_on most sys h (machine.InCall gives) f below w in
    subst (λ (t : HandlerStage). Comes most n sys h w s (job_at h t (s.handlers h) s) w') (sym runs)
    (subst (λ (a : Want). ComesOf most n sys h w s true w' a) (sym (asks_at n sys h (w.handlers h) f below (machine.InCall gives) stack is))
    (λ granted. fail_alike n h cause.BadCode w s e))

turn_goes : (n : Numbering) (sys : System) (h most : ℕ) (stage : machine.Stage) (w : machine.World) (s : State) (f : machine.Frame) (below : List machine.Frame) →
    (h ≡ w.count → ⊥) → IsHalfOf n w s → (w.handlers h).stack ≡ f ∷ below → f.stage ≡ stage → IsCalledFrom f.origin below →
    IsStage stage f (s.handlers h).stage →
    Comes most n sys h w s (job_at h (s.handlers h).stage (s.handlers h) s) (turns.goes_on most sys h stage f below w)
turn_goes n sys h most machine.Runs w s f below apart e stack is stands at = turn_runs n sys h most w s f below apart e stack is stands at
turn_goes n sys h most machine.Reserves w s f below apart e stack is stands at =
    turn_reserves n sys h most w s f _ below (separate_formals f.environment) f.mark e stack refl refl at
turn_goes n sys h most machine.ReservesBlock w s f below apart e stack is stands at =
    turn_reserves n sys h most w s f _ below (opened_in f.environment f.tasks) [] e stack refl refl at
turn_goes n sys h most (machine.InCall gives) w s f below apart e stack is stands at = turn_in_call n sys h most gives w s f below e stack is at
turn_goes n sys h most (machine.Awaits k gives c) w s f below apart e stack is stands at = turn_waits n sys h most k gives c w s f below e stack is at

-- one that has failed does nothing
turn_lives : (n : Numbering) (sys : System) (h most : ℕ) (why : Option Cause) (stack : List machine.Frame) (w : machine.World) (s : State) →
    (h ≡ w.count → ⊥) → IsHalfOf n w s → (w.handlers h).stack ≡ stack → StandsOnCall stack → IsTop stack (s.handlers h).stage →
    Comes most n sys h w s (job_with h why (s.handlers h) s) (turns.turn_with most sys h why stack w)
turn_lives n sys h most (Some why) stack w s apart e is stands top = λ granted. e
turn_lives n sys h most None [] w s apart e is stands top = turn_idle n sys h most w s e is top
turn_lives n sys h most None (f ∷ below) w s apart e is stands top = turn_goes n sys h most f.stage w s f below apart e is refl stands top

turn_numbered : (n : Numbering) (sys : System) (h most : ℕ) (b c : Bool) (w : machine.World) (s : State) → c ≡ b → nat_lt h w.count ≡ b → IsHalfOf n w s →
    StandsOnCall (w.handlers h).stack →
    Comes most n sys h w s (if c then job_with h (s.handlers h).failure (s.handlers h) s else None)
    (if b then turns.turn_with most sys h (w.handlers h).failure (w.handlers h).stack w else w)
turn_numbered n sys h most false c w s same is e stands = rw same (λ granted. e)
turn_numbered n sys h most true c w s same is e stands =
    let x = w.handlers h in
    let w' = turns.turn_with most sys h x.failure x.stack w in
    let apart : h ≡ w.count → ⊥ = λ last. lt_irrefl w.count (subst (λ (k : ℕ). k < w.count) last (ltb-true h w.count is)) in
    rw same
    (subst (λ (why : Option Cause). Comes most n sys h w s (job_with h why (s.handlers h) s) w') (sym (e.handlers h).failure)
    (turn_lives n sys h most x.failure x.stack w s apart e refl stands (e.handlers h).stage))

pub halves : HalvesStep
halves most n sys h w s e stands granted =
    turn_numbered n sys h most (nat_lt h w.count) (nat_lt h s.count) w s (ap (λ (m : ℕ). nat_lt h m) e.count) refl e stands granted
