-- A world of rights represents a state of the machine: it has the same rights, requests, waits and failures.
use Rattle.std.specs.Prelude.{◌⊎◌, ℕ, zero, suc, ◌≡◌, ◌≤◌, Bool, true, false, List, [], ◌∷◌, map, take, drop, Option, Some, None, is_some}
use Rattle.std.specs.Option.{option_map}
use Rattle.sc_rules.specs.declared.entity_types.entity_type.EntityType.{EntityType}
use Rattle.sc_machine_laws.specs.states.World.{Asked, Wait, Request, Reservation, Frame, Answer, Handler, World, rights_of}
use Rattle.sc_machine_laws.specs.states.Steps.{waits_for}
use Rattle.sc_lockpass.specs.Rights.{is_among}
use Rattle.sc_model.specs.Values.{Value, Integer, Boolean, Void, Attached}
use Rattle.sc_model.specs.Environments.{Binding, separate_formals, block_values}
use Rattle.sc_model.specs.Tasks.{Task, Leave}
use Rattle.sc_model.specs.Handlers as machine

-- ---- requests and answers

-- The root request, which has no poster, counts as a request that no handler waits for.
abbrev pub IsPoster : Request → Option ℕ → Type 0
IsPoster r None = r.waited ≡ false
IsPoster r (Some p) = r.poster ≡ p

-- The first says what the machine's request asks for: its poster, its target and its errand.
abbrev pub AsksFor : Option Asked → machine.Request → Type 0
AsksFor None q = ⊥
AsksFor (Some a) q = (q.poster ≡ Some a.poster) × (q.target ≡ a.target) × (q.errand ≡ a.errand)

pub record IsRequest (r : Request) (q : machine.Request) : Type 0 where
  pub poster : IsPoster r q.poster
  pub waited : r.waited ≡ q.is_waited
  pub passed : r.passed ≡ q.passed
  pub plain : r.waited ≡ false → r.passed ≡ None
  pub asked : q.is_waited ≡ true → AsksFor r.asked q

abbrev pub AreRequests : List Request → List machine.Request → Type 0
AreRequests [] [] = Unit {0}
AreRequests (r ∷ rs) (q ∷ qs) = IsRequest r q × AreRequests rs qs
AreRequests rs qs = ⊥

abbrev pub IsCallback : Option Request → Option machine.Request → Type 0
IsCallback None None = Unit {0}
IsCallback (Some r) (Some q) = IsRequest r q
IsCallback c d = ⊥

abbrev pub answer_of : machine.Answer → Answer
answer_of (machine.Reply v) = Answer.Reply
answer_of machine.Failed = Answer.SupplierFailed
answer_of machine.Refused = Answer.Refused

-- ---- frames

abbrev pub handlers_of : List Reservation → List ℕ
handlers_of [] = []
handlers_of (r ∷ rs) = r.handler ∷ handlers_of rs

abbrev pub IsOrigin : Option Request → machine.Origin → Type 0
IsOrigin None (machine.Called c) = Unit {0}
IsOrigin (Some r) (machine.Requested q) = IsRequest r q
IsOrigin o p = ⊥

-- If the value lies on a handler, that is `h` or one of `ks`.
abbrev pub IsCovered : ℕ → List ℕ → Value → Type 0
IsCovered h ks (Attached r) = (r.handler ≡ h) ⊎ (is_among r.handler ks ≡ true)
IsCovered h ks (Integer z) = Unit {0}
IsCovered h ks (Boolean b) = Unit {0}
IsCovered h ks Void = Unit {0}

abbrev pub AreCovered : ℕ → List ℕ → List Value → Type 0
AreCovered h ks [] = Unit {0}
AreCovered h ks (v ∷ vs) = IsCovered h ks v × AreCovered h ks vs

-- Past its reserve step a routine needs the handlers of its attached separate formals.
abbrev pub NeedsOf : machine.Stage → machine.Frame → List ℕ → Type 0
NeedsOf machine.Reserves f ks = Unit {0}
NeedsOf machine.Runs f ks = AreCovered f.current.handler ks (separate_formals f.environment)
NeedsOf machine.ReservesBlock f ks = AreCovered f.current.handler ks (separate_formals f.environment)
NeedsOf (machine.InCall gives) f ks = AreCovered f.current.handler ks (separate_formals f.environment)
NeedsOf (machine.Awaits k gives b) f ks = AreCovered f.current.handler ks (separate_formals f.environment)

-- the values of the names of the open block `i`, counted from the innermost: the end of the block forgets them
abbrev pub names_in : List Task → List Binding → ℕ → List Value
names_in [] bs i = []
names_in (Leave depth ∷ ts) bs zero = block_values (drop depth bs)
names_in (Leave depth ∷ ts) bs (suc i) = names_in ts (take depth bs) i
names_in (t ∷ ts) bs i = names_in ts bs i

-- Past its reserve step a block needs the handlers of its names.
abbrev pub NamesOf : machine.Stage → machine.Frame → ℕ → List ℕ → Type 0
NamesOf machine.ReservesBlock f i ks = AreCovered f.current.handler ks (names_in f.tasks f.environment (suc i))
NamesOf machine.Reserves f i ks = AreCovered f.current.handler ks (names_in f.tasks f.environment i)
NamesOf machine.Runs f i ks = AreCovered f.current.handler ks (names_in f.tasks f.environment i)
NamesOf (machine.InCall gives) f i ks = AreCovered f.current.handler ks (names_in f.tasks f.environment i)
NamesOf (machine.Awaits k gives b) f i ks = AreCovered f.current.handler ks (names_in f.tasks f.environment i)

-- A frame of the machine is here, from the top: the creation whose answer it awaits, its open blocks with the
-- innermost first, and its routine.
abbrev pub IsRoutine : machine.Frame → (List ℕ → Type 0) → (List Frame → Type 0) → List Frame → Type 0
IsRoutine f Needs Below [] = ⊥
IsRoutine f Needs Below (g ∷ gs) =
    IsOrigin g.origin f.origin × (handlers_of g.reserved ≡ f.reserved) × Below gs × Needs g.needs

abbrev pub AreBlocks : (ℕ → List ℕ → Type 0) → List (List ℕ) → (List Frame → Type 0) → List Frame → Type 0
AreBlocks Names [] Below gs = Below gs
AreBlocks Names (ks ∷ kss) Below [] = ⊥
AreBlocks Names (ks ∷ kss) Below (g ∷ gs) =
    (g.origin ≡ None) × (handlers_of g.reserved ≡ ks) × (waits_for gs ≡ None)
    × AreBlocks (λ i. Names (suc i)) kss Below gs × Names 0 g.needs

-- the environment of a frame of the machine, and the tasks that are left of it and of each frame below it
pub record Place : Type 0 where
  pub environment : List Binding
  pub left : List (List Task)

abbrev pub left_in : List machine.Frame → List (List Task)
left_in fs = map (λ (f : machine.Frame). f.tasks) fs

-- the place of the frame above the frames `below`
abbrev pub place_of : machine.Frame → List machine.Frame → Place
place_of f below = record { environment = f.environment; left = f.tasks ∷ left_in below }

-- A frame that waits has the environment `bs` and takes a value of the type `gives`.
abbrev pub TakesAs : Option Asked → List Binding → Option EntityType → Type 0
TakesAs None bs gives = ⊥
TakesAs (Some a) bs gives = (a.environment ≡ bs) × (a.takes ≡ gives)

-- `lends` says whether the poster lent all that it had reserved, and `left` are the tasks that it had left.
abbrev pub LendsAs : Option Asked → Bool → List (List Task) → Type 0
LendsAs None lends left = ⊥
LendsAs (Some a) lends left = (a.lends ≡ lends) × (a.left ≡ left)

-- The topmost frame waits for `k`, and takes a value of the type `gives`.
pub record Awaited (k : ℕ) (gives : Option EntityType) (at : Place) (gs : List Frame) : Type 0 where
  pub wait : Wait
  pub waits : waits_for gs ≡ Some wait
  pub target : wait.target ≡ k
  pub takes : TakesAs wait.asked at.environment gives
  pub lends : LendsAs wait.asked wait.passing at.left

abbrev pub IsCreation : ℕ → (List Frame → Type 0) → List Frame → Type 0
IsCreation k Below [] = ⊥
IsCreation k Below (g ∷ gs) = (g.origin ≡ None) × (handlers_of g.reserved ≡ k ∷ []) × (waits_for gs ≡ None) × Below gs

abbrev pub IsStaged : machine.Stage → Place → (List Frame → Type 0) → List Frame → Type 0
IsStaged (machine.Awaits k gives true) at Below gs = Awaited k gives at gs × IsCreation k Below gs
IsStaged (machine.Awaits k gives false) at Below gs = Awaited k gives at gs × Below gs
IsStaged machine.Runs at Below gs = (waits_for gs ≡ None) × Below gs
IsStaged machine.Reserves at Below gs = (waits_for gs ≡ None) × Below gs
IsStaged machine.ReservesBlock at Below gs = (waits_for gs ≡ None) × Below gs
IsStaged (machine.InCall gives) at Below gs = (waits_for gs ≡ None) × Below gs

abbrev pub IsStack : List machine.Frame → List Frame → Type 0
IsStack [] [] = Unit {0}
IsStack [] (g ∷ gs) = ⊥
IsStack (f ∷ fs) gs =
    IsStaged f.stage (place_of f fs)
    (AreBlocks (NamesOf f.stage f) f.blocks (IsRoutine f (NeedsOf f.stage f) (IsStack fs))) gs

-- ---- handlers and worlds

pub record IsHandler (g : Handler) (x : machine.Handler) : Type 0 where
  pub failed : g.failed ≡ is_some x.failure
  pub stack : IsStack x.stack g.stack
  pub requests : AreRequests g.requests x.queue
  pub callback : IsCallback g.callback x.callback
  pub answer : g.answer ≡ option_map answer_of x.answer

-- The handler was never used.
pub record IsNew (g : Handler) : Type 0 where
  pub failed : g.failed ≡ false
  pub stack : g.stack ≡ []
  pub requests : g.requests ≡ []
  pub callback : g.callback ≡ None
  pub answer : g.answer ≡ None

pub record Stands (w : World) (m : machine.World) : Type 0 where
  pub handlers : (k : ℕ) → IsHandler (w.handlers k) (m.handlers k)
  pub rights : rights_of w ≡ m.rights
  pub new : (k : ℕ) → m.count ≤ k → IsNew (w.handlers k) × (w.queue k ≡ []) × (w.top k ≡ [])
