-- What a turn asks in a state that is reached is what a turn may ask.
use Rattle.std.proofs.Common.{arith, ◌≡◌, ◌<◌, ◌||◌, ℕ, zero, suc, Bool, true, false, List, [], ◌∷◌, Option, Some, None, Contains, refl, sym, ap, ◌∙◌}
use Rattle.std.proofs.lemmas.Bool.{eq-eqb, ne_eqb, lt-ltb}
use Rattle.std.specs.Prelude.{map, filter, drop, length, nat_lt, is_some, ◌==◌, cond, if◌then◌else◌}
use Rattle.std.specs.List.{list_all}
use Rattle.std.specs.Option.{option_map}
use Rattle.sc_tree.specs.Plain as tree
use Rattle.sc_tree.specs.Plain.{System, Clause, FeatureKind}
use Rattle.sc_class.specs.Tables.Features.{DeclaredFeature}
use Rattle.sc_rules.specs.declared.entity_types.entity_type.EntityType.{EntityType}
use Rattle.sc_rules.specs.Types.{declared_type}
use Rattle.sc_lockpass.specs.Rights.{is_handler}
use Rattle.sc_lockpass.specs.declared.wait_conditions.condition.EntryVerdict.{EntryVerdict}
use Rattle.sc_lockpass.specs.declared.wait_conditions.condition.EntryVerdict.TheVariants as verdict
use Rattle.sc_model.specs.declared.cause.Cause.TheVariants as cause
use Rattle.sc_model.specs.Limits.{max_frames}
use Rattle.sc_model.specs.Values.{Reference, Value, Integer, Boolean, Void, Attached, Operand, values_of}
use Rattle.sc_model.specs.Environments.{Binding, binding_named, formals_bound, is_separate_formal, separate_formals}
use Rattle.sc_model.specs.Routines.{Routine, version_of, routine_named, routine_of}
use Rattle.sc_model.specs.Objects.{Object, object_numbered, fresh_object}
use Rattle.sc_model.specs.Invariants.{meets_invariant}
use Rattle.sc_model.specs.Exits.{is_unset_value, is_unset, is_untested}
use Rattle.sc_model.specs.Entries.{opened_in}
use Rattle.sc_model.specs.Tasks.{Task, Do, Leave}
use Rattle.sc_model.specs.Preconditions.{verdict_on, is_creation, object_meets}
use Rattle.sc_model.specs.Steps.{Act, Prints, Until, Creates, CreatesHandler, Enters, Requests, Starts, Refuses, Opens, Leaves, Exits, Fails, Point}
use Rattle.sc_model.specs.Handlers as machine
use Rattle.sc_model.specs.Handlers.{frame_at}
use Rattle.sc_region.specs.declared.job.Want.{Want}
use Rattle.sc_region.specs.declared.job.Want.TheVariants as want
use Rattle.sc_handler.specs.Handlers.{State}
use Rattle.sc_request.specs.Settling.{may_ask}
use Rattle.sc_request.specs.Asked.{Numbering, handlers_of, asks_beginning, asks_bound, asks_entering, asks_done, asks_replying, asks_calling, asks_version, asks_errand, asks_releasing, asks_requesting, asks_refusing, asks_after, asks_leaving, asks_returning, asks_exiting, asks_acting}
use Rattle.sc_request.specs.Steps.{IsLastEntry}
use Rattle.sc_machine_laws.proofs.states.links.Points.{Known, Every, BindingKnown, IfSome, DoesWell}
use Rattle.sc_machine_laws.proofs.states.links.KnownValues.{formals_known, values_known}
use Rattle.sc_machine_laws.proofs.states.links.Sound.{formals_of}

-- a turn may ask this, and if it waits, of the entry reserved for last
abbrev pub IsFine : ℕ → State → List Binding → List ℕ → Want → Type 0
IsFine h t bs entry asks = (may_ask h asks t ≡ true) × IsLastEntry asks bs entry

-- ---- values lie on handlers that are there

numbers_there : (m : ℕ) (vs : List Value) → Every (Known (λ j. j < m)) vs → list_all (λ k. nat_lt k m) (handlers_of vs) ≡ true
numbers_there m [] known = refl
numbers_there m (Integer z ∷ vs) known = numbers_there m vs known.1
numbers_there m (Boolean b ∷ vs) known = numbers_there m vs known.1
numbers_there m (Void ∷ vs) known = numbers_there m vs known.1
numbers_there m (Attached r ∷ vs) known = rw (lt-ltb r.handler m known.0) (numbers_there m vs known.1)

reserves_fine : (h : ℕ) (t : State) (bs : List Binding) (entry : List ℕ) (m : ℕ) (vs : List Value) → t.count ≡ m → Every (Known (λ j. j < m)) vs →
    IsFine h t bs entry (want.Reserve (record { items = handlers_of vs }))
reserves_fine h t bs entry m vs same known = (ap (λ (c : ℕ). list_all (λ k. nat_lt k c) (handlers_of vs)) same ∙ numbers_there m vs known, tt)

bindings_known : (K : ℕ → Type 0) (bs : List Binding) → Every (BindingKnown K) bs → Every (Known K) (map (λ (b : Binding). b.value) bs)
bindings_known K [] is = tt
bindings_known K (b ∷ bs) is = (is.0, bindings_known K bs is.1)

filtered_known : (K : ℕ → Type 0) (bs : List Binding) → Every (BindingKnown K) bs → Every (BindingKnown K) (filter is_separate_formal bs)
filtered_known K [] is = tt
filtered_known K (b ∷ bs) is = by (is_separate_formal b) (filtered_known K bs is.1)
  where
    by : (c : Bool) → Every (BindingKnown K) (filter is_separate_formal bs) →
        Every (BindingKnown K) (cond c (b ∷ filter is_separate_formal bs) (filter is_separate_formal bs))
    by true rest = (is.0, rest)
    by false rest = rest

dropped_known : (K : ℕ → Type 0) (n : ℕ) (bs : List Binding) → Every (BindingKnown K) bs → Every (BindingKnown K) (drop n bs)
dropped_known K zero bs is = is
dropped_known K (suc n) [] is = tt
dropped_known K (suc n) (b ∷ bs) is = dropped_known K n bs is.1

block_known : (K : ℕ → Type 0) (bs : List Binding) (ts : List Task) → Every (BindingKnown K) bs → Every (Known K) (opened_in bs ts)
block_known K bs (Do body ∷ Leave depth ∷ ts) is = bindings_known K (drop depth bs) (dropped_known K depth bs is)
block_known K bs ts is = tt

-- ---- a routine is entered

module _ (h : ℕ) (t : State) (bs : List Binding) (entry : List ℕ) (m : ℕ) (same : t.count ≡ m) where
  begins_fine : (vs : List Value) → Every (Known (λ j. j < m)) vs → IsFine h t bs entry (asks_beginning vs)
  begins_fine [] known = (refl, tt)
  begins_fine (v ∷ vs) known = reserves_fine h t bs entry m (v ∷ vs) same known

  bound_fine : (o : Option (List Binding)) (depth : ℕ) → IfSome (Every (BindingKnown (λ j. j < m))) o → IsFine h t bs entry (asks_bound o depth)
  bound_fine None depth known = (refl, tt)
  bound_fine (Some cs) depth known = by (nat_lt depth max_frames)
    where
      by : (b : Bool) → IsFine h t bs entry (if b then asks_beginning (separate_formals cs) else want.Fail cause.StackFull)
      by true = begins_fine (separate_formals cs) (bindings_known (λ j. j < m) (filter is_separate_formal cs) (filtered_known (λ j. j < m) cs known))
      by false = (refl, tt)

  pub enters_fine : (s : System) (c : Option Routine) (vs : List Value) (depth : ℕ) → Every (Known (λ j. j < m)) vs → IsFine h t bs entry (asks_entering s c vs depth)
  enters_fine s None vs depth known = (refl, tt)
  enters_fine s (Some r) vs depth known =
      bound_fine (formals_bound s r.text.formals 0 r.text.formals vs) depth (formals_known (λ j. j < m) s r.text.formals 0 r.text.formals vs known)

  -- ---- a request is taken

  replies_fine : (d : Option EntityType) (b : Option Binding) → IsFine h t bs entry (asks_replying d b)
  replies_fine (Some d) (Some b) = by (is_unset_value b.value d)
    where
      by : (c : Bool) → IsFine h t bs entry (if c then want.Fail cause.UnsetEntity else asks_done (Some b.value) [] false)
      by true = (refl, tt)
      by false = (refl, tt)
  replies_fine (Some d) None = (refl, tt)
  replies_fine None b = (refl, tt)

  version_fine : (s : System) (r : machine.Request) (x : List ℕ) (depth : ℕ) (o : Option Object) (f : Option DeclaredFeature) →
      Every (Known (λ j. j < m)) r.actuals → IsFine h t bs entry (asks_version s r x depth o f)
  version_fine s r x depth (Some o) (Some f) known = kind f.feature.kind
    where
      kind : (k : FeatureKind) → IsFine h t bs entry (asks_calling s r x depth o f k)
      kind (tree.Attribute d) = replies_fine (declared_type s [] d) (binding_named x o.attributes)
      kind (tree.Routine c) = enters_fine s (routine_of s f) r.actuals depth known
  version_fine s r x depth (Some o) None known = (refl, tt)
  version_fine s r x depth None f known = (refl, tt)

  pub errand_fine : (s : System) (r : machine.Request) (e : machine.Errand) (depth : ℕ) (objects : List Object) → Every (Known (λ j. j < m)) r.actuals →
      IsFine h t bs entry (asks_errand s h r e depth objects)
  errand_fine s r (machine.Makes (Some k)) depth objects known = enters_fine s (routine_named s r.target.class k) r.actuals depth known
  errand_fine s r (machine.Makes None) depth objects known = by (meets_invariant s (fresh_object s r.target.class))
    where
      by : (c : Bool) → IsFine h t bs entry (if c then asks_done None [] false else want.Fail cause.Invariant)
      by true = (refl, tt)
      by false = (refl, tt)
  errand_fine s r (machine.Calls x) depth objects known = by (r.target.handler == h)
    where
      by : (c : Bool) → IsFine h t bs entry
          (if c then asks_version s r x depth (object_numbered r.target.number objects) (version_of s r.target.class x) else want.Fail cause.ForeignObject)
      by true = version_fine s r x depth (object_numbered r.target.number objects) (version_of s r.target.class x) known
      by false = (refl, tt)

-- ---- what was newly reserved is the handler's

all_held : (h : ℕ) (q : ℕ → Option ℕ) (ks : List ℕ) → ((k : ℕ) → Contains ks k → q k ≡ Some h) → list_all (λ k. is_handler h (q k)) ks ≡ true
all_held h q [] held = refl
all_held h q (k ∷ ks) held = rw (held k (zero, omega arith, refl), eq-eqb h h refl) (all_held h q ks (λ j i. held j (suc i.0, omega (arith, i.1), i.2)))

module _ (h : ℕ) (t : State) (bs : List Binding) (entry : List ℕ) where
  -- all of these are the handler's
  abbrev Holds : List ℕ → Type 0
  Holds ks = (k : ℕ) → Contains ks k → t.rights.queue k ≡ Some h

  releases_fine : (ks : List ℕ) → Holds ks → IsFine h t bs entry (asks_releasing ks)
  releases_fine [] held = (refl, tt)
  releases_fine (k ∷ ks) held = (all_held h t.rights.queue (k ∷ ks) held, tt)

  done_fine : (v : Option Value) (ks : List ℕ) (refused : Bool) → Holds ks → IsFine h t bs entry (asks_done v ks refused)
  done_fine v ks refused held = (all_held h t.rights.queue ks held, tt)

  leaves_fine : (kss : List (List ℕ)) → ((ks : List ℕ) → Contains kss ks → Holds ks) → IsFine h t bs entry (asks_leaving kss)
  leaves_fine [] held = (refl, tt)
  leaves_fine (ks ∷ kss) held = (all_held h t.rights.queue ks (held ks (zero, omega arith, refl)), tt)

  exits_fine : (s : System) (f : machine.Frame) (objects : List Object) → Holds f.reserved → IsFine h t bs entry (asks_exiting s f objects)
  exits_fine s f objects held = unset (is_unset f.result)
    where
      returns : (o : machine.Origin) → IsFine h t bs entry (asks_returning o f)
      returns (machine.Called c) = releases_fine f.reserved held
      returns (machine.Requested r) = done_fine (option_map (λ (u : Operand). u.value) f.result) f.reserved false held

      meets : (c : Bool) → IsFine h t bs entry (if c then asks_returning f.origin f else want.Fail cause.Invariant)
      meets true = returns f.origin
      meets false = (refl, tt)

      unset : (b : Bool) → IsFine h t bs entry
          (if b then want.Fail cause.UnsetEntity
          else if is_untested f.origin || object_meets s (object_numbered f.current.number objects) then asks_returning f.origin f else want.Fail cause.Invariant)
      unset true = (refl, tt)
      unset false = meets (is_untested f.origin || object_meets s (object_numbered f.current.number objects))

  refuses_fine : (s : System) (o : machine.Origin) (f : machine.Frame) (objects : List Object) → Holds f.reserved → IsFine h t bs entry (asks_refusing s o f objects)
  refuses_fine s (machine.Called c) f objects held = (refl, tt)
  refuses_fine s (machine.Requested r) f objects held = creates (is_creation r.errand)
    where
      meets : (c : Bool) → IsFine h t bs entry (if c then asks_done None f.reserved true else want.Fail cause.Invariant)
      meets true = done_fine None f.reserved true held
      meets false = (refl, tt)

      creates : (b : Bool) → IsFine h t bs entry
          (if b then (if object_meets s (object_numbered f.current.number objects) then asks_done None f.reserved true else want.Fail cause.Invariant)
          else asks_done None f.reserved true)
      creates true = meets (object_meets s (object_numbered f.current.number objects))
      creates false = done_fine None f.reserved true held

  after_fine : (v : EntryVerdict) (s : System) (f : machine.Frame) (objects : List Object) → Holds f.reserved →
      (v ≡ verdict.Wait → entry ≡ handlers_of (separate_formals bs)) → IsFine h t bs entry (asks_after v s f objects)
  after_fine verdict.Wait s f objects held last = (all_held h t.rights.queue f.reserved held, last refl)
  after_fine verdict.Refuse s f objects held last = refuses_fine s f.origin f objects held
  after_fine verdict.Start s f objects held last = (refl, tt)

  asked_fine : (n : Numbering) (r : Reference) (x : List ℕ) (us : List Operand) (waits passing : Bool) → (r.handler ≡ h → ⊥) →
      IsFine h t bs entry (asks_requesting n h r x us waits passing)
  asked_fine n r x us true passing apart = (rw (eq-eqb h h refl, ne_eqb r.handler h apart) refl, tt)
  asked_fine n r x us false passing apart = (rw (eq-eqb h h refl, ne_eqb r.handler h apart) refl, tt)

-- ---- a visible step

-- what the topmost frame's entry and its open blocks newly reserved is the handler's
abbrev pub HoldsReserved : ℕ → machine.Frame → State → Type 0
HoldsReserved h f t = (k : ℕ) (ks : List ℕ) → Contains (f.reserved ∷ f.blocks) ks → Contains ks k → t.rights.queue k ≡ Some h

pub acts_fine : (n : Numbering) (s : System) (h : ℕ) (a : Act) (f : machine.Frame) (p : Point) (depth : ℕ) (t : State) (entry : List ℕ) (m : ℕ) → t.count ≡ m →
    HoldsReserved h f t → DoesWell (λ j. j < m) (formals_of f) h (length f.blocks) a p →
    ((k : Clause) → a ≡ Refuses k → verdict_on (frame_at f p) k ≡ verdict.Wait → entry ≡ handlers_of (separate_formals f.environment)) →
    IsFine h t p.environment entry (asks_acting n s h a (frame_at f p) depth p.objects)
acts_fine n s h (Prints text) f p depth t entry m same holds well last = (refl, tt)
acts_fine n s h Until f p depth t entry m same holds well last = (refl, tt)
acts_fine n s h Creates f p depth t entry m same holds well last = (refl, tt)
acts_fine n s h Starts f p depth t entry m same holds well last = (refl, tt)
acts_fine n s h (CreatesHandler class procedure us type passing) f p depth t entry m same holds well last = (refl, tt)
acts_fine n s h (Enters c me x us gives) f p depth t entry m same holds well last =
    enters_fine h t p.environment entry m same s (routine_named s me.class x) (values_of us) depth (values_known (λ j. j < m) us well.1)
acts_fine n s h (Requests r x us gives passing) f p depth t entry m same holds well last =
    asked_fine h t p.environment entry n r x us (passing || is_some gives) passing well.0
acts_fine n s h (Refuses k) f p depth t entry m same holds well last =
    after_fine h t p.environment entry (verdict_on (frame_at f p) k) s (frame_at f p) p.objects (λ j i. holds j f.reserved (zero, omega arith, refl) i)
    (λ waits. last k refl waits ∙ ap (λ (vs : List Value). handlers_of vs) (sym well.1.formals.same))
acts_fine n s h Opens f p depth t entry m same holds well last =
    reserves_fine h t p.environment entry m (opened_in p.environment p.tasks) same (block_known (λ j. j < m) p.environment p.tasks well.0.environment)
acts_fine n s h Leaves f p depth t entry m same holds well last =
    leaves_fine h t p.environment entry f.blocks (λ ks i k j. holds k ks (suc i.0, omega (arith, i.1), i.2) j)
acts_fine n s h Exits f p depth t entry m same holds well last =
    exits_fine h t p.environment entry s (frame_at f p) p.objects (λ j i. holds j f.reserved (zero, omega arith, refl) i)
acts_fine n s h (Fails why) f p depth t entry m same holds well last = (refl, tt)
