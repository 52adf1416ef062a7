-- Requests that come to stand at a handler were posted under a right.
use Rattle.std.proofs.Common.{◌≡◌, ◌⊎◌, ⊎_elim, inl, inr, ℕ, ◌<◌, List, [], ◌∷◌, ◌++◌, Option, Some, None, Bool, true, false, ◌==◌, refl, sym, subst}
use Rattle.std.proofs.lemmas.Bool.{ltb-true, eq-eqb}
use Rattle.std.specs.Prelude.{if◌then◌else◌, nat_lt}
use Rattle.sc_tree.specs.Plain as tree
use Rattle.sc_tree.specs.Plain.{System, FeatureKind}
use Rattle.sc_class.specs.Tables.Features.{DeclaredFeature}
use Rattle.sc_rules.specs.declared.entity_types.entity_type.EntityType.{EntityType}
use Rattle.sc_rules.specs.Types.{declared_type}
use Rattle.sc_lockpass.specs.Rights.{held}
use Rattle.sc_lockpass.specs.declared.wait_conditions.session.Release.TheVariants as release_at
use Rattle.sc_model.specs.declared.cause.Cause.{Cause}
use Rattle.sc_model.specs.declared.cause.Cause.TheVariants as cause
use Rattle.sc_model.specs.Values.{values_of}
use Rattle.sc_model.specs.Environments.{Binding, binding_named}
use Rattle.sc_model.specs.Objects.{Object, object_numbered, fresh_object}
use Rattle.sc_model.specs.Invariants.{meets_invariant}
use Rattle.sc_model.specs.Routines.{version_of, routine_named, routine_of}
use Rattle.sc_model.specs.Steps.{Act, Prints, Until, Creates, CreatesHandler, Enters, Requests, Starts, Refuses, Opens, Leaves, Exits, Fails, Step, Goes, Does}
use Rattle.sc_model.specs.Moves.{moves}
use Rattle.sc_model.specs.Handlers.{Errand, Calls, Makes, Request, Answer, Reply, Failed, Refused, Called, Requested, Stage, Runs, Reserves, ReservesBlock, InCall, Awaits, Frame, Handler, World, put, point_of, frame_at}
use Rattle.sc_model.specs.Entries.{may_reserve, entry_needs, block_needs}
use Rattle.sc_model.specs.Preconditions.{verdict_on}
use Rattle.sc_model.specs.Exits.{is_unset_value, handed_as}
use Rattle.sc_model.specs.Takes.{replies, takes_kind, takes_version, takes_creation, with_new_object, takes_errand, takes_next, takes_callback, released_if, takes_answer}
use Rattle.sc_model.specs.Turns.{turn, turn_with, goes_on, settles, effect, waits}
use Rattle.sc_model.specs.Failures.{request_of, to_list}
use Rattle.sc_machine_laws.specs.states.Headline.{PostedUnderRight}
use Rattle.sc_machine_laws.proofs.states.StandingRequests.{Brings, Has, Stacks, StandsAt, begun_in, brings_trans, fail_brings, fails_brings, finish_brings, if_brings, put_brings, release_brings, stack_brings, stands_from, stands_to, stays}
use Rattle.sc_machine_laws.proofs.states.PostingSteps.{block_brings, clause_brings, creates_brings, enters_brings, exits_brings, handed_same, request_brings, reserves_brings}

-- ---- taking a request

replies_brings : (N : ℕ → Request → Type 0) (h : ℕ) (r : Request) (t : Option EntityType) (b : Option Binding)
    (w : World) → Brings N w (replies h r t b w)
replies_brings N h r (Some t) (Some b) w =
    if_brings N w (is_unset_value b.value t) _ _ (λ _. fails_brings N h cause.UnsetEntity (r ∷ []) w)
    (λ _. finish_brings N r (Reply (Some b.value)) w)
replies_brings N h r (Some t) None w = fails_brings N h cause.BadCode (r ∷ []) w
replies_brings N h r None b w = fails_brings N h cause.BadCode (r ∷ []) w

-- what a request's routine stands on, and the request
abbrev Begins : (ℕ → Request → Type 0) → ℕ → World → Request → List Frame → Type 0
Begins N h w r below = N h r × Stacks N h w below

begins : (N : ℕ → Request → Type 0) (h : ℕ) (w : World) (r : Request) (below : List Frame) → Begins N h w r below
    → (q : Request) → Has q (r ∷ begun_in below) → StandsAt q (w.handlers h) ⊎ N h q
begins N h w r below ok q (inl e) = inr (subst (N h) e ok.0)
begins N h w r below ok q (inr i) = ok.1 q i

kind_brings : (N : ℕ → Request → Type 0) (s : System) (h : ℕ) (r : Request) (x : List ℕ) (below : List Frame)
    (o : Object) (f : DeclaredFeature) (k : FeatureKind) (w : World) → Begins N h w r below → Brings N w
    (takes_kind s h r x below o f k w)
kind_brings N s h r x below o f (tree.Attribute d) w ok = replies_brings N h r (declared_type s [] d)
    (binding_named x o.attributes) w
kind_brings N s h r x below o f (tree.Routine c) w ok = enters_brings N s h r.target (routine_of s f)
    (Requested r) below (r ∷ []) r.actuals w (begins N h w r below ok)

version_brings : (N : ℕ → Request → Type 0) (s : System) (h : ℕ) (r : Request) (x : List ℕ) (below : List Frame)
    (o : Option Object) (f : Option DeclaredFeature) (w : World) → Begins N h w r below → Brings N w
    (takes_version s h r x below o f w)
version_brings N s h r x below (Some o) (Some f) w ok = kind_brings N s h r x below o f f.feature.kind w ok
version_brings N s h r x below (Some o) None w ok = fails_brings N h cause.BadCode (r ∷ []) w
version_brings N s h r x below None f w ok = fails_brings N h cause.BadCode (r ∷ []) w

creation_brings : (N : ℕ → Request → Type 0) (s : System) (h : ℕ) (r : Request) (k : Option (List ℕ))
    (below : List Frame) (w : World) → Begins N h w r below → Brings N w (takes_creation s h r k below w)
creation_brings N s h r (Some x) below w ok = enters_brings N s h r.target (routine_named s r.target.class x)
    (Requested r) below (r ∷ []) r.actuals w (begins N h w r below ok)
creation_brings N s h r None below w ok =
    if_brings N w (meets_invariant s (fresh_object s r.target.class)) _ _ (λ _. finish_brings N r (Reply None) w)
    (λ _. fails_brings N h cause.Invariant (r ∷ []) w)

-- a handler that stands as it stood, but for its objects
same_there : (h : ℕ) (x : Handler) (w : World) (r : Request) → StandsAt r x → StandsAt r ((put h x w).handlers h)
same_there h x w r i = subst (λ (b : Bool). StandsAt r (if b then x else w.handlers h)) (sym (eq-eqb h h refl)) i

errand_brings : (N : ℕ → Request → Type 0) (s : System) (h : ℕ) (r : Request) (e : Errand) (below : List Frame)
    (w : World) → N h r → ((q : Request) → Has q (begun_in below) → StandsAt q (w.handlers h)) → Brings N w
    (takes_errand s h r e below w)
errand_brings N s h r (Makes k) below w new ok =
    let x : Handler = record (w.handlers h) { objects = (w.handlers h).objects ++ fresh_object s r.target.class ∷ [] }
    in
    brings_trans (put_brings N h x w (λ q i. inl i))
    (creation_brings N s h r k below (with_new_object s h r.target.class w)
    (new, λ q i. inl (same_there h x w q (ok q i))))
errand_brings N s h r (Calls x) below w new ok =
    if_brings N w (r.target.handler == h) _ _
    (λ _. version_brings N s h r x below (object_numbered r.target.number (w.handlers h).objects)
    (version_of s r.target.class x) w (new, λ q i. inl (ok q i)))
    (λ _. fails_brings N h cause.ForeignObject (r ∷ []) w)

-- the request that is taken at h
abbrev Taken : ℕ → Request → ℕ → Request → Type 0
Taken h r k q = (k ≡ h) × (r ≡ q)

-- it stood there before
taken_stood : (N : ℕ → Request → Type 0) (h : ℕ) (r : Request) (w v : World) → StandsAt r (w.handlers h) → Brings
    (Taken h r) w v → Brings N w v
taken_stood N h r w v stood p = record {
  brings = λ k q i. ⊎_elim
      (λ a. inl a)
      (λ b. inl (subst (λ y. StandsAt q (w.handlers y)) (sym b.0) (subst (λ z. StandsAt z (w.handlers h)) b.1 stood)))
      (p.brings k q i);
}

next_brings : (N : ℕ → Request → Type 0) (s : System) (h : ℕ) (rs : List Request) (w : World)
    → (w.handlers h).queue ≡ rs → Brings N w (takes_next s h rs w)
next_brings N s h [] w at = stays N w
next_brings N s h (r ∷ rs) w at =
    let x : Handler = record (w.handlers h) { queue = rs } in
    taken_stood N h r w _ (inl (subst (Has r) (sym at) (inl refl))) (brings_trans
    (put_brings (Taken h r) h x w (λ q i. inl (⊎_elim (λ a. inl (subst (Has q) (sym at) (inr a))) (λ b. inr b) i)))
    (errand_brings (Taken h r) s h r r.errand [] (put h x w) (refl, refl) (λ q i. absurd i)))

callback_brings : (N : ℕ → Request → Type 0) (s : System) (h : ℕ) (r : Request) (stack : List Frame) (w : World)
    → (w.handlers h).callback ≡ Some r → (w.handlers h).stack ≡ stack → Brings N w (takes_callback s h r stack w)
callback_brings N s h r stack w at on =
    let x : Handler = record (w.handlers h) { callback = None } in
    taken_stood N h r w _ (inr (inl (subst (λ c. Has r (to_list c)) (sym at) (inl refl)))) (brings_trans
    (put_brings (Taken h r) h x w (λ q i. inl
    (⊎_elim (λ a. inl a) (λ o. ⊎_elim (λ none. absurd none) (λ b. inr (inr b)) o) i)))
    (errand_brings (Taken h r) s h r r.errand stack (put h x w) (refl, refl)
    (λ q i. same_there h x w q (inr (inr (subst (λ st. Has q (begun_in st)) (sym on) i))))))

released_if_brings : (N : ℕ → Request → Type 0) (b : Bool) (k : ℕ) (w : World) → Brings N w (released_if b k w)
released_if_brings N false k w = stays N w
released_if_brings N true k w = release_brings N release_at.Creation (k ∷ []) w

answer_taken_brings : (N : ℕ → Request → Type 0) (h : ℕ) (a : Answer) (k : ℕ) (g : Option EntityType) (b : Bool)
    (f : Frame) (below : List Frame) (w : World) → (w.handlers h).stack ≡ f ∷ below → Brings N w
    (takes_answer h a k g b f below w)
answer_taken_brings N h (Reply v) k g b f below w on =
    brings_trans
    (put_brings N h (record (w.handlers h) { stack = handed_as g v f ∷ below; answer = None }) w
    (λ r i. ⊎_elim (λ a. inl (inl a)) (λ o. ⊎_elim (λ a. inl (inr (inl a)))
    (λ c. inl (inr (inr (subst (λ st. Has r (begun_in st)) (sym on)
    (subst (λ z. Has r (request_of z ++ begun_in below)) (handed_same g v f) c))))) o) i))
    (released_if_brings N b k _)
answer_taken_brings N h Failed k g b f below w on = fail_brings N h cause.SupplierFailed w
answer_taken_brings N h Refused k g b f below w on = fail_brings N h cause.Precondition w

-- ---- turns

-- posted by the handler of the turn, which held the other then or creates it now
abbrev New : ℕ → World → ℕ → Request → Type 0
New h w k r = (r.poster ≡ Some h) × ((held w.rights h k ≡ true) ⊎ (k ≡ w.count))

effect_brings : (N : ℕ → Request → Type 0) (most : ℕ) (s : System) (h : ℕ) (a : Act) (f : Frame) (below : List Frame)
    (w : World) → h < w.count → Stacks N h w (f ∷ below)
    → ((k : ℕ) (q : Request) → New h w k q → N k q) → Brings N w (effect most s h a f below w)
effect_brings N most s h (Prints text) f below w l ok new = put_brings N h
    (record (w.handlers h) { output = (w.handlers h).output ++ text }) w (λ q i. inl i)
effect_brings N most s h Until f below w l ok new = stays N w
effect_brings N most s h Creates f below w l ok new = stays N w
effect_brings N most s h Starts f below w l ok new = stays N w
effect_brings N most s h (CreatesHandler class procedure us t passing) f below w l ok new =
    creates_brings N most h class procedure us t passing f below w l ok (λ q by_h. new w.count q (by_h, inr refl))
effect_brings N most s h (Enters c me x us g) f below w l ok new =
    enters_brings N s h me (routine_named s me.class x) (Called c) (record f { stage = InCall g } ∷ below) []
    (values_of us) w ok
effect_brings N most s h (Requests r x us g passing) f below w l ok new =
    request_brings N h r x us g passing f below w ok (λ holds q by_h. new r.handler q (by_h, inl holds))
effect_brings N most s h (Refuses k) f below w l ok new = clause_brings N (verdict_on f k) s h f below w ok
effect_brings N most s h Opens f below w l ok new = stack_brings N h (record f { stage = ReservesBlock } ∷ below) w ok
effect_brings N most s h Leaves f below w l ok new = block_brings N h f.blocks f below w ok
effect_brings N most s h Exits f below w l ok new = exits_brings N s h f below w ok
effect_brings N most s h (Fails why) f below w l ok new = fail_brings N h why w

settles_brings : (most : ℕ) (s : System) (h : ℕ) (st : Step) (f : Frame) (below : List Frame) (w : World)
    → h < w.count → (w.handlers h).stack ≡ f ∷ below → Brings (New h w) w (settles most s h st f below w)
settles_brings most s h (Goes p) f below w l on = stays (New h w) w
settles_brings most s h (Does a p) f below w l on =
    let x : Handler = record (w.handlers h) { objects = p.objects; stack = frame_at f p ∷ below } in
    brings_trans
    (put_brings (New h w) h x w (λ r i. ⊎_elim (λ a. inl (inl a))
    (λ o. ⊎_elim (λ a. inl (inr (inl a))) (λ c. inl (inr (inr (subst (λ st. Has r (begun_in st)) (sym on) c)))) o)
    i))
    (effect_brings (New h w) most s h a (frame_at f p) below (put h x w) l
    (λ r i. inl (same_there h x w r (inr (inr i)))) (λ k q n. n))

on_brings : (most : ℕ) (s : System) (h : ℕ) (stage : Stage) (f : Frame) (below : List Frame) (w : World) → h < w.count
    → (w.handlers h).stack ≡ f ∷ below → Brings (New h w) w (goes_on most s h stage f below w)
on_brings most s h Runs f below w l on = settles_brings most s h
    (moves s f.current (point_of f (w.handlers h).objects)) f below w l on
on_brings most s h Reserves f below w l on = reserves_brings (New h w) (may_reserve (entry_needs h f w) f.mark w) h
    (entry_needs h f w) _ below w (λ r i. inl (inr (inr (subst (λ st. Has r (begun_in st)) (sym on) i))))
on_brings most s h ReservesBlock f below w l on = reserves_brings (New h w) (may_reserve (block_needs h f w) [] w) h
    (block_needs h f w) _ below w (λ r i. inl (inr (inr (subst (λ st. Has r (begun_in st)) (sym on) i))))
on_brings most s h (InCall g) f below w l on = fail_brings (New h w) h cause.BadCode w
on_brings most s h (Awaits k g b) f below w l on = by (w.handlers h).callback (w.handlers h).answer refl
  where
    by : (c : Option Request) (a : Option Answer) → (w.handlers h).callback ≡ c → Brings (New h w) w
        (waits s h c a k g b f below w)
    by (Some r) a e = callback_brings (New h w) s h r (f ∷ below) w e on
    by None (Some a) e = answer_taken_brings (New h w) h a k g b f below w on
    by None None e = stays (New h w) w

with_brings : (most : ℕ) (s : System) (h : ℕ) (why : Option Cause) (stack : List Frame) (w : World) → h < w.count
    → (w.handlers h).stack ≡ stack → Brings (New h w) w (turn_with most s h why stack w)
with_brings most s h (Some why) stack w l on = stays (New h w) w
with_brings most s h None [] w l on = next_brings (New h w) s h (w.handlers h).queue w refl
with_brings most s h None (f ∷ below) w l on = on_brings most s h f.stage f below w l on

pub posted_under_right : PostedUnderRight
posted_under_right most s h w k r i =
    let b = if_brings (New h w) w (nat_lt h w.count)
    (turn_with most s h (w.handlers h).failure (w.handlers h).stack w) w
    (λ e. with_brings most s h (w.handlers h).failure (w.handlers h).stack w (ltb-true h w.count e) refl)
    (λ _. stays (New h w) w) in
    ⊎_elim (λ a. inl (stands_to r (w.handlers k) a)) (λ n. inr n)
    (b.brings k r (stands_from r ((turn most s h w).handlers k) i))
