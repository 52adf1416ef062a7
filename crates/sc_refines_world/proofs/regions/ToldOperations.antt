-- What a turn makes of a store, and what it asks, where the operation that it came to was told.
use Rattle.std.proofs.Common.{◌≡◌, ◌≤◌, ◌<◌, ℕ, zero, suc, ◌+◌, Bool, true, false, not, List, [], ◌∷◌, Option, Some, None, length, drop, refl, sym, ap, ◌∙◌, subst, arith}
use Rattle.std.specs.Prelude.{◌||◌, ◌&&◌, nat_lt, slice_set, if◌then◌else◌}
use Rattle.sc_code.specs.declared.program.Image.{Image}
use Rattle.sc_code.specs.RequestRoom.{FitsRequests}
use Rattle.sc_region.specs.declared.frame.Stage.TheVariants as stage
use Rattle.sc_region.specs.declared.value.Value.{Value}
use Rattle.sc_region.specs.Frames.{PlainActivation, PlainFrame, top_activation}
use Rattle.sc_region.specs.Stores.{PlainStore}
use Rattle.sc_acts.specs.declared.act.Act.{Act}
use Rattle.sc_acts.specs.declared.act.Act.TheVariants as act
use Rattle.sc_acts.specs.declared.act.Calling.{Calling}
use Rattle.sc_acts.specs.declared.act.Calling.TheVariants as calling
use Rattle.sc_acts.specs.Creating.{has_room, with_reference, without_last}
use Rattle.sc_region.specs.Calls.{last_values, taken, on_top, past, top_frame}
use Rattle.sc_acts.specs.Entering.{Has, HasCall, has_operands, operands_of}
use Rattle.sc_refines_world.specs.regions.Laws.{ProgramsServe}
use Rattle.sc_refines_world.specs.regions.RegionHalves.{IsRegionOf}
use Rattle.sc_refines_world.specs.regions.RegionSteps.{names_of}
use Rattle.sc_refines_world.specs.regions.RegionTurns.{turn}
use Rattle.sc_acts.specs.Tables.{name_at}
use Rattle.sc_interp.specs.Told.{HasName, HasProcedure, IsReady, IsReadyAt, NamesCall, NamesCreation}
use Rattle.sc_interp.proofs.GoingOn.{less_is, more_is}
use Rattle.sc_acts.proofs.Options.{none_some, some_same}
use Rattle.sc_acts.specs.Acting.{acted}
use Rattle.sc_acts.specs.Blocks as blocks
use Rattle.sc_acts.specs.Blocks.{heads_in, may_open, opened_with}
use Rattle.sc_acts.specs.CreatingHandlers as creating
use Rattle.sc_acts.specs.CreatingHandlers.{created_as, creation_by, creation_in, creation_of, creation_with, may_create}
use Rattle.sc_acts.specs.Operands.{has_actuals, has_call}
use Rattle.sc_acts.specs.Requesting as requesting
use Rattle.sc_acts.specs.Requesting.{call_of, request_by, request_in, request_of, sent}
use Rattle.sc_refines_world.specs.regions.Acting as acting
use Rattle.sc_refines_world.specs.regions.Acting.{Comes}
use Rattle.sc_refines_world.specs.regions.Told.{ToldBlocksBegin, ToldCallsAreMade, ToldHandlersAreCreated, ToldObjectsAreCreated, ToldObjectsAreCreatedBy, ToldRequestsAreMade, Turns}
use Rattle.sc_refines_world.specs.regions.Wanting.{IsNumbered, IsProcedure, MayCreate, MayRequest}
use Rattle.sc_refines_world.proofs.regions.Calls.{calls_are_made}
use Rattle.sc_refines_world.proofs.regions.Creations.{objects_are_created}
use Rattle.sc_refines_world.proofs.regions.ProcedureCreations.{objects_are_created_by_name}
use Rattle.sc_refines_world.proofs.regions.StageChanges.{blocks_begin, handlers_are_created, requests_are_made}
use Rattle.sc_refines_world.proofs.regions.TurnWants.{creations_ask, distinct_names_have_numbers, requests_ask}

-- ---- the topmost routine

pub ready_in : (p : Image) (a : Act) (o : Option PlainActivation) → IsReadyAt p a o → (b : PlainActivation) × (o ≡ Some b) × IsReady p a b
ready_in p a None t = absurd t
ready_in p a (Some b) t = (b, refl, t)

frames_same : (f g : PlainActivation → PlainActivation) → ((a : PlainActivation) → f a ≡ g a) → (fs : List PlainFrame) → top_frame f fs ≡ top_frame g fs
frames_same f g e [] = refl
frames_same f g e (t ∷ below) = ap (λ a. record t { activation = a } ∷ below) (e t.activation)

top_same : (f g : PlainActivation → PlainActivation) → ((a : PlainActivation) → f a ≡ g a) → (z : PlainStore) → on_top f z ≡ on_top g z
top_same f g e z = ap (λ fs. record z { frames = fs }) (frames_same f g e z.frames)

await_same : (b : Bool) (k : ℕ) (gives c : Bool) (a : PlainActivation) → acting.awaiting_if b k gives c a ≡ requesting.awaiting_if b k gives c a
await_same true k gives c a = refl
await_same false k gives c a = refl

-- ---- operands

both_true : (a b : Bool) → a ≡ true → b ≡ true → a && b ≡ true
both_true true b e f = f
both_true false b e f = cc

actuals_there : (n : ℕ) (a : PlainActivation) → n < 17 → n ≤ length a.operands.values → has_actuals n a ≡ true
actuals_there n a l m = both_true (nat_lt n 17) (not (nat_lt (length a.operands.values) n)) (less_is n 17 l) (ap not (more_is (length a.operands.values) n m))

pub operands_there : (n : ℕ) (a : PlainActivation) → n < 18 → n ≤ length a.operands.values → has_operands n a ≡ true
operands_there n a l m = both_true (nat_lt n 18) (not (nat_lt (length a.operands.values) n)) (less_is n 18 l) (ap not (more_is (length a.operands.values) n m))

pub call_there : (n : ℕ) (a : PlainActivation) → n < 17 → n + 1 ≤ length a.operands.values → has_call n a ≡ true
call_there n a l m = both_true (nat_lt n 17) (nat_lt n (length a.operands.values)) (less_is n 17 l) (less_is n (length a.operands.values) (omega (arith, m)))

few_operands : (c : Calling) (n : ℕ) → n < 17 → operands_of c n < 18
few_operands calling.Unqualified n l = omega (arith, l)
few_operands calling.Qualified n l = omega (arith, l)

pub enter_there : (c : Calling) (n : ℕ) (a : PlainActivation) → n < 17 → operands_of c n ≤ length a.operands.values → nat_lt n 17 && has_operands (operands_of c n) a ≡ true
enter_there c n a l m = both_true (nat_lt n 17) (has_operands (operands_of c n) a) (less_is n 17 l) (operands_there (operands_of c n) a (few_operands c n l) m)

pub creation_there : (n : ℕ) (a : PlainActivation) → n < 17 → n ≤ length a.operands.values → length (drop n a.operands.values) < a.operands.depth → may_create n a ≡ true
creation_there n a l m room = both_true (has_actuals n a) (has_room n a) (actuals_there n a l m) (less_is (length (drop n a.operands.values)) a.operands.depth room)

pub heads_there : (first n : ℕ) (a : PlainActivation) → n < 17 → n ≤ length a.operands.values → first + n ≤ length a.slots → may_open first n a ≡ true
heads_there first n a l m slots =
    both_true (has_actuals n a) (not (nat_lt (length a.slots) (first + n))) (actuals_there n a l m) (ap not (more_is (length a.slots) (first + n) slots))

taken_many : (n : ℕ) (us vs : List Value) → n ≤ length vs → length (taken n us vs) ≡ n + length us
taken_many zero us vs l = omega (arith)
taken_many (suc n) us [] l = absurd (omega (arith, l))
taken_many (suc n) us (v ∷ vs) l = let e = taken_many n (v ∷ us) vs (omega (arith, l)) in omega (arith, e)

written_same : (k : ℕ) (vs slots : List Value) → acting.written k vs slots ≡ blocks.written k vs slots
written_same k [] slots = refl
written_same k (v ∷ vs) slots = written_same (suc k) vs (slice_set slots k v)

opened_so : (first n : ℕ) (a : PlainActivation) (vs : List Value) → last_values n a.operands.values ≡ vs → length vs ≡ n → acting.opening first n a ≡ blocks.opening first vs a
opened_so first n a vs same many =
    ap (λ us. record (past n a) { slots = acting.written first us a.slots; stage = stage.ReservesBlock }) same
    ∙ ap (λ slots. record (past n a) { slots = slots; stage = stage.ReservesBlock }) (written_same first vs a.slots)
    ∙ ap (λ m. record (past m a) { slots = blocks.written first vs a.slots; stage = stage.ReservesBlock }) (sym many)

opened_frames : (first n : ℕ) (fs : List PlainFrame) (a : PlainActivation) (vs : List Value) → top_activation fs ≡ Some a → last_values n a.operands.values ≡ vs → length vs ≡ n →
    top_frame (acting.opening first n) fs ≡ top_frame (blocks.opening first vs) fs
opened_frames first n [] a vs top same many = none_some a top
opened_frames first n (f ∷ below) a vs top same many =
    ap (λ b. record f { activation = b } ∷ below) (opened_so first n f.activation vs (ap (λ (b : PlainActivation). last_values n b.operands.values) (some_same f.activation a top) ∙ same) many)

-- ---- names and sites

pub few_actuals : (p : Image) (x n : ℕ) (gives : Bool) → FitsRequests p → NamesCall p x n gives → n < 17
few_actuals p x n gives fits c = subst (λ n. n < 17) c.count (fits.calls c.is_call.number c.site c.is_call.there)

pub name_there : (p : Image) (x n : ℕ) (gives : Bool) → NamesCall p x n gives → HasName p x
name_there p x n gives c = subst (λ x. HasName p x) c.name c.is_call.named

pub procedure_there : (p : Image) (class : ℕ) (x : Option ℕ) (n : ℕ) → NamesCreation p class x n → HasProcedure p x
procedure_there p class x n c = subst (λ x. HasProcedure p x) c.procedure c.is_creation.named

pub small_creation : (p : Image) (class : ℕ) (x : Option ℕ) (n : ℕ) → FitsRequests p → NamesCreation p class x n → (n < 17) × (class < 256)
small_creation p class x n fits c =
    let l = fits.creations c.is_creation.number c.site c.is_creation.there in
    (subst (λ n. n < 17) c.count l.0, subst (λ k. k < 256) c.class l.1)

pub numbered : (z : PlainStore) (x : ℕ) → FitsRequests z.program → HasName z.program x → IsNumbered z x
numbered z x fits e = distinct_names_have_numbers (names_of z) x (name_at z.program x) fits.distinct e

pub procedure_numbered : (z : PlainStore) (x : Option ℕ) → FitsRequests z.program → HasProcedure z.program x → IsProcedure z x
procedure_numbered z None fits e = tt
procedure_numbered z (Some x) fits e = numbered z x fits e

-- ---- the laws

module _ (serve : ProgramsServe) where
  pub told_calls_are_made : ToldCallsAreMade
  told_calls_are_made h c r k n gives y z t s x is region =
      let b = ready_in z.program (act.Enter c r k n gives) (top_activation z.frames) t.told in
      let named = b.2.named in
      let has : HasCall c n (top_activation z.frames) = subst (λ o. HasCall c n o) (sym b.1) (enter_there c n b.0 (few_actuals z.program k n gives t.fits named) b.2.operands) in
      calls_are_made serve c r k n gives (name_at z.program k) y z t.comes (name_there z.program k n gives named) has s h x is region

  pub told_requests_are_made : ToldRequestsAreMade
  told_requests_are_made h r k n gives passes y z t =
      let b = ready_in z.program (act.Request (call_of r k n gives passes)) (top_activation z.frames) t.told in
      let a = b.0 in
      let c = call_of r k n gives passes in
      let name = name_there z.program k n gives b.2.named in
      let there = call_there n a (few_actuals z.program k n gives t.fits b.2.named) b.2.operands in
      let asked : request_in h c (top_activation z.frames) ≡ Some (request_by h c a) =
      ap (request_in h c) b.1 ∙ ap (λ b. if b then Some (request_by h c a) else None) there in
      let made : on_top (acting.sending r n gives passes) z ≡ acted h (act.Request (call_of r k n gives passes)) z =
      top_same (acting.sending r n gives passes) (requesting.sending c) (λ a. await_same (passes || gives) r.handler gives false (without_last (past n a))) z ∙ sym (ap (λ q. sent q c z) asked) in
      let turns : Turns h (act.Request (call_of r k n gives passes)) y z = λ s x is region. subst (λ w. IsRegionOf s (turn s h x) w) made (requests_are_made serve r k n gives passes y z t.comes s h x is region) in (
        turns,
        λ s x is region.
            requests_ask serve h r k n gives passes y z (acted h (act.Request (call_of r k n gives passes)) z) t.comes (numbered z k t.fits name)
            (subst (λ o. MayRequest n o) (sym b.1) there) s x is region (turns s x is region),
      )

  pub told_handlers_are_created : ToldHandlersAreCreated
  told_handlers_are_created h class k n passes y z t =
      let o = act.CreateHandler (creation_with class k n passes) in
      let b = ready_in z.program o (top_activation z.frames) t.told in
      let a = b.0 in
      let c = creation_with class k n passes in
      let small = small_creation z.program class k n t.fits b.2.named in
      let name = procedure_there z.program class k n b.2.named in
      let there = creation_there n a small.0 b.2.operands (b.2.room refl) in
      let asked : creation_in c (top_activation z.frames) ≡ Some (creation_by c a) =
      ap (creation_in c) b.1 ∙ ap (λ b. if b then Some (creation_by c a) else None) there in
      let made : on_top (acting.creating h class n passes) z ≡ acted h o z =
      top_same (acting.creating h class n passes) (creating.creating (creating.first_object h class) c) (λ a. await_same passes h false true (with_reference (acting.first_object h class) (past n a))) z
      ∙ sym (ap (λ q. created_as q (creating.first_object h class) c z) asked) in
      let turns : Turns h o y z = λ s x is region. subst (λ w. IsRegionOf s (turn s h x) w) made (handlers_are_created serve h class k n passes y z t.comes s x is region) in (
        turns,
        λ s x is region.
            creations_ask serve h class k n passes y z (acted h o z) t.comes (procedure_numbered z k t.fits name)
            (subst (λ o. MayCreate n o) (sym b.1) there) s x is region (turns s x is region),
      )

  pub told_blocks_begin : ToldBlocksBegin
  told_blocks_begin h first n y z t s x is region =
      let o = act.Open first n in
      let b = ready_in z.program o (top_activation z.frames) t.told in
      let a = b.0 in
      let vs = last_values n a.operands.values in
      let few = t.fits.blocks b.2.named.0 _ b.2.named.1 in
      let there = heads_there first n a few b.2.operands b.2.slots in
      let many : length vs ≡ n = let e = taken_many n [] a.operands.values b.2.operands in omega (arith, e) in
      let opens : heads_in first n (top_activation z.frames) ≡ Some vs = ap (heads_in first n) b.1 ∙ ap (λ b. if b then Some vs else None) there in
      let here : on_top (acting.opening first n) z ≡ on_top (blocks.opening first vs) z = ap (λ fs. record z { frames = fs }) (opened_frames first n z.frames a vs b.1 refl many) in
      subst (λ w. IsRegionOf s (turn s h x) w) (here ∙ sym (ap (λ q. opened_with first q z) opens)) (blocks_begin serve first n y z t.comes s h x is region)

  pub told_objects_are_created : ToldObjectsAreCreated
  told_objects_are_created h class n y z t creator s x is region = objects_are_created serve h class n y z t.comes creator s h x is region

  pub told_objects_are_created_by : ToldObjectsAreCreatedBy
  told_objects_are_created_by h class k n routine y z t own room found s x is region =
      let b = ready_in z.program (act.Create class (Some k) n) (top_activation z.frames) t.told in
      let small = small_creation z.program class (Some k) n t.fits b.2.named in
      let name = procedure_there z.program class (Some k) n b.2.named in
      let has : Has n (top_activation z.frames) = subst (λ o. Has n o) (sym b.1) (let l = small.0 in operands_there n b.0 (omega (arith, l)) b.2.operands) in
      objects_are_created_by_name serve h class k n (name_at z.program k) y z t.comes own name has room (λ few. (routine, found)) s h x is region
