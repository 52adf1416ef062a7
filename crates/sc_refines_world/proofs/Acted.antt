-- What visible operations leave is what flat code tells.
use Rattle.std.proofs.Common.{◌≡◌, ◌⊎◌, inl, inr, ℕ, ◌+◌, Bool, true, false, List, [], ◌∷◌, ◌++◌, Option, Some, None, drop, length, refl, sym, ap, ◌∙◌, subst}
use Rattle.std.proofs.lemmas.List.{length-map}
use Rattle.std.specs.Prelude.{◌&&◌, ◌||◌, nat_lt, if◌then◌else◌}
use Rattle.sc_tree.specs.Plain.{System}
use Rattle.sc_model.specs.Invariants.{meets_invariant}
use Rattle.sc_model.specs.Limits.{max_objects}
use Rattle.sc_model.specs.Objects as model_objects
use Rattle.sc_model.specs.Steps.{Creation}
use Rattle.sc_model.specs.Values as model
use Rattle.sc_model.specs.declared.cause.Cause.{Cause}
use Rattle.sc_model.specs.declared.cause.Cause.TheVariants as cause
use Rattle.sc_code.specs.declared.program.Image.{Image}
use Rattle.sc_code.specs.Machine as flat
use Rattle.sc_code.specs.Machine.{Code, Hop, State, fails, stuck}
use Rattle.sc_code.specs.Programs.{pool_of}
use Rattle.sc_code.specs.RequestRoom.{FitsRequests}
use Rattle.sc_region.specs.declared.frame.Origin.{Origin}
use Rattle.sc_region.specs.declared.frame.Origin.TheVariants as origin
use Rattle.sc_region.specs.declared.job.Request.{Request}
use Rattle.sc_region.specs.declared.job.Want.{Want}
use Rattle.sc_region.specs.declared.value.Reference.{Reference}
use Rattle.sc_region.specs.declared.value.Value.{Value}
use Rattle.sc_region.specs.Calls.{in_call, last_values, next_place, on_top, past, top_frame}
use Rattle.sc_region.specs.Classes.{object_breaks, object_meets, routine_at}
use Rattle.sc_region.specs.Frames.{PlainActivation, PlainFrame, frame_with, top_activation}
use Rattle.sc_region.specs.Objects.{PlainObject, object_numbered}
use Rattle.sc_region.specs.Stores as store
use Rattle.sc_region.specs.Stores.{PlainStore, born, born_for, entered, failed, is_settled, left, made, next_reference, with_new}
use Rattle.sc_acts.specs.declared.act.Act.{Act}
use Rattle.sc_acts.specs.declared.act.Act.TheVariants as act
use Rattle.sc_acts.specs.declared.act.Calling.{Calling}
use Rattle.sc_acts.specs.declared.act.Calling.TheVariants as calling
use Rattle.sc_interp.specs.declared.hops.Hop as outcome
use Rattle.sc_interp.specs.declared.hops.Hop.TheVariants as hop
use Rattle.sc_acts.specs.Creating.{given, has_room, has_room_in, made_if, with_reference, without_last}
use Rattle.sc_acts.specs.Entering.{entered_if, has_operands, operands_of, origin_of, routine_in}
use Rattle.sc_acts.specs.Exiting.{is_unset, is_untested, returned}
use Rattle.sc_interp.specs.Hopping.{IsVisible}
use Rattle.sc_interp.specs.Objects.{object_in, objects_in}
use Rattle.sc_acts.specs.Refusing.{is_waited_for, refused_as, waiting}
use Rattle.sc_acts.specs.Tables.{version_in, formals_at, name_at}
use Rattle.sc_interp.specs.Standing as standing
use Rattle.sc_interp.specs.Standing.{actuals, hopped, state_of, without}
use Rattle.sc_interp.specs.Told as told
use Rattle.sc_interp.specs.Told.{HasName, HasProcedure, IsReady, NamesCall, NamesCreation}
use Rattle.sc_acts.specs.Turning.{back}
use Rattle.sc_interp.specs.Values.{reference_of, value_of, values_of}
use Rattle.sc_interp.proofs.Operands.{values_drop}
use Rattle.sc_acts.specs.Acting.{acted}
use Rattle.sc_acts.specs.Blocks as blocks
use Rattle.sc_acts.specs.Leaving.{closing, innermost, left_with}
use Rattle.sc_acts.specs.Blocks.{may_open, opened_with}
use Rattle.sc_acts.specs.CreatingHandlers as handlers
use Rattle.sc_acts.specs.CreatingHandlers.{created_as, creation_in, first_object}
use Rattle.sc_acts.specs.CreatingObjects.{created_with}
use Rattle.sc_acts.specs.declared.act.RemoteCreation.{RemoteCreation}
use Rattle.sc_acts.specs.declared.act.RemoteCall.{RemoteCall}
use Rattle.sc_acts.specs.Requesting.{awaiting_if, request_in, sending, sent, is_waited}
use Rattle.sc_play.specs.Turns.{done}
use Rattle.sc_refines_world.specs.regions.RegionSteps.{number_among}
use Rattle.sc_refines_world.specs.regions.Wanting.{DistinctNamesHaveNumbers}
use Rattle.sc_refines_world.proofs.Exact.{Grown}
use Rattle.sc_refines_world.proofs.Molds.{Mold, OneOf, Told, coded_mold, entry_mold, mold_at, mold_of, molds_of, next_mold}
use Rattle.sc_refines_world.proofs.LeftStores.{Left, still, values_written, values_taken, either, weaken, fallen_one, settled_one, entered_one, entered_if_one, handed_one}

-- ---- visible operations

-- The topmost routine runs on this object in this code, and stands so in the store; the other frames are the rest.
module _ (distinct : DistinctNamesHaveNumbers) (h : ℕ) (s : System) (c : Code) (me : Reference) (z : PlainStore) (t : PlainActivation) (rest : List PlainFrame) (fits : FitsRequests z.program)
    (depth : t.operands.depth ≡ c.depth) where
  abbrev p : Image
  p = z.program

  abbrev os : List PlainObject
  os = z.objects

  abbrev here : PlainStore
  here = record z { frames = frame_with me t ∷ rest }

  abbrev f : State
  f = state_of (objects_in s os) t

  abbrev n : ℕ
  n = t.routine

  abbrev r : ℕ
  r = t.olds.room

  abbrev ms : List Mold
  ms = molds_of rest

  -- what flat code tells, where the operation is this one
  abbrev Says : Act → List Mold → Type 0
  Says a = Told p n r ms (standing.done p s c (reference_of me) a f)

  abbrev vs : List Value
  vs = t.operands.values

  unmoved : Grown p os here
  unmoved = still p os here refl refl

  passed : (b : PlainActivation) → mold_of (frame_with me b) ≡ mold_at n (next_place t.place) r (values_of t.slots) → OneOf (mold_at n (t.place + 1) r (values_of t.slots) ∷ ms) (mold_of (frame_with me b) ∷ ms)
  passed b e = inr (ap (λ m. m ∷ ms) e ∙ next_mold n t.place r (values_of t.slots) ms)

  -- it prints, tests a loop's end, or begins a body
  simple : (k : ℕ) (x : PlainStore) → x.program ≡ p → x.objects ≡ os → x.frames ≡ frame_with me t ∷ rest →
      Left p os (OneOf (mold_at n (t.place + 1) r (values_of t.slots) ∷ ms)) (on_top (past k) x)
  simple k x e d fs = record {
    grown = still p os (on_top (past k) x) e d;
    tells = subst (λ (gs : List PlainFrame). OneOf (mold_at n (t.place + 1) r (values_of t.slots) ∷ ms) (molds_of (top_frame (past k) gs))) (sym fs) (passed (past k t) refl);
  }

  named : (x : ℕ) → HasName p x → number_among (name_at p x) (pool_of p.pool).names ≡ x
  named x e = distinct (pool_of p.pool).names x (name_at p x) fits.distinct e

  given_same : (k : ℕ) → values_of (last_values k vs) ≡ actuals k (values_of vs)
  given_same k = values_taken k [] vs

  -- a routine is entered over the topmost one
  over : (q : Reference) (x : ℕ) (k : ℕ) (ns : List Mold) → HasName p x → (y : PlainStore) →
      Left p os (OneOf (entry_mold p (routine_in (version_in p q.class x)) (values_of (last_values k vs)) ns)) y →
      Left p os (OneOf (entry_mold p (routine_in (version_in p q.class (number_among (name_at p x) (pool_of p.pool).names))) (actuals k (values_of vs)) ns)) y
  over q x k ns name y l =
      subst (λ (us : List model.Value). Left p os (OneOf (entry_mold p (routine_in (version_in p q.class (number_among (name_at p x) (pool_of p.pool).names))) us ns)) y) (given_same k)
      (subst (λ (i : ℕ). Left p os (OneOf (entry_mold p (routine_in (version_in p q.class i)) (values_of (last_values k vs)) ns)) y) (sym (named x name)) l)

  -- the molds of a caller
  caller : (k : ℕ) (gives : Bool) → molds_of (on_top (in_call k gives) here).frames ≡ mold_at n (t.place + 1) r (values_of t.slots) ∷ ms
  caller k gives = next_mold n t.place r (values_of t.slots) ms

  -- ---- calls

  entering : (calling : Calling) (q : Reference) (x k : ℕ) (gives : Bool) → HasName p x →
      Left p os (OneOf (entry_mold p (routine_in (version_in p q.class (number_among (name_at p x) (pool_of p.pool).names))) (actuals k (values_of vs))
      (mold_at n (t.place + 1) r (values_of t.slots) ∷ ms))) (acted h (act.Enter calling q x k gives) here)
  entering calling q x k gives name =
      let ns = mold_at n (t.place + 1) r (values_of t.slots) ∷ ms in
      let on : PlainStore = on_top (in_call (operands_of calling k) gives) here in
      let v = routine_in (version_in p q.class x) in
      let entered_so : Left p os (OneOf (entry_mold p v (values_of (last_values k vs)) ns)) (entered_if v q (origin_of calling) (last_values k vs) on) =
      subst (λ (ks : List Mold). Left p os (OneOf (entry_mold p v (values_of (last_values k vs)) ks)) (entered_if v q (origin_of calling) (last_values k vs) on)) (caller (operands_of calling k) gives)
      (entered_if_one p os v q (origin_of calling) (last_values k vs) on (still p os on refl refl)) in
      either p os _ (nat_lt k 17 && has_operands (operands_of calling k) t) _ _ (over q x k ns name _ entered_so) (fallen_one p os _ _ here unmoved)

  -- ---- requests and handlers

  awaits_mold : (b : Bool) (k : ℕ) (gives is_creation : Bool) (a : PlainActivation) → mold_of (frame_with me (awaiting_if b k gives is_creation a)) ≡ mold_of (frame_with me a)
  awaits_mold true k gives is_creation a = refl
  awaits_mold false k gives is_creation a = refl

  requesting : (q : Option Request) (call : RemoteCall) → Left p os (OneOf (mold_at n (t.place + 1) r (values_of t.slots) ∷ ms)) (sent q call here)
  requesting None call = fallen_one p os _ _ here unmoved
  requesting (Some q) call = record {
    grown = still p os (on_top (sending call) here) refl refl;
    tells = passed (sending call t) (awaits_mold (is_waited call) call.object.handler call.gives false (without_last (past call.count t)));
  }

  creating_as : (w : Option Want) (q : Reference) (call : RemoteCreation) → Left p os (OneOf (mold_at n (t.place + 1) r (values_of t.slots) ∷ ms)) (created_as w q call here)
  creating_as None q call = fallen_one p os _ _ here unmoved
  creating_as (Some w) q call = record {
    grown = still p os (on_top (handlers.creating q call) here) refl refl;
    tells = passed (handlers.creating q call t) (awaits_mold call.passes q.handler false true (with_reference q (past call.count t)));
  }

  creating : (call : RemoteCreation) → Left p os (OneOf (mold_at n (t.place + 1) r (values_of t.slots) ∷ ms)) (handlers.handler_created h call here)
  creating call = creating_as (creation_in call (Some t)) (first_object h call.class) call

  -- ---- objects of the same handler

  -- an object is given to the topmost routine of a store, if there is one
  given_one : (k : ℕ) (q : Reference) (x : PlainStore) → Grown p os x → (x.frames ≡ []) ⊎ (x.frames ≡ frame_with me t ∷ rest) →
      Left p os (OneOf (mold_at n (t.place + 1) r (values_of t.slots) ∷ ms)) (given k q x)
  given_one k q x g (inl e) =
      either p os _ (has_room_in k (top_activation x.frames)) _ _
      (record { grown = record { program = g.program; objects = g.objects }; tells = inl (ap (λ gs. molds_of (top_frame (with_reference q) (top_frame (past k) gs))) e) })
      (fallen_one p os _ _ x g)
  given_one k q x g (inr e) =
      either p os _ (has_room_in k (top_activation x.frames)) _ _
      (record {
        grown = record { program = g.program; objects = g.objects };
        tells = subst (λ (gs : List PlainFrame). OneOf (mold_at n (t.place + 1) r (values_of t.slots) ∷ ms) (molds_of (top_frame (with_reference q) (top_frame (past k) gs)))) (sym e)
            (passed (with_reference q (past k t)) refl);
      })
      (fallen_one p os _ _ x g)

  -- the store with a new object, or without, has the frames, or none
  pub record Gives (x : PlainStore) : Type 0 where
    pub grown : Grown p os x
    pub frames : (x.frames ≡ []) ⊎ (x.frames ≡ frame_with me t ∷ rest)

  gives_either : (b : Bool) (x y : PlainStore) → Gives x → Gives y → Gives (if b then x else y)
  gives_either true x y l m = l
  gives_either false x y l m = m

  gives_none : (why : Cause) (x : PlainStore) → Grown p os x → Gives (failed why x)
  gives_none why x g = record { grown = record { program = g.program; objects = g.objects }; frames = inl refl }

  made_gives : (class : ℕ) → Gives (made class here)
  made_gives class =
      let new : PlainStore = with_new class here in
      let grown : Grown p os new = record { program = refl; objects = inr (class, refl) } in
      gives_either (nat_lt (length os) store.max_objects) (born class here) _
      (gives_either (is_settled (length os + 1) new && object_breaks new.program (object_numbered (length os + 1) new.objects)) _ new (gives_none _ new grown) (record { grown = grown; frames = inr refl }))
      (gives_none _ here unmoved)

  abbrev me_flat : model.Reference
  me_flat = reference_of me

  if_told : (b : Bool) (x y : Hop) (ks : List Mold) → Told p n r ms x ks → Told p n r ms y ks → Told p n r ms (if b then x else y) ks
  if_told true x y ks l m = l
  if_told false x y ks l m = m

  -- the state with a new object of the class, whose operands, so many, are gone
  abbrev bigger : (class k : ℕ) → State
  bigger class k = record (without k f) { objects = f.objects ++ model_objects.fresh_object s class ∷ [] }

  abbrev new_object : ℕ → model.Reference
  new_object class = record { handler = me.handler; number = length f.objects + 1; class = class }

  -- and the reference is given, where there is room for it
  abbrev given_to : flat.Act → (class k : ℕ) → Hop
  given_to a class k = flat.does a (record (bigger class k) { values = model.Attached (new_object class) ∷ drop k (values_of vs) })

  abbrev with_room : flat.Act → (class k : ℕ) → Hop
  with_room a class k = if nat_lt (length (drop k (values_of vs))) c.depth then given_to a class k else stuck (bigger class k)

  abbrev tested : (class k : ℕ) → Hop
  tested class k = if meets_invariant s (model_objects.fresh_object s class) then with_room flat.Creates class k else fails cause.Invariant (bigger class k)

  -- without a procedure
  created_says : (class k : ℕ) (ks : List Mold) → OneOf (mold_at n (t.place + 1) r (values_of t.slots) ∷ ms) ks → Says (act.Create class None k) ks
  created_says class k ks one =
      let room = if_told (nat_lt (length (drop k (values_of vs))) c.depth) (given_to flat.Creates class k) (stuck (bigger class k)) ks one one in
      let met = if_told (meets_invariant s (model_objects.fresh_object s class)) (with_room flat.Creates class k) (fails cause.Invariant (bigger class k)) ks room one in
      if_told (nat_lt (length f.objects) max_objects) (tested class k) (fails cause.TooManyObjects (without k f)) ks met one

  created_none : (class k : ℕ) → Left p os (Says (act.Create class None k)) (created_with None (next_reference h class here) k here)
  created_none class k =
      let m = made_gives class in
      let q = next_reference h class here in
      weaken p os (OneOf (mold_at n (t.place + 1) r (values_of t.slots) ∷ ms)) (Says (act.Create class None k)) (given k q (made class here)) (created_says class k)
      (given_one k q (made class here) m.grown m.frames)

  -- by one
  made_if_one : (v : Option ℕ) (q : Reference) (k : ℕ) →
      Left p os (OneOf (entry_mold p v (values_of (last_values k vs)) (mold_at n (t.place + 1) r (values_of t.slots) ∷ ms)))
      (made_if v q (last_values k vs) (on_top (with_reference q) (on_top (in_call k false) here)))
  made_if_one None q k = fallen_one p os [] _ (on_top (with_reference q) (on_top (in_call k false) here)) (still p os _ refl refl)
  made_if_one (Some i) q k =
      let x : PlainStore = on_top (with_reference q) (on_top (in_call k false) here) in
      let us = last_values k vs in
      let ns = mold_at n (t.place + 1) r (values_of t.slots) ∷ ms in
      let to = next_reference q.handler q.class x in
      let y : PlainStore = with_new to.class x in
      let grown : Grown p os y = record { program = refl; objects = inr (q.class, refl) } in
      let on : Left p os (OneOf (coded_mold i (routine_at p i) (values_of us) ns)) (entered to i origin.Creation us y) =
      subst (λ (ks : List Mold). Left p os (OneOf (coded_mold i (routine_at p i) (values_of us) ks)) (entered to i origin.Creation us y)) (next_mold n t.place r (values_of t.slots) ms)
      (entered_one p os to i origin.Creation us y grown) in
      either p os _ (nat_lt (length x.objects) store.max_objects) (born_for to i origin.Creation us x) _
      (settled_one p os _ (length x.objects + 1) (entered to i origin.Creation us y) on)
      (fallen_one p os _ _ x (still p os x refl refl))

  -- what flat code does there, where there may be one more object, and one more operand
  abbrev created_by_flat : Bool → Bool → (class x k : ℕ) → Hop
  created_by_flat b d class x k =
      if b then (if d then given_to (flat.Enters Creation (new_object class) (name_at p x) (actuals k (values_of vs)) false) class k else stuck (bigger class k))
      else fails cause.TooManyObjects (without k f)

  abbrev created_by_store : Bool → Bool → (class x k : ℕ) → PlainStore
  created_by_store b d class x k =
      if b then
      (if d && has_operands k t
      then made_if (routine_in (version_in p class x)) (next_reference h class here) (last_values k vs) (on_top (with_reference (next_reference h class here)) (on_top (in_call k false) here))
      else failed cause.BadCode here)
      else failed cause.TooManyObjects here

  created_cases : (b d : Bool) (class x k : ℕ) → HasName p x → Left p os (Told p n r ms (created_by_flat b d class x k)) (created_by_store b d class x k)
  created_cases false d class x k name = fallen_one p os _ _ here unmoved
  created_cases true false class x k name = fallen_one p os _ _ here unmoved
  created_cases true true class x k name =
      let q = next_reference h class here in
      either p os _ (has_operands k t) _ _ (over q x k (mold_at n (t.place + 1) r (values_of t.slots) ∷ ms) name _ (made_if_one (routine_in (version_in p class x)) q k))
      (fallen_one p os _ cause.BadCode here unmoved)

  created_named : (class x k : ℕ) → HasName p x → Left p os (Says (act.Create class (Some x) k)) (created_with (Some x) (next_reference h class here) k here)
  created_named class x k name =
      let few : nat_lt (length f.objects) max_objects ≡ nat_lt (length os) store.max_objects = ap (λ i. nat_lt i store.max_objects) (length-map os (object_in s)) in
      let roomy : nat_lt (length (drop k (values_of vs))) c.depth ≡ has_room k t =
      ap (λ i. nat_lt (length (drop k (values_of vs))) i) (sym depth) ∙ ap (λ i. nat_lt i t.operands.depth) (ap length (sym (values_drop k vs)) ∙ length-map (drop k vs) value_of) in
      let cases = created_cases (nat_lt (length os) store.max_objects) (has_room k t) class x k name in
      subst (λ b. Left p os (Told p n r ms (created_by_flat b (nat_lt (length (drop k (values_of vs))) c.depth) class x k)) (created_by_store (nat_lt (length os) store.max_objects) (has_room k t) class x k)) (sym few)
      (subst (λ d. Left p os (Told p n r ms (created_by_flat (nat_lt (length os) store.max_objects) d class x k)) (created_by_store (nat_lt (length os) store.max_objects) (has_room k t) class x k)) (sym roomy) cases)

  created_so : (class : ℕ) (x : Option ℕ) (k : ℕ) → HasProcedure p x → Left p os (Says (act.Create class x k)) (created_with x (next_reference h class here) k here)
  created_so class None k name = created_none class k
  created_so class (Some x) k name = created_named class x k name

  -- ---- ends

  left_one : Left p os (OneOf ms) (left here)
  left_one = settled_one p os ms me.number (record here { frames = rest }) (record { grown = still p os _ refl refl; tells = inr refl })

  returned_one : (o : Origin) (v : Option Value) → Left p os (OneOf ms) (returned o v here)
  returned_one origin.Unqualified v = handed_one p os ms v (left here) left_one
  returned_one origin.Qualified v = handed_one p os ms v (left here) left_one
  returned_one origin.Creation v = handed_one p os ms v (left here) left_one
  returned_one origin.Requested v = left_one
  returned_one origin.RequestedCreation v = left_one

  ending : Left p os (OneOf ms) (acted h act.Exit here)
  ending =
      either p os _ (is_unset p t) _ _ (fallen_one p os ms _ here unmoved)
      (either p os _ (is_untested t.origin || object_meets p (object_numbered me.number os)) _ _ (returned_one t.origin t.result) (fallen_one p os ms _ here unmoved))

  refusing_as : (o : Origin) → Left p os (OneOf ms) (refused_as o me here)
  refusing_as origin.Unqualified = fallen_one p os ms _ here unmoved
  refusing_as origin.Qualified = fallen_one p os ms _ here unmoved
  refusing_as origin.Creation = fallen_one p os ms _ here unmoved
  refusing_as origin.Requested = left_one
  refusing_as origin.RequestedCreation = either p os _ (object_meets p (object_numbered me.number os)) _ _ left_one (fallen_one p os ms _ here unmoved)

  ends_so : (ks : List Mold) → OneOf ms ks → (ks ≡ []) ⊎ ((ks ≡ mold_at n 0 r (values_of t.slots) ∷ ms) ⊎ (ks ≡ ms))
  ends_so ks (inl e) = inl e
  ends_so ks (inr e) = inr (inr e)

  refusing : (k : ℕ) → Left p os (Says (act.Refuse k)) (acted h (act.Refuse k) here)
  refusing k =
      either p os _ (is_waited_for t (formals_at p k)) _ _
      (record { grown = still p os (on_top waiting here) refl refl; tells = inr (inl refl) })
      (weaken p os (OneOf ms) (Says (act.Refuse k)) (refused_as t.origin me here) ends_so (refusing_as t.origin))

  -- ---- blocks

  opening : (first k : ℕ) → Left p os (Says (act.Open first k)) (acted h (act.Open first k) here)
  opening first k = by (may_open first k t)
    where
      slots_same : values_of (blocks.written first (last_values k vs) t.slots) ≡ flat.written first (actuals k (values_of vs)) (values_of t.slots)
      slots_same = values_written first (last_values k vs) t.slots ∙ ap (λ us. flat.written first us (values_of t.slots)) (given_same k)

      by : (b : Bool) → Left p os (Says (act.Open first k)) (opened_with first (if b then Some (last_values k vs) else None) here)
      by false = fallen_one p os _ _ here unmoved
      by true = record {
        grown = still p os (on_top (blocks.opening first (last_values k vs)) here) refl refl;
        tells = inr (ap (λ us. mold_at n (next_place t.place) r us ∷ ms) slots_same ∙ next_mold n t.place r (flat.written first (actuals k (values_of vs)) (values_of t.slots)) ms);
      }

  leaving : (ks : Option (List ℕ)) → Left p os (OneOf (mold_at n (t.place + 1) r (values_of t.slots) ∷ ms)) (left_with ks here)
  leaving None = fallen_one p os _ _ here unmoved
  leaving (Some ks) = record { grown = still p os (on_top closing here) refl refl; tells = passed (closing t) refl }

  -- ---- each of them

  name_there : (x k : ℕ) (gives : Bool) → NamesCall p x k gives → HasName p x
  name_there x k gives e = subst (λ x. HasName p x) e.name e.is_call.named

  procedure_there : (class : ℕ) (x : Option ℕ) (k : ℕ) → NamesCreation p class x k → HasProcedure p x
  procedure_there class x k e = subst (λ x. HasProcedure p x) e.procedure e.is_creation.named

  acted_tells : (a : Act) → IsReady p a t → Left p os (Says a) (acted h a here)
  acted_tells (act.PrintInteger i) ready = simple 1 (store.printed _ here) refl refl refl
  acted_tells (act.PrintBoolean b) ready = simple 1 (store.printed _ here) refl refl refl
  acted_tells (act.PrintText k) ready = simple 0 (store.printed _ here) refl refl refl
  acted_tells (act.Until None) ready = simple 1 here refl refl refl
  acted_tells (act.Until (Some k)) ready = record { grown = still p os (on_top (back k) here) refl refl; tells = inr refl }
  acted_tells (act.Enter calling.Unqualified q x k gives) ready = entering calling.Unqualified q x k gives (name_there x k gives ready.named)
  acted_tells (act.Enter calling.Qualified q x k gives) ready = entering calling.Qualified q x k gives (name_there x k gives ready.named)
  acted_tells (act.Request call) ready = requesting (request_in h call (Some t)) call
  acted_tells (act.Create class x k) ready = created_so class x k (procedure_there class x k ready.named)
  acted_tells (act.CreateHandler call) ready = creating call
  acted_tells act.Start ready = simple 0 here refl refl refl
  acted_tells (act.Refuse k) ready = refusing k
  acted_tells (act.Open first k) ready = opening first k
  acted_tells act.Leave ready = leaving (innermost t.blocks)
  acted_tells act.Exit ready = ending

  pub done_tells : (o : outcome.Hop) → IsVisible o → told.Tells p o t → Left p os (Told p n r ms (hopped p s c me_flat o f)) (done h o here)
  done_tells hop.Passed v ready = absurd v
  done_tells (hop.Failed why) v ready = fallen_one p os _ why here unmoved
  done_tells (hop.Comes a) v ready = acted_tells a ready
