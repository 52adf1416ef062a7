-- What operations make of a store in a turn, said as the region says it and as the interpreter does.
use Rattle.std.proofs.Common.{◌≡◌, ℕ, zero, suc, ◌+◌, ◌≤◌, Bool, true, false, List, [], ◌∷◌, Option, Some, None, length, refl, sym, ap, ◌∙◌, arith}
use Rattle.std.specs.Prelude.{◌||◌, slice_set, if◌then◌else◌}
use Rattle.sc_region.specs.declared.frame.Stage.TheVariants as stage
use Rattle.sc_region.specs.declared.value.Value.{Value}
use Rattle.sc_region.specs.declared.value.Reference.{Reference}
use Rattle.sc_region.specs.Frames.{PlainActivation, PlainFrame, top_activation}
use Rattle.sc_region.specs.Stores.{PlainStore}
use Rattle.sc_acts.specs.Creating.{with_reference, without_last}
use Rattle.sc_region.specs.Calls.{last_values, taken, on_top, past}
use Rattle.sc_acts.specs.Blocks as blocks
use Rattle.sc_acts.specs.Blocks.{heads_in, opened_with}
use Rattle.sc_acts.specs.CreatingHandlers as creating_handlers
use Rattle.sc_acts.specs.CreatingHandlers.{creation_by, creation_with, handler_created}
use Rattle.sc_acts.specs.Requesting as requesting
use Rattle.sc_acts.specs.Requesting.{call_of, request_by, requested, sent}
use Rattle.sc_refines_world.specs.regions.Acting as acting
use Rattle.sc_refines_world.specs.regions.Acting.{creating, opening, sending}
use Rattle.sc_refines_world.specs.regions.Reserving.{MayOpen}
use Rattle.sc_refines_world.specs.regions.Wanting.{MayCreate, MayRequest}
use Rattle.sc_refines_world.proofs.regions.BlockAsks.{has_heads}

-- ---- what operations make of a store

-- there are as many as are taken
taken_many : (n : ℕ) (us vs : List Value) → n ≤ length vs → length (taken n us vs) ≡ length us + n
taken_many zero us vs l = omega arith
taken_many (suc n) us [] l = absurd (omega (arith, l))
taken_many (suc n) us (v ∷ vs) l = let rest = taken_many n (v ∷ us) vs (omega (arith, l)) in omega (arith, rest)

last_many : (n : ℕ) (vs : List Value) → n ≤ length vs → length (last_values n vs) ≡ n
last_many n vs l = let many = taken_many n [] vs l in omega (arith, many)

pub requested_is : (h : ℕ) (r : Reference) (k n : ℕ) (gives passes : Bool) (z : PlainStore) → MayRequest n (top_activation z.frames) →
    on_top (sending r n gives passes) z ≡ requested h (call_of r k n gives passes) z
requested_is h r k n gives passes z may = by_waits (passes || gives) ∙ by (top_activation z.frames) may
  where
    by_waits : (b : Bool) → on_top (λ a. acting.awaiting_if b r.handler gives false (without_last (past n a))) z
        ≡ on_top (λ a. requesting.awaiting_if b r.handler gives false (without_last (past n a))) z
    by_waits true = refl
    by_waits false = refl

    by : (o : Option PlainActivation) → MayRequest n o →
        on_top (requesting.sending (call_of r k n gives passes)) z ≡ sent (requesting.request_in h (call_of r k n gives passes) o) (call_of r k n gives passes) z
    by None may = absurd may
    by (Some a) may =
        let c = call_of r k n gives passes in
        sym (ap (λ b. sent (if b then Some (request_by h c a) else None) c z) may)

pub handler_created_is : (h class : ℕ) (k : Option ℕ) (n : ℕ) (passes : Bool) (z : PlainStore) → MayCreate n (top_activation z.frames) →
    on_top (creating h class n passes) z ≡ handler_created h (creation_with class k n passes) z
handler_created_is h class k n passes z may = by_waits passes ∙ by (top_activation z.frames) may
  where
    by_waits : (b : Bool) → on_top (λ a. acting.awaiting_if b h false true (with_reference (acting.first_object h class) (past n a))) z
        ≡ on_top (λ a. requesting.awaiting_if b h false true (with_reference (acting.first_object h class) (past n a))) z
    by_waits true = refl
    by_waits false = refl

    by : (o : Option PlainActivation) → MayCreate n o →
        on_top (creating_handlers.creating (acting.first_object h class) (creation_with class k n passes)) z
        ≡ creating_handlers.created_as (creating_handlers.creation_in (creation_with class k n passes) o) (acting.first_object h class) (creation_with class k n passes) z
    by None may = absurd may
    by (Some a) may =
        let c = creation_with class k n passes in
        sym (ap (λ b. creating_handlers.created_as (if b then Some (creation_by c a) else None) (acting.first_object h class) c z) may)

written_is : (k : ℕ) (us vs : List Value) → acting.written k us vs ≡ blocks.written k us vs
written_is k [] vs = refl
written_is k (u ∷ us) vs = written_is (suc k) us (slice_set vs k u)

pub opened_is : (first n : ℕ) (z : PlainStore) (fs : List PlainFrame) → MayOpen first n (top_activation fs) →
    on_top (opening first n) (record z { frames = fs }) ≡ opened_with first (heads_in first n (top_activation fs)) (record z { frames = fs })
opened_is first n z [] may = absurd may
opened_is first n z (f ∷ fs) may =
    let a = f.activation in
    let us = last_values n a.operands.values in
    let room = has_heads first n a may in
    let many : length us ≡ n = last_many n a.operands.values room.operands in
    let opens : opening first n a ≡ blocks.opening first us a =
    ap (λ vs. record (past n a) { slots = vs; stage = stage.ReservesBlock }) (written_is first us a.slots)
    ∙ ap (λ m. record (past m a) { slots = blocks.written first us a.slots; stage = stage.ReservesBlock }) (sym many) in
    ap (λ b. record z { frames = record f { activation = b } ∷ fs }) opens
    ∙ sym (ap (λ b. opened_with first (if b then Some us else None) (record z { frames = f ∷ fs })) may)
