-- What comes of a call of a routine of the same handler.
use Rattle.std.proofs.Common.{get_or, ◌≡◌, ◌≢◌, ◌≤◌, ◌<◌, ℕ, zero, suc, List, [], ◌∷◌, ◌++◌, Some, Bool, true, false, length, refl, sym, ap, ◌∙◌, arith}
use Rattle.std.proofs.lemmas.Bool.Decides.{nat_tests}
use Rattle.std.specs.Prelude.{Result, Ok, Err, OnOk, ◌==◌, nat_lt, slice_set, if◌then◌else◌}
use Rattle.sc_model.specs.declared.cause.Cause.TheVariants as cause
use Rattle.sc_code.specs.declared.program.RoutineCode.{RoutineCode}
use Rattle.sc_region.specs.Calls.{called_on, calls, in_call, last_values, on_top, top_frame, top_operands}
use Rattle.sc_region.specs.Classes.{routine_at}
use Rattle.sc_region.specs.Frames.{PlainActivation, PlainFrame, activation_of, frame_with, frames_onto, top_activation}
use Rattle.sc_region.specs.Lending.{with_top_activation}
use Rattle.sc_region.specs.Stores.{PlainStore, beginning, entered_at, entry, failed, max_frames}
use Rattle.sc_region.specs.declared.frame.Activation.{Activation}
use Rattle.sc_region.specs.declared.frame.OwnCall.{OwnCall}
use Rattle.sc_region.specs.declared.value.Reference.{Reference}
use Rattle.sc_region.specs.declared.value.Value.{Value}
use Rattle.sc_region.proofs.DeeperOperands.{taken_length}

-- ---- whether it is made

-- as many frames as before
top_frame_length : (f : PlainActivation → PlainActivation) (fs : List PlainFrame) → length (top_frame f fs) ≡ length fs
top_frame_length f [] = refl
top_frame_length f (t ∷ below) = refl

actuals_length : (k : OwnCall) (fs : List PlainFrame) → k.actuals ≤ length (top_operands fs) → length (last_values k.actuals (top_operands fs)) ≡ k.actuals
actuals_length k fs l = let many = taken_length k.actuals [] (top_operands fs) l in omega (arith, many)

calls_in : (me : Reference) (routine : ℕ) (k : OwnCall) (x : PlainStore) (r : RoutineCode) (fits room : Bool) → k.actuals ≤ length (top_operands x.frames) → routine_at x.program routine ≡ Some r →
    (k.actuals == r.formals) ≡ fits → nat_lt (length x.frames) max_frames ≡ room →
    calls me routine k x ≡ (if fits then (if room then record x { frames = called_on me routine r k x.frames } else failed cause.StackFull x) else failed cause.BadCode x)
calls_in me routine k x r fits room l there e h =
    let y : PlainStore = on_top (in_call k.operands k.gives) x in
    let us = last_values k.actuals (top_operands x.frames) in
    let made : PlainStore = record x { frames = called_on me routine r k x.frames } in
    let decided : ℕ → ℕ → PlainStore = λ n m. if m == r.formals then (if nat_lt n max_frames then made else failed cause.StackFull x) else failed cause.BadCode x in
    ap (λ c. entered_at (length y.frames) me routine c k.origin us y) there
    ∙ ap (λ n. decided n (length us)) (top_frame_length (in_call k.operands k.gives) x.frames)
    ∙ ap (λ m. decided (length x.frames) m) (actuals_length k x.frames l)
    ∙ ap (λ b. if b then (if nat_lt (length x.frames) max_frames then made else failed cause.StackFull x) else failed cause.BadCode x) e
    ∙ ap (λ b. if fits then (if b then made else failed cause.StackFull x) else failed cause.BadCode x) h

pub calls_misfit : (me : Reference) (routine : ℕ) (k : OwnCall) (x : PlainStore) (r : RoutineCode) → k.actuals ≤ length (top_operands x.frames) → routine_at x.program routine ≡ Some r →
    k.actuals ≢ r.formals → calls me routine k x ≡ failed cause.BadCode x
calls_misfit me routine k x r l there e =
    let other : (k.actuals == r.formals) ≡ false = grind (arith, nat_tests, e) in
    calls_in me routine k x r false (nat_lt (length x.frames) max_frames) l there other refl

pub calls_full : (me : Reference) (routine : ℕ) (k : OwnCall) (x : PlainStore) (r : RoutineCode) → k.actuals ≤ length (top_operands x.frames) → routine_at x.program routine ≡ Some r →
    k.actuals ≡ r.formals → max_frames ≤ length x.frames → calls me routine k x ≡ failed cause.StackFull x
calls_full me routine k x r l there e full =
    let same : (k.actuals == r.formals) ≡ true = grind (arith, nat_tests, e) in
    let room : nat_lt (length x.frames) max_frames ≡ false = grind (arith, nat_tests, full) in
    calls_in me routine k x r true false l there same room

pub calls_made : (me : Reference) (routine : ℕ) (k : OwnCall) (x : PlainStore) (r : RoutineCode) → k.actuals ≤ length (top_operands x.frames) → routine_at x.program routine ≡ Some r →
    k.actuals ≡ r.formals → length x.frames < max_frames → calls me routine k x ≡ record x { frames = called_on me routine r k x.frames }
calls_made me routine k x r l there e room =
    let same : (k.actuals == r.formals) ≡ true = grind (arith, nat_tests, e) in
    let has : nat_lt (length x.frames) max_frames ≡ true = grind (arith, nat_tests, room) in
    calls_in me routine k x r true true l there same has

pub frames_are : {T E : Type 0} (r : Result T E) (x z : PlainStore) (fs gs : List PlainFrame) → OnOk r (fs ≡ gs) → record x { frames = gs } ≡ z → OnOk r (record x { frames = fs } ≡ z)
frames_are (Ok t) x z fs gs e h = ap (λ l. record x { frames = l }) e ∙ h
frames_are (Err t) x z fs gs e h = tt

-- ---- frames

-- The routines of the frames lie in front, the topmost last, and what is above them behind.

-- the last routine in front is the topmost one
pub frames_front : (rs : List Reference) (ts us : List Activation) (n : ℕ) (d : Activation) (rest : List PlainFrame) → length rs ≡ suc n → length ts ≡ suc n →
    top_activation (frames_onto rs (ts ++ us) rest) ≡ Some (activation_of (get_or ts n d))
frames_front [] ts us n d rest e l = absurd (omega arith)
frames_front (r ∷ rs) [] us n d rest e l = absurd (omega arith)
frames_front (r ∷ []) (a ∷ ts) us zero d rest e l = refl
frames_front (r ∷ q ∷ rs) (a ∷ ts) us zero d rest e l = absurd (omega arith)
frames_front (r ∷ rs) (a ∷ ts) us (suc n) d rest e l = frames_front rs ts us n d (frame_with r (activation_of a) ∷ rest) (omega arith) (omega arith)

-- what is written behind doesn't matter
pub frames_kept : (rs : List Reference) (ts us : List Activation) (n : ℕ) (d u : Activation) (rest : List PlainFrame) → length rs ≡ suc n → length ts ≡ suc n →
    frames_onto rs (slice_set ts n (get_or ts n d) ++ slice_set us 0 u) rest ≡ frames_onto rs (ts ++ us) rest
frames_kept [] ts us n d u rest e l = absurd (omega arith)
frames_kept (r ∷ rs) [] us n d u rest e l = absurd (omega arith)
frames_kept (r ∷ []) (a ∷ ts) us zero d u rest e l = refl
frames_kept (r ∷ q ∷ rs) (a ∷ ts) us zero d u rest e l = absurd (omega arith)
frames_kept (r ∷ rs) (a ∷ ts) us (suc n) d u rest e l = frames_kept rs ts us n d u (frame_with r (activation_of a) ∷ rest) (omega arith) (omega arith)

-- one more frame, whose routine is the first behind, and the one that was topmost stands otherwise
pub frames_call : (rs : List Reference) (ts us : List Activation) (r : Reference) (n : ℕ) (t u : Activation) (rest : List PlainFrame) → length rs ≡ suc n → length ts ≡ suc n → 0 < length us →
    frames_onto (rs ++ r ∷ []) (slice_set ts n u ++ slice_set us 0 t) rest ≡ frame_with r (activation_of t) ∷ with_top_activation u (frames_onto rs (ts ++ us) rest)
frames_call [] ts us r n t u rest e l some = absurd (omega arith)
frames_call (q ∷ rs) [] us r n t u rest e l some = absurd (omega arith)
frames_call (q ∷ []) (a ∷ []) [] r zero t u rest e l some = absurd (omega arith)
frames_call (q ∷ []) (a ∷ []) (b ∷ us) r zero t u rest e l some = refl
frames_call (q ∷ []) (a ∷ c ∷ ts) us r zero t u rest e l some = absurd (omega arith)
frames_call (q ∷ p ∷ rs) (a ∷ ts) us r zero t u rest e l some = absurd (omega arith)
frames_call (q ∷ rs) (a ∷ ts) us r (suc n) t u rest e l some = frames_call rs ts us r n t u (frame_with q (activation_of a) ∷ rest) (omega arith) (omega arith) some

-- the routine that was topmost stands so
pub top_is : (g : PlainActivation → PlainActivation) (u : Activation) (a : PlainActivation) (fs : List PlainFrame) → top_activation fs ≡ Some a → activation_of u ≡ g a → with_top_activation u fs ≡ top_frame g fs
top_is g u a [] e h = refl
top_is g u a (f ∷ below) e h =
    let same : f.activation ≡ a = cc in
    ap (λ (b : PlainActivation). record f { activation = b } ∷ below) (h ∙ ap g (sym same))

pub operands_are : (a : PlainActivation) (fs : List PlainFrame) → top_activation fs ≡ Some a → top_operands fs ≡ a.operands.values
operands_are a [] e = cc
operands_are a (f ∷ below) e = let same : f.activation ≡ a = cc in ap (λ (b : PlainActivation). b.operands.values) same

-- The routine that was topmost is in the call, and the other one begins.
pub called_is : (me : Reference) (routine : ℕ) (r : RoutineCode) (k : OwnCall) (fs : List PlainFrame) (us : List Value) (a : PlainActivation) (t u : Activation) → top_activation fs ≡ Some a →
    us ≡ last_values k.actuals a.operands.values → activation_of t ≡ beginning routine r k.origin us → activation_of u ≡ in_call k.operands k.gives a →
    frame_with me (activation_of t) ∷ with_top_activation u fs ≡ called_on me routine r k fs
called_is me routine r k fs us a t u top actuals begun called =
    ap (λ b. frame_with me b ∷ with_top_activation u fs) begun
    ∙ ap (λ vs. entry me routine r k.origin vs ∷ with_top_activation u fs) actuals
    ∙ ap (λ gs. entry me routine r k.origin (last_values k.actuals a.operands.values) ∷ gs) (top_is (in_call k.operands k.gives) u a fs top called)
    ∙ ap (λ vs. entry me routine r k.origin (last_values k.actuals vs) ∷ top_frame (in_call k.operands k.gives) fs) (sym (operands_are a fs top))
