-- What a store's calls do keeps that each settled object meets its class invariant.
use Rattle.std.proofs.Common.{◌≡◌, ◌≢◌, ◌⊎◌, ⊎_elim, inl, inr, ℕ, zero, suc, ◌+◌, List, [], ◌∷◌, Option, Some, None, Bool, true, false, not, drop, length, refl, sym, ap, ◌∙◌, subst, arith}
use Rattle.std.proofs.lemmas.Bool.Decides.{nat_tests}
use Rattle.std.specs.Prelude.{◌&&◌, ◌||◌, ◌==◌, nat_lt, slice_set, Result, Ok, Err, OnOk, OnErr, if◌then◌else◌}
use Rattle.std.specs.Option.{is_none, option_and_then}
use Rattle.sc_model.specs.declared.cause.Cause.{Cause}
use Rattle.sc_model.specs.declared.cause.Cause.TheVariants as cause
use Rattle.sc_region.specs.declared.value.Value.{Value}
use Rattle.sc_region.specs.declared.value.Reference.{Reference}
use Rattle.sc_code.specs.declared.program.Image.{Image}
use Rattle.sc_code.specs.declared.program.RoutineCode.{RoutineCode}
use Rattle.sc_region.specs.declared.frame.Origin.{Origin}
use Rattle.sc_region.specs.declared.frame.Origin.TheVariants as origin
use Rattle.sc_region.specs.Objects.{PlainObject, object_numbered}
use Rattle.sc_region.specs.Frames.{PlainActivation, PlainFrame, is_current, top_current}
use Rattle.sc_region.specs.Calls.{calls, in_call, last_values, on_top, top_frame, top_operands}
use Rattle.sc_region.specs.declared.frame.OwnCall.{OwnCall}
use Rattle.sc_region.specs.Classes.{routine_at, fresh_object, MeetsAt, MeetsInvariant, object_breaks}
use Rattle.sc_region.specs.Stores.{PlainStore, max_objects, max_frames, new_store, is_settled, SettledObjectsMeet, failed, settled, written_to, written, entry, entered_at, entered, left_to, left, with_new, born, born_for, next_reference, made, made_for, printed}
use Rattle.sc_region.specs.declared.frame.Activation.{Activation}
use Rattle.sc_region.specs.declared.state.State.{State}
use Rattle.sc_region.specs.States.{state_of}
use Rattle.sc_region.specs.Lending.{current_object, with_object_there, with_top_activation}
use Rattle.sc_region.proofs.InvariantTests.{and_left, and_right, meets_unbroken, unbroken_meets}
use Rattle.sc_region.proofs.Numbered.{get_set_other, numbered_suc, numbered_other, numbered_push}
use Rattle.sc_region.proofs.Placed.{there_suc}

-- ---- truth values

not_true : (a : Bool) → not a ≡ true → a ≡ false
not_true true e = cc
not_true false e = refl

or_right : (a b : Bool) → a || b ≡ false → b ≡ false
or_right true b e = cc
or_right false b e = e

or_left : (a b : Bool) → a || b ≡ false → a ≡ false
or_left true b e = cc
or_left false b e = refl

none_some : {A : Type 0} (why : Cause) → is_none (Some why) ≡ true → A
none_some why e = cc

-- two numbers are the same or not
same_or_not : (m n : ℕ) → (m ≡ n) ⊎ (m ≢ n)
same_or_not zero zero = inl refl
same_or_not zero (suc n) = inr (λ e. (cc))
same_or_not (suc m) zero = inr (λ e. (cc))
same_or_not (suc m) (suc n) = ⊎_elim (λ e. inl (ap suc e)) (λ ne. inr (λ e. ne (omega arith))) (same_or_not m n)

-- ---- what is settled

-- what is settled meets its invariant, the object of this number aside
OthersMeet : ℕ → PlainStore → Type 0
OthersMeet number x = (k : ℕ) (o : PlainObject) → number ≢ k → is_settled k x ≡ true → object_numbered k x.objects ≡ Some o → MeetsInvariant x.program o

failed_keeps : (why : Cause) (x : PlainStore) → SettledObjectsMeet (failed why x)
failed_keeps why x k o s g = none_some why (and_left (is_none (Some why)) (not (is_current k [])) s)

settled_with : (number : ℕ) (x : PlainStore) (s b : Bool) → is_settled number x ≡ s → object_breaks x.program (object_numbered number x.objects) ≡ b → OthersMeet number x
    → SettledObjectsMeet (if s && b then failed cause.Invariant x else x)
unfolding OthersMeet
settled_with number x true true e f m = failed_keeps cause.Invariant x
settled_with number x true false e f m = λ k o s g.
    ⊎_elim
    (λ same. unbroken_meets x.program (object_numbered number x.objects) o (ap (λ j. object_numbered j x.objects) same ∙ g) f)
    (λ ne. m k o ne s g)
    (same_or_not number k)
settled_with number x false b e f m = λ k o s g.
    ⊎_elim
    (λ same. let wrong : false ≡ true = sym e ∙ ap (λ j. is_settled j x) same ∙ s in absurd (cc))
    (λ ne. m k o ne s g)
    (same_or_not number k)

settled_keeps : (number : ℕ) (x : PlainStore) → OthersMeet number x → SettledObjectsMeet (settled number x)
settled_keeps number x m = settled_with number x (is_settled number x) (object_breaks x.program (object_numbered number x.objects)) refl refl m

pub new_keeps : (p : Image) → SettledObjectsMeet (new_store p)
new_keeps p zero o s g = cc
new_keeps p (suc k) o s g = let none : object_numbered (suc k) [] ≡ None = numbered_suc k [] in cc

pub fail_keeps : (why : Cause) (x : PlainStore) → SettledObjectsMeet (failed why x)
fail_keeps why x = failed_keeps why x

-- ---- attributes

other_number : (m n : ℕ) → (m == n) ≡ false → m ≢ n
other_number m n e same = grind (arith, nat_tests, e, same)

same_test : (m n : ℕ) → m ≢ n → (m == n) ≡ false
same_test m n ne = grind (arith, nat_tests, ne)

-- no frame has the object of the number as Current, so the topmost one hasn't
top_is_other : (k : ℕ) (x : PlainStore) (f : PlainFrame) (below : List PlainFrame) → x.frames ≡ f ∷ below → is_settled k x ≡ true → f.current.number ≢ k
top_is_other k x f below e s =
    let none : is_current k (f ∷ below) ≡ false = not_true (is_current k (f ∷ below)) (ap (λ fs. not (is_current k fs)) (sym e) ∙ and_right (is_none x.failure) (not (is_current k x.frames)) s) in
    other_number f.current.number k (or_left (f.current.number == k) (is_current k below) none)

written_to_keeps : (fs : List PlainFrame) (slot : ℕ) (v : Value) (x : PlainStore) → x.frames ≡ fs → SettledObjectsMeet x → SettledObjectsMeet (written_to fs slot v x)
written_to_keeps [] slot v x e m = m
written_to_keeps (f ∷ below) slot v x e m = λ k o s g.
    m k o s (sym (numbered_other x.objects f.current.number k slot v (top_is_other k x f below e s)) ∙ g)

pub written_keeps : (slot : ℕ) (v : Value) (x : PlainStore) → SettledObjectsMeet x → SettledObjectsMeet (written slot v x)
written_keeps slot v x m = written_to_keeps x.frames slot v x refl m

-- ---- the stack and the attributes of Current at once

current_is_other : (k : ℕ) (x : PlainStore) (me : Reference) (fs : List PlainFrame) → x.frames ≡ fs → top_current fs ≡ Some me → is_settled k x ≡ true → me.number ≢ k
current_is_other k x me [] e t s = cc
current_is_other k x me (f ∷ below) e t s = λ same.
    let here : f.current ≡ me = cc in
    top_is_other k x f below e s (ap (λ (r : Reference). r.number) here ∙ same)

there_other : (os : List PlainObject) (i j : ℕ) (o : PlainObject) → i ≢ j → object_numbered j (with_object_there i o os) ≡ object_numbered j os
there_other os i zero o ne = refl
there_other os zero (suc j) o ne = refl
there_other os (suc i) (suc j) o ne =
    ap (object_numbered (suc j)) (there_suc i o os) ∙ numbered_suc j (slice_set os i o)
    ∙ get_set_other os i j o (λ e. ne (ap suc e)) ∙ sym (numbered_suc j os)

pub lent_keeps : (x : PlainStore) (me : Reference) (o : PlainObject) (fs : List PlainFrame) → top_current x.frames ≡ Some me → ((number : ℕ) → is_current number fs ≡ is_current number x.frames)
    → SettledObjectsMeet x → SettledObjectsMeet (record x { frames = fs; objects = with_object_there me.number o x.objects })
lent_keeps x me o fs t same m = λ k p s g.
    let before : is_settled k x ≡ true = ap (λ b. is_none x.failure && not b) (sym (same k)) ∙ s in
    m k p before (sym (there_other x.objects me.number k o (current_is_other k x me x.frames refl t before)) ∙ g)

-- ---- frames

-- what is settled meets its invariant, where the number is such
MeetWhere : (ℕ → Type 0) → PlainStore → Type 0
MeetWhere P x = (k : ℕ) (o : PlainObject) → P k → is_settled k x ≡ true → object_numbered k x.objects ≡ Some o → MeetsInvariant x.program o

failed_where : (P : ℕ → Type 0) (why : Cause) (x : PlainStore) → MeetWhere P (failed why x)
unfolding MeetWhere
failed_where P why x k o p s g = failed_keeps why x k o s g

under : (stands a b : Bool) → stands && not (a || b) ≡ true → stands && not b ≡ true
under true true b e = cc
under true false b e = e
under false a b e = e

over : (stands a b : Bool) → a ≡ false → stands && not b ≡ true → stands && not (a || b) ≡ true
over stands true b n e = cc
over stands false b n e = e

frame_where : (P : ℕ → Type 0) (f : PlainFrame) (x : PlainStore) → MeetWhere P x → MeetWhere P (record x { frames = f ∷ x.frames })
unfolding MeetWhere
frame_where P f x m k o p s g = m k o p (under (is_none x.failure) (f.current.number == k) (is_current k x.frames) s) g

entered_with : (P : ℕ → Type 0) (fits room : Bool) (f : PlainFrame) (x : PlainStore) → MeetWhere P x →
    MeetWhere P (if fits then (if room then record x { frames = f ∷ x.frames } else failed cause.StackFull x) else failed cause.BadCode x)
entered_with P true true f x m = frame_where P f x m
entered_with P true false f x m = failed_where P cause.StackFull x
entered_with P false room f x m = failed_where P cause.BadCode x

entered_where : (P : ℕ → Type 0) (count : ℕ) (me : Reference) (routine : ℕ) (r : Option RoutineCode) (o : Origin) (us : List Value) (x : PlainStore) →
    MeetWhere P x → MeetWhere P (entered_at count me routine r o us x)
entered_where P count me routine None o us x m = failed_where P cause.BadCode x
entered_where P count me routine (Some r) o us x m = entered_with P (length us == r.formals) (nat_lt count max_frames) (entry me routine r o us) x m

everywhere : (x : PlainStore) → SettledObjectsMeet x → MeetWhere (λ k. Unit {0}) x
unfolding MeetWhere
everywhere x m k o p s g = m k o s g

from_everywhere : (x : PlainStore) → MeetWhere (λ k. Unit {0}) x → SettledObjectsMeet x
unfolding MeetWhere
from_everywhere x m k o s g = m k o tt s g

pub entered_keeps : (me : Reference) (routine : ℕ) (o : Origin) (us : List Value) (x : PlainStore) → SettledObjectsMeet x → SettledObjectsMeet (entered me routine o us x)
entered_keeps me routine o us x m =
    from_everywhere (entered me routine o us x)
    (entered_where (λ k. Unit {0}) (length x.frames) me routine (routine_at x.program routine) o us x (everywhere x m))

left_to_keeps : (fs : List PlainFrame) (x : PlainStore) → x.frames ≡ fs → SettledObjectsMeet x → SettledObjectsMeet (left_to fs x)
unfolding OthersMeet
left_to_keeps [] x e m = m
left_to_keeps (f ∷ below) x e m =
    settled_keeps f.current.number (record x { frames = below })
    (λ k o ne s g. m k o
    (ap (λ fs. is_none x.failure && not (is_current k fs)) e
    ∙ over (is_none x.failure) (f.current.number == k) (is_current k below) (same_test f.current.number k ne) s) g)

pub left_keeps : (x : PlainStore) → SettledObjectsMeet x → SettledObjectsMeet (left x)
left_keeps x m = left_to_keeps x.frames x refl m

and_false : (b : Bool) → b && false ≡ false
and_false true = refl
and_false false = refl

in_order_to : (fs : List PlainFrame) (x : PlainStore) → MeetsAt x.program (option_and_then (λ (me : Reference). object_numbered me.number x.objects) (top_current fs)) →
    left_to fs x ≡ record x { frames = drop 1 fs }
in_order_to [] x m = absurd m
in_order_to (f ∷ below) x m =
    let y : PlainStore = record x { frames = below } in
    let n = f.current.number in
    ap (λ b. if is_settled n y && b then failed cause.Invariant y else y) (meets_unbroken x.program (object_numbered n x.objects) m)
    ∙ ap (λ b. if b then failed cause.Invariant y else y) (and_false (is_settled n y))

-- where Current meets its invariant, nothing but its frame goes
pub left_in_order : (x : PlainStore) → MeetsAt x.program (current_object x) → left x ≡ record x { frames = drop 1 x.frames }
left_in_order x m = in_order_to x.frames x m

-- ---- new objects

new_where : (class : ℕ) (x : PlainStore) → SettledObjectsMeet x → MeetWhere (λ k. length x.objects + 1 ≢ k) (with_new class x)
unfolding MeetWhere
new_where class x m k o ne s g = m k o s (sym (numbered_push x.objects (fresh_object x.program class) k (λ e. ne (sym e))) ∙ g)

settled_where : (number : ℕ) (x : PlainStore) → MeetWhere (λ k. number ≢ k) x → SettledObjectsMeet (settled number x)
unfolding MeetWhere OthersMeet
settled_where number x m = settled_keeps number x (λ k o ne s g. m k o ne s g)

pub born_keeps : (class : ℕ) (x : PlainStore) → SettledObjectsMeet x → SettledObjectsMeet (born class x)
born_keeps class x m = settled_where (length x.objects + 1) (with_new class x) (new_where class x m)

pub born_for_keeps : (me : Reference) (routine : ℕ) (o : Origin) (us : List Value) (x : PlainStore) → SettledObjectsMeet x → SettledObjectsMeet (born_for me routine o us x)
born_for_keeps me routine o us x m =
    let y : PlainStore = with_new me.class x in
    settled_where (length x.objects + 1) (entered me routine o us y)
    (entered_where (λ k. length x.objects + 1 ≢ k) (length y.frames) me routine (routine_at y.program routine) o us y (new_where me.class x m))

pub made_keeps : (class : ℕ) (x : PlainStore) → SettledObjectsMeet x → SettledObjectsMeet (made class x)
made_keeps class x m =
    elim (nat_lt (length x.objects) max_objects) as (λ b. SettledObjectsMeet (if b then born class x else failed cause.TooManyObjects x)) [
      | true ↦ born_keeps class x m
      | false ↦ failed_keeps cause.TooManyObjects x
    ]

pub made_for_keeps : (handler class routine : ℕ) (us : List Value) (x : PlainStore) → SettledObjectsMeet x → SettledObjectsMeet (made_for handler class routine us x)
made_for_keeps handler class routine us x m =
    elim (nat_lt (length x.objects) max_objects) as (λ b. SettledObjectsMeet (if b then born_for (next_reference handler class x) routine origin.Creation us x else failed cause.TooManyObjects x)) [
      | true ↦ born_for_keeps (next_reference handler class x) routine origin.Creation us x m
      | false ↦ failed_keeps cause.TooManyObjects x
    ]

-- ---- output

pub printed_keeps : (text : List ℕ) (x : PlainStore) → SettledObjectsMeet x → SettledObjectsMeet (printed text x)
printed_keeps text x m = m

-- ---- either outcome

pub either_keeps : {T E : Type 0} (r : Result T E) (x y z : PlainStore) → OnOk r (x ≡ y) → OnErr r (x ≡ z) → SettledObjectsMeet y → SettledObjectsMeet z → SettledObjectsMeet x
either_keeps (Ok t) x y z ok err m n = subst SettledObjectsMeet (sym ok) m
either_keeps (Err e) x y z ok err m n = subst SettledObjectsMeet (sym err) n

-- ---- calls

top_frame_settled : (number : ℕ) (f : PlainActivation → PlainActivation) (fs : List PlainFrame) → is_current number (top_frame f fs) ≡ is_current number fs
top_frame_settled number f [] = refl
top_frame_settled number f (t ∷ below) = refl

on_top_keeps : (f : PlainActivation → PlainActivation) (x : PlainStore) → SettledObjectsMeet x → SettledObjectsMeet (on_top f x)
on_top_keeps f x m k o e g = m k o (ap (λ b. is_none x.failure && not b) (sym (top_frame_settled k f x.frames)) ∙ e) g

pub calls_keeps : (me : Reference) (routine : ℕ) (k : OwnCall) (x : PlainStore) → SettledObjectsMeet x → SettledObjectsMeet (calls me routine k x)
calls_keeps me routine k x m =
    entered_keeps me routine k.origin (last_values k.actuals (top_operands x.frames)) (on_top (in_call k.operands k.gives) x) (on_top_keeps (in_call k.operands k.gives) x m)

-- ---- the topmost routine

-- wherever the topmost routine stands, the same objects are settled
top_settled : (number : ℕ) (a : Activation) (fs : List PlainFrame) → is_current number (with_top_activation a fs) ≡ is_current number fs
top_settled number a [] = refl
top_settled number a (f ∷ below) = refl

pub top_keeps : (s : State) (a : Activation) → SettledObjectsMeet (state_of s) → SettledObjectsMeet (state_of (record s { stack = with_top_activation a s.stack }))
top_keeps s a m k o e g = m k o (ap (λ b. is_none s.failure && not b) (sym (top_settled k a s.stack)) ∙ e) g
