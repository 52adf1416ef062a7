-- A silent operation goes ahead in the code: only visible ones go back.
use Rattle.std.proofs.Common.{◌≡◌, ◌<◌, ℕ, ◌+◌, ◌-◌, List, [], ◌∷◌, Option, Some, None, Bool, true, false, length, refl, subst, arith}
use Rattle.std.specs.Prelude.{nat_lt, ◌==◌, if◌then◌else◌, slice_get, is_some}
use Rattle.std.specs.Option.{option_map}
use Rattle.std.proofs.lemmas.Bool.{ltb-true}
use Rattle.sc_tree.specs.Plain as tree
use Rattle.sc_tree.specs.Plain.{System, FeatureKind}
use Rattle.sc_class.specs.Tables.Features.{DeclaredFeature}
use Rattle.sc_model.specs.declared.cause.Cause.{Cause}
use Rattle.sc_model.specs.declared.cause.Cause.TheVariants as cause
use Rattle.sc_model.specs.Values.{Reference, Value, Integer, Boolean, Void, Attached}
use Rattle.sc_model.specs.Environments.{Binding, binding_named}
use Rattle.sc_model.specs.Objects.{Object, fresh_object, object_numbered}
use Rattle.sc_model.specs.Invariants.{meets_invariant}
use Rattle.sc_model.specs.Limits.{max_objects}
use Rattle.sc_model.specs.Routines.{version_of}
use Rattle.sc_model.specs.Expressions.{decided_by}
use Rattle.sc_code.specs.Operations.{Operation, CallSite, CreationSite, ApplyUnary, ApplyBinary, Decide, Conclude, Test, PushInteger, PushBoolean, PushVoid, PushCurrent, PushResult, PushSlot, PushAttribute, PushOld, CallRoutine, CallFeature, StoreSlot, StoreAttribute, StoreResult, Initialize, KeepOld, Print, PrintText, SkipIfFalse, Jump, EndLoop, Expect, Demand, Start, Create, CreateHandler, Open, Leave, Exit}
use Rattle.sc_code.specs.Machine.{Code, State, Act, Hop, Goes, Does, Evaluated, Gives, Faults, stuck, fails, skips, goes_on, does, awaits, has_room, push, pushes, read, found, replaces, decides, concludes, binds_if, is_tested, stores, popped, calls_routine, reads_attribute, calls_kind, calls_version, requests, calls_object, calls_on, calls_feature, does_with, creates_object, creates_here, creates, creates_handler, prints, skips_if_false, ends_loop, expects, demands, opens, unary_value, binary_value, hop_on, hop_popped, hop_at, hop_of, hop}

-- where the operation is silent, less of the code lies ahead after it
Ahead : Code → State → Hop → Type 0
Ahead c f (Goes g) = length c.operations - g.place < length c.operations - f.place
Ahead c f (Does a g) = Unit {0}

into_by : (b : Bool) (c : Code) (to : ℕ) (f g : State) → nat_lt to (length c.operations) ≡ b → f.place < to → Ahead c f (if b then Goes (record g { place = to }) else stuck g)
unfolding Ahead
into_by true c to f g e l = let w = ltb-true to (length c.operations) e in omega (arith, w, l)
into_by false c to f g e l = tt

skips_ahead : (c : Code) (n : ℕ) (f g : State) → g.place ≡ f.place → Ahead c f (skips c n g)
skips_ahead c n f g e = into_by (nat_lt (g.place + 1 + n) (length c.operations)) c (g.place + 1 + n) f g refl (omega (arith, e))

-- one or the other
if_ahead : (b : Bool) (c : Code) (f : State) (x y : Hop) → Ahead c f x → Ahead c f y → Ahead c f (if b then x else y)
if_ahead true c f x y h k = h
if_ahead false c f x y h k = k

visible : (c : Code) (f g : State) (a : Act) → Ahead c f (Does a g)
unfolding Ahead
visible c f g a = tt

push_ahead : (c : Code) (v : Value) (f g : State) → g.place ≡ f.place → Ahead c f (push c v g)
push_ahead c v f g e =
    if_ahead (nat_lt (length g.values) c.depth) c f (goes_on c (record g { values = v ∷ g.values })) (stuck g)
    (skips_ahead c 0 f (record g { values = v ∷ g.values }) e) (visible c f g _)

pushes_ahead : (c : Code) (x : Evaluated) (f g : State) → g.place ≡ f.place → Ahead c f (pushes c x g)
pushes_ahead c (Gives v) f g e = push_ahead c v f g e
pushes_ahead c (Faults why) f g e = visible c f g _

replaces_ahead : (c : Code) (x : Evaluated) (f g : State) → g.place ≡ f.place → Ahead c f (replaces c x g)
replaces_ahead c (Gives v) f g e = skips_ahead c 0 f (record g { values = v ∷ g.values }) e
replaces_ahead c (Faults why) f g e = visible c f g _

stores_ahead : (c : Code) (k : ℕ) (v : Value) (f g : State) → g.place ≡ f.place → Ahead c f (stores c k v g)
stores_ahead c k v f g e =
    if_ahead (nat_lt k (length g.slots)) c f (goes_on c (record g { slots = _ })) (stuck g) (skips_ahead c 0 f (record g { slots = _ }) e) (visible c f g _)

decides_ahead : (c : Code) (o : Option Bool) (n : ℕ) (f g : State) → g.place ≡ f.place → Ahead c f (decides c o n g)
decides_ahead c (Some b) n f g e = skips_ahead c n f (record g { values = Boolean b ∷ g.values }) e
decides_ahead c None n f g e = skips_ahead c 0 f g e

concludes_ahead : (c : Code) (v : Value) (f g : State) → g.place ≡ f.place → Ahead c f (concludes c v g)
concludes_ahead c (Boolean b) f g e = skips_ahead c 0 f (record g { values = Boolean b ∷ g.values }) e
concludes_ahead c (Integer z) f g e = visible c f g _
concludes_ahead c Void f g e = visible c f g _
concludes_ahead c (Attached r) f g e = visible c f g _

binds_ahead : (b : Bool) (c : Code) (k : ℕ) (v : Value) (f g : State) → g.place ≡ f.place → Ahead c f (binds_if b c k v g)
binds_ahead true c k v f g e = stores_ahead c k v f (record g { values = Boolean true ∷ g.values }) e
binds_ahead false c k v f g e = skips_ahead c 0 f (record g { values = Boolean false ∷ g.values }) e

prints_ahead : (c : Code) (v : Value) (f g : State) → Ahead c f (prints v g)
prints_ahead c (Boolean b) f g = visible c f _ _
prints_ahead c (Integer z) f g = visible c f _ _
prints_ahead c Void f g = visible c f _ _
prints_ahead c (Attached r) f g = visible c f _ _

skip_if_ahead : (c : Code) (n : ℕ) (v : Value) (f g : State) → g.place ≡ f.place → Ahead c f (skips_if_false c n v g)
skip_if_ahead c n (Boolean true) f g e = skips_ahead c 0 f g e
skip_if_ahead c n (Boolean false) f g e = skips_ahead c n f g e
skip_if_ahead c n (Integer z) f g e = visible c f g _
skip_if_ahead c n Void f g e = visible c f g _
skip_if_ahead c n (Attached r) f g e = visible c f g _

ends_loop_ahead : (c : Code) (n : ℕ) (v : Value) (f g : State) → Ahead c f (ends_loop n v g)
ends_loop_ahead c n (Boolean true) f g = visible c f _ _
ends_loop_ahead c n (Boolean false) f g = visible c f _ _
ends_loop_ahead c n (Integer z) f g = visible c f _ _
ends_loop_ahead c n Void f g = visible c f _ _
ends_loop_ahead c n (Attached r) f g = visible c f _ _

expects_ahead : (c : Code) (why : Cause) (v : Value) (f g : State) → g.place ≡ f.place → Ahead c f (expects c why v g)
expects_ahead c why (Boolean true) f g e = skips_ahead c 0 f g e
expects_ahead c why (Boolean false) f g e = visible c f g _
expects_ahead c why (Integer z) f g e = visible c f g _
expects_ahead c why Void f g e = visible c f g _
expects_ahead c why (Attached r) f g e = visible c f g _

demands_ahead : (c : Code) (xs : List ℕ) (v : Value) (f g : State) → g.place ≡ f.place → Ahead c f (demands c xs v g)
demands_ahead c xs (Boolean true) f g e = skips_ahead c 0 f g e
demands_ahead c xs (Boolean false) f g e = visible c f _ _
demands_ahead c xs (Integer z) f g e = visible c f g _
demands_ahead c xs Void f g e = visible c f g _
demands_ahead c xs (Attached r) f g e = visible c f g _

awaits_ahead : (c : Code) (b : Bool) (a : Act) (f g : State) → Ahead c f (awaits c b a g)
awaits_ahead c b a f g = if_ahead (has_room c b g) c f (does a g) (stuck g) (visible c f _ _) (visible c f _ _)

-- ---- calls and creations

calls_routine_ahead : (c : Code) (me : Reference) (site : CallSite) (o : Option (List Value × List Value)) (f g : State) → Ahead c f (calls_routine c me site o g)
calls_routine_ahead c me site None f g = visible c f g _
calls_routine_ahead c me site (Some (us, vs)) f g = awaits_ahead c (is_some site.gives) _ f (record g { values = vs })

reads_ahead : (c : Code) (gives : Option Bool) (b : Option Binding) (f g : State) → g.place ≡ f.place → Ahead c f (reads_attribute c gives b g)
reads_ahead c None b f g e = visible c f g _
reads_ahead c (Some a) b f g e = replaces_ahead c (read a (option_map (λ (x : Binding). x.value) b)) f g e

kind_ahead : (c : Code) (r : Reference) (site : CallSite) (us : List Value) (o : Object) (k : FeatureKind) (f g : State) → g.place ≡ f.place → Ahead c f (calls_kind c r site us o k g)
kind_ahead c r site us o (tree.Attribute d) f g e = reads_ahead c site.gives (binding_named site.name o.attributes) f g e
kind_ahead c r site us o (tree.Routine q) f g e = awaits_ahead c (is_some site.gives) _ f g

version_ahead : (c : Code) (r : Reference) (site : CallSite) (us : List Value) (o : Option Object) (v : Option DeclaredFeature) (f g : State) → g.place ≡ f.place
    → Ahead c f (calls_version c r site us o v g)
version_ahead c r site us (Some o) (Some v) f g e = kind_ahead c r site us o v.feature.kind f g e
version_ahead c r site us (Some o) None f g e = visible c f g _
version_ahead c r site us None (Some v) f g e = visible c f g _
version_ahead c r site us None None f g e = visible c f g _

requests_ahead : (c : Code) (r : Reference) (site : CallSite) (us : List Value) (f g : State) → Ahead c f (requests c r site us g)
requests_ahead c r site us f g =
    if_ahead site.is_own c f (fails cause.ForeignObject g) (awaits c (is_some site.gives) _ g) (visible c f g _) (awaits_ahead c (is_some site.gives) _ f g)

object_ahead : (s : System) (c : Code) (me r : Reference) (site : CallSite) (us : List Value) (f g : State) → g.place ≡ f.place → Ahead c f (calls_object s c me r site us g)
object_ahead s c me r site us f g e =
    if_ahead (r.handler == me.handler) c f (calls_version c r site us (object_numbered r.number g.objects) (version_of s r.class site.name) g) (requests c r site us g)
    (version_ahead c r site us (object_numbered r.number g.objects) (version_of s r.class site.name) f g e) (requests_ahead c r site us f g)

calls_on_ahead : (s : System) (c : Code) (me : Reference) (site : CallSite) (v : Value) (us : List Value) (f g : State) → g.place ≡ f.place → Ahead c f (calls_on s c me site v us g)
calls_on_ahead s c me site (Attached r) us f g e = object_ahead s c me r site us f g e
calls_on_ahead s c me site (Integer z) us f g e = visible c f g _
calls_on_ahead s c me site (Boolean b) us f g e = visible c f g _
calls_on_ahead s c me site Void us f g e = visible c f g _

feature_ahead : (s : System) (c : Code) (me : Reference) (site : CallSite) (o : Option (List Value × List Value)) (f g : State) → g.place ≡ f.place
    → Ahead c f (calls_feature s c me site o g)
feature_ahead s c me site None f g e = visible c f g _
feature_ahead s c me site (Some (us, [])) f g e = visible c f g _
feature_ahead s c me site (Some (us, v ∷ vs)) f g e = calls_on_ahead s c me site v us f (record g { values = vs }) e

does_with_ahead : (c : Code) (r : Reference) (a : Act) (f g : State) → Ahead c f (does_with c r a g)
does_with_ahead c r a f g = if_ahead (nat_lt (length g.values) c.depth) c f _ (stuck g) (visible c f _ _) (visible c f _ _)

creates_object_ahead : (s : System) (c : Code) (r : Reference) (x : Option (List ℕ)) (us : List Value) (f g : State) → Ahead c f (creates_object s c r x us g)
creates_object_ahead s c r (Some x) us f g = does_with_ahead c r _ f g
creates_object_ahead s c r None us f g =
    if_ahead (meets_invariant s (fresh_object s r.class)) c f _ _ (does_with_ahead c r _ f g) (visible c f _ _)

creates_here_ahead : (s : System) (c : Code) (me : Reference) (site : CreationSite) (us : List Value) (f g : State) → Ahead c f (creates_here s c me site us g)
creates_here_ahead s c me site us f g =
    if_ahead (nat_lt (length g.objects) max_objects) c f _ (fails cause.TooManyObjects g) (creates_object_ahead s c _ site.procedure us f _) (visible c f _ _)

creates_ahead : (s : System) (c : Code) (me : Reference) (site : CreationSite) (o : Option (List Value × List Value)) (f g : State) → Ahead c f (creates s c me site o g)
creates_ahead s c me site None f g = visible c f g _
creates_ahead s c me site (Some (us, vs)) f g = creates_here_ahead s c me site us f (record g { values = vs })

handler_ahead : (c : Code) (site : CreationSite) (o : Option (List Value × List Value)) (f g : State) → Ahead c f (creates_handler c site o g)
handler_ahead c site None f g = visible c f g _
handler_ahead c site (Some (us, vs)) f g = awaits_ahead c true _ f (record g { values = vs })

opens_ahead : (c : Code) (first n : ℕ) (o : Option (List Value × List Value)) (f g : State) → Ahead c f (opens first n o g)
opens_ahead c first n None f g = visible c f g _
opens_ahead c first n (Some (us, vs)) f g = if_ahead (nat_lt (length g.slots) (first + n)) c f (stuck g) _ (visible c f _ _) (visible c f _ _)

-- ---- operations

on_ahead : (s : System) (c : Code) (me : Reference) (o : Operation) (v : Value) (f g : State) → g.place ≡ f.place → Ahead c f (hop_on s c me o v g)
on_ahead s c me (ApplyUnary op) v f g e = replaces_ahead c (unary_value op v) f g e
on_ahead s c me (Decide op n) v f g e = decides_ahead c (decided_by op v) n f g e
on_ahead s c me Conclude v f g e = concludes_ahead c v f g e
on_ahead s c me (Test t k) v f g e = binds_ahead (is_tested s me.handler g.slots v t) c k v f g e
on_ahead s c me (StoreSlot k) v f g e = stores_ahead c k v f g e
on_ahead s c me (StoreAttribute x) v f g e = skips_ahead c 0 f _ e
on_ahead s c me StoreResult v f g e = skips_ahead c 0 f (record g { result = Some v }) e
on_ahead s c me KeepOld v f g e = skips_ahead c 0 f _ e
on_ahead s c me Print v f g e = prints_ahead c v f g
on_ahead s c me (SkipIfFalse n) v f g e = skip_if_ahead c n v f g e
on_ahead s c me (EndLoop n) v f g e = ends_loop_ahead c n v f g
on_ahead s c me (Expect why) v f g e = expects_ahead c why v f g e
on_ahead s c me (Demand xs) v f g e = demands_ahead c xs v f g e
on_ahead s c me op v f g e = visible c f g _

applies_ahead : (c : Code) (s : System) (me : Reference) (v : Value) (vs : List Value) (f g : State) → g.place ≡ f.place → (x : Evaluated) → Ahead c f (replaces c x (record g { values = vs }))
applies_ahead c s me v vs f g e x = replaces_ahead c x f (record g { values = vs }) e

popped_ahead : (s : System) (c : Code) (me : Reference) (o : Operation) (vs : List Value) (f g : State) → g.place ≡ f.place → Ahead c f (hop_popped s c me o vs g)
popped_ahead s c me o [] f g e = visible c f g _
popped_ahead s c me (ApplyBinary op) (v ∷ []) f g e = visible c f g _
popped_ahead s c me (ApplyBinary op) (v ∷ w ∷ vs) f g e = replaces_ahead c (binary_value op w v) f (record g { values = vs }) e
popped_ahead s c me o (v ∷ vs) f g e = on_ahead s c me o v f (record g { values = vs }) e

at_ahead : (s : System) (c : Code) (me : Reference) (o : Operation) (f : State) → Ahead c f (hop_at s c me o f)
at_ahead s c me (PushInteger z) f = push_ahead c (Integer z) f f refl
at_ahead s c me (PushBoolean b) f = push_ahead c (Boolean b) f f refl
at_ahead s c me PushVoid f = push_ahead c Void f f refl
at_ahead s c me PushCurrent f = push_ahead c (Attached me) f f refl
at_ahead s c me (PushResult a) f = pushes_ahead c (read a f.result) f f refl
at_ahead s c me (PushSlot k a) f = pushes_ahead c (read a (slice_get f.slots k)) f f refl
at_ahead s c me (PushAttribute x a) f = pushes_ahead c _ f f refl
at_ahead s c me (PushOld i) f = pushes_ahead c (found (slice_get f.olds i)) f f refl
at_ahead s c me (CallRoutine site) f = calls_routine_ahead c me site (popped site.count [] f.values) f f
at_ahead s c me (CallFeature site) f = feature_ahead s c me site (popped site.count [] f.values) f f refl
at_ahead s c me (Initialize k v) f = stores_ahead c k v f f refl
at_ahead s c me (PrintText text) f = visible c f _ _
at_ahead s c me (Jump n) f = skips_ahead c n f f refl
at_ahead s c me Start f = visible c f _ _
at_ahead s c me (Create site) f = creates_ahead s c me site (popped site.count [] f.values) f f
at_ahead s c me (CreateHandler site) f = handler_ahead c site (popped site.count [] f.values) f f
at_ahead s c me (Open first n) f = opens_ahead c first n (popped n [] f.values) f f
at_ahead s c me Leave f = visible c f _ _
at_ahead s c me Exit f = visible c f _ _
at_ahead s c me op f = popped_ahead s c me op f.values f f refl

of_ahead : (s : System) (c : Code) (me : Reference) (o : Option Operation) (f : State) → Ahead c f (hop_of s c me o f)
of_ahead s c me None f = visible c f f _
of_ahead s c me (Some o) f = at_ahead s c me o f

-- the measure of silent operations: what lies ahead in the code
pub falls : (s : System) (c : Code) (me : Reference) (f g : State) → hop s c me f ≡ Goes g → length c.operations - g.place < length c.operations - f.place
unfolding Ahead
falls s c me f g e = subst (λ x. Ahead c f x) e (of_ahead s c me (slice_get c.operations f.place) f)
