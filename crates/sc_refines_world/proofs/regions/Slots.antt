-- Operations of flat code leave as many slots as there were.
use Rattle.std.proofs.Common.{◌≡◌, ℕ, zero, suc, ◌+◌, List, [], ◌∷◌, Option, Some, None, Bool, true, false, length, refl, ap, ◌∙◌, subst}
use Rattle.std.specs.Prelude.{is_some, nat_lt, slice_get, slice_set, ◌==◌, if◌then◌else◌}
use Rattle.sc_tree.specs.Plain as tree
use Rattle.sc_tree.specs.Plain.{System, FeatureKind}
use Rattle.sc_class.specs.Tables.Features.{DeclaredFeature}
use Rattle.sc_tree.specs.declared.expression.BinaryOperator.{BinaryOperator}
use Rattle.sc_model.specs.declared.cause.Cause.{Cause}
use Rattle.sc_model.specs.Environments.{Binding, binding_named}
use Rattle.sc_model.specs.Expressions.{decided_by}
use Rattle.sc_model.specs.Invariants.{meets_invariant}
use Rattle.sc_model.specs.Limits.{max_objects}
use Rattle.sc_model.specs.Objects.{Object, fresh_object, object_numbered}
use Rattle.sc_model.specs.Routines.{version_of}
use Rattle.sc_model.specs.Values.{Reference, Value, Integer, Boolean, Void, Attached}
use Rattle.sc_code.specs.Machine.{Act, Code, Evaluated, Faults, Gives, Hop, State, Goes, Does, applies, binary_value, binds_if, calls_feature, calls_kind, calls_object, calls_on, calls_routine, calls_version, concludes, creates, creates_handler, creates_object, decides, demands, does_with, ends_loop, expects, found, has_room, hop, hop_at, hop_of, hop_on, hop_popped, hops, into, is_tested, opens, popped, prints, push, pushes, read, reads_attribute, replaces, requests, skips, skips_if_false, stores, then_hop, unary_value, written}
use Rattle.sc_code.specs.Operations as op
use Rattle.sc_code.specs.Operations.{CallSite, CreationSite, Operation}

-- so many slots are there afterwards
pub Sized : ℕ → Hop → Type 0
Sized n (Goes f) = length f.slots ≡ n
Sized n (Does a f) = length f.slots ≡ n

pub set_many : {A : Type 0} (xs : List A) (k : ℕ) (x : A) → length (slice_set xs k x) ≡ length xs
set_many [] k x = refl
set_many (y ∷ ys) zero x = refl
set_many (y ∷ ys) (suc k) x = ap (λ n. suc n) (set_many ys k x)

written_many : (k : ℕ) (vs slots : List Value) → length (written k vs slots) ≡ length slots
written_many k [] slots = refl
written_many k (v ∷ vs) slots = written_many (suc k) vs (slice_set slots k v) ∙ set_many slots k v

module _ (n : ℕ) where
  if_sized : (b : Bool) (x y : Hop) → Sized n x → Sized n y → Sized n (if b then x else y)
  if_sized true x y h k = h
  if_sized false x y h k = k

  into_sized : (c : Code) (to : ℕ) (f : State) → length f.slots ≡ n → Sized n (into c to f)
  unfolding Sized
  into_sized c to f h = if_sized (nat_lt to (length c.operations)) _ _ h h

  skips_sized : (c : Code) (k : ℕ) (f : State) → length f.slots ≡ n → Sized n (skips c k f)
  skips_sized c k f h = into_sized c (f.place + 1 + k) f h

  push_sized : (c : Code) (v : Value) (f : State) → length f.slots ≡ n → Sized n (push c v f)
  unfolding Sized
  push_sized c v f h = if_sized (nat_lt (length f.values) c.depth) _ _ (skips_sized c 0 (record f { values = v ∷ f.values }) h) h

  pushes_sized : (c : Code) (e : Evaluated) (f : State) → length f.slots ≡ n → Sized n (pushes c e f)
  unfolding Sized
  pushes_sized c (Gives v) f h = push_sized c v f h
  pushes_sized c (Faults why) f h = h

  replaces_sized : (c : Code) (e : Evaluated) (f : State) → length f.slots ≡ n → Sized n (replaces c e f)
  unfolding Sized
  replaces_sized c (Gives v) f h = skips_sized c 0 (record f { values = v ∷ f.values }) h
  replaces_sized c (Faults why) f h = h

  decides_sized : (c : Code) (o : Option Bool) (k : ℕ) (f : State) → length f.slots ≡ n → Sized n (decides c o k f)
  decides_sized c (Some b) k f h = skips_sized c k (record f { values = Boolean b ∷ f.values }) h
  decides_sized c None k f h = skips_sized c 0 f h

  concludes_sized : (c : Code) (v : Value) (f : State) → length f.slots ≡ n → Sized n (concludes c v f)
  unfolding Sized
  concludes_sized c (Boolean b) f h = skips_sized c 0 (record f { values = Boolean b ∷ f.values }) h
  concludes_sized c (Integer z) f h = h
  concludes_sized c Void f h = h
  concludes_sized c (Attached r) f h = h

  -- ---- slots

  stores_sized : (c : Code) (k : ℕ) (v : Value) (f : State) → length f.slots ≡ n → Sized n (stores c k v f)
  unfolding Sized
  stores_sized c k v f h =
      if_sized (nat_lt k (length f.slots)) _ _ (skips_sized c 0 (record f { slots = slice_set f.slots k v }) (set_many f.slots k v ∙ h)) h

  binds_sized : (b : Bool) (c : Code) (k : ℕ) (v : Value) (f : State) → length f.slots ≡ n → Sized n (binds_if b c k v f)
  binds_sized true c k v f h = stores_sized c k v (record f { values = Boolean true ∷ f.values }) h
  binds_sized false c k v f h = skips_sized c 0 (record f { values = Boolean false ∷ f.values }) h

  opens_sized : (first k : ℕ) (o : Option (List Value × List Value)) (f : State) → length f.slots ≡ n → Sized n (opens first k o f)
  unfolding Sized
  opens_sized first k None f h = h
  opens_sized first k (Some (us, vs)) f h = if_sized (nat_lt (length f.slots) (first + k)) _ _ h (written_many first us f.slots ∙ h)

  -- ---- calls

  waits_sized : (b : Bool) (a : Act) (f g : State) → length f.slots ≡ n → length g.slots ≡ n → Sized n (if b then Does a g else Does a f)
  unfolding Sized
  waits_sized true a f g h k = k
  waits_sized false a f g h k = h

  routine_sized : (c : Code) (me : Reference) (site : CallSite) (o : Option (List Value × List Value)) (f : State) → length f.slots ≡ n → Sized n (calls_routine c me site o f)
  unfolding Sized
  routine_sized c me site None f h = h
  routine_sized c me site (Some (us, vs)) f h = if_sized (has_room c (is_some site.gives) (record f { values = vs })) _ _ h h

  attribute_sized : (c : Code) (o : Option Bool) (b : Option Binding) (f : State) → length f.slots ≡ n → Sized n (reads_attribute c o b f)
  unfolding Sized
  attribute_sized c None b f h = h
  attribute_sized c (Some is_attached) b f h = replaces_sized c _ f h

  kind_sized : (c : Code) (r : Reference) (site : CallSite) (us : List Value) (o : Object) (k : FeatureKind) (f : State) → length f.slots ≡ n → Sized n (calls_kind c r site us o k f)
  unfolding Sized
  kind_sized c r site us o (tree.Attribute d) f h = attribute_sized c site.gives (binding_named site.name o.attributes) f h
  kind_sized c r site us o (tree.Routine q) f h = if_sized (has_room c (is_some site.gives) f) _ _ h h

  version_sized : (c : Code) (r : Reference) (site : CallSite) (us : List Value) (o : Option Object) (v : Option DeclaredFeature) (f : State) → length f.slots ≡ n →
      Sized n (calls_version c r site us o v f)
  unfolding Sized
  version_sized c r site us (Some o) (Some v) f h = kind_sized c r site us o v.feature.kind f h
  version_sized c r site us (Some o) None f h = h
  version_sized c r site us None v f h = h

  requests_sized : (c : Code) (r : Reference) (site : CallSite) (us : List Value) (f : State) → length f.slots ≡ n → Sized n (requests c r site us f)
  unfolding Sized
  requests_sized c r site us f h = if_sized site.is_own _ _ h (if_sized (has_room c (is_some site.gives) f) _ _ h h)

  object_sized : (s : System) (c : Code) (me r : Reference) (site : CallSite) (us : List Value) (f : State) → length f.slots ≡ n → Sized n (calls_object s c me r site us f)
  object_sized s c me r site us f h =
      if_sized (r.handler == me.handler) _ _ (version_sized c r site us (object_numbered r.number f.objects) (version_of s r.class site.name) f h) (requests_sized c r site us f h)

  on_sized : (s : System) (c : Code) (me : Reference) (site : CallSite) (v : Value) (us : List Value) (f : State) → length f.slots ≡ n → Sized n (calls_on s c me site v us f)
  unfolding Sized
  on_sized s c me site Void us f h = h
  on_sized s c me site (Integer z) us f h = h
  on_sized s c me site (Boolean b) us f h = h
  on_sized s c me site (Attached r) us f h = object_sized s c me r site us f h

  feature_sized : (s : System) (c : Code) (me : Reference) (site : CallSite) (o : Option (List Value × List Value)) (f : State) → length f.slots ≡ n → Sized n (calls_feature s c me site o f)
  unfolding Sized
  feature_sized s c me site None f h = h
  feature_sized s c me site (Some (us, [])) f h = h
  feature_sized s c me site (Some (us, v ∷ vs)) f h = on_sized s c me site v us (record f { values = vs }) h

  -- ---- creations

  with_sized : (c : Code) (r : Reference) (a : Act) (f : State) → length f.slots ≡ n → Sized n (does_with c r a f)
  unfolding Sized
  with_sized c r a f h = if_sized (nat_lt (length f.values) c.depth) _ _ h h

  new_sized : (s : System) (c : Code) (r : Reference) (o : Option (List ℕ)) (us : List Value) (f : State) → length f.slots ≡ n → Sized n (creates_object s c r o us f)
  unfolding Sized
  new_sized s c r (Some x) us f h = with_sized c r _ f h
  new_sized s c r None us f h = if_sized (meets_invariant s (fresh_object s r.class)) _ _ (with_sized c r _ f h) h

  creates_sized : (s : System) (c : Code) (me : Reference) (site : CreationSite) (o : Option (List Value × List Value)) (f : State) → length f.slots ≡ n → Sized n (creates s c me site o f)
  unfolding Sized
  creates_sized s c me site None f h = h
  creates_sized s c me site (Some (us, vs)) f h = if_sized (nat_lt (length f.objects) max_objects) _ _ (new_sized s c _ site.procedure us _ h) h

  handler_sized : (c : Code) (site : CreationSite) (o : Option (List Value × List Value)) (f : State) → length f.slots ≡ n → Sized n (creates_handler c site o f)
  unfolding Sized
  handler_sized c site None f h = h
  handler_sized c site (Some (us, vs)) f h = if_sized (nat_lt (length vs) c.depth) _ _ h h

  -- ---- instructions

  prints_sized : (v : Value) (f : State) → length f.slots ≡ n → Sized n (prints v f)
  unfolding Sized
  prints_sized (Integer z) f h = h
  prints_sized (Boolean b) f h = h
  prints_sized Void f h = h
  prints_sized (Attached r) f h = h

  skips_if_sized : (c : Code) (k : ℕ) (v : Value) (f : State) → length f.slots ≡ n → Sized n (skips_if_false c k v f)
  unfolding Sized
  skips_if_sized c k (Boolean true) f h = skips_sized c 0 f h
  skips_if_sized c k (Boolean false) f h = skips_sized c k f h
  skips_if_sized c k (Integer z) f h = h
  skips_if_sized c k Void f h = h
  skips_if_sized c k (Attached r) f h = h

  loop_sized : (k : ℕ) (v : Value) (f : State) → length f.slots ≡ n → Sized n (ends_loop k v f)
  unfolding Sized
  loop_sized k (Boolean true) f h = h
  loop_sized k (Boolean false) f h = h
  loop_sized k (Integer z) f h = h
  loop_sized k Void f h = h
  loop_sized k (Attached r) f h = h

  expects_sized : (c : Code) (why : Cause) (v : Value) (f : State) → length f.slots ≡ n → Sized n (expects c why v f)
  unfolding Sized
  expects_sized c why (Boolean true) f h = skips_sized c 0 f h
  expects_sized c why (Boolean false) f h = h
  expects_sized c why (Integer z) f h = h
  expects_sized c why Void f h = h
  expects_sized c why (Attached r) f h = h

  demands_sized : (c : Code) (xs : List ℕ) (v : Value) (f : State) → length f.slots ≡ n → Sized n (demands c xs v f)
  unfolding Sized
  demands_sized c xs (Boolean true) f h = skips_sized c 0 f h
  demands_sized c xs (Boolean false) f h = h
  demands_sized c xs (Integer z) f h = h
  demands_sized c xs Void f h = h
  demands_sized c xs (Attached r) f h = h

  applies_sized : (c : Code) (o : BinaryOperator) (right : Value) (vs : List Value) (f : State) → length f.slots ≡ n → Sized n (applies c o right vs f)
  unfolding Sized
  applies_sized c o right [] f h = h
  applies_sized c o right (left ∷ vs) f h = replaces_sized c (binary_value o left right) (record f { values = vs }) h

  -- ---- operations

  hop_on_sized : (s : System) (c : Code) (me : Reference) (o : Operation) (v : Value) (f : State) → length f.slots ≡ n → Sized n (hop_on s c me o v f)
  unfolding Sized
  hop_on_sized s c me (op.ApplyUnary o) v f h = replaces_sized c (unary_value o v) f h
  hop_on_sized s c me (op.Decide o k) v f h = decides_sized c (decided_by o v) k f h
  hop_on_sized s c me op.Conclude v f h = concludes_sized c v f h
  hop_on_sized s c me (op.Test t k) v f h = binds_sized (is_tested s me.handler f.slots v t) c k v f h
  hop_on_sized s c me (op.StoreSlot k) v f h = stores_sized c k v f h
  hop_on_sized s c me (op.StoreAttribute x) v f h = skips_sized c 0 _ h
  hop_on_sized s c me op.StoreResult v f h = skips_sized c 0 (record f { result = Some v }) h
  hop_on_sized s c me op.KeepOld v f h = skips_sized c 0 _ h
  hop_on_sized s c me op.Print v f h = prints_sized v f h
  hop_on_sized s c me (op.SkipIfFalse k) v f h = skips_if_sized c k v f h
  hop_on_sized s c me (op.EndLoop k) v f h = loop_sized k v f h
  hop_on_sized s c me (op.Expect why) v f h = expects_sized c why v f h
  hop_on_sized s c me (op.Demand xs) v f h = demands_sized c xs v f h
  hop_on_sized s c me (op.PushInteger z) v f h = h
  hop_on_sized s c me (op.PushBoolean b) v f h = h
  hop_on_sized s c me op.PushVoid v f h = h
  hop_on_sized s c me op.PushCurrent v f h = h
  hop_on_sized s c me (op.PushResult a) v f h = h
  hop_on_sized s c me (op.PushSlot k a) v f h = h
  hop_on_sized s c me (op.PushAttribute x a) v f h = h
  hop_on_sized s c me (op.PushOld k) v f h = h
  hop_on_sized s c me (op.ApplyBinary o) v f h = h
  hop_on_sized s c me (op.CallRoutine site) v f h = h
  hop_on_sized s c me (op.CallFeature site) v f h = h
  hop_on_sized s c me (op.Initialize k w) v f h = h
  hop_on_sized s c me (op.PrintText text) v f h = h
  hop_on_sized s c me (op.Jump k) v f h = h
  hop_on_sized s c me op.Start v f h = h
  hop_on_sized s c me (op.Create site) v f h = h
  hop_on_sized s c me (op.CreateHandler site) v f h = h
  hop_on_sized s c me (op.Open first k) v f h = h
  hop_on_sized s c me op.Leave v f h = h
  hop_on_sized s c me op.Exit v f h = h

  popped_sized : (s : System) (c : Code) (me : Reference) (o : Operation) (vs : List Value) (f : State) → length f.slots ≡ n → Sized n (hop_popped s c me o vs f)
  unfolding Sized
  popped_sized s c me o [] f h = h
  popped_sized s c me (op.ApplyBinary o) (v ∷ vs) f h = applies_sized c o v vs f h
  popped_sized s c me (op.ApplyUnary o) (v ∷ vs) f h = hop_on_sized s c me (op.ApplyUnary o) v (record f { values = vs }) h
  popped_sized s c me (op.Decide o k) (v ∷ vs) f h = hop_on_sized s c me (op.Decide o k) v (record f { values = vs }) h
  popped_sized s c me op.Conclude (v ∷ vs) f h = hop_on_sized s c me op.Conclude v (record f { values = vs }) h
  popped_sized s c me (op.Test t k) (v ∷ vs) f h = hop_on_sized s c me (op.Test t k) v (record f { values = vs }) h
  popped_sized s c me (op.StoreSlot k) (v ∷ vs) f h = hop_on_sized s c me (op.StoreSlot k) v (record f { values = vs }) h
  popped_sized s c me (op.StoreAttribute x) (v ∷ vs) f h = hop_on_sized s c me (op.StoreAttribute x) v (record f { values = vs }) h
  popped_sized s c me op.StoreResult (v ∷ vs) f h = hop_on_sized s c me op.StoreResult v (record f { values = vs }) h
  popped_sized s c me op.KeepOld (v ∷ vs) f h = hop_on_sized s c me op.KeepOld v (record f { values = vs }) h
  popped_sized s c me op.Print (v ∷ vs) f h = hop_on_sized s c me op.Print v (record f { values = vs }) h
  popped_sized s c me (op.SkipIfFalse k) (v ∷ vs) f h = hop_on_sized s c me (op.SkipIfFalse k) v (record f { values = vs }) h
  popped_sized s c me (op.EndLoop k) (v ∷ vs) f h = hop_on_sized s c me (op.EndLoop k) v (record f { values = vs }) h
  popped_sized s c me (op.Expect why) (v ∷ vs) f h = hop_on_sized s c me (op.Expect why) v (record f { values = vs }) h
  popped_sized s c me (op.Demand xs) (v ∷ vs) f h = hop_on_sized s c me (op.Demand xs) v (record f { values = vs }) h
  popped_sized s c me (op.PushInteger z) (v ∷ vs) f h = h
  popped_sized s c me (op.PushBoolean b) (v ∷ vs) f h = h
  popped_sized s c me op.PushVoid (v ∷ vs) f h = h
  popped_sized s c me op.PushCurrent (v ∷ vs) f h = h
  popped_sized s c me (op.PushResult a) (v ∷ vs) f h = h
  popped_sized s c me (op.PushSlot k a) (v ∷ vs) f h = h
  popped_sized s c me (op.PushAttribute x a) (v ∷ vs) f h = h
  popped_sized s c me (op.PushOld k) (v ∷ vs) f h = h
  popped_sized s c me (op.CallRoutine site) (v ∷ vs) f h = h
  popped_sized s c me (op.CallFeature site) (v ∷ vs) f h = h
  popped_sized s c me (op.Initialize k w) (v ∷ vs) f h = h
  popped_sized s c me (op.PrintText text) (v ∷ vs) f h = h
  popped_sized s c me (op.Jump k) (v ∷ vs) f h = h
  popped_sized s c me op.Start (v ∷ vs) f h = h
  popped_sized s c me (op.Create site) (v ∷ vs) f h = h
  popped_sized s c me (op.CreateHandler site) (v ∷ vs) f h = h
  popped_sized s c me (op.Open first k) (v ∷ vs) f h = h
  popped_sized s c me op.Leave (v ∷ vs) f h = h
  popped_sized s c me op.Exit (v ∷ vs) f h = h

  hop_at_sized : (s : System) (c : Code) (me : Reference) (o : Operation) (f : State) → length f.slots ≡ n → Sized n (hop_at s c me o f)
  unfolding Sized
  hop_at_sized s c me (op.PushInteger z) f h = push_sized c (Integer z) f h
  hop_at_sized s c me (op.PushBoolean b) f h = push_sized c (Boolean b) f h
  hop_at_sized s c me op.PushVoid f h = push_sized c Void f h
  hop_at_sized s c me op.PushCurrent f h = push_sized c (Attached me) f h
  hop_at_sized s c me (op.PushResult a) f h = pushes_sized c (read a f.result) f h
  hop_at_sized s c me (op.PushSlot k a) f h = pushes_sized c (read a (slice_get f.slots k)) f h
  hop_at_sized s c me (op.PushAttribute x a) f h = pushes_sized c _ f h
  hop_at_sized s c me (op.PushOld k) f h = pushes_sized c (found (slice_get f.olds k)) f h
  hop_at_sized s c me (op.CallRoutine site) f h = routine_sized c me site (popped site.count [] f.values) f h
  hop_at_sized s c me (op.CallFeature site) f h = feature_sized s c me site (popped site.count [] f.values) f h
  hop_at_sized s c me (op.Initialize k v) f h = stores_sized c k v f h
  hop_at_sized s c me (op.PrintText text) f h = h
  hop_at_sized s c me (op.Jump k) f h = skips_sized c k f h
  hop_at_sized s c me op.Start f h = h
  hop_at_sized s c me (op.Create site) f h = creates_sized s c me site (popped site.count [] f.values) f h
  hop_at_sized s c me (op.CreateHandler site) f h = handler_sized c site (popped site.count [] f.values) f h
  hop_at_sized s c me (op.Open first k) f h = opens_sized first k (popped k [] f.values) f h
  hop_at_sized s c me op.Leave f h = h
  hop_at_sized s c me op.Exit f h = h
  hop_at_sized s c me (op.ApplyUnary o) f h = popped_sized s c me (op.ApplyUnary o) f.values f h
  hop_at_sized s c me (op.ApplyBinary o) f h = popped_sized s c me (op.ApplyBinary o) f.values f h
  hop_at_sized s c me (op.Decide o k) f h = popped_sized s c me (op.Decide o k) f.values f h
  hop_at_sized s c me op.Conclude f h = popped_sized s c me op.Conclude f.values f h
  hop_at_sized s c me (op.Test t k) f h = popped_sized s c me (op.Test t k) f.values f h
  hop_at_sized s c me (op.StoreSlot k) f h = popped_sized s c me (op.StoreSlot k) f.values f h
  hop_at_sized s c me (op.StoreAttribute x) f h = popped_sized s c me (op.StoreAttribute x) f.values f h
  hop_at_sized s c me op.StoreResult f h = popped_sized s c me op.StoreResult f.values f h
  hop_at_sized s c me op.KeepOld f h = popped_sized s c me op.KeepOld f.values f h
  hop_at_sized s c me op.Print f h = popped_sized s c me op.Print f.values f h
  hop_at_sized s c me (op.SkipIfFalse k) f h = popped_sized s c me (op.SkipIfFalse k) f.values f h
  hop_at_sized s c me (op.EndLoop k) f h = popped_sized s c me (op.EndLoop k) f.values f h
  hop_at_sized s c me (op.Expect why) f h = popped_sized s c me (op.Expect why) f.values f h
  hop_at_sized s c me (op.Demand xs) f h = popped_sized s c me (op.Demand xs) f.values f h

  hop_of_sized : (s : System) (c : Code) (me : Reference) (o : Option Operation) (f : State) → length f.slots ≡ n → Sized n (hop_of s c me o f)
  unfolding Sized
  hop_of_sized s c me None f h = h
  hop_of_sized s c me (Some o) f h = hop_at_sized s c me o f h

  hop_sized : (s : System) (c : Code) (me : Reference) (f : State) → length f.slots ≡ n → Sized n (hop s c me f)
  hop_sized s c me f h = hop_of_sized s c me (slice_get c.operations f.place) f h

  then_sized : (x : Hop) (go : State → Hop) → ((g : State) → length g.slots ≡ n → Sized n (go g)) → Sized n x → Sized n (then_hop x go)
  unfolding Sized
  then_sized (Goes g) go next h = next g h
  then_sized (Does a g) go next h = h

  hops_sized : (k : ℕ) (s : System) (c : Code) (me : Reference) (f : State) → length f.slots ≡ n → Sized n (hops k s c me f)
  unfolding Sized
  hops_sized zero s c me f h = h
  hops_sized (suc k) s c me f h = then_sized (hop s c me f) (hops k s c me) (λ g i. hops_sized k s c me g i) (hop_sized s c me f h)

-- silent operations leave as many slots
pub silent_slots : (n k : ℕ) (s : System) (c : Code) (me : Reference) (f g : State) → length f.slots ≡ n → hops k s c me f ≡ Goes g → length g.slots ≡ n
unfolding Sized
silent_slots n k s c me f g h e = subst (Sized n) e (hops_sized n k s c me f h)

-- and so does a visible one
pub visible_slots : (n : ℕ) (s : System) (c : Code) (me : Reference) (f g : State) (a : Act) → length f.slots ≡ n → hop s c me f ≡ Does a g → length g.slots ≡ n
unfolding Sized
visible_slots n s c me f g a h e = subst (Sized n) e (hop_sized n s c me f h)
