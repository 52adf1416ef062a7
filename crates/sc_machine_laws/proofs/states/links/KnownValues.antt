-- The handlers of values in lists, environments and objects exist.
use Rattle.std.proofs.Common.{ℕ, zero, suc, ◌+◌, ◌-◌, ◌==◌, Bool, true, false, cond, List, [], ◌∷◌, ◌++◌, Option, Some, None, take}
use Rattle.std.specs.Prelude.{find, slice_get, slice_set, bytes_eq, if◌then◌else◌}
use Rattle.std.specs.List.{filter_map, cons_option}
use Rattle.std.specs.Option.{option_map}
use Rattle.sc_tree.specs.Plain.{System, Declaration, Name, FeatureKind, Attribute, Routine}
use Rattle.sc_class.specs.declared.identity.ClassId.{ClassId}
use Rattle.sc_class.specs.declared.identity.ClassId.TheVariants as class
use Rattle.sc_class.specs.Tables.Features.{DeclaredFeature, features}
use Rattle.sc_rules.specs.declared.entity_types.entity_type.EntityType.{EntityType}
use Rattle.sc_rules.specs.declared.position.Role.TheVariants as role
use Rattle.sc_rules.specs.Names.{block_type, blocks}
use Rattle.sc_rules.specs.Types.{declared_type}
use Rattle.sc_model.specs.Values.{Value, Operand, default_of, values_of}
use Rattle.sc_model.specs.Environments.{Binding, bind, assigned_to, with_binding, formals_bound, local_bound, locals_bound, name_bound, block_bound, scope_of}
use Rattle.sc_model.specs.Objects.{Object, fresh_attribute, fresh_object, object_numbered, attributes_in, attributes_of, with_object, with_attributes}
use Rattle.sc_model.specs.Steps.{popped}
use Rattle.sc_machine_laws.proofs.states.links.Points.{BindingKnown, Every, IfSome, Known, ObjectKnown, OperandKnown}

-- ---- lists

pub every_append : {X : Type 0} (P : X → Type 0) (xs ys : List X) → Every P xs → Every P ys → Every P (xs ++ ys)
every_append P [] ys a b = b
every_append P (x ∷ xs) ys a b = (a.0, every_append P xs ys a.1 b)

pub every_map : {X : Type 0} (P Q : X → Type 0) → ((x : X) → P x → Q x) → (xs : List X) → Every P xs → Every Q xs
every_map P Q f [] a = tt
every_map P Q f (x ∷ xs) a = (f x a.0, every_map P Q f xs a.1)

pub every_get : {X : Type 0} (P : X → Type 0) (xs : List X) (i : ℕ) → Every P xs → IfSome P (slice_get xs i)
every_get P [] i a = tt
every_get P (x ∷ xs) zero a = a.0
every_get P (x ∷ xs) (suc i) a = every_get P xs i a.1

pub every_set : {X : Type 0} (P : X → Type 0) (xs : List X) (i : ℕ) (x : X) → Every P xs → P x → Every P (slice_set xs i x)
every_set P [] i x a is = tt
every_set P (y ∷ xs) zero x a is = (is, a.1)
every_set P (y ∷ xs) (suc i) x a is = (a.0, every_set P xs i x a.1 is)

pub every_take : {X : Type 0} (P : X → Type 0) (n : ℕ) (xs : List X) → Every P xs → Every P (take n xs)
every_take P zero xs a = tt
every_take P (suc n) [] a = tt
every_take P (suc n) (x ∷ xs) a = (a.0, every_take P n xs a.1)

pub every_find : {X : Type 0} (P : X → Type 0) (f : X → Bool) (xs : List X) → Every P xs → IfSome P (find f xs)
every_find P f [] a = tt
every_find P f (x ∷ xs) a = by (f x) (every_find P f xs a.1)
  where
    by : (b : Bool) → IfSome P (find f xs) → IfSome P (cond b (Some x) (find f xs))
    by true rest = a.0
    by false rest = rest

pub every_kept : {X Y : Type 0} (P : Y → Type 0) (f : X → Option Y) (xs : List X) → ((x : X) → IfSome P (f x)) → Every P (filter_map f xs)
every_kept P f [] is = tt
every_kept {Y = Y} P f (x ∷ xs) is = by (f x) (is x) (every_kept P f xs is)
  where
    by : (o : Option Y) → IfSome P o → Every P (filter_map f xs) → Every P (cons_option o (filter_map f xs))
    by None i rest = rest
    by (Some y) i rest = (i, rest)

-- ---- environments and objects

default_known : (K : ℕ → Type 0) (c : ClassId) → Known K (default_of c)
default_known K class.Integer = tt
default_known K class.Boolean = tt
default_known K class.Any = tt
default_known K class.None = tt
default_known K (class.Declared k) = tt

pub assigned_known : (K : ℕ → Type 0) (x : List ℕ) (v : Value) (bs : List Binding) → Known K v → Every (BindingKnown K) bs
    → Every (BindingKnown K) (assigned_to x v bs)
assigned_known K x v [] is all = tt
assigned_known K x v (b ∷ bs) is all = by (bytes_eq b.name x) (assigned_known K x v bs is all.1)
  where
    by : (c : Bool) → Every (BindingKnown K) (assigned_to x v bs)
        → Every (BindingKnown K) (if c then record b { value = v } ∷ bs else b ∷ assigned_to x v bs)
    by true rest = (is, all.1)
    by false rest = (all.0, rest)

pub locals_known : (K : ℕ → Type 0) (s : System) (formals locals : List Declaration) → Every (BindingKnown K) (locals_bound s formals locals)
locals_known K s formals locals = every_kept (BindingKnown K) (local_bound s formals) locals (λ d. by d (declared_type s formals d.declared_type))
  where
    by : (d : Declaration) (o : Option EntityType) → IfSome (BindingKnown K)
        (option_map (λ (t : EntityType). bind d.name.text t role.Local (default_of t.class)) o)
    by d None = tt
    by d (Some t) = default_known K t.class

pub block_known : (K : ℕ → Type 0) (xs : List Name) (us : List Operand) (bs : List Binding) → Every (OperandKnown K) us → Every (BindingKnown K) bs
    → Every (BindingKnown K) (block_bound xs us bs)
block_known K [] us bs all is = is
block_known K (x ∷ xs) [] bs all is = is
block_known K (x ∷ xs) (u ∷ us) bs all is =
    block_known K xs us (bs ++ name_bound x (block_type (blocks (scope_of bs)) (Some u.type)) u.value) all.1
    (every_append (BindingKnown K) bs (name_bound x (block_type (blocks (scope_of bs)) (Some u.type)) u.value) is
    (by (block_type (blocks (scope_of bs)) (Some u.type))))
  where
    by : (o : Option EntityType) → Every (BindingKnown K) (name_bound x o u.value)
    by None = tt
    by (Some t) = (all.0, tt)

pub formals_known : (K : ℕ → Type 0) (s : System) (all : List Declaration) (i : ℕ) (ds : List Declaration) (vs : List Value) → Every (Known K) vs
    → IfSome (Every (BindingKnown K)) (formals_bound s all i ds vs)
formals_known K s all i [] [] is = tt
formals_known K s all i [] (v ∷ vs) is = tt
formals_known K s all i (d ∷ ds) [] is = tt
formals_known K s all i (d ∷ ds) (v ∷ vs) is = by (declared_type s all d.declared_type) (formals_bound s all (i + 1) ds vs)
    (formals_known K s all (i + 1) ds vs is.1)
  where
    by : (o : Option EntityType) (b : Option (List Binding)) → IfSome (Every (BindingKnown K)) b
        → IfSome (Every (BindingKnown K)) (with_binding o d.name.text i v b)
    by (Some t) (Some bs) rest = (is.0, rest)
    by (Some t) None rest = tt
    by None (Some bs) rest = tt
    by None None rest = tt

pub fresh_known : (K : ℕ → Type 0) (s : System) (k : ℕ) → ObjectKnown K (fresh_object s k)
fresh_known K s k = every_kept (BindingKnown K) (λ (f : DeclaredFeature). fresh_attribute s f.feature.name.text f.feature.kind) (features s k)
    (λ f. by f.feature.name.text f.feature.kind)
  where
    attribute : (x : List ℕ) (o : Option EntityType) → IfSome (BindingKnown K)
        (option_map (λ (t : EntityType). bind x t role.Local (default_of t.class)) o)
    attribute x None = tt
    attribute x (Some t) = default_known K t.class

    by : (x : List ℕ) (kind : FeatureKind) → IfSome (BindingKnown K) (fresh_attribute s x kind)
    by x (Attribute d) = attribute x (declared_type s [] d)
    by x (Routine c) = tt

pub object_known : (K : ℕ → Type 0) (n : ℕ) (os : List Object) → Every (ObjectKnown K) os → IfSome (ObjectKnown K) (object_numbered n os)
object_known K n os all = by (n == 0)
  where
    by : (b : Bool) → IfSome (ObjectKnown K) (if b then None else slice_get os (n - 1))
    by true = tt
    by false = every_get (ObjectKnown K) os (n - 1) all

pub attributes_known : (K : ℕ → Type 0) (n : ℕ) (os : List Object) → Every (ObjectKnown K) os → Every (BindingKnown K) (attributes_of n os)
attributes_known K n os all = by (object_numbered n os) (object_known K n os all)
  where
    by : (o : Option Object) → IfSome (ObjectKnown K) o → Every (BindingKnown K) (attributes_in o)
    by None is = tt
    by (Some o) is = is

pub with_attributes_known : (K : ℕ → Type 0) (n : ℕ) (bs : List Binding) (os : List Object) → Every (BindingKnown K) bs → Every (ObjectKnown K) os
    → Every (ObjectKnown K) (with_attributes n bs os)
with_attributes_known K n bs os is all = by (object_numbered n os)
  where
    by : (o : Option Object) → Every (ObjectKnown K) (with_object (n - 1) bs os o)
    by None = all
    by (Some o) = every_set (ObjectKnown K) os (n - 1) (record o { attributes = bs }) all is

pub popped_known : (K : ℕ → Type 0) (n : ℕ) (us vs : List Operand) → Every (OperandKnown K) us → Every (OperandKnown K) vs
    → IfSome (λ (x : List Operand × List Operand). Every (OperandKnown K) x.0 × Every (OperandKnown K) x.1) (popped n us vs)
popped_known K zero us vs a b = (a, b)
popped_known K (suc n) us [] a b = tt
popped_known K (suc n) us (v ∷ vs) a b = popped_known K n (v ∷ us) vs (b.0, a) b.1

pub values_known : (K : ℕ → Type 0) (us : List Operand) → Every (OperandKnown K) us → Every (Known K) (values_of us)
values_known K [] all = tt
values_known K (u ∷ us) all = (all.0, values_known K us all.1)
