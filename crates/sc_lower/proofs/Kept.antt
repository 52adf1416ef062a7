-- Tables that grow keep what operations mean.
use Rattle.std.proofs.Common.{◌≡◌, ◌<◌, ◌+◌, ℕ, length, take, get_or, List, [], ◌∷◌, ◌++◌, map, Option, Some, None, refl, ap, sym, ◌∙◌}
use Rattle.std.specs.Prelude.{slice_get}
use Rattle.std.proofs.lemmas.List.{map-append, take_more}
use Rattle.std.specs.Option.{option_map, option_and_then}
use Rattle.sc_code.specs.declared.operation.Operation as coded
use Rattle.sc_code.specs.declared.operation.Operation.TheVariants as op
use Rattle.sc_code.specs.declared.site.CallSite as call
use Rattle.sc_code.specs.declared.site.CreationSite as creation
use Rattle.sc_code.specs.Operations as plain
use Rattle.sc_lower.specs.Growing.{Extends}
use Rattle.sc_code.specs.View.{Pool, named, call_of, creation_with, creation_of, operation_of, test_of}
use Rattle.sc_lower.specs.Pools.{Grows}
use Rattle.sc_lower.proofs.Growth.{extends_itself, extends_further}

pub grows_not : (p : Pool) → Grows p p
grows_not p = record {
  names = extends_itself p.names;
  texts = extends_itself p.texts;
  calls = extends_itself p.calls;
  creations = extends_itself p.creations;
  tests = extends_itself p.tests;
  demands = extends_itself p.demands;
  blocks = extends_itself p.blocks;
}

pub grows_further : (p q r : Pool) → Grows p q → Grows q r → Grows p r
grows_further p q r e f = record {
  names = extends_further p.names q.names r.names e.names f.names;
  texts = extends_further p.texts q.texts r.texts e.texts f.texts;
  calls = extends_further p.calls q.calls r.calls e.calls f.calls;
  creations = extends_further p.creations q.creations r.creations e.creations f.creations;
  tests = extends_further p.tests q.tests r.tests e.tests f.tests;
  demands = extends_further p.demands q.demands r.demands e.demands f.demands;
  blocks = extends_further p.blocks q.blocks r.blocks e.blocks f.blocks;
}

-- what is found at a number is found there still
found_still : {A B : Type 0} (f : A → B) (xs ys : List A) → Extends xs ys → (n : ℕ) (z : B) → option_map f (slice_get xs n) ≡ Some z → option_map f (slice_get ys n) ≡ Some z
found_still {A = A} f xs ys e n z = by (slice_get xs n) refl
  where
    by : (o : Option A) → slice_get xs n ≡ o → option_map f o ≡ Some z → option_map f (slice_get ys n) ≡ Some z
    by None i h = cc
    by (Some x) i h = ap (option_map f) (e.kept n x i) ∙ h

-- and so is what that is in its turn
led_still : {A B C : Type 0} (f : B → C) (g h : A → Option B) → ((a : A) (b : B) → g a ≡ Some b → h a ≡ Some b) → (xs ys : List A) → Extends xs ys →
    (n : ℕ) (z : C) → option_map f (option_and_then g (slice_get xs n)) ≡ Some z → option_map f (option_and_then h (slice_get ys n)) ≡ Some z
led_still {A = A} {B = B} f g h further xs ys e n z = by (slice_get xs n) refl
  where
    by_value : (a : A) (o : Option B) → g a ≡ o → option_map f o ≡ Some z → option_map f (h a) ≡ Some z
    by_value a None i k = cc
    by_value a (Some b) i k = ap (option_map f) (further a b i) ∙ k

    by : (o : Option A) → slice_get xs n ≡ o → option_map f (option_and_then g o) ≡ Some z → option_map f (option_and_then h (slice_get ys n)) ≡ Some z
    by None i k = cc
    by (Some a) i k = ap (λ o. option_map f (option_and_then h o)) (e.kept n a i) ∙ by_value a (g a) refl k

named_still : (xs ys : List (List ℕ)) → Extends xs ys → (o : Option ℕ) (z : Option (List ℕ)) → named xs o ≡ Some z → named ys o ≡ Some z
named_still xs ys e None z h = h
named_still xs ys e (Some k) z h = found_still (λ name. Some name) xs ys e k z h

call_still : (p q : Pool) → Grows p q → (a : call.CallSite) (b : plain.CallSite) → call_of p a ≡ Some b → call_of q a ≡ Some b
call_still p q g a b = found_still (λ name. record { name = name; count = a.count; gives = a.gives; is_own = a.is_own; passes = a.passes }) p.names q.names g.names a.name b

creation_still : (p q : Pool) → Grows p q → (a : creation.CreationSite) (b : plain.CreationSite) → creation_of p a ≡ Some b → creation_of q a ≡ Some b
creation_still p q g a b = by (named p.names a.procedure) refl
  where
    by : (o : Option (Option (List ℕ))) → named p.names a.procedure ≡ o → option_map (creation_with a) o ≡ Some b → creation_of q a ≡ Some b
    by None i h = cc
    by (Some x) i h = ap (option_map (creation_with a)) (named_still p.names q.names g.names a.procedure x i) ∙ h

pub operation_still : (p q : Pool) → Grows p q → (o : coded.Operation) (x : plain.Operation) → operation_of p o ≡ Some x → operation_of q o ≡ Some x
operation_still p q g (op.PushAttribute a k) x e = found_still (λ name. plain.PushAttribute name a) p.names q.names g.names k x e
operation_still p q g (op.Test k) x e = found_still test_of p.tests q.tests g.tests k x e
operation_still p q g (op.CallRoutine k) x e = led_still plain.CallRoutine (call_of p) (call_of q) (call_still p q g) p.calls q.calls g.calls k x e
operation_still p q g (op.CallFeature k) x e = led_still plain.CallFeature (call_of p) (call_of q) (call_still p q g) p.calls q.calls g.calls k x e
operation_still p q g (op.StoreAttribute k) x e = found_still plain.StoreAttribute p.names q.names g.names k x e
operation_still p q g (op.PrintText k) x e = found_still plain.PrintText p.texts q.texts g.texts k x e
operation_still p q g (op.Demand k) x e = found_still plain.Demand p.demands q.demands g.demands k x e
operation_still p q g (op.Create k) x e = led_still plain.Create (creation_of p) (creation_of q) (creation_still p q g) p.creations q.creations g.creations k x e
operation_still p q g (op.CreateHandler k) x e = led_still plain.CreateHandler (creation_of p) (creation_of q) (creation_still p q g) p.creations q.creations g.creations k x e
operation_still p q g (op.Open k) x e = found_still (λ b. plain.Open b.first b.count) p.blocks q.blocks g.blocks k x e
operation_still p q g o x e = e

-- the same of operations one after the other
pub operations_still : {U : Type 0} (f : U → plain.Operation) (p q : Pool) → Grows p q → (os : List coded.Operation) (us : List U) →
    map (operation_of p) os ≡ map (λ u. Some (f u)) us → map (operation_of q) os ≡ map (λ u. Some (f u)) us
operations_still f p q g [] [] e = refl
operations_still f p q g [] (u ∷ us) e = cc
operations_still f p q g (o ∷ os) [] e = cc
operations_still f p q g (o ∷ os) (u ∷ us) e =
    let first : operation_of p o ≡ Some (f u) = cc in
    let others : map (operation_of p) os ≡ map (λ u. Some (f u)) us = cc in
    let first' : operation_of q o ≡ Some (f u) = operation_still p q g o (f u) first in
    let others' : map (operation_of q) os ≡ map (λ u. Some (f u)) us = operations_still f p q g os us others in
    cc

-- and one more behind them
pub operations_more : {U : Type 0} (f : U → plain.Operation) (p q : Pool) → Grows p q → (os : List coded.Operation) (o : coded.Operation) (us : List U) (i : ℕ) (u : U) →
    map (operation_of p) os ≡ map (λ u. Some (f u)) (take i us) → i < length us → u ≡ get_or us i u → operation_of q o ≡ Some (f u) →
    map (operation_of q) (os ++ o ∷ []) ≡ map (λ u. Some (f u)) (take (i + 1) us)
operations_more f p q g os o us i u e l at h =
    map-append (operation_of q) os (o ∷ [])
    ∙ ap (λ xs. xs ++ operation_of q o ∷ []) (operations_still f p q g os (take i us) e)
    ∙ ap (λ x. map (λ u. Some (f u)) (take i us) ++ x ∷ []) (h ∙ ap (λ u. Some (f u)) at)
    ∙ sym (map-append (λ u. Some (f u)) (take i us) (get_or us i u ∷ []))
    ∙ ap (map (λ u. Some (f u))) (sym (take_more us i u l))
