-- Routines in flat code, by tables that grow, and how many instructions they have.
use Rattle.std.proofs.Common.{◌≡◌, ◌+◌, ◌<◌, ℕ, List, [], ◌∷◌, ◌++◌, length, map, drop, get_or, Bool, Option, Some, None, refl, sym, ap, ◌∙◌, arith, append_assoc, append-nil}
use Rattle.std.specs.Prelude.{sum}
use Rattle.std.specs.List.{filter_map, cons_option}
use Rattle.std.specs.Option.{option_map, option_map_or}
use Rattle.std.proofs.lemmas.List.{map-append, length-map, at_drop_more}
use Rattle.std.proofs.lemmas.List.Sums.{sum_by-cons}
use Rattle.sc_tree.specs.Plain.{System}
use Rattle.sc_class.specs.Tables.Features.{DeclaredFeature}
use Rattle.sc_class.specs.declared.class_tables.feature_entry.FeatureEntry.{FeatureEntry}
use Rattle.sc_class.specs.View.{entry_of}
use Rattle.sc_model.specs.Routines.{Routine, routine_of}
use Rattle.sc_model.specs.Values.{Value}
use Rattle.sc_code.specs.declared.operation.Operation as linked
use Rattle.sc_code.specs.declared.program.RoutineCode.{RoutineCode}
use Rattle.sc_routines.specs.declared.code.SitedOperation.{SitedOperation}
use Rattle.sc_code.specs.Emitted.{formals_of, routine_code, routine_depth, routine_slots}
use Rattle.sc_code.specs.Places.{known_type}
use Rattle.sc_code.specs.Room.{routine_blocks, routine_olds}
use Rattle.sc_routines.specs.Unlinked.{operation_in}
use Rattle.sc_code.specs.Operations as plain
use Rattle.sc_lower.specs.Pools.{Grows}
use Rattle.sc_code.specs.Programs.{PlainRoutine, code_of, codes_of, length_of_codes, result_in, result_of, routine_in, separate_slots}
use Rattle.sc_code.specs.View.{Pool, operation_of}
use Rattle.sc_lower.proofs.Kept.{operations_still}

-- ---- one routine

-- a routine of these parts
abbrev pub parts : ℕ → List ℕ → Option (Value × Bool) → ℕ → ℕ → ℕ → ℕ → List (Option plain.Operation) → PlainRoutine
parts a b r d e f g h = record { formals = a; separate_formals = b; result = r; slots = d; depth = e; olds = f; blocks = g; operations = h }

same_parts : (a a' : ℕ) (b b' : List ℕ) (r r' : Option (Value × Bool)) (d d' e e' f f' g g' : ℕ) (h h' : List (Option plain.Operation)) →
    a ≡ a' → b ≡ b' → r ≡ r' → d ≡ d' → e ≡ e' → f ≡ f' → g ≡ g' → h ≡ h' → parts a b r d e f g h ≡ parts a' b' r' d' e' f' g' h'
same_parts a a' b b' r r' d d' e e' f f' g g' h h' i j k l m n o p =
    ap (λ x. parts x b r d e f g h) i
    ∙ ap (λ x. parts a' x r d e f g h) j
    ∙ ap (λ x. parts a' b' x d e f g h) k
    ∙ ap (λ x. parts a' b' r' x e f g h) l
    ∙ ap (λ x. parts a' b' r' d' x f g h) m
    ∙ ap (λ x. parts a' b' r' d' e' x g h) n
    ∙ ap (λ x. parts a' b' r' d' e' f' x h) o
    ∙ ap (λ x. parts a' b' r' d' e' f' g' x) p

-- a routine of these parts is the routine in flat code
pub coded : (s : System) (r : Routine) {a : ℕ} {b : List ℕ} {q : Option (Value × Bool)} {d e f g : ℕ} {h : List (Option plain.Operation)} → a ≡ length r.text.formals →
    b ≡ separate_slots 0 (formals_of s r) → q ≡ result_of (known_type r.text.result) → d ≡ routine_slots s r → e ≡ routine_depth s r → f ≡ routine_olds r →
    g ≡ routine_blocks r → h ≡ map (λ o. Some o) (routine_code s r) → parts a b q d e f g h ≡ code_of s r
coded s r {a} {b} {q} {d} {e} {f} {g} {h} i j k l m n o p =
    same_parts a (length r.text.formals) b (separate_slots 0 (formals_of s r)) q (result_of (known_type r.text.result)) d (routine_slots s r) e (routine_depth s r) f (routine_olds r)
    g (routine_blocks r) h (map (λ o. Some o) (routine_code s r)) i j k l m n o p

pub all_unlinked : (os : List SitedOperation) → map (λ (o : SitedOperation). Some (operation_in o)) os ≡ map (λ (o : plain.Operation). Some o) (map operation_in os)
all_unlinked [] = refl
all_unlinked (o ∷ os) = ap (λ (xs : List (Option plain.Operation)). Some (operation_in o) ∷ xs) (all_unlinked os)

-- there are as many sites as operations, where both are of the same list
pub as_many_sites : {S U : Type 0} (f : U → plain.Operation) (g : U → S) (p : Pool) (us : List U) (ss : List S) (os : List linked.Operation) →
    map (operation_of p) os ≡ map (λ u. Some (f u)) us → ss ≡ map g us → length ss ≡ length os
as_many_sites {S} f g p us ss os eo es =
    ap (λ (l : List S). length l) es ∙ length-map us g ∙ sym (length-map us (λ u. Some (f u))) ∙ ap (λ (l : List (Option plain.Operation)). length l) (sym eo)
    ∙ length-map os (operation_of p)

-- the routine that code in memory is, where its operations are these
abbrev with_operations : RoutineCode → List (Option plain.Operation) → PlainRoutine
with_operations c os = record {
  formals = c.formals;
  separate_formals = c.separate_formals.items;
  result = option_map result_in c.result;
  slots = c.slots;
  depth = c.depth;
  olds = c.olds;
  blocks = c.blocks;
  operations = os;
}

-- a routine whose operations are all in the tables
code_still : (p q : Pool) → Grows p q → (c : RoutineCode) (r : PlainRoutine) (os : List plain.Operation) → r.operations ≡ map (λ o. Some o) os → routine_in p c ≡ r → routine_in q c ≡ r
code_still p q g c r os has e =
    let before : map (operation_of p) c.operations.items ≡ map (λ o. Some o) os = ap (λ (r : PlainRoutine). r.operations) e ∙ has in
    let after : map (operation_of q) c.operations.items ≡ map (λ o. Some o) os = operations_still (λ o. o) p q g c.operations.items os before in
    ap (with_operations c) (after ∙ sym before) ∙ e

some_same : {A : Type 0} {x y : A} → Some x ≡ Some y → x ≡ y
some_same e = cc

-- a feature's, if it is a routine
feature_still : (s : System) (p q : Pool) → Grows p q → (o : Option RoutineCode) (r : Option Routine) →
    option_map (routine_in p) o ≡ option_map (code_of s) r → option_map (routine_in q) o ≡ option_map (code_of s) r
feature_still s p q g None r e = e
feature_still s p q g (Some c) None e = let none : Some (routine_in p c) ≡ None = e in cc
feature_still s p q g (Some c) (Some r) e = ap (λ (r : PlainRoutine). Some r) (code_still p q g c (code_of s r) (routine_code s r) refl (some_same e))

-- ---- all of them

head_same : {A : Type 0} {x y : A} {xs ys : List A} → x ∷ xs ≡ y ∷ ys → x ≡ y
head_same e = cc

tail_same : {A : Type 0} {x y : A} {xs ys : List A} → x ∷ xs ≡ y ∷ ys → xs ≡ ys
tail_same e = cc

cons_same : {A : Type 0} {x y : A} {xs ys : List A} → x ≡ y → xs ≡ ys → x ∷ xs ≡ y ∷ ys
cons_same e f = cc

pub codes_still : (s : System) (p q : Pool) → Grows p q → (os : List (Option RoutineCode)) (rest : List (Option PlainRoutine)) (fs : List DeclaredFeature) →
    map (option_map (routine_in p)) os ++ rest ≡ codes_of s fs → map (option_map (routine_in q)) os ++ rest ≡ codes_of s fs
codes_still s p q g [] rest fs e = e
codes_still s p q g (o ∷ os) rest [] e = let none : option_map (routine_in p) o ∷ (map (option_map (routine_in p)) os ++ rest) ≡ [] = e in cc
codes_still s p q g (o ∷ os) rest (f ∷ fs) e =
    cons_same (feature_still s p q g o (routine_of s f) (head_same e)) (codes_still s p q g os rest fs (tail_same e))

pub codes_kept : (s : System) (p q : Pool) → Grows p q → (os : List (Option RoutineCode)) (fs : List DeclaredFeature) →
    map (option_map (routine_in p)) os ≡ codes_of s fs → map (option_map (routine_in q)) os ≡ codes_of s fs
codes_kept s p q g os fs e =
    sym (append-nil (map (option_map (routine_in q)) os)) ∙ codes_still s p q g os [] fs (append-nil (map (option_map (routine_in p)) os) ∙ e)

-- ---- how many instructions they have

abbrev pub instructions_in : Option RoutineCode → ℕ
instructions_in o = option_map_or (λ (c : RoutineCode). length c.operations.items) o 0

abbrev pub instructions_of : System → Option Routine → ℕ
instructions_of s r = option_map_or (λ (r : Routine). length (routine_code s r)) r 0

as_many_operations : (s : System) (p : Pool) (c : RoutineCode) (r : Routine) → routine_in p c ≡ code_of s r → length c.operations.items ≡ length (routine_code s r)
as_many_operations s p c r e =
    let same : map (operation_of p) c.operations.items ≡ map (λ o. Some o) (routine_code s r) = ap (λ (r : PlainRoutine). r.operations) e in
    sym (length-map c.operations.items (operation_of p)) ∙ ap length same ∙ length-map (routine_code s r) (λ o. Some o)

pub as_many : (s : System) (p : Pool) (o : Option RoutineCode) (r : Option Routine) → option_map (routine_in p) o ≡ option_map (code_of s) r → instructions_in o ≡ instructions_of s r
as_many s p None None e = refl
as_many s p None (Some r) e = let none : None ≡ Some (code_of s r) = e in cc
as_many s p (Some c) None e = let none : Some (routine_in p c) ≡ None = e in cc
as_many s p (Some c) (Some r) e = as_many_operations s p c r (some_same e)

sum_cons : {A : Type 0} (h : A → ℕ) (o : Option A) (xs : List A) → sum (map h (cons_option o xs)) ≡ option_map_or h o 0 + sum (map h xs)
sum_cons h None xs = omega arith
sum_cons h (Some x) xs = sum_by-cons (λ (n : ℕ). n) (h x) (map h xs)

-- the first of the features, then the others
pub first_counted : (s : System) (f : DeclaredFeature) (fs : List DeclaredFeature) → length_of_codes s (f ∷ fs) ≡ instructions_of s (routine_of s f) + length_of_codes s fs
first_counted s f fs = sum_cons (λ r. length (routine_code s r)) (routine_of s f) (filter_map (routine_of s) fs)

-- ---- the next feature

module _ (s : System) (fs : List FeatureEntry) (i : ℕ) (f : FeatureEntry) (l : i < length fs) (at : f ≡ get_or fs i f) where
  next_is : {B : Type 0} (h : List FeatureEntry → B) → h (drop i fs) ≡ h (f ∷ drop (i + 1) fs)
  next_is h = at_drop_more h fs i f l ∙ ap (λ g. h (g ∷ drop (i + 1) fs)) (sym at)

  pub code_added : (p q : Pool) → Grows p q → (os : List (Option RoutineCode)) (o : Option RoutineCode) →
      option_map (routine_in q) o ≡ option_map (code_of s) (routine_of s (entry_of f)) →
      map (option_map (routine_in p)) os ++ codes_of s (map entry_of (drop i fs)) ≡ codes_of s (map entry_of fs) →
      map (option_map (routine_in q)) (os ++ o ∷ []) ++ codes_of s (map entry_of (drop (i + 1) fs)) ≡ codes_of s (map entry_of fs)
  code_added p q g os o new e =
      let rest = codes_of s (map entry_of (drop (i + 1) fs)) in
      ap (λ (xs : List (Option PlainRoutine)). xs ++ rest) (map-append (option_map (routine_in q)) os (o ∷ []))
      ∙ append_assoc (map (option_map (routine_in q)) os) (option_map (routine_in q) o ∷ []) rest
      ∙ ap (λ (x : Option PlainRoutine). map (option_map (routine_in q)) os ++ (x ∷ rest)) new
      ∙ ap (λ (xs : List (Option PlainRoutine)). map (option_map (routine_in q)) os ++ xs) (sym (next_is (λ gs. codes_of s (map entry_of gs))))
      ∙ codes_still s p q g os (codes_of s (map entry_of (drop i fs))) (map entry_of fs) e

  pub next_counted : length_of_codes s (map entry_of (drop i fs)) ≡ instructions_of s (routine_of s (entry_of f)) + length_of_codes s (map entry_of (drop (i + 1) fs))
  next_counted = next_is (λ gs. length_of_codes s (map entry_of gs)) ∙ first_counted s (entry_of f) (map entry_of (drop (i + 1) fs))
